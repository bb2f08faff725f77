-- What walks of a text can do with one variable. (Z.100: the transitions of a process graph.)
use Rattle.std.specs.Prelude.{ℕ, zero, suc, Bool, true, false, not, ◌&&◌, ◌||◌, List, length}
use Rattle.std.specs.Option.{option_map_or}
use Rattle.sdl_tables.specs.sdl_ast_types.expression.Identifier.{Identifier}
use Rattle.sdl_tables.specs.sdl_ast_types.tree.End.{End}
use Rattle.sdl_tables.specs.sdl_ast_types.tree.End.TheVariants.{NextState, Stop, Join}
use Rattle.sdl_tables.specs.Plain.{Text, falls, ends, does, decides, Choice, nothing_else}
use Rattle.sdl_tables.specs.Plain.{otherwise, answer, PlainProcess}
use Rattle.sdl_tables.specs.Names.{is_state, connection_named, states_of}
use Rattle.sdl_sound.specs.Paths.{Event, tree_events, action_events, reads_first, sets_in}

-- Whether some walk reads the variable before it sets it; whether some walk runs off the end
-- without setting it; whether some walk ends in a given state without setting it.
pub record Chances : Type 0 where
  pub reads : Bool
  pub leaves : Bool
  pub enters : Bool

abbrev pub no_chances : Chances
no_chances = record { reads = false; leaves = false; enters = false }

-- an empty text only runs off its end
abbrev pub leaving : Chances
leaving = record { reads = false; leaves = true; enters = false }

-- a list of events, without alternatives
abbrev pub event_chances : List Event → List ℕ → Chances
event_chances events x =
    record { reads = reads_first events x; leaves = not (sets_in events x); enters = false }

-- one part followed by another
abbrev pub behind : Chances → Chances → Chances
behind a b = record {
  reads = a.reads || (a.leaves && b.reads);
  leaves = a.leaves && b.leaves;
  enters = a.enters || (a.leaves && b.enters);
}

-- one part as an alternative to another
abbrev pub beside : Chances → Chances → Chances
beside a b =
    record {
      reads = a.reads || b.reads;
      leaves = a.leaves || b.leaves;
      enters = a.enters
          || b.enters;
    }

-- nothing follows the text of a connection
abbrev pub last_chances : Chances → Chances
last_chances a = record { reads = a.reads; leaves = false; enters = a.enters }

-- variable x and state q at an end; `join` returns the chances of a connection
abbrev pub end_chances : List Identifier → (List ℕ → Chances) → ℕ → End → Chances
end_chances states join q (NextState n) =
    record { reads = false; leaves = false; enters = is_state states q n.state.name }
end_chances states join q (Stop at) = no_chances
end_chances states join q (Join j) = join j.connector.name

abbrev mutual
  pub chances : List Identifier → (List ℕ → Chances) → List ℕ → ℕ → Text → Chances
  chances states join x q falls = leaving
  chances states join x q (ends e) = end_chances states join q e
  chances states join x q (does action rest) =
      behind (event_chances (action_events action) x) (chances states join x q rest)
  chances states join x q (decides at t c rest) =
      behind (event_chances (tree_events t) x)
      (behind (choice_chances states join x q c) (chances states join x q rest))

  pub choice_chances : List Identifier → (List ℕ → Chances) → List ℕ → ℕ → Choice → Chances
  choice_chances states join x q nothing_else = no_chances
  choice_chances states join x q (otherwise body) = chances states join x q body
  choice_chances states join x q (answer at ranges body others) =
      beside (chances states join x q body) (choice_chances states join x q others)

-- the connection with a name, if at most n JOINs are followed
abbrev pub chances_by : PlainProcess → ℕ → List ℕ → ℕ → List ℕ → Chances
chances_by p zero x q y = no_chances
chances_by p (suc n) x q y =
    option_map_or (λ c. last_chances (chances (states_of p) (chances_by p n x q) x q c.text))
    (connection_named p y) no_chances

-- A connection, if no JOIN leads back to its own: then each walk follows at most as many JOINs as
-- there are connections.
abbrev pub joined_chances : PlainProcess → List ℕ → ℕ → List ℕ → Chances
joined_chances p x q y = chances_by p (length p.connections) x q y

-- the text of a transition
abbrev pub text_chances : PlainProcess → Text → List ℕ → ℕ → Chances
text_chances p t x q = chances (states_of p) (joined_chances p x q) x q t
