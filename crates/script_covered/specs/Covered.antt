-- The parts of a text that turns took: transitions, and within them statements and answers.
use Rattle.std.specs.Prelude.{◌≡◌, ◌+◌, ◌==◌, ◌&&◌, ℕ, Bool, true, false, List, [], ◌∷◌, length}
use Rattle.std.specs.Prelude.{Option, None, Some, if◌then◌else◌, count_by, slice_get, slice_index}
use Rattle.std.specs.List.{flat_map}
use Rattle.sdl_ast.specs.declared.expression.Identifier.{Identifier}
use Rattle.sdl_ast.specs.Plain.{Text, PlainProcess, PlainBlock}
use Rattle.sdl_tables.specs.Names.{Input, inputs_by_state, processes_of, variable_names}
use Rattle.turn_code.specs.declared.input.Input as given
use Rattle.turn_code.specs.declared.input.Place.{Place}
use Rattle.turn_code.specs.declared.input.Place.TheVariants.{Start, State as AtState}
use Rattle.turn_machine.specs.Turn.{Turn}
use Rattle.script_covered.specs.Ways.{Taken, at, else_of, Way, taken_in as parameters_in, whole_way}
use Rattle.script_covered.specs.declared.coverage.Places.{Places}
use Rattle.script_covered.specs.declared.coverage.Counts.{Counts}
use Rattle.script_covered.specs.declared.coverage.Turns.{Turns}
use Rattle.script_covered.specs.declared.coverage.TurnCounts.{TurnCounts}
use Rattle.script_covered.specs.declared.coverage.Coverage.{Coverage}

-- ---- of turns

-- the path of a turn after START or an INPUT with these places, on an input: it follows at most as
-- many JOINs as there are connections
abbrev pub turn_way : PlainProcess → List (Option Identifier) → Text → given.Input → Way
turn_way p places t x =
    whole_way p (length p.connections) t
    (parameters_in (variable_names p) x.parameters.items 0 places x.variables.items)

-- the parts taken on that path
abbrev pub passed :
    PlainProcess → List (Option Identifier) → Text → given.Input → List Taken
passed p places t x = (turn_way p places t x).taken

abbrev pub taken_input : PlainProcess → Option Input → given.Input → List Taken
taken_input p None x = []
taken_input p (Some i) x = at i.at ∷ passed p i.stimulus.places i.text x

abbrev pub input_at : Option (List Input) → ℕ → Option Input
input_at None n = None
input_at (Some is) n = slice_get is n

-- the parts taken by a turn at START, or in a state on input n
abbrev pub taken_at : PlainProcess → Place → ℕ → given.Input → List Taken
taken_at p Start n x = at p.start.at ∷ passed p [] p.start.text x
taken_at p (AtState q) n x = taken_input p (input_at (slice_get (inputs_by_state p) q.0) n) x

abbrev pub taken_of : Option PlainProcess → Turn → List Taken
taken_of None t = []
taken_of (Some p) t = taken_at p t.place t.input_number t.input

-- the parts taken by the turns of a block, in order
abbrev pub taken_by : PlainBlock → List Turn → List Taken
taken_by b ts =
    flat_map (λ (t : Turn). taken_of (slice_get (processes_of b) t.process.0) t) ts

-- ---- counts

abbrev pub is_at : ℕ → Taken → Bool
is_at k (at n) = k == n
is_at k (else_of n) = false

abbrev pub is_else : ℕ → Taken → Bool
is_else k (at n) = false
is_else k (else_of n) = k == n

-- how often the part at a place was taken, and the ELSE of the DECISION there
abbrev pub times : List Taken → ℕ → ℕ
times xs k = count_by (is_at k) xs

abbrev pub others : List Taken → ℕ → ℕ
others xs k = count_by (is_else k) xs

-- the state of a turn's place; none at START
abbrev pub state_in : Place → Option ℕ
state_in Start = None
state_in (AtState q) = Some q.0

abbrev pub same_state : Option ℕ → Option ℕ → Bool
same_state None None = true
same_state None (Some q) = false
same_state (Some q) None = false
same_state (Some q) (Some r) = q == r

-- whether a turn is of this transition: of a process, on input n of a state or at START
abbrev pub is_of : ℕ → Option ℕ → ℕ → Turn → Bool
is_of p s n t =
    (t.process.0 == p)
    && (same_state (state_in t.place) s && (t.input_number == n))

abbrev pub turns_of : List Turn → ℕ → Option ℕ → ℕ → ℕ
turns_of ts p s n = count_by (is_of p s n) ts

-- ---- the counts as they are kept

abbrev pub is_known : Turns → ℕ → Option ℕ → ℕ → Bool
is_known t p s n = (t.process == p) && (same_state t.state s && (t.input == n))

abbrev pub known_turns : List Turns → ℕ → Option ℕ → ℕ → ℕ
known_turns [] p s n = 0
known_turns (t ∷ ts) p s n = if is_known t p s n then t.times else known_turns ts p s n

-- one more turn of a transition; the entry of a transition without turns is appended
abbrev pub counted_turn : ℕ → Option ℕ → ℕ → List Turns → List Turns
counted_turn p s n [] = record { process = p; state = s; input = n; times = 1 } ∷ []
counted_turn p s n (t ∷ ts) =
    if is_known t p s n then record t { times = t.times + 1 } ∷ ts
    else t ∷ counted_turn p s n ts

abbrev pub HasTurns : List Turn → TurnCounts → Type 0
HasTurns ts c =
    (p : ℕ) (s : Option ℕ) (n : ℕ) → known_turns c.turns.items p s n ≡ turns_of ts p s n

-- each place has this count, unless a count overflowed or a place was outside the text
abbrev pub HasCounts : (ℕ → ℕ) → Places → Type 0
HasCounts f p = p.over ≡ false → (k : ℕ) → slice_index p.times.items k ≡ f k

-- one more at a place
abbrev pub one_more : ℕ → (ℕ → ℕ) → ℕ → ℕ
one_more place f k = if k == place then f k + 1 else f k

-- the counts of the parts taken so far
pub record HasTaken (xs : List Taken) (c : Counts) : Type 0 where
  pub begun : HasCounts (times xs) c.begun
  pub others : HasCounts (others xs) c.others

-- the coverage of a block by these turns
pub record Covers (b : PlainBlock) (ts : List Turn) (c : Coverage) : Type 0 where
  pub turns : HasTurns ts c.turns
  pub taken : HasTaken (taken_by b ts) c.counts
