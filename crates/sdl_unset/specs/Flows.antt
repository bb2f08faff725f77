-- The variables that a part of a transition reads and sets, as bits by their numbers.
use Rattle.std.specs.Prelude.{◌≡◌, ◌↔◌, ℕ, ◌<◌, Bool, true, false, not, List, [], ◌∷◌, map, length}
use Rattle.std.specs.Prelude.{Option, None, Some, slice_get, option_and_then, Contains}
use Rattle.std.specs.List.{AllZip}
use Rattle.std.specs.Option.{option_map_or}
use Rattle.std.specs.Global.{Vec}
use Rattle.plain_laws.specs.Limits.{MOST_VARIABLES}
use Rattle.sdl_unset.specs.Graph.{has, Passes}
use Rattle.sdl_unset.specs.Order.{AreSorted}
use Rattle.sdl_unset.specs.declared.paths.Passage.{Passage}
use Rattle.sdl_unset.specs.declared.paths.Summary.{Summary}
use Rattle.sdl_ast.specs.declared.expression.Identifier.{Identifier}
use Rattle.sdl_ast.specs.declared.tree.End.{End}
use Rattle.sdl_ast.specs.Plain.{PlainAction, task, output, set_timer, reset_timer, Text, Choice}
use Rattle.sdl_ast.specs.Plain.{PlainProcess}
use Rattle.sdl_tables.specs.Names.{number_of, variable_names, connector_names, states_of, Input}
use Rattle.sdl_sound.specs.Names.{place_names}
use Rattle.sdl_sound.specs.Paths.{Event, sets, Transition, input_transition, reads_first, sets_in}
use Rattle.sdl_sound.specs.Chances.{Chances, no_chances, event_chances, behind, end_chances}
use Rattle.sdl_sound.specs.Chances.{chances, choice_chances, joined_chances, text_chances}
use Rattle.sdl_unset.specs.declared.flow.Flow.{Flow}
use Rattle.sdl_unset.specs.declared.walker.Walker.{Walker}

-- Bit v says whether the name of identifier v passes a test.
pub record Tells (ids : List Identifier) (test : List ℕ → Bool) (bits : ℕ) : Type 0 where
  pub at : (v : ℕ) (id : Identifier) → v < MOST_VARIABLES → slice_get ids v ≡ Some id
      → has bits v ≡ test id.name

-- The flow has the variables that these events read before they set them, and those they don't set.
unfoldable pub Does : PlainProcess → List Event → Flow → Type 0
Does p events flow =
    Tells (variable_names p) (λ x. reads_first events x) flow.reads
    × Tells (variable_names p) (λ x. not (sets_in events x)) flow.keeps

-- Whether an action is a TASK that holds only quoted text.
abbrev pub is_quoted : PlainAction → Bool
is_quoted (task at []) = true
is_quoted (task at (a ∷ rest)) = false
is_quoted (output at xs to) = false
is_quoted (set_timer at x n) = false
is_quoted (reset_timer at n) = false

-- An INPUT sets the variables of its places.
abbrev pub place_events : List (Option Identifier) → List Event
place_events places = map (λ id. sets id.name) (place_names places)

-- ---- what walks may do, as bits for all variables

-- the mask of state q
abbrev pub mask_at : List ℕ → ℕ → ℕ
mask_at masks q = option_map_or (λ m. m) (slice_get masks q) 0

-- For each variable and each state: what the walks up to some place may do.
abbrev pub Doings : Type 0
Doings = List ℕ → ℕ → Chances

-- The bits of the walker agree with these chances.
unfoldable pub Stands : PlainProcess → Doings → Walker → Type 0
Stands p f w =
    (length w.enters.items ≡ length (states_of p))
    × ((v q : ℕ) (id : Identifier) → v < MOST_VARIABLES → slice_get (variable_names p) v ≡ Some id
    → (has w.reads v ≡ (f id.name q).reads) × (has w.leaves v ≡ (f id.name q).leaves)
    × (has (mask_at w.enters.items q) v ≡ (f id.name q).enters))

-- From `old` to `new` the walker passes a part with these chances.
unfoldable pub Walked : PlainProcess → Doings → Walker → Walker → Type 0
Walked p c old new = (f : Doings) → Stands p f old → Stands p (λ x q. behind (f x q) (c x q)) new

-- Some bodies of a DECISION have been walked, each from the walker `old`, and the next starts from
-- the same variables. `after` has the variables that any of the walked bodies leaves unset.
unfoldable pub Forked : PlainProcess → Doings → Walker → Walker → ℕ → Type 0
Forked p c old now after =
    (now.leaves ≡ old.leaves)
    × Walked p c old
    (record { reads = now.reads; leaves = after; enters = now.enters; firsts = now.firsts })

-- The walkers of the connections, by number, agree with the chances that `told` states. A
-- connection that doesn't exist has no chances.
unfoldable pub AreTold : PlainProcess → (List ℕ → ℕ → List ℕ → Chances) → List Walker → Type 0
AreTold p told walkers =
    ((y : List ℕ) (n : ℕ) (w : Walker) → number_of (connector_names p) y ≡ Some n
    → slice_get walkers n ≡ Some w → Stands p (λ x q. told x q y) w)
    × ((y : List ℕ) → option_and_then (slice_get walkers) (number_of (connector_names p) y) ≡ None
    → (x : List ℕ) (q : ℕ) → told x q y ≡ no_chances)

-- The walkers agree with all that may happen in their connections.
abbrev pub AreJoined : PlainProcess → List Walker → Type 0
AreJoined p walkers = AreTold p (λ x q y. joined_chances p x q y) walkers

-- The chances of a text.
abbrev pub text_doings : PlainProcess → (List ℕ → ℕ → List ℕ → Chances) → Text → Doings
text_doings p told t x q = chances (states_of p) (told x q) x q t

-- The chances of the answers of a DECISION.
abbrev pub choice_doings : PlainProcess → (List ℕ → ℕ → List ℕ → Chances) → Choice → Doings
choice_doings p told c x q = choice_chances (states_of p) (told x q) x q c

-- The chances of an end.
abbrev pub end_doings : PlainProcess → (List ℕ → ℕ → List ℕ → Chances) → End → Doings
end_doings p told e x q = end_chances (states_of p) (told x q) q e

-- The summary of a transition: the variables that may be read unset, and a passage for each state
-- in which some variable may be unset.
pub record IsSummaryBy (p : PlainProcess) (t : Transition) (summary : Summary) : Type 0 where
  pub reads : (v q : ℕ) (id : Identifier) → slice_get (variable_names p) v ≡ Some id
      → has summary.reads v
      ≡ (behind (event_chances t.first id.name) (text_chances p t.text id.name q)).reads
  pub passes : (v q : ℕ) (id : Identifier) → slice_get (variable_names p) v ≡ Some id
      → Passes summary v q
      ↔ ((behind (event_chances t.first id.name) (text_chances p t.text id.name q)).enters
      ≡ true)
  pub sorted : AreSorted summary.passages.items

-- The passages of the states in which some variable may be unset.
abbrev pub ArePassages : List ℕ → List Passage → Type 0
ArePassages masks passages = (v q : ℕ)
    → ((passage : Passage) × Contains passages passage × (has passage.keeps v ≡ true)
    × (passage.state ≡ q)) ↔ (has (mask_at masks q) v ≡ true)

-- The summaries of the inputs of a state.
abbrev pub AreSummariesBy : PlainProcess → List Input → Vec Summary → Type 0
AreSummariesBy p inputs v = AllZip (λ i s. IsSummaryBy p (input_transition i) s) inputs v.items
