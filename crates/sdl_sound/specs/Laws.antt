-- Laws of the transitions of sound processes.
use Rattle.std.specs.Prelude.{◌≡◌, ◌⊎◌, ℕ, ◌≤◌, true, false, List, [], Contains, ◌++◌, Option, Some}
use Rattle.sdl_tables.specs.Plain.{Text, PlainConnection, PlainProcess, PlainBlock}
use Rattle.sdl_tables.specs.Names.{Input, inputs_of, processes_of, number_of, states_of}
use Rattle.sdl_sound.specs.Joins.{process_cycles}
use Rattle.sdl_sound.specs.Longest.{text_budget, text_size}
use Rattle.sdl_sound.specs.Sound.{Sound}
use Rattle.sdl_sound.specs.Orders.{IsOrder}
use Rattle.sdl_sound.specs.Paths.{Transition, sets_in, Event, IsWalk, reads_first}
use Rattle.sdl_sound.specs.Chances.{text_chances}

-- some walk of the transition reads x, and doesn't set it before
pub record Reads (p : PlainProcess) (t : Transition) (x : List ℕ) : Type 0 where
  pub events : List Event
  pub end : Option (List ℕ)
  pub walk : IsWalk p t.text events end
  pub first : reads_first (t.first ++ events) x ≡ true

-- some walk of the transition ends in state q, and doesn't set x
pub record Keeps (p : PlainProcess) (t : Transition) (x : List ℕ) (q : ℕ) : Type 0 where
  pub events : List Event
  pub state : List ℕ
  pub walk : IsWalk p t.text events (Some state)
  pub number : number_of (states_of p) state ≡ Some q
  pub keeps : sets_in (t.first ++ events) x ≡ false

-- the texts of a process: those of START, of the inputs of its states, and of its connections
abbrev pub IsTextOf : PlainProcess → Text → Type 0
IsTextOf p t =
    (t ≡ p.start.text)
    ⊎ ((s : ℕ) × (i : Input) × Contains (inputs_of p s) i × (t ≡ i.text))
    ⊎ ((c : PlainConnection) × Contains p.connections c × (t ≡ c.text))

-- for a variable that isn't set before the text, each chance is the effect of some walk
abbrev pub ChancesLaw : Type 0
ChancesLaw =
    (b : PlainBlock) (p : PlainProcess) (order : List ℕ) (t : Transition) (x : List ℕ) (q : ℕ)
    → Sound b → Contains (processes_of b) p → IsOrder p order → IsTextOf p t.text
    → sets_in t.first x ≡ false
    → ((text_chances p t.text x q).reads ≡ true
    → Reads p t x) × ((text_chances p t.text x q).enters ≡ true → Keeps p t x q)

-- If no JOIN leads back to its connection, no walk of a text costs more instructions than the code
-- of the text and of the connections that it reaches.
abbrev pub BudgetLaw : Type 0
BudgetLaw = (p : PlainProcess) (t : Text) → process_cycles p ≡ [] → text_budget p t ≤ text_size p t
