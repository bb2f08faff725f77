-- Paths through the transitions of a process, and the variables read on them before they are set.
-- (Z.100: the transitions of a process graph.)
use Rattle.std.specs.Prelude.{◌≡◌, ℕ, ◌<◌, ◌≤◌, ◌==◌, Bool, true, false, length, ⊤, All, List, []}
use Rattle.std.specs.Prelude.{◌∷◌, Option, Some, None, Contains, slice_get, option_and_then}
use Rattle.std.specs.Int.{bit_at}
use Rattle.sdl_unset.specs.declared.paths.Passage.{Passage}
use Rattle.sdl_unset.specs.declared.paths.Summary.{Summary}
use Rattle.sdl_unset.specs.declared.paths.Graph.{Graph}
use Rattle.sdl_unset.specs.declared.paths.Step.{Step}
use Rattle.sdl_unset.specs.declared.paths.Fate.{Fate}
use Rattle.sdl_unset.specs.declared.paths.Fate.TheVariants.{Unset, Set}
use Rattle.std.specs.Global.{Vec}
use Rattle.sdl_unset.specs.declared.paths.Step.TheVariants.{Start, Input}

-- whether a variable is in a set that is kept as the bits of a number
unfoldable pub has : ℕ → ℕ → Bool
has bits x = bit_at bits x == 1

-- The position of a process between two transitions: before START, or in a state.
abbrev pub Place : Type 0
Place = Option ℕ

-- the transition of an input of a state
abbrev pub input_at : Graph → ℕ → ℕ → Option Summary
input_at g s i = option_and_then (λ inputs. slice_get inputs.items i) (slice_get g.states.items s)

-- A step leads from a place through this transition.
abbrev pub Leads : Graph → Place → Step → Summary → Type 0
Leads g None Start t = t ≡ g.start
Leads g None (Input s i) t = ⊥
Leads g (Some s) Start t = ⊥
Leads g (Some s) (Input q i) t = (q ≡ s) × (input_at g s i ≡ Some t)

-- A way through the transition ends in state s and doesn't set x.
pub record Passes (t : Summary) (x s : ℕ) : Type 0 where
  pub passage : Passage
  pub among : Contains t.passages.items passage
  pub keeps : has passage.keeps x ≡ true
  pub ends : passage.state ≡ s

-- These steps are a path from a place on, with x unset. A way through each step but the last ends
-- in the state from which the next one leads, and doesn't set x. A way through the last one reads x
-- before it sets it.
abbrev pub ReadsFrom : Graph → ℕ → Place → List Step → Type 0
ReadsFrom g x place [] = ⊥
ReadsFrom g x place (step ∷ []) = (t : Summary) × Leads g place step t × (has t.reads x ≡ true)
ReadsFrom g x place (step ∷ next ∷ steps) =
    (t : Summary) × (s : ℕ) × Leads g place step t × Passes t x s
    × ReadsFrom g x (Some s) (next ∷ steps)

-- A path from START on whose last transition reads x unset.
abbrev pub ReadsUnset : Graph → ℕ → List Step → Type 0
ReadsUnset g x path = ReadsFrom g x None path

-- no path from START on that reads x unset has fewer transitions
abbrev pub IsShortest : Graph → ℕ → List Step → Type 0
IsShortest g x path = (other : List Step) → ReadsUnset g x other → length path ≤ length other

-- From a place on, these steps lead to state s, and don't set x on the way.
abbrev pub Reached : Graph → ℕ → Place → List Step → ℕ → Type 0
Reached g x place [] s = place ≡ Some s
Reached g x place (step ∷ steps) s =
    (t : Summary) × (q : ℕ) × Leads g place step t × Passes t x q × Reached g x (Some q) steps s

-- ---- a set of states, as a mark for each

-- State s is marked, if there is such a state.
abbrev pub IsSeen : List Bool → ℕ → Type 0
IsSeen seen s = s < length seen → slice_get seen s ≡ Some true

-- The states to which passages lead with x unset are marked.
abbrev pub Covers : List Passage → ℕ → List Bool → Type 0
Covers passages x seen = All (λ p. has p.keeps x ≡ true → IsSeen seen p.state) passages

-- No walk of a transition reads x unset, and the states to which it leads with x unset are marked.
pub record IsSafe (t : Summary) (x : ℕ) (seen : List Bool) : Type 0 where
  pub reads : has t.reads x ≡ false
  pub covers : Covers t.passages.items x seen

-- all transitions from a state are safe
abbrev pub IsExpanded : Graph → ℕ → List Bool → ℕ → Type 0
IsExpanded g x seen s = (step : Step) (t : Summary) → Leads g (Some s) step t → IsSafe t x seen

-- all transitions from each marked state are safe
abbrev pub IsClosed : Graph → ℕ → List Bool → Type 0
IsClosed g x seen = (s : ℕ) → IsSeen seen s → IsExpanded g x seen s

-- A mark for each state. The transition of START is safe, and so are those of all marked states. So
-- every state that a path enters with x unset is marked.
pub record IsClosedSet (g : Graph) (x : ℕ) (marks : List Bool) : Type 0 where
  pub count : length marks ≡ length g.states.items
  pub start : IsSafe g.start x marks
  pub states : IsClosed g x marks

-- A path leads to each marked state and doesn't set x on the way.
abbrev pub AreEntered : Graph → ℕ → List Bool → Type 0
AreEntered g x marks =
    (s : ℕ) → slice_get marks s ≡ Some true → (path : List Step) × Reached g x None path s

-- ---- the fate of a variable

abbrev pub IfUnset : Fate → (Vec Step → Type 0) → Type 0
IfUnset (Unset path) P = P path
IfUnset (Set marks) P = ⊤

abbrev pub IfSet : Fate → (Vec Bool → Type 0) → Type 0
IfSet (Unset path) P = ⊤
IfSet (Set marks) P = P marks
