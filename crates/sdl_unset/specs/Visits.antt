-- What a search keeps: the states that it has seen, and a visit of each with a path to it.
use Rattle.std.specs.Prelude.{◌≡◌, ℕ, suc, ◌+◌, ◌<◌, ◌≤◌, Bool, true, false, List, [], ◌∷◌, ◌++◌}
use Rattle.std.specs.Prelude.{length, Some, None, Contains, All, slice_get, ◌⊎◌}
use Rattle.sdl_unset.specs.declared.paths.Passage.{Passage}
use Rattle.sdl_unset.specs.declared.paths.Summary.{Summary}
use Rattle.sdl_unset.specs.declared.paths.Graph.{Graph}
use Rattle.sdl_unset.specs.declared.paths.Step.{Step}
use Rattle.sdl_unset.specs.declared.paths.Step.TheVariants.{Start, Input}
use Rattle.sdl_unset.specs.declared.paths.Visit.{Visit}
use Rattle.sdl_unset.specs.Graph.{has, Leads, Passes, Reached, IsSeen, IsSafe, IsExpanded}
use Rattle.sdl_unset.specs.Order.{Before, NotAfter, AreSorted}

-- How many states haven't been seen.
unfoldable pub unseen : List Bool → ℕ
unseen [] = 0
unseen (true ∷ seen) = unseen seen
unseen (false ∷ seen) = suc (unseen seen)

-- Each state that has been seen has a visit.
abbrev pub AreVisited : List Bool → List Visit → Type 0
AreVisited seen visits =
    (s : ℕ) → slice_get seen s ≡ Some true → (v : Visit) × Contains visits v × (v.state ≡ s)

-- How a search goes on: states that were seen stay seen, visits are added, and for each visit one
-- more state has been seen.
pub record Grows (seen : List Bool) (visits : List Visit) (new_seen : List Bool)
    (new_visits : List Visit) : Type 0 where
  pub states : length new_seen ≡ length seen
  pub stays : (s : ℕ) → IsSeen seen s → IsSeen new_seen s
  pub added : List Visit
  pub all : new_visits ≡ visits ++ added
  pub visited : AreVisited seen visits → AreVisited new_seen new_visits
  pub count : length new_visits + unseen new_seen ≡ length visits + unseen seen

-- A visit of a state by a path.
pub record IsVisit (state : ℕ) (path : List Step) (v : Visit) : Type 0 where
  pub by : v.path.items ≡ path
  pub at : v.state ≡ state

-- Each new visit was there before, or is of the new kind.
abbrev pub Enters : (Visit → Type 0) → List Visit → List Visit → Type 0
Enters P old new = (v : Visit) → Contains new v → Contains old v ⊎ P v

abbrev pub Adds : ℕ → List Step → List Visit → List Visit → Type 0
Adds state path old new = Enters (IsVisit state path) old new

-- A visit by one of the passages at the end of a path.
pub record IsBy (passages : List Passage) (x : ℕ) (path : List Step) (v : Visit) : Type 0 where
  pub passage : Passage
  pub among : Contains passages passage
  pub keeps : has passage.keeps x ≡ true
  pub visit : IsVisit passage.state path v

-- A visit by a passage of one of the inputs of a state.
pub record IsByInput (inputs : List Summary) (x state : ℕ) (path : List Step) (v : Visit) :
    Type 0 where
  pub number : ℕ
  pub summary : Summary
  pub there : slice_get inputs number ≡ Some summary
  pub by : IsBy summary.passages.items x (path ++ Input state number ∷ []) v

-- A longer path, by the first input that reads x.
pub record ReadsBy (inputs : List Summary) (x state : ℕ) (path longer : List Step) : Type 0 where
  pub number : ℕ
  pub summary : Summary
  pub there : slice_get inputs number ≡ Some summary
  pub reads : has summary.reads x ≡ true
  pub all : longer ≡ path ++ Input state number ∷ []
  pub first :
      (i : ℕ) (t : Summary) → i < number → slice_get inputs i ≡ Some t → has t.reads x ≡ false

-- None of these transitions reads x, and the states to which they lead with x unset were seen.
abbrev pub AreSafe : List Summary → ℕ → List Bool → Type 0
AreSafe inputs x seen = All (λ t. IsSafe t x seen) inputs

-- The path of each visit leads to its state with x unset.
abbrev pub AreReached : Graph → ℕ → List Visit → Type 0
AreReached g x visits = (v : Visit) → Contains visits v → Reached g x None v.path.items v.state

-- The visits before number `next` are expanded.
abbrev pub AreExpanded : Graph → ℕ → List Bool → List Visit → ℕ → Type 0
AreExpanded g x seen visits next =
    (k : ℕ) (v : Visit) → k < next → slice_get visits k ≡ Some v → IsExpanded g x seen v.state

-- ---- how far the visits are from START

-- Visits are ordered by the number of steps of their paths, and none has more than n.
pub record AreInOrder (n : ℕ) (visits : List Visit) : Type 0 where
  pub order :
      (i j : ℕ) (v w : Visit) → i ≤ j → slice_get visits i ≡ Some v → slice_get visits j ≡ Some w
      → length v.path.items ≤ length w.path.items
  pub most : (v : Visit) → Contains visits v → length v.path.items ≤ n

abbrev pub StayInOrder : ℕ → List Visit → List Visit → Type 0
StayInOrder n old new = AreInOrder n old → AreInOrder n new

-- A visit of a state by a path of at most n steps.
pub record IsVisitedWithin (visits : List Visit) (state n : ℕ) : Type 0 where
  pub visit : Visit
  pub among : Contains visits visit
  pub at : visit.state ≡ state
  pub most : length visit.path.items ≤ n

-- The states to which a transition leads with x unset have visits by paths of at most n steps.
abbrev pub LeadsWithin : Graph → ℕ → List Visit → ℕ → Summary → Type 0
LeadsWithin g x visits n t =
    (q : ℕ) → Passes t x q → q < length g.states.items → IsVisitedWithin visits q n

-- The search goes by levels. Earlier visits have paths that are no longer, and no path is more than
-- one step longer than that of the next visit to be expanded.
pub record AreLevels (g : Graph) (x : ℕ) (visits : List Visit) (next : ℕ) : Type 0 where
  pub quiet : has g.start.reads x ≡ false
  pub start : LeadsWithin g x visits 1 g.start
  pub order :
      (v : Visit) → slice_get visits next ≡ Some v → AreInOrder (length v.path.items + 1) visits
  pub near : (k : ℕ) (v : Visit) → k < next → slice_get visits k ≡ Some v
      → (step : Step) (t : Summary) → Leads g (Some v.state) step t
      → LeadsWithin g x visits (length v.path.items + 1) t

-- ---- which path to a state is kept

-- State s by path a is visited before state q by path b: path a comes before path b, or they are
-- equal and s comes first.
abbrev pub ComesBefore : List Step → ℕ → List Step → ℕ → Type 0
ComesBefore a s b q = Before a b ⊎ ((a ≡ b) × (s < q))

-- Visits are in this order, and all come before a visit of this state by this path.
pub record AreKept (path : List Step) (state : ℕ) (visits : List Visit) : Type 0 where
  pub order :
      (i j : ℕ) (v w : Visit) → i < j → slice_get visits i ≡ Some v → slice_get visits j ≡ Some w
      → ComesBefore v.path.items v.state w.path.items w.state
  pub most : (v : Visit) → Contains visits v → ComesBefore v.path.items v.state path state

-- Visits are in this order, and no path of theirs comes after this one.
pub record AreUnder (path : List Step) (visits : List Visit) : Type 0 where
  pub order :
      (i j : ℕ) (v w : Visit) → i < j → slice_get visits i ≡ Some v → slice_get visits j ≡ Some w
      → ComesBefore v.path.items v.state w.path.items w.state
  pub most : (v : Visit) → Contains visits v → NotAfter v.path.items path

-- A state has a visit by this path or by one that comes before it.
pub record IsVisitedBy (visits : List Visit) (state : ℕ) (path : List Step) : Type 0 where
  pub visit : Visit
  pub among : Contains visits visit
  pub at : visit.state ≡ state
  pub by : NotAfter visit.path.items path

-- The states below `count` to which a transition leads with x unset have visits by this path or by
-- one that comes before it.
abbrev pub LeadsBy : ℕ → ℕ → List Visit → List Step → Summary → Type 0
LeadsBy count x visits path t = (q : ℕ) → Passes t x q → q < count → IsVisitedBy visits q path

-- As `LeadsBy`, for the first n inputs of a state that a path reaches.
abbrev pub AreNear : ℕ → ℕ → List Visit → List Step → ℕ → List Summary → ℕ → Type 0
AreNear count x visits path state inputs n =
    (i : ℕ) (t : Summary) → i < n → slice_get inputs i ≡ Some t
    → LeadsBy count x visits (path ++ Input state i ∷ []) t

-- All these transitions have their passages in order.
abbrev pub AreAllSorted : List Summary → Type 0
AreAllSorted inputs =
    (i : ℕ) (t : Summary) → slice_get inputs i ≡ Some t → AreSorted t.passages.items

-- Between two expansions the visits are in order, and no path of theirs goes on from the next
-- visit. If an expanded visit leads to a state, that state has a visit by this path or by one that
-- comes before it.
pub record AreLeast (g : Graph) (x : ℕ) (visits : List Visit) (next : ℕ) : Type 0 where
  pub start : LeadsBy (length g.states.items) x visits (Start ∷ []) g.start
  pub kept : (v : Visit) → slice_get visits next ≡ Some v
      → AreKept (v.path.items ++ Input v.state 0 ∷ []) 0 visits
  pub near : (k : ℕ) (v : Visit) → k < next → slice_get visits k ≡ Some v → (i : ℕ) (t : Summary)
      → Leads g (Some v.state) (Input v.state i) t
      → LeadsBy (length g.states.items) x visits (v.path.items ++ Input v.state i ∷ []) t
