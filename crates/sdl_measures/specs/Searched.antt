-- The invariants of searches of a graph.
use Rattle.std.specs.Prelude.{◌≡◌, ◌<◌, ℕ, suc, ◌+◌, Bool, true, false, List, [], ◌∷◌, ◌++◌, Some}
use Rattle.std.specs.Prelude.{length, slice_get, All, Contains, ◌⊎◌}
use Rattle.sdl_measures.specs.Links.{nexts, goes, any_goes}
use Rattle.sdl_measures.specs.declared.graph.Mark.{Mark}
use Rattle.sdl_measures.specs.declared.graph.Mark.TheVariants.{New, Open, Done}
use Rattle.sdl_measures.specs.declared.graph.Frame.{Frame}

-- ---- marks: the nodes found, and a mark for each of them

abbrev pub IsMarked : List Bool → ℕ → Type 0
IsMarked marks n = slice_get marks n ≡ Some true

-- the number of nodes without a mark
unfoldable pub unmarked : List Bool → ℕ
unmarked [] = 0
unmarked (true ∷ marks) = unmarked marks
unmarked (false ∷ marks) = suc (unmarked marks)

-- exactly the nodes found are marked
pub record AreFound (marks : List Bool) (found : List ℕ) : Type 0 where
  pub marked : (n : ℕ) → Contains found n → IsMarked marks n
  pub back : (n : ℕ) → IsMarked marks n → Contains found n
  pub count : length found + unmarked marks ≡ length marks

-- these nodes are found in addition to those before, and no others
pub record Finds (nodes : List ℕ) (marks : List Bool) (found : List ℕ) (new_marks : List Bool)
    (new_found : List ℕ) : Type 0 where
  pub count : length new_marks ≡ length marks
  pub stays : (n : ℕ) → IsMarked marks n → IsMarked new_marks n
  pub added : List ℕ
  pub all : new_found ≡ found ++ added
  pub are : AreFound new_marks new_found
  pub marked : All (IsMarked new_marks) nodes
  pub only : (n : ℕ) → Contains new_found n → Contains found n ⊎ Contains nodes n

-- The marks after a search that continued from the nodes found. Marked nodes remain marked. Every
-- node to which a marked node leads is marked. Each marked node is reachable from one found before.
pub record Follows (g : List (List ℕ)) (marks : List Bool) (found : List ℕ)
    (new_marks : List Bool) : Type 0 where
  pub count : length new_marks ≡ length marks
  pub stays : (n : ℕ) → IsMarked marks n → IsMarked new_marks n
  pub closed : (n : ℕ) → IsMarked new_marks n → All (IsMarked new_marks) (nexts g n)
  pub only : (n : ℕ) → IsMarked new_marks n → (s : ℕ) × Contains found s × (goes g s n ≡ true)

-- the mark of each node tells whether it is reachable from one of the starts
pub record AreMarks (g : List (List ℕ)) (starts : List ℕ) (marks : List Bool) : Type 0 where
  pub count : length marks ≡ length g
  pub each : (n : ℕ) (b : Bool) → slice_get marks n ≡ Some b → b ≡ any_goes g starts n

-- ---- an order

-- the search hasn't visited the node
abbrev pub is_new : Mark → Bool
is_new New = true
is_new (Open d) = false
is_new (Done i) = false

abbrev pub is_done : Mark → Bool
is_done New = false
is_done (Open d) = false
is_done (Done i) = true

-- the number of nodes not visited
unfoldable pub unseen : List Mark → ℕ
unseen [] = 0
unseen (New ∷ marks) = suc (unseen marks)
unseen (Open d ∷ marks) = unseen marks
unseen (Done i ∷ marks) = unseen marks

-- Each open node but the first is one to which the open node before it leads. Each node in the
-- order comes after all to which it leads. The marks tell the position of each node. The links of
-- an open node before `next` lead to nodes in the order.
pub record IsSearch (g : List (List ℕ)) (marks : List Mark) (path : List Frame) (order : List ℕ) :
    Type 0 where
  pub count : length marks ≡ length g
  pub total : length order + length path + unseen marks ≡ length marks
  pub opened :
      (d : ℕ) (f : Frame) → slice_get path d ≡ Some f → slice_get marks f.node ≡ Some (Open d)
  pub ordered : (i n : ℕ) → slice_get order i ≡ Some n → slice_get marks n ≡ Some (Done i)
  pub open_at :
      (n d : ℕ) → slice_get marks n ≡ Some (Open d)
      → (f : Frame) × (slice_get path d ≡ Some f) × (f.node ≡ n)
  pub done_at : (n i : ℕ) → slice_get marks n ≡ Some (Done i) → slice_get order i ≡ Some n
  pub chain :
      (d : ℕ) (f h : Frame) → slice_get path d ≡ Some f → slice_get path (suc d) ≡ Some h
      → slice_get (nexts g f.node) f.next ≡ Some h.node
  pub passed :
      (d k t : ℕ) (f : Frame) → slice_get path d ≡ Some f → k < f.next
      → slice_get (nexts g f.node) k ≡ Some t
      → (i : ℕ) × (slice_get order i ≡ Some t)
  pub behind : (i n k t : ℕ) → slice_get order i ≡ Some n → slice_get (nexts g n) k ≡ Some t
      → (j : ℕ) × (j < i) × (slice_get order j ≡ Some t)

abbrev pub StandsIn : List ℕ → ℕ → Type 0
StandsIn order n = (i : ℕ) × (slice_get order i ≡ Some n)

-- A search made a step: it is nearer to its end, and nodes visited before are still visited.
pub record Advances (g : List (List ℕ)) (marks : List Mark) (path : List Frame)
    (new_marks : List Mark) (new_path : List Frame) (new_order : List ℕ) : Type 0 where
  pub search : IsSearch g new_marks new_path new_order
  pub less : unseen new_marks + unseen new_marks + length new_path
      < unseen marks + unseen marks + length path
  pub seen : (n : ℕ) → slice_get new_marks n ≡ Some New → slice_get marks n ≡ Some New

-- A search visited a node and all nodes reachable from it.
pub record Visits (g : List (List ℕ)) (root : ℕ) (marks : List Mark) (new_marks : List Mark)
    (new_path : List Frame) (new_order : List ℕ) : Type 0 where
  pub search : IsSearch g new_marks new_path new_order
  pub done : new_path ≡ []
  pub seen : (n : ℕ) → slice_get new_marks n ≡ Some New → slice_get marks n ≡ Some New
  pub visited : slice_get new_marks root ≡ Some New → ⊥
