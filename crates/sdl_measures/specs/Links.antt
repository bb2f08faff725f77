-- Graphs of numbered nodes: for each node, the nodes to which its links lead.
use Rattle.std.specs.Prelude.{◌≡◌, ◌<◌, ℕ, zero, suc, Bool, true, ◌||◌, List, [], Some, nat_eq}
use Rattle.std.specs.Prelude.{length, map, slice_get, All, Contains}
use Rattle.std.specs.List.{list_any}
use Rattle.std.specs.Option.{option_map_or}
use Rattle.std.specs.Global.{Vec}

-- the nodes to which a node leads; none if the node doesn't exist
abbrev pub nexts : List (List ℕ) → ℕ → List ℕ
nexts g n = option_map_or (λ ts. ts) (slice_get g n) []

-- a path of at most k links leads from node n to node m
abbrev pub goes_by : List (List ℕ) → ℕ → ℕ → ℕ → Bool
goes_by g zero n m = nat_eq n m
goes_by g (suc k) n m = nat_eq n m || list_any (λ t. goes_by g k t m) (nexts g n)

-- A path leads from n to m. The shortest path meets no node twice, so it has no more links than
-- there are nodes.
abbrev pub goes : List (List ℕ) → ℕ → ℕ → Bool
goes g n m = goes_by g (length g) n m

-- each link leads to an existing node
abbrev pub IsGraph : List (List ℕ) → Type 0
IsGraph g = All (λ ts. All (λ t. t < length g) ts) g

-- a path leads from node n back to it
pub record Returns (g : List (List ℕ)) (n : ℕ) : Type 0 where
  pub next : ℕ
  pub among : Contains (nexts g n) next
  pub back : goes g next n ≡ true

-- An order of the nodes: each is in the list once, after all nodes to which it leads.
pub record IsOrderOf (g : List (List ℕ)) (order : List ℕ) : Type 0 where
  pub count : length order ≡ length g
  pub known : (i n : ℕ) → slice_get order i ≡ Some n → n < length g
  pub each : (n : ℕ) → n < length g → (i : ℕ) × (slice_get order i ≡ Some n)
  pub once : (i j n : ℕ) → slice_get order i ≡ Some n → slice_get order j ≡ Some n → i ≡ j
  pub behind :
      (i n t : ℕ) → slice_get order i ≡ Some n → Contains (nexts g n) t
      → (k : ℕ) × (k < i) × (slice_get order k ≡ Some t)

-- rows of numbers as a graph
abbrev pub graph_in : List (Vec ℕ) → List (List ℕ)
graph_in rows = map (λ v. v.items) rows

-- a path leads from one of the nodes to node m
abbrev pub any_goes : List (List ℕ) → List ℕ → ℕ → Bool
any_goes g starts m = list_any (λ s. goes g s m) starts
