-- Linked lists. The node of a slot follows its last item, so each list with its slot is a ring.
use Rattle.std.specs.Prelude.{◌≡◌, ℕ, zero, suc, ◌+◌, ◌<◌, nat_eq, Bool, true, List, [], ◌∷◌}
use Rattle.std.specs.Prelude.{Option, Some, None, length, get_or, set, map, nat_lt, if◌then◌else◌}
use Rattle.std.specs.List.{IsDistinct, list_any, range_with_len}
use Rattle.tick_wheel.specs.Sizes.{ITEMS, SLOTS, NODES}

-- the node to which a table links a node; a node outside the table links to itself
abbrev pub at : List ℕ → ℕ → ℕ
at links node = get_or links node node

-- the item of a node, if the node is an item's
abbrev pub item_of : ℕ → Option ℕ
item_of node = if nat_lt node ITEMS then Some node else None

-- at most n items from a node on, until the node of a slot
unfoldable pub walk : (ℕ → ℕ) → ℕ → ℕ → List ℕ
walk next zero node = []
walk next (suc n) node = if nat_lt node ITEMS then node ∷ walk next n (next node) else []

-- the items after the node of a slot
unfoldable pub list_of : (ℕ → ℕ) → ℕ → List ℕ
list_of next slot = walk next ITEMS (next (ITEMS + slot))

-- the lists of all slots
unfoldable pub lists_of : (ℕ → ℕ) → List (List ℕ)
lists_of next = map (list_of next) (range_with_len 0 SLOTS)

-- links lead from a node through these items in turn, and from the last one to the end
abbrev pub Chain : (ℕ → ℕ) → ℕ → List ℕ → ℕ → Type 0
Chain next from [] end = next from ≡ end
Chain next from (item ∷ items) end = (next from ≡ item) × Chain next item items end

-- whether an item is in a list
abbrev pub has : ℕ → List ℕ → Bool
has item items = list_any (nat_eq item) items

-- two links that undo each other make these lists: an item is in at most one of them, and there
-- once
pub record Linked (next previous : ℕ → ℕ) (lists : ℕ → List ℕ) : Type 0 where
  pub forth : (node : ℕ) → previous (next node) ≡ node
  pub back : (node : ℕ) → next (previous node) ≡ node
  pub nodes : (node : ℕ) → node < NODES → (next node < NODES) × (previous node < NODES)
  pub chains : (slot : ℕ) → slot < SLOTS → Chain next (ITEMS + slot) (lists slot) (ITEMS + slot)
  pub items : (slot item : ℕ) → slot < SLOTS → has item (lists slot) ≡ true → item < ITEMS
  pub once : (slot : ℕ) → slot < SLOTS → IsDistinct nat_eq (lists slot)
  pub apart :
      (slot other item : ℕ) → slot < SLOTS → other < SLOTS → has item (lists slot) ≡ true
      → has item (lists other) ≡ true → slot ≡ other

-- two tables of links that make lists
pub record IsLinked (next previous : List ℕ) : Type 0 where
  pub lengths : (length next ≡ NODES) × (length previous ≡ NODES)
  pub linked : Linked (at next) (at previous) (list_of (at next))

-- a table in which the neighbours of an item are linked to each other; for the other table the two
-- arguments are exchanged
abbrev pub out_of : List ℕ → List ℕ → ℕ → List ℕ
out_of next previous item = set (set next (at previous item) (at next item)) item item

-- the two tables after an item is inserted after a node
abbrev pub in_front : List ℕ → ℕ → ℕ → List ℕ
in_front next node item = set (set next item (at next node)) node item

abbrev pub in_front_back : List ℕ → List ℕ → ℕ → ℕ → List ℕ
in_front_back next previous node item = set (set previous item node) (at next node) item
