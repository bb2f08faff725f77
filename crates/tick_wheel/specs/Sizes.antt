-- The numbers of items and slots.
use Rattle.std.specs.Prelude.{ℕ}

-- the number of items
abbrev pub ITEMS : ℕ
ITEMS = 1024

-- the number of slots, each with its list
abbrev pub SLOTS : ℕ
SLOTS = 256

-- the number of nodes: one for each item, then one for each slot
abbrev pub NODES : ℕ
NODES = 1280
