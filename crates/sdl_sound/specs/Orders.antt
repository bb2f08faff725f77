-- Orders of the connections of a process in which each comes after all connections that it joins.
use Rattle.std.specs.Prelude.{◌≡◌, ◌<◌, ℕ, List, [], Option, Some, Result, Ok, Err, length, map}
use Rattle.std.specs.Prelude.{slice_get, Contains, option_to_list}
use Rattle.std.specs.List.{AllZip, flat_map}
use Rattle.std.specs.Global.{Vec}
use Rattle.sdl_tables.specs.sdl_ast_types.expression.Identifier.{Identifier}
use Rattle.sdl_tables.specs.sdl_ast_types.tree.Join.{Join}
use Rattle.sdl_tables.specs.Plain.{PlainConnection, PlainProcess, PlainBlock}
use Rattle.sdl_tables.specs.Names.{number_of, connector_names, processes_of}
use Rattle.sdl_sound.specs.Statements.{joins_of}
use Rattle.sdl_sound.specs.Joins.{process_cycles, join_cycles}

-- the numbers of the connectors to which JOINs lead
abbrev pub joins_in : List Identifier → List Join → List ℕ
joins_in ids joins = flat_map (λ j. option_to_list (number_of ids j.connector.name)) joins

-- the numbers of a process's connections to which JOINs lead
abbrev pub targets_of : PlainProcess → List Join → List ℕ
targets_of p joins = joins_in (connector_names p) joins

-- for each connection, the numbers of the connections to which its JOINs lead
abbrev pub links_of : PlainProcess → List (List ℕ)
links_of p = map (λ c. targets_of p (joins_of c.text)) p.connections

-- Each connection's number is in the list once. Each JOIN of a connection leads to one that comes
-- before it.
pub record IsOrder (p : PlainProcess) (order : List ℕ) : Type 0 where
  pub count : length order ≡ length p.connections
  pub known : (i n : ℕ) → slice_get order i ≡ Some n → n < length p.connections
  pub each : (n : ℕ) → n < length p.connections → (i : ℕ) × (slice_get order i ≡ Some n)
  pub once : (i j n : ℕ) → slice_get order i ≡ Some n → slice_get order j ≡ Some n → i ≡ j
  pub behind :
      (i n m : ℕ) (c : PlainConnection) (j : Join) → slice_get order i ≡ Some n
      → slice_get p.connections n ≡ Some c
      → Contains (joins_of c.text) j → number_of (connector_names p) j.connector.name ≡ Some m
      → (k : ℕ) × (k < i) × (slice_get order k ≡ Some m)

-- the lists are an order for each process
abbrev pub AreOrders : List PlainProcess → List (Vec ℕ) → Type 0
AreOrders ps orders = AllZip (λ p (v : Vec ℕ). IsOrder p v.items) ps orders

-- an order, if no JOIN leads back to its connection; otherwise the place of a JOIN that does
abbrev pub IsOrdered : PlainProcess → Result (Vec ℕ) (Option ℕ) → Type 0
IsOrdered p (Ok order) = IsOrder p order.items × (process_cycles p ≡ [])
IsOrdered p (Err place) = (at : ℕ) × (place ≡ Some at) × Contains (process_cycles p) at

-- an order for each process of a block, or the place of a JOIN that leads back
abbrev pub AreOrdered : PlainBlock → Result (Vec (Vec ℕ)) ℕ → Type 0
AreOrdered b (Ok orders) = AreOrders (processes_of b) orders.items × (join_cycles b ≡ [])
AreOrdered b (Err at) = Contains (join_cycles b) at
