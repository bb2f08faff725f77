-- The remaining orders while they are read, if they are known.
use Rattle.std.specs.Prelude.{◌≡◌, Bool, true, false, ℕ, List, [], Option, None, Some, option_map}
use Rattle.line_filter.specs.Orders.{Timed, Stays}
use Rattle.line_filter.specs.Streams.{left_in}
use Rattle.line_filter.specs.declared.stream.LineOrders.{LineOrders}

-- The remaining orders, if the rest of the input is known.
abbrev pub left_of : {R : Type 0} → (R → Option (List ℕ)) → LineOrders R → Option (List Timed)
left_of remaining o = option_map (left_in o.lines) (remaining o.reader)

-- A read leaves the remaining orders unchanged; if the input has ended, none remain.
abbrev pub IsRead : Bool → Option (List Timed) → Option (List Timed) → Type 0
IsRead true old new = Stays old new
IsRead false None new = Unit {0}
IsRead false (Some os) None = ⊥
IsRead false (Some os) (Some new) = (os ≡ []) × (new ≡ [])
