-- The declarations of a set, each with a head that names it and a tail that describes it, and the
-- lines for the declarations in which two sets differ.
use Rattle.std.specs.Prelude.{ℕ, ◌==◌, List, [], ◌∷◌, ◌++◌, map, codes, slice_get, Option, Some}
use Rattle.std.specs.Prelude.{None, Bool, true, false, if◌then◌else◌}
use Rattle.std.specs.List.{flat_map}
use Rattle.std.specs.Fmt.{decimal, signed_decimal}
use Rattle.turn_code.specs.declared.value.Sort.{Sort}
use Rattle.turn_code.specs.declared.value.Sort.TheVariants.{Integer, Boolean}
use Rattle.turn_code.specs.declared.value.Value.{Value}
use Rattle.turn_code.specs.declared.value.Value.TheVariants.{Int, Bool as Truth}
use Rattle.turn_code.specs.declared.input.Party.{Party}
use Rattle.turn_code.specs.declared.input.Party.TheVariants.{Environment, Process}
use Rattle.turn_code.specs.declared.numbers.SignalNumber.{SignalNumber}
use Rattle.turn_code.specs.declared.draft.Draft.{Draft}
use Rattle.turn_code.specs.declared.draft.DraftProcess.{DraftProcess}
use Rattle.turn_code.specs.declared.draft.DraftRoute.{DraftRoute}
use Rattle.turn_code.specs.declared.draft.DraftSignal.{DraftSignal}
use Rattle.turn_code.specs.declared.draft.DraftState.{DraftState}
use Rattle.turn_code.specs.declared.draft.DraftVariable.{DraftVariable}
use Rattle.turn_code.specs.declared.draft.Trigger.{Trigger}
use Rattle.turn_code.specs.declared.draft.Trigger.TheVariants.{Signal, Timer}
use Rattle.draw_diff.specs.Names.{same_name, signal_name, process_name, own_name}
use Rattle.draw_diff.specs.declared.items.Item.{Item}
use Rattle.draw_diff.specs.declared.side.Side.{Side}
use Rattle.draw_diff.specs.declared.side.Side.TheVariants.{Old, New}

-- A declared item: the head names it, and the tail describes it.
pub record PlainItem : Type 0 where
  pub head : List ℕ
  pub tail : List ℕ

abbrev pub item_of : Item → PlainItem
item_of i = record { head = i.head.items; tail = i.tail.items }

abbrev pub item : List ℕ → List ℕ → PlainItem
item head tail = record { head = head; tail = tail }

-- ---- names and sorts

-- the name of an item; nothing if there is none
abbrev pub name_or_none : {A : Type 0} → (A → List ℕ) → Option A → List ℕ
name_or_none name None = []
name_or_none name (Some x) = name x

abbrev pub signal_text : Draft → SignalNumber → List ℕ
signal_text d n = name_or_none signal_name (slice_get d.signals n.0)

abbrev pub party_text : Draft → Party → List ℕ
party_text d Environment = codes "ENV"
party_text d (Process n) = name_or_none process_name (slice_get d.processes n.0)

abbrev pub sort_text : Sort → List ℕ
sort_text Integer = codes "Integer"
sort_text Boolean = codes "Boolean"

abbrev pub more_sorts : Sort → List ℕ
more_sorts sort = codes ", " ++ sort_text sort

-- the sorts of parameters in parentheses; nothing if there are none
abbrev pub parameters_text : List Sort → List ℕ
parameters_text [] = []
parameters_text (sort ∷ sorts) =
    codes "(" ++ sort_text sort ++ flat_map more_sorts sorts ++ codes ")"

abbrev pub truth_text : Bool → List ℕ
truth_text true = codes "TRUE"
truth_text false = codes "FALSE"

abbrev pub value_text : Value → List ℕ
value_text (Int z) = signed_decimal z
value_text (Truth b) = truth_text b

abbrev pub initial_text : Option Value → List ℕ
initial_text None = []
initial_text (Some v) = codes " := " ++ value_text v

-- the number of instances; nothing for one instance
abbrev pub instances_text : ℕ → List ℕ
instances_text n =
    if n == 1 then [] else (codes " (" ++ decimal n ++ codes ", " ++ decimal n ++ codes ")")

abbrev pub trigger_text : Draft → DraftProcess → Trigger → List ℕ
trigger_text d p (Signal n) = signal_text d n
trigger_text d p (Timer n) = name_or_none own_name (slice_get p.timers n.0)

-- ---- the declarations of a set, in the order of the text

abbrev pub signal_item : DraftSignal → PlainItem
signal_item s = item (codes "SIGNAL " ++ s.name) (parameters_text s.parameters)

-- a signal that a route carries from one party to another
abbrev pub route_item : Draft → DraftRoute → SignalNumber → PlainItem
route_item d r n =
    item
    (codes "ROUTE " ++ party_text d r.from ++ codes " TO " ++ party_text d r.to ++ codes " WITH "
    ++ signal_text d n)
    []

abbrev pub route_items : Draft → DraftRoute → List PlainItem
route_items d r = map (route_item d r) r.signals

abbrev pub process_item : DraftProcess → PlainItem
process_item p = item (codes "PROCESS " ++ p.name) (instances_text p.instances)

-- a keyword, the name of a process, and a name declared in that process
abbrev pub own_head : List ℕ → DraftProcess → List ℕ → List ℕ
own_head word p name = word ++ p.name ++ codes " " ++ name

abbrev pub variable_item : DraftProcess → DraftVariable → PlainItem
variable_item p v =
    item (own_head (codes "DCL ") p v.name)
    (codes " " ++ sort_text v.sort ++ initial_text v.initial)

abbrev pub timer_item : DraftProcess → List ℕ → PlainItem
timer_item p name = item (own_head (codes "TIMER ") p name) []

abbrev pub save_item : Draft → DraftProcess → DraftState → Trigger → PlainItem
save_item d p q t =
    item (own_head (codes "SAVE ") p q.name ++ codes " " ++ trigger_text d p t) []

-- a state and the signals and timers that it saves
abbrev pub state_items : Draft → DraftProcess → DraftState → List PlainItem
state_items d p q = item (own_head (codes "STATE ") p q.name) [] ∷ map (save_item d p q) q.saves

abbrev pub process_items : Draft → DraftProcess → List PlainItem
process_items d p =
    process_item p ∷ map (variable_item p) p.variables ++ map (timer_item p) p.timers
    ++ flat_map (state_items d p) p.states

abbrev pub items_of : Draft → List PlainItem
items_of d =
    map signal_item d.signals ++ flat_map (route_items d) d.routes
    ++ flat_map (process_items d) d.processes

-- ---- the lines for items removed, changed and added

abbrev pub sign_line : List ℕ → PlainItem → List ℕ
sign_line sign i = sign ++ i.head ++ i.tail ++ codes "\n"

abbrev pub change_line : PlainItem → PlainItem → List ℕ
change_line i j =
    if same_name i.tail j.tail then [] else
    (codes "~ " ++ i.head ++ i.tail ++ codes " -> " ++ j.head ++ j.tail ++ codes "\n")

-- the first item of a list that has the same head
abbrev pub like : PlainItem → List PlainItem → Option PlainItem
like i [] = None
like i (j ∷ js) = if same_name i.head j.head then Some j else like i js

-- the sign before an item that only this side has
abbrev pub sign_of : Side → List ℕ
sign_of Old = codes "- "
sign_of New = codes "+ "

-- an item next to its namesake on the other side: removed or added if there is none; changed if
-- the tails differ, reported on the old side only
abbrev pub beside : Side → PlainItem → Option PlainItem → List ℕ
beside side i None = sign_line (sign_of side) i
beside Old i (Some j) = change_line i j
beside New i (Some j) = []

abbrev pub side_line : Side → PlainItem → List PlainItem → List ℕ
side_line side i others = beside side i (like i others)

abbrev pub side_lines : Side → List PlainItem → List PlainItem → List ℕ
side_lines side items others = flat_map (λ i. side_line side i others) items

abbrev pub item_lines : List PlainItem → List PlainItem → List ℕ
item_lines olds news = side_lines Old olds news ++ side_lines New news olds
