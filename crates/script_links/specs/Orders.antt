-- The orders to a terminal that single words name.
use Rattle.std.specs.Prelude.{ℕ, if◌then◌else◌, List, [], ◌∷◌, Option, None, Some, codes}
use Rattle.std.specs.Str.{bytes_eq}
use Rattle.resend_store.specs.declared.messages.Mode.{Mode}
use Rattle.resend_store.specs.declared.messages.Mode.TheVariants.{Basic, Cyclic}
use Rattle.script_links.specs.declared.orders.Order.{Order}
use Rattle.script_links.specs.declared.orders.Order.TheVariants.{Power, Start, Stop, Emergency}
use Rattle.script_links.specs.declared.orders.Order.TheVariants.{Calm, Outage, Back, Busy, Free}
use Rattle.script_links.specs.declared.orders.Order.TheVariants.{Flush, Continue, Overload}

abbrev pub order_text : Order → List ℕ
order_text Power = codes "power"
order_text Start = codes "start"
order_text Stop = codes "stop"
order_text Emergency = codes "emergency"
order_text Calm = codes "calm"
order_text Outage = codes "outage"
order_text Back = codes "back"
order_text Busy = codes "busy"
order_text Free = codes "free"
order_text Flush = codes "flush"
order_text Continue = codes "continue"
order_text Overload = codes "overload"

-- The first of these orders that has the text.
abbrev pub order_among : List ℕ → List Order → Option Order
order_among word [] = None
order_among word (order ∷ more) =
    if bytes_eq word (order_text order) then Some order else order_among word more

unfoldable pub order_of : List ℕ → Option Order
order_of word =
    order_among word
    (Power ∷ Start ∷ Stop ∷ Emergency ∷ Calm ∷ Outage ∷ Back ∷ Busy ∷ Free ∷ Flush ∷ Continue
    ∷ Overload ∷ [])

-- The kind of error correction that a word names (Q.703, 1.4).
abbrev pub mode_named : List ℕ → Option Mode
mode_named word =
    if bytes_eq word (codes "basic") then Some Basic
    else (if bytes_eq word (codes "cyclic") then Some Cyclic else None)
