-- Places in the queues, and what a call says of a message.
use Rattle.std.specs.Prelude.{ℕ, suc, if◌then◌else◌, List, [], ◌∷◌}
use Rattle.std.specs.Prelude.{Option, Some, None}
use Rattle.std.specs.Option.{option_map}
use Rattle.resend_store.specs.declared.messages.Msu.{Msu}
use Rattle.m3ua_gateway.specs.declared.gateway.Delivery.{Delivery}
use Rattle.m3ua_gateway.specs.declared.gateway.Delivery.TheVariants as delivery
use Rattle.m3ua_gateway.specs.Life.{is_of}

-- what is to be sent, and how many messages are lost
abbrev pub sent_in : Delivery → List Msu
sent_in (delivery.Send m) = m ∷ []
sent_in delivery.Kept = []
sent_in delivery.Lost = []

abbrev pub lost_in : Delivery → ℕ
lost_in (delivery.Send m) = 0
lost_in delivery.Kept = 0
lost_in delivery.Lost = 1

-- how many messages are dropped
abbrev pub dropped_in : Option Msu → ℕ
dropped_in None = 0
dropped_in (Some m) = 1

-- the place of the first message of a selection
abbrev pub place_of : ℕ → List Msu → Option ℕ
place_of selection [] = None
place_of selection (m ∷ ms) =
    if is_of selection m then Some 0 else option_map suc (place_of selection ms)
