-- The signals offered to the actors because of a unit.
use Rattle.std.specs.Prelude.{ℕ, Bool, List, [], ◌∷◌}
use Rattle.link_transceiver.specs.declared.offers.Offer.{Offer}
use Rattle.link_transceiver.specs.declared.offers.Notice.{Notice}
use Rattle.link_transceiver.specs.declared.offers.Notice.TheVariants as notice
use Rattle.link_transceiver.specs.declared.offers.Party.TheVariants as party

-- both error rate monitors get each such signal: alignment (AERM) first, then service (SUERM)
abbrev pub to_monitors : Notice → List Offer
to_monitors n =
    record { to = party.Aerm; notice = n } ∷ record { to = party.Suerm; notice = n } ∷ []

-- messages were acknowledged; whether some are still unacknowledged
abbrev pub acknowledgement_seen : Bool → Offer
acknowledgement_seen some_left = record { to = party.Txc; notice = notice.AckSeen some_left }

-- two of the last three units had one fault
abbrev pub two_bad : Offer
two_bad = record { to = party.Rc; notice = notice.Bad }

-- a unit of this kind was received
abbrev pub unit_seen : ℕ → Offer
unit_seen kind = record { to = party.Rc; notice = notice.Unit kind }

-- a received unit was discarded: 1 for its backward number, 2 for its forward indicator
abbrev pub odd_seen : ℕ → Offer
odd_seen code = record { to = party.Rc; notice = notice.Odd code }

-- octet counting begins (true) or ends
abbrev pub counting_offers : Bool → List Offer
counting_offers on = to_monitors (notice.Counting on)

-- a message was sent
abbrev pub message_sent : Offer
message_sent = record { to = party.Txc; notice = notice.MsuSent }

-- the offers for a unit with errors or for sixteen octets without a unit
abbrev pub error_offers : List Offer
error_offers = to_monitors notice.Errored
