-- The messages that a gateway sends (RFC 4666, 3), as parameters and as octets.
use Rattle.std.specs.Prelude.{◌≡◌, ℕ, ◌==◌, ◌||◌, nat_le, Bool, true, false, if◌then◌else◌}
use Rattle.std.specs.Prelude.{Option, Some, None, List, [], ◌∷◌, ◌++◌, length, take}
use Rattle.std.specs.List.{flat_map}
use Rattle.m3ua_frames.specs.declared.kinds.Kind.{Kind}
use Rattle.m3ua_frames.specs.declared.kinds.Kind.TheVariants as kind
use Rattle.m3ua_frames.specs.Numbers.{number_4, octets_4}
use Rattle.m3ua_frames.specs.Tags.{ROUTING_CONTEXT, TRAFFIC_MODE, PROTOCOL_DATA, ERROR_CODE, STATUS}
use Rattle.m3ua_frames.specs.Tags.{AFFECTED, DIAGNOSTIC}
use Rattle.m3ua_frames.specs.Parameters.{Parameter, AreParameters, value_of, completed}
use Rattle.m3ua_frames.specs.Frame.{spelling, header, body}
use Rattle.m3ua_frames.specs.Protocol.{Protocol, protocol_octets}
use Rattle.m3ua_gateway.specs.declared.states.Server.{Server}
use Rattle.m3ua_gateway.specs.declared.states.Server.TheVariants as server
use Rattle.m3ua_gateway.specs.declared.table.Action.{Action}
use Rattle.m3ua_gateway.specs.declared.table.Action.TheVariants as action
use Rattle.m3ua_gateway.specs.Contexts.{others_in}

-- a parameter whose value is one number
abbrev pub number : ℕ → ℕ → Parameter
number tag n = record { tag = tag; value = octets_4 n }

-- a change of the AS's state, and that state (3.8.2); AS-DOWN is told of by no number, and has one
-- that is reserved
abbrev pub status_of : Server → ℕ
status_of server.Down = 0x00010001
status_of server.Inactive = 0x00010002
status_of server.Active = 0x00010003
status_of server.Pending = 0x00010004

-- ---- parameters in an answer, by the value in the message that is answered

-- our routing context, if the message had a context
abbrev pub own_context : ℕ → Option (List ℕ) → List Parameter
own_context context None = []
own_context context (Some value) = number ROUTING_CONTEXT context ∷ []

-- the traffic mode of the message
abbrev pub same_mode : Option (List ℕ) → List Parameter
same_mode None = []
same_mode (Some value) =
    if nat_le 4 (length value) then number TRAFFIC_MODE (number_4 value 0) ∷ [] else []

-- the value of the message under this tag
abbrev pub same_value : ℕ → Option (List ℕ) → List Parameter
same_value tag None = []
same_value tag (Some value) = record { tag = tag; value = value } ∷ []

-- a parameter with these numbers, if there are some
abbrev pub numbers : ℕ → List ℕ → List Parameter
numbers tag [] = []
numbers tag (n ∷ ns) = record { tag = tag; value = flat_map octets_4 (n ∷ ns) } ∷ []

-- Invalid Routing Context has the contexts of the message that aren't ours, and Unexpected Message
-- has all of them (3.8.1).
abbrev pub has_contexts : ℕ → Bool
has_contexts code = (code == 0x19) || (code == 0x06)

abbrev pub of_error : ℕ → ℕ → List Parameter → List Parameter
of_error context code ps =
    if code == 0x19
    then numbers ROUTING_CONTEXT (others_in context (value_of ROUTING_CONTEXT ps))
    else (if code == 0x06 then same_value ROUTING_CONTEXT (value_of ROUTING_CONTEXT ps) else [])

-- Unsupported Message Class and Unsupported Message Type have the first 40 octets of the message
-- (3.8.1).
abbrev pub is_diagnosed : ℕ → Bool
is_diagnosed code = (code == 0x03) || (code == 0x04)

abbrev pub diagnostic : ℕ → List ℕ → List Parameter
diagnostic code heard =
    if is_diagnosed code then record { tag = DIAGNOSTIC; value = take 40 heard } ∷ [] else []

-- ---- messages

abbrev pub octets_of : Kind → List Parameter → List ℕ
octets_of k ps = spelling (record { kind = k; parameters = ps })

-- BEAT ACK has all the parameters of BEAT, unchanged (3.5.6).
abbrev pub beat_octets : List ℕ → List ℕ
beat_octets heard =
    header kind.BeatAck (length (completed (body heard))) ++ completed (body heard)

-- the acknowledgement that an action sends, if it sends one, of a message that was heard, with
-- these parameters
abbrev pub acknowledgement : ℕ → List ℕ → Action → List Parameter → Option (List ℕ)
acknowledgement context heard action.UpAck ps = Some (octets_of kind.UpAck [])
acknowledgement context heard action.DownAck ps = Some (octets_of kind.DownAck [])
acknowledgement context heard action.BeatAck ps = Some (beat_octets heard)
acknowledgement context heard action.ActiveAck ps =
    Some (octets_of kind.ActiveAck
    (same_mode (value_of TRAFFIC_MODE ps) ++ own_context context (value_of ROUTING_CONTEXT ps)))
acknowledgement context heard action.InactiveAck ps =
    Some (octets_of kind.InactiveAck (own_context context (value_of ROUTING_CONTEXT ps)))
acknowledgement context heard (action.Notify s) ps = None
acknowledgement context heard (action.Error n) ps = None
acknowledgement context heard action.Refuse ps = None
acknowledgement context heard action.Registered ps = None
acknowledgement context heard action.Destinations ps = None
acknowledgement context heard action.Audited ps = None
acknowledgement context heard action.Take ps = None
acknowledgement context heard action.Count ps = None
acknowledgement context heard action.Release ps = None
acknowledgement context heard action.Lose ps = None

-- What an action sends, if it sends one message: NTFY, ERR or an acknowledgement. It answers octets
-- that were heard, with these parameters, or reports the code of what is wrong with them.
abbrev pub answer : ℕ → ℕ → List ℕ → Action → List Parameter → Option (List ℕ)
answer context code heard (action.Notify s) ps =
    Some (octets_of kind.Notify
    (number STATUS (status_of s) ∷ number ROUTING_CONTEXT context ∷ []))
answer context code heard (action.Error n) ps =
    Some (octets_of kind.Error (number ERROR_CODE n ∷ of_error context n ps))
answer context code heard action.Refuse ps =
    Some (octets_of kind.Error (number ERROR_CODE code ∷ diagnostic code heard))
answer context code heard action.UpAck ps = acknowledgement context heard action.UpAck ps
answer context code heard action.DownAck ps = acknowledgement context heard action.DownAck ps
answer context code heard action.BeatAck ps = acknowledgement context heard action.BeatAck ps
answer context code heard action.ActiveAck ps = acknowledgement context heard action.ActiveAck ps
answer context code heard action.InactiveAck ps =
    acknowledgement context heard action.InactiveAck ps
answer context code heard action.Registered ps = None
answer context code heard action.Destinations ps = None
answer context code heard action.Audited ps = None
answer context code heard action.Take ps = None
answer context code heard action.Count ps = None
answer context code heard action.Release ps = None
answer context code heard action.Lose ps = None

-- whether what an action sends depends on the parameters of the message that was heard
abbrev pub reads : Action → Bool
reads action.ActiveAck = true
reads action.InactiveAck = true
reads (action.Error n) = has_contexts n
reads action.Audited = true
reads action.Registered = true
reads action.UpAck = false
reads action.DownAck = false
reads action.BeatAck = false
reads (action.Notify s) = false
reads action.Refuse = false
reads action.Destinations = false
reads action.Take = false
reads action.Count = false
reads action.Release = false
reads action.Lose = false

-- these are the parameters of the octets that were heard, if it does
abbrev pub AreRead : Action → List ℕ → List Parameter → Type 0
AreRead a heard ps = reads a ≡ true → AreParameters (body heard) ps

-- DATA with our routing context (3.3.1)
abbrev pub data_octets : ℕ → Protocol → List ℕ
data_octets context p =
    octets_of kind.Data (number ROUTING_CONTEXT context
    ∷ record { tag = PROTOCOL_DATA; value = protocol_octets p } ∷ [])

-- DAVA, or DUNA, of a point code (3.4.1, 3.4.2)
abbrev pub destination_octets : ℕ → Bool → ℕ → List ℕ
destination_octets context available affected =
    octets_of (if available then kind.Dava else kind.Duna)
    (number ROUTING_CONTEXT context ∷ number AFFECTED affected ∷ [])

-- what is sent, if something is
abbrev pub sent : Bool → List ℕ → Option (List ℕ)
sent b octets = if b then Some octets else None
