-- What a message of the ASP is to a gateway.
use Rattle.std.specs.Prelude.{◌≡◌, ℕ, ◌<◌, ◌≤◌, ◌&&◌, nat_le, nat_lt, Bool, true, false}
use Rattle.std.specs.Prelude.{if◌then◌else◌}
use Rattle.std.specs.Prelude.{Option, Some, None, List, length}
use Rattle.resend_store.specs.declared.messages.Msu.{Msu}
use Rattle.m3ua_frames.specs.declared.kinds.Kind.{Kind}
use Rattle.m3ua_frames.specs.declared.kinds.Kind.TheVariants as kind
use Rattle.m3ua_frames.specs.Numbers.{number_4}
use Rattle.m3ua_frames.specs.Parameters.{Parameter, value_of}
use Rattle.m3ua_frames.specs.Tags.{ROUTING_CONTEXT, TRAFFIC_MODE, PROTOCOL_DATA}
use Rattle.m3ua_frames.specs.Protocol.{Protocol, protocol_octets, protocol_of, IsCarried}
use Rattle.m3ua_gateway.specs.declared.table.Happening.{Happening}
use Rattle.m3ua_gateway.specs.declared.table.Happening.TheVariants as happening
use Rattle.m3ua_gateway.specs.Contexts.{has_ours, has_others}

-- override, loadshare, broadcast (3.7.1), or none
abbrev pub is_mode : Option (List ℕ) → Bool
is_mode None = true
is_mode (Some value) =
    nat_le 4 (length value) && (nat_le 1 (number_4 value 0) && nat_le (number_4 value 0) 3)

-- The message that protocol data stands for, where its service indicator is 3 or more; None where
-- it stands for none.
abbrev pub IsCarriedBy : Option (List ℕ) → Option Msu → Type 0
IsCarriedBy None m = m ≡ None
IsCarriedBy (Some value) (Some m) =
    (p : Protocol) × (value ≡ protocol_octets p) × (protocol_of m ≡ Some p) × (3 ≤ p.si)
IsCarriedBy (Some value) None =
    (p : Protocol) → value ≡ protocol_octets p → IsCarried p → p.si < 3

-- protocol data with more than 268 octets of user data
abbrev pub is_long : Option (List ℕ) → Bool
is_long None = false
is_long (Some value) = nat_lt 280 (length value)

-- by whether its protocol data is long, and by what it carries
abbrev pub data_by : Bool → Option Msu → Happening
data_by long None = if long then happening.LongData else happening.OtherData
data_by long (Some m) = happening.Data

-- What a message is, by its kind and its parameters, where its protocol data is this MTP message.
abbrev pub happening_by : ℕ → Kind → List Parameter → Option Msu → Happening
happening_by context kind.Error ps m = happening.Error
happening_by context kind.Notify ps m = happening.Other
happening_by context kind.Data ps m =
    if has_others context (value_of ROUTING_CONTEXT ps) then happening.StrayData
    else data_by (is_long (value_of PROTOCOL_DATA ps)) m
happening_by context kind.Duna ps m = happening.Other
happening_by context kind.Dava ps m = happening.Other
happening_by context kind.Daud ps m =
    if has_others context (value_of ROUTING_CONTEXT ps) then happening.Stray else happening.Audit
happening_by context kind.Scon ps m =
    if has_others context (value_of ROUTING_CONTEXT ps) then happening.Stray
    else happening.Congestion
happening_by context kind.Dupu ps m = happening.Other
happening_by context kind.Drst ps m = happening.Other
happening_by context kind.Up ps m = happening.Up
happening_by context kind.Down ps m = happening.Down
happening_by context kind.Beat ps m = happening.Beat
happening_by context kind.UpAck ps m = happening.Other
happening_by context kind.DownAck ps m = happening.Other
happening_by context kind.BeatAck ps m = happening.Other
happening_by context kind.Active ps m =
    if has_ours context (value_of ROUTING_CONTEXT ps) then
    (if is_mode (value_of TRAFFIC_MODE ps) then
    (if has_others context (value_of ROUTING_CONTEXT ps) then happening.ActiveWithOthers
    else happening.Active)
    else happening.OtherMode)
    else happening.Stray
happening_by context kind.Inactive ps m =
    if has_ours context (value_of ROUTING_CONTEXT ps) then
    (if has_others context (value_of ROUTING_CONTEXT ps) then happening.InactiveWithOthers
    else happening.Inactive)
    else happening.Stray
happening_by context kind.ActiveAck ps m = happening.Other
happening_by context kind.InactiveAck ps m = happening.Other
happening_by context kind.Register ps m = happening.Register
happening_by context kind.Registered ps m = happening.Other
happening_by context kind.Deregister ps m = happening.Other
happening_by context kind.Deregistered ps m = happening.Other
