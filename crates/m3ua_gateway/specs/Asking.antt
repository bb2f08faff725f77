-- What the octets of a message of the ASP ask of a gateway.
use Rattle.std.specs.Prelude.{◌≡◌, ℕ, ◌==◌, ◌&&◌, nat_le, Bool, true, false, if◌then◌else◌}
use Rattle.std.specs.Prelude.{◌⊎◌, Option, Some, None, List, length, slice_index}
use Rattle.resend_store.specs.declared.messages.Msu.{Msu}
use Rattle.m3ua_frames.specs.declared.faults.Fault.{Fault}
use Rattle.m3ua_frames.specs.Faults.{code_of}
use Rattle.m3ua_frames.specs.Parameters.{value_of}
use Rattle.m3ua_frames.specs.Tags.{PROTOCOL_DATA}
use Rattle.m3ua_frames.specs.Frame.{Message, IsFrame, Refuses}
use Rattle.m3ua_gateway.specs.declared.table.Happening.{Happening}
use Rattle.m3ua_gateway.specs.declared.table.Happening.TheVariants as happening
use Rattle.m3ua_gateway.specs.Hearing.{happening_by, IsCarriedBy}
use Rattle.m3ua_gateway.specs.Life.{Deed, happens, comes}

-- octets that have the class and the type of ERR
abbrev pub is_error : List ℕ → Bool
is_error octets =
    nat_le 4 (length octets) && ((slice_index octets 2 == 0) && (slice_index octets 3 == 0))

-- octets that have the class and the type of DATA
abbrev pub is_transfer : List ℕ → Bool
is_transfer octets =
    nat_le 4 (length octets) && ((slice_index octets 2 == 1) && (slice_index octets 3 == 1))

-- octets that are no message
abbrev pub refusal : List ℕ → Happening
refusal octets =
    if is_error octets then happening.Error
    else (if is_transfer octets then happening.RefusedData else happening.Refused)

-- What octets ask: the message that they are, with the MTP message that it carries; or a refusal
-- with the code of what is wrong with them.
abbrev pub Asks : ℕ → List ℕ → Happening → Option Msu → ℕ → Type 0
Asks context octets h m code =
    ((message : Message) × IsFrame octets message
    × (h ≡ happening_by context message.kind message.parameters m)
    × IsCarriedBy (value_of PROTOCOL_DATA message.parameters) m)
    ⊎ ((fault : Fault) × Refuses octets fault × (h ≡ refusal octets) × (m ≡ None)
    × (code ≡ code_of fault))

abbrev pub is_data : Happening → Bool
is_data happening.Data = true
is_data _ = false

-- the deed that a happening with this MTP message is
abbrev pub deed_of : Happening → Option Msu → Deed
deed_of h None = happens h
deed_of h (Some m) = if is_data h then comes m else happens h
