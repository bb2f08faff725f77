-- A message as octets: the common header and the parameters (RFC 4666, 3.1).
use Rattle.std.specs.Prelude.{◌≡◌, ℕ, ◌+◌, ◌-◌, ◌^◌, ◌<◌, ◌==◌, ◌&&◌, ◌||◌, nat_le, Bool}
use Rattle.std.specs.Prelude.{true, false, is_some, take}
use Rattle.std.specs.Prelude.{List, [], ◌∷◌, ◌++◌, length, drop, slice_index, Result, Ok, Err}
use Rattle.std.specs.List.{list_all, AllByRecursion}
use Rattle.m3ua_frames.specs.declared.faults.Fault.{Fault}
use Rattle.m3ua_frames.specs.declared.faults.Fault.TheVariants as fault
use Rattle.m3ua_frames.specs.declared.kinds.Kind.{Kind}
use Rattle.m3ua_frames.specs.declared.kinds.Kind.TheVariants as kind
use Rattle.m3ua_frames.specs.Kinds.{class_of, type_of, kind_by}
use Rattle.m3ua_frames.specs.Numbers.{number_4, octets_4}
use Rattle.m3ua_frames.specs.Tags.{AFFECTED, USER_CAUSE, PROTOCOL_DATA, ERROR_CODE, STATUS}
use Rattle.m3ua_frames.specs.Tags.{ROUTING_KEY, REGISTRATION, ROUTING_CONTEXT, DEREGISTRATION}
use Rattle.m3ua_frames.specs.Parameters.{Parameter, AreParameters, IsParameter, all_padded}
use Rattle.m3ua_frames.specs.Parameters.{padding_after, value_of}

-- the tags of the parameters that a message must have (3.3 to 3.8)
abbrev pub mandatory : Kind → List ℕ
mandatory kind.Error = ERROR_CODE ∷ []
mandatory kind.Notify = STATUS ∷ []
mandatory kind.Data = PROTOCOL_DATA ∷ []
mandatory kind.Duna = AFFECTED ∷ []
mandatory kind.Dava = AFFECTED ∷ []
mandatory kind.Daud = AFFECTED ∷ []
mandatory kind.Scon = AFFECTED ∷ []
mandatory kind.Dupu = AFFECTED ∷ USER_CAUSE ∷ []
mandatory kind.Drst = AFFECTED ∷ []
mandatory kind.Up = []
mandatory kind.Down = []
mandatory kind.Beat = []
mandatory kind.UpAck = []
mandatory kind.DownAck = []
mandatory kind.BeatAck = []
mandatory kind.Active = []
mandatory kind.Inactive = []
mandatory kind.ActiveAck = []
mandatory kind.InactiveAck = []
mandatory kind.Register = ROUTING_KEY ∷ []
mandatory kind.Registered = REGISTRATION ∷ []
mandatory kind.Deregister = ROUTING_CONTEXT ∷ []
mandatory kind.Deregistered = DEREGISTRATION ∷ []

pub record Message : Type 0 where
  pub kind : Kind
  pub parameters : List Parameter

-- each tag is that of a parameter
abbrev pub has_all : List ℕ → List Parameter → Bool
has_all tags ps = list_all (λ tag. is_some (value_of tag ps)) tags

-- The header has eight octets: the version, a reserved octet of any value, the class, the type, and
-- the length of the message with its header.
abbrev pub told_length : List ℕ → ℕ
told_length octets = number_4 octets 4

-- The length is that of the octets, or it leaves out the padding after the last parameter, which is
-- there (3.1.4).
abbrev pub tells : ℕ → ℕ → Bool
tells told n = nat_le 8 told && ((told == n) || (told + padding_after told == n))

abbrev pub tells_length : List ℕ → Bool
tells_length octets = nat_le 8 (length octets) && tells (told_length octets) (length octets)

abbrev pub TellsLength : List ℕ → Type 0
TellsLength octets = tells_length octets ≡ true

-- the octets after the header that the length counts: those of the parameters
abbrev pub body : List ℕ → List ℕ
body octets = take (told_length octets - 8) (drop 8 octets)

abbrev pub IsVersion1 : List ℕ → Type 0
IsVersion1 octets = slice_index octets 0 ≡ 1

abbrev pub kind_in : List ℕ → Result Kind Fault
kind_in octets = kind_by (slice_index octets 2) (slice_index octets 3)

-- The octets are those of the message.
pub record IsFrame (octets : List ℕ) (m : Message) : Type 0 where
  pub counted : TellsLength octets
  pub version : IsVersion1 octets
  pub kind : kind_in octets ≡ Ok m.kind
  pub parameters : AreParameters (body octets) m.parameters
  pub complete : has_all (mandatory m.kind) m.parameters ≡ true

-- why octets are no message: the first fault that applies
abbrev pub Refuses : List ℕ → Fault → Type 0
Refuses octets fault.Length = ¬ TellsLength octets
Refuses octets fault.Version = TellsLength octets × (¬ IsVersion1 octets)
Refuses octets fault.UnknownClass =
    TellsLength octets × IsVersion1 octets × (kind_in octets ≡ Err fault.UnknownClass)
Refuses octets fault.UnknownType =
    TellsLength octets × IsVersion1 octets × (kind_in octets ≡ Err fault.UnknownType)
Refuses octets fault.Field =
    TellsLength octets × IsVersion1 octets × ((kind : Kind) × (kind_in octets ≡ Ok kind))
    × (((ps : List Parameter) × AreParameters (body octets) ps) → ⊥)
Refuses octets fault.Missing =
    TellsLength octets × IsVersion1 octets
    × ((m : Message) × (kind_in octets ≡ Ok m.kind) × AreParameters (body octets) m.parameters
    × (has_all (mandatory m.kind) m.parameters ≡ false))

-- ---- messages in the form in which they are sent

-- a message that can be sent
pub record IsMessage (m : Message) : Type 0 where
  pub each : AllByRecursion IsParameter m.parameters
  pub fits : length (all_padded m.parameters) + 8 < 2 ^ 32
  pub complete : has_all (mandatory m.kind) m.parameters ≡ true

abbrev pub header : Kind → ℕ → List ℕ
header kind n = 1 ∷ 0 ∷ class_of kind ∷ type_of kind ∷ octets_4 (n + 8)

-- the octets that are sent: zeros where the receiver accepts any octets
abbrev pub spelling : Message → List ℕ
spelling m = header m.kind (length (all_padded m.parameters)) ++ all_padded m.parameters
