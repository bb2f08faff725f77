-- The results of a registration (RFC 4666, 3.6.2).
use Rattle.std.specs.Prelude.{◌≡◌, ℕ, nat_le, if◌then◌else◌}
use Rattle.std.specs.Prelude.{Option, Some, None, List, [], ◌∷◌, length}
use Rattle.m3ua_frames.specs.declared.kinds.Kind.TheVariants as kind
use Rattle.m3ua_frames.specs.Numbers.{number_4}
use Rattle.m3ua_frames.specs.Tags.{ROUTING_CONTEXT, ROUTING_KEY, LOCAL_KEY, REGISTRATION}
use Rattle.m3ua_frames.specs.Parameters.{Parameter, AreParameters, value_of, values_of, all_padded}
use Rattle.m3ua_gateway.specs.Sending.{number, octets_of}

-- Registration Status
abbrev pub REGISTRATION_STATUS : ℕ
REGISTRATION_STATUS = 0x0212

-- the identifier in a routing key, by the value of its parameter (3.6.1)
abbrev pub identifier_of : Option (List ℕ) → Option ℕ
identifier_of None = None
identifier_of (Some value) = if nat_le 4 (length value) then Some (number_4 value 0) else None

-- the identifier in a routing key whose octets these are; None if it has none, or if they are no
-- parameters
abbrev pub IsIdentifier : List ℕ → Option ℕ → Type 0
IsIdentifier value key =
    ((ps : List Parameter) → AreParameters value ps → key ≡ identifier_of (value_of LOCAL_KEY ps))
    × ((((ps : List Parameter) × AreParameters value ps) → ⊥) → key ≡ None)

-- a result: an identifier, a status and a routing context
abbrev pub result_in : ℕ → ℕ → ℕ → List Parameter
result_in key status context =
    number LOCAL_KEY key ∷ number REGISTRATION_STATUS status ∷ number ROUTING_CONTEXT context ∷ []

-- REG RSP with one result
abbrev pub result_octets : ℕ → ℕ → ℕ → List ℕ
result_octets key status context =
    octets_of kind.Registered
    (record { tag = REGISTRATION; value = all_padded (result_in key status context) } ∷ [])

-- the result for a routing key: Successfully Registered, with our routing context; Invalid Routing
-- Key, with 0, if it has no identifier
abbrev pub registration_octets : ℕ → Option ℕ → List ℕ
registration_octets context None = result_octets 0 4 0
registration_octets context (Some key) = result_octets key 0 context

-- The REG RSP for the first routing key among parameters, and the octets of those after it, whose
-- routing keys get the next ones (4.4.1).
abbrev pub IsRegistered : ℕ → List Parameter → List ℕ → Option (List ℕ) → Type 0
IsRegistered context ps octets None = values_of ROUTING_KEY ps ≡ []
IsRegistered context ps octets (Some rest) =
    (value : List ℕ) × (qs : List Parameter) × (key : Option ℕ)
    × (values_of ROUTING_KEY ps ≡ value ∷ values_of ROUTING_KEY qs) × AreParameters rest qs
    × IsIdentifier value key × (octets ≡ registration_octets context key)
