-- The tags of parameters (RFC 4666, 3.2), and the lengths of their values.
use Rattle.std.specs.Prelude.{ℕ, ◌%◌, ◌==◌, ◌&&◌, ◌||◌, nat_lt, nat_le, Bool, true}
use Rattle.std.specs.Prelude.{if◌then◌else◌}
use Rattle.std.specs.Prelude.{List, [], ◌∷◌}
use Rattle.std.specs.List.{list_any}

-- INFO String
abbrev pub INFO_STRING : ℕ
INFO_STRING = 0x0004

-- Routing Context
abbrev pub ROUTING_CONTEXT : ℕ
ROUTING_CONTEXT = 0x0006

-- Diagnostic Information
abbrev pub DIAGNOSTIC : ℕ
DIAGNOSTIC = 0x0007

-- Heartbeat Data
abbrev pub HEARTBEAT : ℕ
HEARTBEAT = 0x0009

-- Traffic Mode Type
abbrev pub TRAFFIC_MODE : ℕ
TRAFFIC_MODE = 0x000b

-- Error Code
abbrev pub ERROR_CODE : ℕ
ERROR_CODE = 0x000c

-- Status
abbrev pub STATUS : ℕ
STATUS = 0x000d

-- ASP Identifier
abbrev pub ASP_IDENTIFIER : ℕ
ASP_IDENTIFIER = 0x0011

-- Affected Point Code
abbrev pub AFFECTED : ℕ
AFFECTED = 0x0012

-- Correlation Id
abbrev pub CORRELATION : ℕ
CORRELATION = 0x0013

-- Network Appearance
abbrev pub NETWORK : ℕ
NETWORK = 0x0200

-- User/Cause
abbrev pub USER_CAUSE : ℕ
USER_CAUSE = 0x0204

-- Congestion Indications
abbrev pub CONGESTION : ℕ
CONGESTION = 0x0205

-- Concerned Destination
abbrev pub CONCERNED : ℕ
CONCERNED = 0x0206

-- Routing Key
abbrev pub ROUTING_KEY : ℕ
ROUTING_KEY = 0x0207

-- Registration Result
abbrev pub REGISTRATION : ℕ
REGISTRATION = 0x0208

-- Deregistration Result
abbrev pub DEREGISTRATION : ℕ
DEREGISTRATION = 0x0209

-- Local Routing Key Identifier
abbrev pub LOCAL_KEY : ℕ
LOCAL_KEY = 0x020a

-- Protocol Data
abbrev pub PROTOCOL_DATA : ℕ
PROTOCOL_DATA = 0x0210

-- the tags of parameters whose value is one number of four octets
abbrev pub NUMBERS : List ℕ
NUMBERS =
    TRAFFIC_MODE ∷ ERROR_CODE ∷ STATUS ∷ ASP_IDENTIFIER ∷ CORRELATION ∷ NETWORK ∷ USER_CAUSE
    ∷ CONGESTION ∷ CONCERNED ∷ LOCAL_KEY ∷ []

-- Whether a value of this tag may have n octets: one number of four; one or more such numbers; 12
-- octets or more of protocol data; up to 255 octets of text. Other tags allow any number of octets.
abbrev pub is_sized : ℕ → ℕ → Bool
is_sized tag n =
    if list_any (λ t. t == tag) NUMBERS then n == 4
    else (if tag == ROUTING_CONTEXT || tag == AFFECTED then nat_lt 0 n && (n % 4 == 0)
    else (if tag == PROTOCOL_DATA then nat_le 12 n
    else (if tag == INFO_STRING then nat_le n 255 else true)))
