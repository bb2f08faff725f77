-- Protocol data of DATA (RFC 4666, 3.3.1), and the MTP messages in it (Q.704, 2.2 and 14.2).
use Rattle.std.specs.Prelude.{ℕ, ◌+◌, ◌*◌, ◌/◌, ◌%◌, ◌^◌, ◌<◌, ◌≤◌, Option, Some, None}
use Rattle.std.specs.Prelude.{List, [], ◌∷◌, ◌++◌, length}
use Rattle.resend_store.specs.declared.messages.Msu.{Msu}
use Rattle.m3ua_frames.specs.declared.protocol.ProtocolData.{ProtocolData}
use Rattle.m3ua_frames.specs.Numbers.{octets_4}

-- point codes, service indicator, network indicator, message priority, signalling link selection
-- and user data
pub record Protocol : Type 0 where
  pub opc : ℕ
  pub dpc : ℕ
  pub si : ℕ
  pub ni : ℕ
  pub mp : ℕ
  pub sls : ℕ
  pub user_data : List ℕ

-- protocol data with its data as a list
abbrev pub view : ProtocolData → Protocol
view p = record {
  opc = p.opc;
  dpc = p.dpc;
  si = p.si;
  ni = p.ni;
  mp = p.mp;
  sls = p.sls;
  user_data = p.user_data.now;
}

-- the octets: two numbers of four octets, four of one octet, and the data
abbrev pub protocol_octets : Protocol → List ℕ
protocol_octets p =
    octets_4 p.opc ++ octets_4 p.dpc ++ p.si ∷ p.ni ∷ p.mp ∷ p.sls ∷ p.user_data

-- the routing label of a message as one number: the first octet is the lowest
abbrev pub label : ℕ → ℕ → ℕ → ℕ → ℕ
label a b c d = a + 2 ^ 8 * b + 2 ^ 16 * c + 2 ^ 24 * d

-- From the lowest bit on, the label has 14 bits of the destination, 14 of the origin and 4 of the
-- selection. The service information octet has the service indicator in its lower half, then two
-- bits of priority, then two of the network indicator.
abbrev pub protocol_by : ℕ → ℕ → List ℕ → Protocol
protocol_by sio n user = record {
  opc = n / 2 ^ 14 % 2 ^ 14;
  dpc = n % 2 ^ 14;
  si = sio % 2 ^ 4;
  ni = sio / 2 ^ 6;
  mp = sio / 2 ^ 4 % 2 ^ 2;
  sls = n / 2 ^ 28;
  user_data = user;
}

-- a message as protocol data; None if its field has no label
abbrev pub protocol_in : ℕ → List ℕ → Option Protocol
protocol_in sio [] = None
protocol_in sio (a ∷ []) = None
protocol_in sio (a ∷ b ∷ []) = None
protocol_in sio (a ∷ b ∷ c ∷ []) = None
protocol_in sio (a ∷ b ∷ c ∷ d ∷ user) = Some (protocol_by sio (label a b c d) user)

abbrev pub protocol_of : Msu → Option Protocol
protocol_of m = protocol_in m.sio m.sif.items

-- protocol data that an MTP message can carry
pub record IsCarried (p : Protocol) : Type 0 where
  pub opc : p.opc < 2 ^ 14
  pub dpc : p.dpc < 2 ^ 14
  pub si : p.si < 2 ^ 4
  pub ni : p.ni < 2 ^ 2
  pub mp : p.mp < 2 ^ 2
  pub sls : p.sls < 2 ^ 4
  pub user_data : length p.user_data ≤ 268
