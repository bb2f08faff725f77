-- Laws over the definitions of this crate, each the contract of a public function.
use Rattle.std.specs.Prelude.{◌≡◌, ℕ, ◌+◌, ◌^◌, ◌<◌, ◌++◌, true, Some, List, length, slice_index}
use Rattle.std.specs.List.{concat}
use Rattle.m3ua_frames.specs.declared.faults.Fault.{Fault}
use Rattle.m3ua_frames.specs.declared.kinds.Kind.{Kind}
use Rattle.m3ua_frames.specs.Parameters.{Parameter, AreParameters, completed}
use Rattle.m3ua_frames.specs.Frame.{Message, IsFrame, Refuses, IsMessage, spelling}
use Rattle.m3ua_frames.specs.Frame.{header, mandatory, has_all}
use Rattle.m3ua_frames.specs.Protocol.{Protocol, protocol_in}
use Rattle.m3ua_frames.specs.Stream.{Item, Stream, start, items_in, items_of_pieces}

-- octets are those of at most one message
abbrev pub OneMessage : Type 0
OneMessage = (octets : List ℕ) (m n : Message) → IsFrame octets m → IsFrame octets n → m ≡ n

-- octets that are refused are no message, and are refused for one reason only
abbrev pub OneReason : Type 0
OneReason =
    ((octets : List ℕ) (m : Message) (fault : Fault) → IsFrame octets m → Refuses octets fault → ⊥)
    × ((octets : List ℕ) (a b : Fault) → Refuses octets a → Refuses octets b → a ≡ b)

-- the octets sent for a message are its octets
abbrev pub SpelledIsRead : Type 0
SpelledIsRead = (m : Message) → IsMessage m → IsFrame (spelling m) m

-- octets of parameters are those of a message, once its header stands before them
abbrev pub EncodedIsRead : Type 0
EncodedIsRead =
    (k : Kind) (octets : List ℕ) (ps : List Parameter) → AreParameters octets ps
    → length octets + 8 < 2 ^ 32 → has_all (mandatory k) ps ≡ true
    → IsFrame (header k (length octets) ++ octets) (record { kind = k; parameters = ps })

-- octets of parameters are those of the same parameters, once the last one has its padding
abbrev pub CompletedIsRead : Type 0
CompletedIsRead =
    (octets : List ℕ) (ps : List Parameter) → AreParameters octets ps
    → AreParameters (completed octets) ps

-- protocol data is that of at most one MTP message
abbrev pub AreOctets : List ℕ → Type 0
AreOctets octets = (i : ℕ) → slice_index octets i < 2 ^ 8

abbrev pub OneCarrier : Type 0
OneCarrier =
    (sio tio : ℕ) (a b : List ℕ) (p : Protocol) → AreOctets a → AreOctets b
    → protocol_in sio a ≡ Some p → protocol_in tio b ≡ Some p → (sio ≡ tio) × (a ≡ b)

-- a stream is one list of items, and reading it octet by octet returns that list
abbrev pub OneStream : Type 0
OneStream =
    ((octets : List ℕ) → Stream octets (items_in start octets))
    × ((octets : List ℕ) (a b : List Item) → Stream octets a → Stream octets b → a ≡ b)

-- the items don't depend on how the stream is cut into pieces
abbrev pub AnyCut : Type 0
AnyCut =
    (a b : List (List ℕ)) → concat a ≡ concat b
    → items_of_pieces start a ≡ items_of_pieces start b
