-- The records of a capture, in the classic format of pcap. Numbers have their lowest octet first;
-- the link type is 139, MTP2 with a pseudo-header.
use Rattle.std.specs.Prelude.{ℕ, ◌+◌, ◌/◌, ◌%◌, if◌then◌else◌, List, [], ◌∷◌, ◌++◌, length}
use Rattle.line_streams.specs.declared.seen.Seen.{Seen}

-- The four octets of a number, the lowest first.
abbrev pub four : ℕ → List ℕ
four n = n % 256 ∷ n / 256 % 256 ∷ n / 65536 % 256 ∷ n / 16777216 % 256 ∷ []

-- pcap's magic number for records with microseconds, A1B2C3D4
abbrev pub MAGIC : ℕ
MAGIC = 2712847316

-- The most octets of a record that a reader must expect.
abbrev pub LONGEST : ℕ
LONGEST = 65535

-- LINKTYPE_MTP2_WITH_PHDR
abbrev pub LINK_TYPE : ℕ
LINK_TYPE = 139

-- The beginning of a capture: its version is 2.4, its times are in UTC, and it states no accuracy.
abbrev pub HEADER : List ℕ
HEADER =
    four MAGIC ++ (2 ∷ 0 ∷ 4 ∷ 0 ∷ []) ++ four 0 ++ four 0 ++ four LONGEST ++ four LINK_TYPE

-- The pseudo-header: whether the unit was sent, that annex A isn't used, and the number of the
-- link, highest octet first; then the unit.
abbrev pub packet_of : Seen → List ℕ
packet_of s =
    (if s.went then 1 else 0) ∷ 0 ∷ s.link / 256 ∷ s.link % 256 ∷ s.octets.items

-- Seconds and microseconds, then the number of octets twice: in the record, and of the packet.
abbrev pub record_of : Seen → List ℕ
record_of s =
    four (s.at / 1000000 % 4294967296) ++ four (s.at % 1000000) ++ four (length (packet_of s))
    ++ four (length (packet_of s)) ++ packet_of s
