-- The printed text of signal units and of faults: bytes without an end of line, numbers in decimal.
use Rattle.std.specs.Prelude.{ℕ, ◌/◌, ◌%◌, true, List, [], ◌∷◌, ◌++◌, codes, slice_get, unwrap_or}
use Rattle.std.specs.Fmt.{decimal, digit_glyph}
use Rattle.arrayvec.specs.ArrayVec.{array_vec_len}
use Rattle.su_octets.specs.StatusNames.{STATUS_NAMES}
use Rattle.su_octets.specs.declared.units.Head.{Head}
use Rattle.su_octets.specs.declared.units.Unit.{Unit}
use Rattle.su_octets.specs.declared.units.Unit.TheVariants.{Fisu, Lssu, Msu}
use Rattle.su_octets.specs.declared.units.UnitFault.{UnitFault}
use Rattle.su_octets.specs.declared.units.UnitFault.TheVariants.{TooShort, TooLong, BadCheck}
use Rattle.su_octets.specs.declared.units.UnitFault.TheVariants.{BadLength}

-- the sequence numbers and indicator bits, backward before forward
abbrev pub head_text : Head → List ℕ
head_text head =
    codes "bsn " ++ decimal head.bsn ++ codes " bib " ++ decimal head.bib ++ codes " fsn "
    ++ decimal head.fsn ++ codes " fib " ++ decimal head.fib

-- the name of a status indication, by the low three bits of its status field
abbrev pub status_text : ℕ → List ℕ
status_text status = unwrap_or (slice_get STATUS_NAMES (status % 8)) []

-- an octet as two hexadecimal digits, `A` to `F` in capitals
abbrev pub octet_text : ℕ → List ℕ
octet_text octet = digit_glyph true (octet / 16) ∷ digit_glyph true (octet % 16) ∷ []

-- the kind, the head, and then an LSSU's status, or an MSU's service information octet and how many
-- octets its signalling information field has
abbrev pub unit_text : Unit → List ℕ
unit_text (Fisu head) = codes "FISU " ++ head_text head
unit_text (Lssu head status second) =
    codes "LSSU " ++ head_text head ++ codes " status " ++ status_text status
unit_text (Msu head sio sif) =
    codes "MSU " ++ head_text head ++ codes " sio " ++ octet_text sio ++ codes " octets "
    ++ decimal (array_vec_len sif)

-- the code of a fault and its name
abbrev pub fault_text : UnitFault → List ℕ
fault_text TooShort = codes "U1 TooShort"
fault_text TooLong = codes "U2 TooLong"
fault_text BadCheck = codes "U3 BadCheck"
fault_text BadLength = codes "U4 BadLength"
