-- The format of signal units between the flags (Q.703, 2.2 and 2.3).
use Rattle.std.specs.Prelude.{◌≡◌, ℕ, ◌+◌, ◌-◌, ◌*◌, ◌%◌, ◌<◌, ◌≤◌, min, Option, Some, None, List}
use Rattle.std.specs.Prelude.{[], ◌∷◌, ◌++◌, length, take, drop, slice_index}
use Rattle.su_octets.specs.Check.{Check}
use Rattle.su_octets.specs.Whole.{IsWhole}
use Rattle.su_octets.specs.declared.units.Head.{Head}
use Rattle.su_octets.specs.declared.units.Unit.{Unit}
use Rattle.su_octets.specs.declared.units.Unit.TheVariants.{Fisu, Lssu, Msu}
use Rattle.su_octets.specs.declared.units.UnitFault.{UnitFault}
use Rattle.su_octets.specs.declared.units.UnitFault.TheVariants.{TooShort, TooLong, BadCheck}
use Rattle.su_octets.specs.declared.units.UnitFault.TheVariants.{BadLength}

abbrev pub head_of : Unit → Head
head_of (Fisu head) = head
head_of (Lssu head status second) = head
head_of (Msu head sio sif) = head

-- the low three bits of the status field of an LSSU
abbrev pub status_code_of : Unit → Option ℕ
status_code_of (Fisu head) = None
status_code_of (Lssu head status second) = Some (status % 8)
status_code_of (Msu head sio sif) = None

-- the octets between the length indicator and the check octets
abbrev pub body_of : Unit → List ℕ
body_of (Fisu head) = []
body_of (Lssu head status None) = status ∷ []
body_of (Lssu head status (Some second)) = status ∷ second ∷ []
body_of (Msu head sio sif) = sio ∷ sif.items

-- the length indicator for n octets: n itself below 63, otherwise 63
abbrev pub length_indicator : ℕ → ℕ
length_indicator n = min n 63

-- Octet 1 is BSN with BIB as its top bit, octet 2 is FSN with FIB, octet 3 the length indicator
-- with two spare bits on top.
abbrev pub content_of : Unit → ℕ → List ℕ
content_of unit spare =
    ((head_of unit).bsn + 128 * (head_of unit).bib)
    ∷ ((head_of unit).fsn + 128 * (head_of unit).fib)
    ∷ (length_indicator (length (body_of unit)) + 64 * spare)
    ∷ body_of unit

-- The octets are those of the unit: its fields and check octets. The two spare bits are free.
pub record Frame (octets : List ℕ) (unit : Unit) : Type 0 where
  pub whole : IsWhole unit
  pub spare : ℕ
  pub spare_bits : spare < 4
  pub check : List ℕ
  pub checked : Check (content_of unit spare) check
  pub all : octets ≡ content_of unit spare ++ check

-- both spare bits of octet 3 are 0
abbrev pub SpareBitsAreZero : List ℕ → Type 0
SpareBitsAreZero octets = slice_index octets 2 < 64

-- the least and the greatest length of a signal unit, without flags
abbrev pub InSize : List ℕ → Type 0
InSize octets = (5 ≤ length octets) × (length octets ≤ 278)

-- the last two octets are the check octets of the octets before them
abbrev pub IsChecked : List ℕ → Type 0
IsChecked octets = Check (take (length octets - 2) octets) (drop (length octets - 2) octets)

-- the length indicator is right for the number of octets between it and the check octets
abbrev pub TellsLength : List ℕ → Type 0
TellsLength octets = slice_index octets 2 % 64 ≡ length_indicator (length octets - 5)

-- why octets are refused: the first fault that applies
abbrev pub Refuses : List ℕ → UnitFault → Type 0
Refuses octets TooShort = length octets < 5
Refuses octets TooLong = 278 < length octets
Refuses octets BadCheck = InSize octets × (IsChecked octets → ⊥)
Refuses octets BadLength = InSize octets × IsChecked octets × (TellsLength octets → ⊥)
