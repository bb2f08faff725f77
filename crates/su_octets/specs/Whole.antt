use Rattle.std.specs.Prelude.{◌<◌, ◌≤◌}
use Rattle.arrayvec.specs.ArrayVec.{array_vec_len}
use Rattle.su_octets.specs.declared.units.Head.{Head}
use Rattle.su_octets.specs.declared.units.Unit.{Unit}
use Rattle.su_octets.specs.declared.units.Unit.TheVariants.{Fisu, Lssu, Msu}

-- sequence numbers of seven bits, and indicator bits of one
pub record IsWholeHead (head : Head) : Type 0 where
  pub bsn : head.bsn < 128
  pub bib : head.bib < 2
  pub fsn : head.fsn < 128
  pub fib : head.fib < 2

abbrev pub IsWhole : Unit → Type 0
IsWhole (Fisu head) = IsWholeHead head
IsWhole (Lssu head status second) = IsWholeHead head
IsWhole (Msu head sio sif) = IsWholeHead head × (2 ≤ array_vec_len sif) × (array_vec_len sif ≤ 272)
