-- A buffer of 32 bytes, the form in which names are kept: the bytes of the name, and then zeros.
use Rattle.std.specs.Prelude.{◌≡◌, ℕ, ◌-◌, ◌≤◌, List, ◌++◌, length, take, replicate}
use Rattle.std.proofs.Common.{arith, sym, length-take-le}

-- the used bytes, filled up with zeros, are the whole buffer
pub refilled : (used : ℕ) (bytes : List ℕ) → used ≤ 32 → length bytes ≡ 32
    → bytes ≡ take used bytes ++ replicate (32 - used) 0
    → take used bytes ++ replicate (32 - length (take used bytes)) 0 ≡ bytes
refilled used bytes h l e =
    let fits : used ≤ length bytes = omega arith in rw (length-take-le used bytes fits) (sym e)
