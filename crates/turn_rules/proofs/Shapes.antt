-- The operands left after some are taken.
use Rattle.std.proofs.Common.{◌≡◌, ℕ, ◌-◌, List, length, take, drop, arith, take_all, length-drop}
use Rattle.turn_code.specs.declared.value.Sort.{Sort}

pub rest_is : (shape : List Sort) (n : ℕ) → take (length shape - n) (drop n shape) ≡ drop n shape
rest_is shape n = take_all (length shape - n) (drop n shape) (omega (arith, length-drop n shape))
