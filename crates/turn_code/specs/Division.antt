-- The divisions of an Integer by a divisor of 1 or more.
use Rattle.std.specs.Prelude.{ℤ, int_div, int_rem}
use Rattle.std.specs.Int.{int_rem_euclid}
use Rattle.turn_code.specs.declared.division.Division as the_division
use Rattle.turn_code.specs.declared.division.Division.TheVariants.{Quotient, Modulo, Remainder}

abbrev pub division_of : the_division.Division → ℤ → ℤ → ℤ
division_of Quotient x k = int_div x k
division_of Modulo x k = int_rem_euclid x k
division_of Remainder x k = int_rem x k
