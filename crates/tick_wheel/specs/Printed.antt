-- The printed text of a wheel's refusals: a code and its name.
use Rattle.std.specs.Prelude.{ℕ, List, codes}
use Rattle.tick_wheel.specs.declared.AdvanceError.{AdvanceError}
use Rattle.tick_wheel.specs.declared.AdvanceError.TheVariants.{TooFar, ClockFull}

abbrev pub advance_error_text : AdvanceError → List ℕ
advance_error_text TooFar = codes "W1 TooFar"
advance_error_text ClockFull = codes "W2 ClockFull"
