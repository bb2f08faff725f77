use Rattle.turn_code.proofs.Wrapped.{wrapped, only_one}
use Rattle.turn_code.specs.Values.{wrap}
use Rattle.turn_code.proofs.laws.wrap_law.Goals as goal

pub returns : goal.returns
returns c = record { gives = wrapped; one = λ z w h. only_one z w (wrap z) h (wrapped z) }
