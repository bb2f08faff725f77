use Rattle.std.proofs.lemmas.Slice.Eq.{slice_eq-Decides}
use Rattle.turn_code.proofs.SameCode.{same_if_equal}
use Rattle.turn_machine.proofs.same_turn.same_code.Goals as goal

pub returns : goal.returns
returns c = slice_eq-Decides same_if_equal _ _ _ c.eq.ensures
