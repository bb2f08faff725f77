use Rattle.line_filter.proofs.Telling.{looked}
use Rattle.line_filter.proofs.desk.look_anew.Goals as goal

pub returns : goal.returns
returns g c = looked c.tell_anew.result _ _ _ _ _ _ c.in_ok-begins.ensures c.tell_anew.ensures
