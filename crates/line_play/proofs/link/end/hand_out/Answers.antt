use Rattle.std.proofs.Common.{Some, None, refl, ap}
use Rattle.line_play.proofs.link.end.hand_out.Goals as goal

pub returns-in_ok-text-in-Some : goal.returns-in_ok-text-in-Some
returns-in_ok-text-in-Some c = record { report = Some c.in-Some.report; hands_out = c.in-Some.ensures; text_is = ap Some c.in_ok-text-in-Some.ensures }

pub returns-in-None : goal.returns-in-None
returns-in-None c = record { report = None; hands_out = c.in-None.ensures; text_is = refl }
