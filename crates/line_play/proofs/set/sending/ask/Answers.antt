use Rattle.std.proofs.Common.{refl}
use Rattle.line_play.proofs.SetSending.{bad_octets, of_message, unread}
use Rattle.line_play.proofs.set.sending.ask.Goals as goal

pub returns-in-Some : goal.returns-in-Some
returns-in-Some c = of_message c.ask_message.result _ c.args.patient _ _ c.in-Some.msu c.in-Some.ensures.some c.ask_message.ensures

pub returns-in-None : goal.returns-in-None
returns-in-None c = bad_octets c.refused.result _ c.args.patient _ (unread _ (c.in-None.ensures.none refl)) c.refused.ensures
