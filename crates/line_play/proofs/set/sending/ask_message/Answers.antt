use Rattle.std.proofs.Common.{sym, ◌∙◌}
use Rattle.line_play.proofs.SetSending.{without_label}
use Rattle.line_play.proofs.set.sending.ask_message.Goals as goal

pub returns-in-None : goal.returns-in-None
returns-in-None c = without_label c.refused.result _ c.args.patient _ (sym c.label_of.ensures.value ∙ c.in-None.is) c.refused.ensures
