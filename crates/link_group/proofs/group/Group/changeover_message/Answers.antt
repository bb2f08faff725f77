use Rattle.std.proofs.Common.{◌∙◌, sym, ap, subst, Option}
use Rattle.group_changeover.specs.declared.changeover.Changeover.{Changeover}
use Rattle.link_group.specs.Changing.{after_message, hearing_of, reply_to, IsReply}
use Rattle.link_group.proofs.Fields.{one_reading}
use Rattle.link_group.proofs.group.Group.changeover_message.Goals as goal

pub returns-in-Some-clause-set : goal.returns-in-Some-clause-set
returns-in-Some-clause-set c = λ m is.
    c.hear-answered.ensures.set ∙ ap (after_message c.args.self.now) (sym (one_reading c.args.sif.now c.read_changeover.result m c.read_changeover.ensures.exact is ∙ c.in-Some.is))

pub returns-in-Some-clause-hearing : goal.returns-in-Some-clause-hearing
returns-in-Some-clause-hearing c = λ m is.
    c.hear-answered.ensures.hearing ∙ ap (hearing_of c.args.self.now) (sym (one_reading c.args.sif.now c.read_changeover.result m c.read_changeover.ensures.exact is ∙ c.in-Some.is))

pub returns-in-Some-clause-reply : goal.returns-in-Some-clause-reply
returns-in-Some-clause-reply c = λ m is.
    subst (λ (x : Option Changeover). IsReply (reply_to c.args.self.now x) c.sif_of.result)
    (sym (one_reading c.args.sif.now c.read_changeover.result m c.read_changeover.ensures.exact is ∙ c.in-Some.is))
    (subst (λ (x : Option Changeover). IsReply x c.sif_of.result) c.hear-answered.ensures.reply c.sif_of.ensures)
