use Rattle.std.proofs.Common.{subst}
use Rattle.su_octets.specs.Bits.{AreOctets}
use Rattle.std.proofs.lemmas.Result.{IfOk-weaker}
use Rattle.script_ends.specs.GroupAnswers.{IsHeard}
use Rattle.script_ends.proofs.CallAnswers.{replied_with, replied_none}
use Rattle.script_ends.proofs.calls.hear.Goals as goal

pub returns-in-Some : goal.returns-in-Some
returns-in-Some c =
    IfOk-weaker c.octets_line.result _ (λ v. IsHeard c.args.octets.now c.args.group.now v.items c.reply_of.new.group)
    (λ v is. record { makes = c.reply_of.ensures.set; says = λ m read. replied_with _ _ c.in-Some.sif v.items c.as_slice-in-Some.ensures.value (subst AreOctets c.as_slice.ensures.value c.octets_law.ensures) is (c.in-Some.ensures.reply m read) })
    c.octets_line.ensures

pub returns-in-None : goal.returns-in-None
returns-in-None c =
    IfOk-weaker c.done.result _ (λ v. IsHeard c.args.octets.now c.args.group.now v.items c.reply_of.new.group)
    (λ v is. record { makes = c.reply_of.ensures.set; says = λ m read. replied_none _ v.items is (c.in-None.ensures.reply m read) })
    c.done.ensures
