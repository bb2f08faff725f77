use Rattle.std.proofs.Common.{subst}
use Rattle.su_octets.specs.Bits.{AreOctets}
use Rattle.std.proofs.lemmas.Result.{IfOk-weaker}
use Rattle.script_ends.specs.GroupAnswers.{Fails}
use Rattle.script_ends.proofs.CallAnswers.{fails_ok, fails_why}
use Rattle.script_ends.proofs.calls.fail.Goals as goal

pub returns-in-Ok : goal.returns-in-Ok
returns-in-Ok c =
    IfOk-weaker c.octets_line.result _ (λ v. Fails c.args.link c.args.group.now v.items c.fail.new.self)
    (λ v is. fails_ok c.args.link _ _ _ c.in-Ok.sif.items v.items c.as_slice-in-Ok.ensures.value (subst AreOctets c.as_slice.ensures.value c.octets_law.ensures) is c.in-Ok.ensures.fault c.in-Ok.ensures.order c.in-Ok.ensures.ok) c.octets_line.ensures

pub returns-in-Err : goal.returns-in-Err
returns-in-Err c =
    IfOk-weaker c.refused.result _ (λ v. Fails c.args.link c.args.group.now v.items c.fail.new.self)
    (λ v is. fails_why c.args.link _ _ c.in-Err.error v.items is c.in-Err.ensures.fault c.in-Err.ensures.err) c.refused.ensures
