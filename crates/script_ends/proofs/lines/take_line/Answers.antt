use Rattle.std.proofs.Common.{arith}
use Rattle.std.proofs.lemmas.Result.{IfOk-weaker}
use Rattle.script_ends.specs.GroupAnswers.{TakesLine}
use Rattle.script_ends.proofs.LineAnswers.{line_heard, line_nowhere}
use Rattle.script_ends.proofs.lines.take_line.Goals as goal

pub returns-then-link-len : goal.returns-then-link-len
returns-then-link-len c =
    IfOk-weaker c.no_link.result _ (λ v. TakesLine c.args.link c.args.octets.now c.args.group.now v.items c.args.group.now)
    (λ v is. line_nowhere c.args.link c.args.octets.now _ v.items is (omega (arith, c.if-link-len.true, c.len.ensures))) c.no_link.ensures

pub returns : goal.returns
returns c =
    IfOk-weaker c.done.result _ (λ v. TakesLine c.args.link c.args.octets.now c.args.group.now v.items c.listen.new.group)
    (λ v is.
    line_heard c.args.link c.args.octets.now _ _ v.items is (omega (arith, c.if-link-len.false, c.len.ensures)) c.in_ok-listen.ensures)
    c.done.ensures
