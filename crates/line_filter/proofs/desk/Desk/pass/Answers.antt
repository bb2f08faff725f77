use Rattle.std.proofs.Common.{true, drop, sym, ap, ◌∙◌, ◌++◌, ◌+◌}
use Rattle.std.proofs.lemmas.List.{take_more, take-append-drop}
use Rattle.line_filter.proofs.Passing.{passed_none, passed_more, passed_ended, steps_on}
use Rattle.line_filter.proofs.desk.Desk.pass.Goals as goal

pub loop-octet-init : goal.loop-octet-init
loop-octet-init g c = passed_none _ _ _ _ _

pub loop-octet-preserved : goal.loop-octet-preserved
loop-octet-preserved g c =
    let made = c.in_ok-goes_on.ensures.made in
    passed_more _ _ _ _ _ _ _ _ _ _ _ _ _ _ _ _ made.0 c.loop-octet.invariant made.1 (steps_on _ _ _ _ _ _ _ true _ _ c.if-not-goes_on.false made.2)
    c.in_ok-goes_on.ensures.count (take_more c.args.octets.now c.loop-octet.octet-index _ c.loop-octet-test.true)

pub returns-then-not-goes_on : goal.returns-then-not-goes_on
returns-then-not-goes_on g c =
    let made = c.in_ok-goes_on.ensures.made in
    passed_ended _ _ _ _ _ _ _ (drop (c.loop-octet.octet-index + 1) c.args.octets.now) _ _ _ _ _ _ _ _ _ made.0 c.loop-octet.invariant made.1
    (steps_on _ _ _ _ _ _ _ _ _ _ c.if-not-goes_on.true made.2) c.in_ok-goes_on.ensures.count
    (sym (take-append-drop (c.loop-octet.octet-index + 1) c.args.octets.now)
    ∙ ap (λ l. l ++ drop (c.loop-octet.octet-index + 1) c.args.octets.now) (take_more c.args.octets.now c.loop-octet.octet-index 0 c.loop-octet-test.true))
