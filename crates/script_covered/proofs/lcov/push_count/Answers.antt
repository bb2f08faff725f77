use Rattle.std.proofs.Common.{◌∙◌}
use Rattle.std.proofs.lemmas.Result.{on_ok_weaker}
use Rattle.script_covered.proofs.Printing.{some_counted}
use Rattle.script_covered.proofs.lcov.push_count.Goals as goal

pub returns-in_ok-text-in-Some : goal.returns-in_ok-text-in-Some
returns-in_ok-text-in-Some c =
    on_ok_weaker c.push.result
    (λ step. some_counted c.args.line c.in-Some.times c.args.count c.deref.result.now c.args.section.now c.push.new.self c.in-Some.is (c.deref.ensures.value ∙ c.in_ok-text-in-Some.ensures) step)
    c.push.ensures
