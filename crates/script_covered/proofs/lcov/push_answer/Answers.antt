use Rattle.std.proofs.Common.{◌≡◌, ◌∙◌, ap, rules}
use Rattle.std.proofs.lemmas.Result.{on_ok_weaker}
use Rattle.script_covered.specs.Lcov.{line_at, taken_word, branch_line}
use Rattle.script_covered.proofs.Printing.{line_as}
use Rattle.script_covered.proofs.lcov.push_answer.Goals as goal

pub returns : goal.returns
returns c =
    let k : c.from.result ≡ c.args.decision = search rules in
    on_ok_weaker c.push.result
    (λ step text said ns are h.
    line_as said _ _ _ c.push.new.self
    (c.deref.ensures.value
    ∙ (c.in_ok-line.ensures
    ∙ (ap (λ n. branch_line n c.from.result c.args.number (taken_word c.times.result c.args.times)) (c.line_at.ensures text are)
    ∙ (ap (λ n. branch_line (line_at text c.args.decision) n c.args.number (taken_word c.times.result c.args.times)) k
    ∙ ap (λ n. branch_line (line_at text c.args.decision) c.args.decision c.args.number (taken_word n c.args.times)) c.times.ensures))))
    (step said ns h)) c.push.ensures
