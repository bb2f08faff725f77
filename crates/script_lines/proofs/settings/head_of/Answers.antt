use Rattle.std.proofs.Common.{◌≡◌, None, sym, ap, ◌∙◌}
use Rattle.script_lines.specs.Lines.{texts}
use Rattle.script_lines.specs.Scripts.{setting_of}
use Rattle.script_lines.proofs.Loops.{head-stops}
use Rattle.script_lines.proofs.settings.head_of.Goals as goal

pub returns-in-None-clause-head : goal.returns-in-None-clause-head
returns-in-None-clause-head c =
    let none : setting_of (texts c.index-lines-index.result.words.items) ≡ None = ap (λ ws. setting_of (texts ws)) (sym c.deref.ensures.value) ∙ sym c.in-None.ensures in
    c.loop-index.invariant ∙ head-stops c.loop-index.settings c.args.lines.now c.loop-index.index c.index-lines-index.result c.loop-index-test.true c.index-lines-index.is none
