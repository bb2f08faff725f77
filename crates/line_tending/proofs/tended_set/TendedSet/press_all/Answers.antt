use Rattle.std.proofs.Common.{arith}
use Rattle.line_tending.specs.Readers.{no_link, commands_at}
use Rattle.line_tending.proofs.Doing.{adds_nothing, adds_then}
use Rattle.line_tending.proofs.Reading.{presses_all, presses_more}
use Rattle.line_tending.proofs.tended_set.TendedSet.press_all.Goals as goal

pub loop-link-init : goal.loop-link-init
loop-link-init c = (adds_nothing _, no_link)

pub loop-link-preserved : goal.loop-link-preserved
loop-link-preserved c =
    (adds_then _ _ _ c.loop-link.invariant.0 c.in_ok-press.ensures.adds, presses_more (commands_at c.args.was c.args.is) c.args.self.now c.loop-link.self c.press.new.self c.loop-link.link c.loop-link.invariant.0 c.loop-link.invariant.1 c.in_ok-press.ensures.pressed)

pub returns-clause-pressed : goal.returns-clause-pressed
returns-clause-pressed c = presses_all _ _ _ _ _ c.loop-link.link c.loop-link.invariant.1 (omega arith) (omega arith)
