use denote.Ref.{Bor}
use Rattle.sdl_ast.specs.Views.{signal_of}
use Rattle.sdl_ast.specs.declared.tree.SignalDeclaration.{SignalDeclaration}
use Rattle.sdl_tables.proofs.Growing.{taken_more, map_on, pushed}
use Rattle.sdl_tables.proofs.block_parts.push_signals.Goals as goal

pub loop-signal-preserved : goal.loop-signal-preserved
loop-signal-preserved c =
    map_on signal_of _ _ _ _ _ c.signal-item.result (taken_more c.args.declared.now c.loop-signal.signal-index c.signal-item.result c.loop-signal-test.true c.signal-item.is)
    c.loop-signal.invariant (pushed (λ (s : Bor SignalDeclaration). signal_of s.now) _ _ _ c.in_ok-push.ensures.items)
