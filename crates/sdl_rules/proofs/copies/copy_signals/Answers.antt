use Rattle.std.proofs.Common.{map, take_all, ap, ◌∙◌, List}
use Rattle.sdl_ast.specs.declared.tree.SignalDeclaration.{SignalDeclaration}
use Rattle.sdl_ast.specs.Views.{signal_of}
use Rattle.sdl_ast.specs.declared.tree.Sort.{Sort}
use Rattle.sdl_ast.specs.Plain.{PlainSignal}
use Rattle.sdl_rules.proofs.Copying.{one_more_same}
use Rattle.sdl_rules.proofs.copies.copy_signals.Goals as goal

pub loop-signal-preserved : goal.loop-signal-preserved
loop-signal-preserved c =
    let make : List Sort → PlainSignal = λ l. record { name = c.signal-item.result.name; parameters = l } in
    one_more_same signal_of c.args.given.now c.loop-signal.copies.items _ c.loop-signal.signal-index c.signal-item.result _ c.loop-signal-test.true c.signal-item.is
    c.loop-signal.invariant c.in_ok-push.ensures.items (ap make (c.in_ok-from_slice.ensures.items ∙ c.as_slice.ensures.value))

pub returns : goal.returns
returns c = c.loop-signal.invariant ∙ ap (λ (l : List SignalDeclaration). map signal_of l) (take_all c.loop-signal.signal-index c.args.given.now c.loop-signal-test.false)
