use Rattle.std.proofs.Common.{map, take_all, ap, ◌∙◌, List}
use Rattle.sdl_ast.specs.declared.tree.Sending.{Sending}
use Rattle.sdl_ast.specs.Views.{tree_of, sending_of}
use Rattle.sdl_rules.specs.Expansion.{expanded_sending}
use Rattle.sdl_rules.specs.Views.{sight_of}
use Rattle.sdl_ast.specs.Plain.{Tree, PlainSending}
use Rattle.sdl_ast.specs.declared.expression.Expression.{Expression}
use Rattle.sdl_rules.specs.Synonyms.{expanded_tree}
use Rattle.sdl_rules.proofs.Copying.{one_more}
use Rattle.sdl_rules.proofs.expressions.expand_sendings.Goals as goal

pub loop-sending-preserved : goal.loop-sending-preserved
loop-sending-preserved c =
    let make : List Tree → PlainSending = λ ts. record { signal = c.sending-item.result.signal; parameters = ts } in
    one_more sending_of (expanded_sending (sight_of c.args.sight.now)) c.args.given.now c.loop-sending.copies.items _ c.loop-sending.sending-index c.sending-item.result _ c.loop-sending-test.true c.sending-item.is
    c.loop-sending.invariant c.in_ok-push.ensures.items
    (ap make (c.in_ok-expand_expressions.ensures ∙ ap (λ (l : List Expression). map (expanded_tree (sight_of c.args.sight.now)) (map tree_of l)) c.deref.ensures.value))

pub returns : goal.returns
returns c = c.loop-sending.invariant ∙ ap (λ (l : List Sending). map (expanded_sending (sight_of c.args.sight.now)) (map sending_of l)) (take_all c.loop-sending.sending-index c.args.given.now c.loop-sending-test.false)
