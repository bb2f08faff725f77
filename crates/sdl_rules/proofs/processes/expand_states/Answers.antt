use Rattle.std.proofs.Common.{map, take_all, ap, ◌∙◌, List}
use Rattle.sdl_ast.specs.declared.tree.StatePart.{StatePart}
use Rattle.sdl_ast.specs.Views.{clause_of, state_of}
use Rattle.sdl_rules.specs.Expansion.{expanded_clause, expanded_state}
use Rattle.sdl_rules.specs.Views.{sight_of}
use Rattle.sdl_ast.specs.declared.tree.StateClause.{StateClause}
use Rattle.sdl_rules.proofs.Copying.{one_more, state_is}
use Rattle.sdl_rules.proofs.processes.expand_states.Goals as goal

pub loop-part-preserved : goal.loop-part-preserved
loop-part-preserved c =
    one_more state_of (expanded_state (sight_of c.args.sight.now)) c.args.given.now c.loop-part.copies.items _ c.loop-part.part-index c.part-item.result _ c.loop-part-test.true c.part-item.is
    c.loop-part.invariant c.in_ok-push.ensures.items
    (state_is _ _ _ _ (c.in_ok-names.ensures.items ∙ c.as_slice.ensures.value)
    (c.in_ok-clauses.ensures ∙ ap (λ (l : List StateClause). map (expanded_clause (sight_of c.args.sight.now)) (map clause_of l)) c.deref.ensures.value))

pub returns : goal.returns
returns c = c.loop-part.invariant ∙ ap (λ (l : List StatePart). map (expanded_state (sight_of c.args.sight.now)) (map state_of l)) (take_all c.loop-part.part-index c.args.given.now c.loop-part-test.false)
