use Rattle.std.proofs.Common.{List, [], ◌∷◌, ◌++◌, map, take_all, ap, ◌∙◌}
use Rattle.sdl_ast.specs.declared.tree.Range.{Range}
use Rattle.sdl_tables.proofs.Growing.{map_on, taken_more}
use Rattle.sdl_rules.specs.Expansion.{expanded_range}
use Rattle.sdl_rules.specs.Views.{sight_of}
use Rattle.sdl_rules.proofs.transitions.expand_ranges.Goals as goal

pub loop-range-preserved : goal.loop-range-preserved
loop-range-preserved c =
    map_on (expanded_range (sight_of c.args.sight.now)) [] c.loop-range.copies.items _ _ _ c.range-item.result
    (taken_more c.args.given.now c.loop-range.range-index c.range-item.result c.loop-range-test.true c.range-item.is) c.loop-range.invariant
    (c.in_ok-push.ensures.items ∙ ap (λ (r : Range). c.loop-range.copies.items ++ r ∷ []) c.expand_range.ensures)

pub returns : goal.returns
returns c = c.loop-range.invariant ∙ ap (λ (l : List Range). map (expanded_range (sight_of c.args.sight.now)) l) (take_all c.loop-range.range-index c.args.given.now c.loop-range-test.false)
