use Rattle.std.proofs.Common.{rules, ap, sym, ◌∙◌, ◌||◌, slice_set}
use Rattle.std.proofs.lemmas.List.Edits.{map_over_more}
use Rattle.link_group.specs.Doing.{asked, came_first}
use Rattle.link_group.specs.declared.link.Link.{Link}
use Rattle.link_group.proofs.Passing.{first_more}
use Rattle.link_group.proofs.doing.see_all.Goals as goal

pub loop-at-preserved : goal.loop-at-preserved
loop-at-preserved c = (
  ap (slice_set c.loop-at.links c.loop-at.at) (c.see_more-first.ensures.link ∙ ap asked (sym c.index-links-at.is))
      ∙ map_over_more asked c.args.links.now c.loop-at.links c.loop-at.at c.index-links-at.result (search rules) c.loop-at.invariant.0 c.index-links-at.is,
  first_more asked c.args.links.now c.loop-at.links c.loop-at.at c.index-links-at.result _ _ (search rules) c.loop-at.invariant.0 c.index-links-at.is
      c.loop-at.invariant.1 (c.see_more-first.ensures.first ∙ ap (λ (x : Link). c.loop-at.first || came_first x) (sym c.index-links-at.is)),
)
