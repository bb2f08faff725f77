use Rattle.std.proofs.Common.{rules, ap, sym, ◌∙◌, slice_set}
use Rattle.std.proofs.lemmas.List.Edits.{map_over_more}
use Rattle.link_group.specs.Tables.{forgiven}
use Rattle.link_group.proofs.tables.forgive_all.Goals as goal

pub loop-at-preserved : goal.loop-at-preserved
loop-at-preserved c =
    ap (slice_set c.loop-at.links c.loop-at.at) (c.forgive.ensures ∙ ap forgiven (sym c.index-links-at.is))
    ∙ map_over_more forgiven c.args.links.now c.loop-at.links c.loop-at.at c.index-links-at.result (search rules) c.loop-at.invariant c.index-links-at.is
