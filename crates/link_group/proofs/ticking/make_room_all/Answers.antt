use Rattle.std.proofs.Common.{rules, ap, sym, ◌∙◌, slice_set}
use Rattle.std.proofs.lemmas.List.Edits.{map_over_more}
use Rattle.link_processes.specs.Machine.{is_low}
use Rattle.link_group.specs.declared.link.Link.{Link}
use Rattle.link_group.specs.Ticking.{roomy}
use Rattle.link_group.proofs.Passing.{lacks_room}
use Rattle.link_group.proofs.ticking.make_room_all.Goals as goal

pub loop-at-preserved : goal.loop-at-preserved
loop-at-preserved c =
    ap (slice_set c.loop-at.links c.loop-at.at) (c.in-Ok.ensures.ok ∙ ap roomy (sym c.index-links-at.is))
    ∙ map_over_more roomy c.args.links.now c.loop-at.links c.loop-at.at c.index-links-at.result (search rules) c.loop-at.invariant c.index-links-at.is

pub returns-in-Err-clause-err : goal.returns-in-Err-clause-err
returns-in-Err-clause-err c =
    lacks_room c.args.links.now c.loop-at.links c.loop-at.at c.index-links-at.result c.make_room.new.link (search rules) (search rules) c.loop-at.invariant c.index-links-at.is
    (c.in-Err.ensures.err ∙ sym c.index-links-at.is) (ap (λ (x : Link). is_low x.terminal.processes) c.index-links-at.is ∙ c.in-Err.ensures.low)
