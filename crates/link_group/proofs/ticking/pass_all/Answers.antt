use Rattle.std.proofs.Common.{rules, arith, ap, sym, ◌∙◌, slice_set}
use Rattle.std.proofs.lemmas.List.Edits.{map_over_more}
use Rattle.link_processes.specs.Machine.{is_low, tick_refusal}
use Rattle.link_group.specs.declared.link.Link.{Link}
use Rattle.link_group.specs.Ticking.{passed, due_at}
use Rattle.link_group.proofs.Passing.{due_none, due_more, due_last, room_here, may_here, stands_here}
use Rattle.link_group.proofs.ticking.pass_all.Goals as goal

pub loop-at-init : goal.loop-at-init
loop-at-init c = ((search rules), due_none c.args.ticks c.args.links.now, omega arith)

pub pass-requires-clause-room : goal.pass-requires-clause-room
pass-requires-clause-room c =
    ap (λ (x : Link). is_low x.terminal.processes) (sym c.index-links-at.is)
    ∙ room_here (passed c.args.ticks) c.args.links.now c.loop-at.links c.loop-at.at c.index-links-at.result (search rules) c.loop-at.invariant.0 c.index-links-at.is c.requires.room

pub pass-requires-clause-may : goal.pass-requires-clause-may
pass-requires-clause-may c =
    ap (λ (x : Link). tick_refusal c.args.ticks x.terminal.processes) (sym c.index-links-at.is)
    ∙ may_here c.args.ticks (passed c.args.ticks) c.args.links.now c.loop-at.links c.loop-at.at c.index-links-at.result (search rules) c.loop-at.invariant.0 c.index-links-at.is c.requires.may

pub loop-at-preserved : goal.loop-at-preserved
loop-at-preserved c = (
  ap (slice_set c.loop-at.links c.loop-at.at) (c.pass.ensures.link ∙ ap (passed c.args.ticks) (sym c.index-links-at.is))
      ∙ map_over_more (passed c.args.ticks) c.args.links.now c.loop-at.links c.loop-at.at c.index-links-at.result (search rules) c.loop-at.invariant.0 c.index-links-at.is,
  due_more c.args.ticks c.args.links.now c.loop-at.at c.index-links-at.result c.loop-at.due c.pass.result c.saturating_add-due.result (search rules)
      (stands_here (passed c.args.ticks) c.args.links.now c.loop-at.links c.loop-at.at c.index-links-at.result (search rules) c.loop-at.invariant.0 c.index-links-at.is)
      (c.pass.ensures.due ∙ ap (due_at c.args.ticks) (sym c.index-links-at.is)) c.saturating_add-due.ensures c.loop-at.invariant.1,
  omega (arith, c.saturating_add-due.ensures),
)

pub returns-clause-due : goal.returns-clause-due
returns-clause-due c = due_last c.args.ticks c.args.links.now c.loop-at.at c.loop-at.due (search rules) c.loop-at.invariant.2 c.loop-at.invariant.1
