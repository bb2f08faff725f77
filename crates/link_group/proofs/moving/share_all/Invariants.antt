use Rattle.std.proofs.Common.{◌≡◌, ◌-◌}
use Rattle.std.specs.Prelude.{All}
use Rattle.resend_store.specs.Messages.{IsMessage}
use Rattle.group_changeover.specs.Limits.{SELECTIONS}
use Rattle.link_group.specs.Moving.{division, moves}
use Rattle.link_group.proofs.moving.share_all.Given as goal

abbrev pub invariant-loop-selection : goal.invariant-loop-selection
invariant-loop-selection l =
    (moves l.able (SELECTIONS - l.selection) l.selection (division l.links l.table.links l.messages.items)
    ≡ moves l.able SELECTIONS 0 (division l.fn.links l.fn.table.links l.fn.messages.items))
    × All IsMessage l.messages.items
