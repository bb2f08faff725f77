use Rattle.std.proofs.Common.{◌≡◌, ◌++◌, take, drop}
use Rattle.std.specs.Prelude.{All}
use Rattle.resend_store.specs.Messages.{IsMessage}
use Rattle.group_changeover.specs.Sharing.{of, off}
use Rattle.link_group.specs.Moving.{term_takes}
use Rattle.link_group.proofs.moving.divert_selection.Given as goal

abbrev pub invariant-loop-turn : goal.invariant-loop-turn
invariant-loop-turn l =
    (l.messages.items ≡ drop l._turn l.fn.messages.items ++ off l.selection (take l._turn l.fn.messages.items))
    × (l.terminal ≡ term_takes (of l.selection (take l._turn l.fn.messages.items)) l.fn.terminal)
    × All IsMessage l.messages.items
