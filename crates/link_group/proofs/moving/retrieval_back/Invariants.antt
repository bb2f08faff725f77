use Rattle.std.proofs.Common.{◌≡◌, ◌+◌, ◌≤◌, length}
use Rattle.std.specs.Prelude.{All}
use Rattle.resend_store.specs.Messages.{IsMessage}
use Rattle.resend_store.specs.Limits.{MOST_KEPT}
use Rattle.link_group.specs.Moving.{term_takes}
use Rattle.link_term.specs.Kept.{window_of}
use Rattle.link_group.proofs.moving.retrieval_back.Given as goal

abbrev pub invariant-loop-msu : goal.invariant-loop-msu
invariant-loop-msu l =
    (term_takes l.messages.items l.terminal ≡ term_takes l.fn.messages.items l.fn.terminal)
    × (length l.messages.items + length (window_of l.terminal).kept ≤ MOST_KEPT)
    × All IsMessage l.messages.items

abbrev pub decreases-loop-msu : goal.decreases-loop-msu
decreases-loop-msu l = length l.messages.items
