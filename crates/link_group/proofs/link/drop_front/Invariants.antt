use Rattle.std.proofs.Common.{◌≡◌, drop}
use Rattle.std.specs.Prelude.{All}
use Rattle.resend_store.specs.Messages.{IsMessage}
use Rattle.link_group.proofs.link.drop_front.Given as goal

abbrev pub invariant-loop-front : goal.invariant-loop-front
invariant-loop-front l = (l.messages.items ≡ drop l._front l.fn.messages.items) × All IsMessage l.messages.items
