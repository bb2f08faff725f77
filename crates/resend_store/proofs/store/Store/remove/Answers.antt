use Rattle.std.proofs.Common.{rules, ◌≡◌, ◌+◌, ◌<◌, ◌≤◌, ◌++◌, List, length, drop, take, ap, sym, ◌∙◌, arith}
use Rattle.resend_store.specs.declared.messages.Msu.{Msu}
use Rattle.resend_store.specs.Messages.{octets}
use Rattle.resend_store.specs.Stored.{Stored}
use Rattle.resend_store.proofs.Removing.{on_some, front_stays, one_less, others_whole, taken_out}
use Rattle.resend_store.proofs.store.Store.remove.Goals as goal

pub invariant_of-self : goal.invariant_of-self
invariant_of-self c =
    let ms : List Msu = c.self.inside.kept.items in
    let at = c.args.place in
    let kept = ap (λ (s : Stored). length s.kept) c.self.view_is in
    let sent = ap (λ (s : Stored). s.sent) c.self.view_is in
    let there : at < length ms = omega arith in
    let behind : c.self.inside.sent ≤ at = omega arith in
    let left : c.remove.new.self.items ≡ take at ms ++ drop (at + 1) ms =
    taken_out ms c.remove.new.self.items at (on_some _ c.remove.result (c.remove.ensures.variant.1 (search (rules, there))) c.remove.ensures.items) in
    let size = ap (λ (xs : List Msu). length xs) left in
    let less = one_less ms at there in
    record {
      room = omega arith;
      within_store = omega arith;
      within_kept = omega arith;
      within_window = omega arith;
      messages = rw left (others_whole ms at c.self.invariant.messages);
      weight = rw left (c.self.invariant.weight ∙ ap octets (sym (front_stays ms c.self.inside.sent at behind there)));
    }
