use Rattle.std.proofs.Common.{◌≤◌, List, length, ap, ◌∙◌, arith}
use Rattle.std.proofs.lemmas.List.{length-drop}
use Rattle.std.proofs.lemmas.List.Elements.{All-drop}
use Rattle.resend_store.specs.declared.messages.Msu.{Msu}
use Rattle.resend_store.specs.Messages.{IsMessage}
use Rattle.resend_store.specs.Stored.{Stored}
use Rattle.resend_store.proofs.Weights.{octets_front, octets_rest}
use Rattle.resend_store.proofs.store.Store.release.Goals as goal

pub overflow_sub-self : goal.overflow_sub-self
overflow_sub-self c =
    let sent = ap (λ (s : Stored). s.sent) c.self.view_is in
    let within : c.args.count ≤ c.self.inside.sent = omega arith in
    omega (arith, octets_front c.self.inside.kept.items c.args.count c.self.inside.sent within)

pub invariant_of-self : goal.invariant_of-self
invariant_of-self c =
    let sent = ap (λ (s : Stored). s.sent) c.self.view_is in
    let within : c.args.count ≤ c.self.inside.sent = omega arith in
    let left = c.drop_front-octets.ensures.left in
    let size = ap (λ (ms : List Msu). length ms) left ∙ length-drop c.args.count c.self.inside.kept.items in
    let rest = octets_rest c.args.count c.self.inside.sent c.self.inside.kept.items within in
    record {
      room = omega arith;
      within_store = omega arith;
      within_kept = omega arith;
      within_window = omega arith;
      messages = rw left (All-drop IsMessage c.args.count c.self.inside.kept.items c.self.invariant.messages);
      weight = rw left (omega arith);
    }
