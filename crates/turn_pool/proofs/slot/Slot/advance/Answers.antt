use Rattle.std.proofs.Common.{◌≡◌, ◌^◌, ◌<◌, refl, ap, ◌∙◌, arith}
use Rattle.actor_machine.specs.Ledger.{ask, next}
use Rattle.actor_machine.specs.declared.event.Event.{Event}
use Rattle.actor_machine.specs.declared.event.Event.TheVariants.{Advance}
use Rattle.turn_pool.specs.Links.{Link}
use Rattle.turn_pool.proofs.Standing.{same_receipt, stands_at}
use Rattle.turn_pool.proofs.slot.Slot.advance.Goals as goal

pub count-requires : goal.count-requires
count-requires g c =
    let within : c.next-place.result < 2 ^ 57 = c.next-place.ensures.in_range in
    record { part = omega (arith, c.self.invariant.0); amount = omega (arith, c.self.invariant.1, c.next-place.ensures.value, within) }

pub returns : goal.returns
returns g c =
    let e : Event = Advance c.args.ticks in
    let book : c.self.inside.book ≡ c.args.self.now.book = ap (λ (s : Link). s.book) c.self.view_is in
    let link : c.self.inside.link ≡ c.args.self.now.number = ap (λ (s : Link). s.number) c.self.view_is in
    record {
      book = c.in_ok-passed.ensures.book ∙ ap (λ b. (ask b e).book) book;
      answer = c.in_ok-passed.ensures.answer ∙ ap (λ b. (ask b e).answer) book;
      link = link;
      counted = c.count.ensures.seat;
      seat = omega (arith, c.count.ensures.seat, c.in_ok-passed.ensures.next, ap next book);
      receipt = same_receipt c.self.inside.link _ c.next-place.result _ e e link (c.next-place.ensures.value ∙ ap next book) refl;
      stands = stands_at c.self.inside.book c.advance.new.self c.next-place.result e c.in_ok-passed.ensures.book c.next-place.ensures.value c.in_ok-passed.ensures.next;
      err = tt;
    }
