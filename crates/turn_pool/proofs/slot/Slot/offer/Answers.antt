use Rattle.std.proofs.Common.{◌≡◌, ◌^◌, ◌<◌, [], ◌∷◌, ◌++◌, Some, sym, ap, ◌∙◌, arith}
use Rattle.std.proofs.lemmas.Option.{same_Some}
use Rattle.actor_machine.specs.Ledger.{Ledger, ask, next}
use Rattle.actor_machine.specs.declared.event.Event.{Event}
use Rattle.actor_machine.specs.declared.event.Event.TheVariants.{Offer as Offered}
use Rattle.turn_pool.specs.Links.{Link}
use Rattle.turn_pool.proofs.Asks.{offered}
use Rattle.turn_pool.proofs.Standing.{same_receipt, stands_at}
use Rattle.turn_pool.proofs.slot.Slot.offer.Goals as goal

pub count-requires : goal.count-requires
count-requires g c =
    let within : c.next-place.result < 2 ^ 57 = c.next-place.ensures.in_range in
    record { part = omega (arith, c.self.invariant.0); amount = omega (arith, c.self.invariant.1, c.next-place.ensures.value, within) }

pub returns : goal.returns
returns g c =
    let e : Event = Offered (record { actor = c.args.actor; signal = c.args.signal; values = record { items = c.args.values.now } }) in
    let book : c.self.inside.book ≡ c.args.self.now.book = ap (λ (s : Link). s.book) c.self.view_is in
    let link : c.self.inside.link ≡ c.args.self.now.number = ap (λ (s : Link). s.number) c.self.view_is in
    let last : (ask c.self.inside.book e).book.journal ≡ c.self.inside.book.journal ++ e ∷ [] = offered c.self.inside.book e c.in_ok-offer.ensures.answer in
    let event : c.in-Some.event ≡ e =
    same_Some c.in-Some.event e (sym c.in-Some.is ∙ c.newest.ensures c.self.inside.book.journal e (ap (λ (b : Ledger). b.journal) c.in_ok-offer.ensures.book ∙ last)) in
    record {
      book = c.in_ok-offer.ensures.book ∙ ap (λ b. (ask b e).book) book;
      answer = c.in_ok-offer.ensures.answer ∙ ap (λ b. (ask b e).answer) book;
      link = link;
      counted = c.count.ensures.seat;
      seat = omega (arith, c.count.ensures.seat, c.in_ok-offer.ensures.next, ap next book);
      receipt = same_receipt c.self.inside.link _ c.next-place.result _ c.in-Some.event e link (c.next-place.ensures.value ∙ ap next book) event;
      stands = stands_at c.self.inside.book c.offer.new.self c.next-place.result e c.in_ok-offer.ensures.book c.next-place.ensures.value c.in_ok-offer.ensures.next ∙ ap Some (sym event);
      err = tt;
    }
