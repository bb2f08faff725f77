use Rattle.std.proofs.Common.{rules, arith, ap, sum_by, ◌≡◌, ◌+◌, ◌∷◌, []}
use Rattle.std.proofs.lemmas.List.Sums.{sum_by-append}
use Rattle.actor_machine.specs.Ledger.{next}
use Rattle.turn_pool.proofs.Finishes.{one_more}
use Rattle.turn_pool.proofs.links.take_all_out.Goals as goal

-- the book that was taken out is added, with its events and its finishes
pub loop-slot-preserved : goal.loop-slot-preserved
loop-slot-preserved g c =
    let before = c.loop-slot.books.items in
    let book = c.into_book.result in
    let all = one_more before book c.loop-slot.invariant.4 c.into_book.ensures.finishes in
    let sum : sum_by next c.push_reserved.new.self.items ≡ sum_by next before + next book =
    rw c.push_reserved.ensures.items (omega (arith, sum_by-append next before (book ∷ []))) in
    let len = c.push_reserved.ensures.len in (
      search rules,
      search rules,
      search rules,
      omega (arith, sum, len, ap next c.into_book.ensures.book, c.into_book.ensures.amount, c.loop-slot.invariant.3),
      rw c.push_reserved.ensures.items all,
    )
