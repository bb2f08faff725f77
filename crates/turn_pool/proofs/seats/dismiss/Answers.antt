use Rattle.std.proofs.Common.{◌≡◌, ◌+◌, ◌∙◌, ap, arith, rules, sum}
use Rattle.std.proofs.lemmas.List.Sums.{sum_by_push}
use Rattle.turn_pool.proofs.seats.dismiss.Goals as goal

-- the count of the seat that came back is added
pub loop-handle-preserved : goal.loop-handle-preserved
loop-handle-preserved g c =
    let total : sum c.push_reserved.new.self.items ≡ sum c.loop-handle.workers.items + c.leave_seat.result =
    ap sum c.push_reserved.ensures.items ∙ sum_by_push (λ n. n) c.loop-handle.workers.items c.leave_seat.result in (
      search rules,
      search rules,
      search rules,
      omega (arith, total, c.leave_seat.ensures.value, c.leave_seat.ensures.amount, c.loop-handle.invariant.3),
    )
