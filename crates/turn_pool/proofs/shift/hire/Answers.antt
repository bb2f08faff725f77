use Rattle.std.proofs.Common.{◌≡◌, ◌+◌, ◌∙◌, ap, arith, sum, vec_len, vec_capacity}
use Rattle.std.proofs.lemmas.List.Sums.{sum_by_push}
use Rattle.turn_pool.proofs.shift.hire.Goals as goal
use Rattle.turn_pool.proofs.shift.hire.Goals.{in-Ok, in-Err}

-- a worker that was started adds a handle; one that wasn't adds the count of its seat
pub loop-number-preserved : goal.loop-number-preserved
loop-number-preserved g c =
    let was = c.loop-number.invariant in
    elim c.match-spawn.branch [
      | in-Ok w ↦
          let rest = w.rest-is in
          let handles = w.handles-is in
          let workers = w.workers-is in (
            omega (arith, ap vec_len handles, w.push_reserved.ensures.len, ap vec_len workers, was.0),
            omega (arith, ap vec_len handles, w.push_reserved.ensures.len, ap (λ r. r.parts) rest, c.take_seat-seat.ensures.parts, was.1),
            omega (arith, ap (λ r. r.amount) rest, c.take_seat-seat.ensures.amount, ap (λ v. sum v.items) workers, was.2),
            omega (arith, ap vec_capacity handles, w.push_reserved.ensures.capacity, was.3),
            ap vec_capacity workers ∙ was.4,
          )
      | in-Err w ↦
          let rest = w.rest-is in
          let handles = w.handles-is in
          let workers = w.workers-is in
          let total : sum w.push_reserved-in-Err.new.self.items ≡ sum c.loop-number.workers.items + w.leave_seat.result =
          ap sum w.push_reserved-in-Err.ensures.items ∙ sum_by_push (λ n. n) c.loop-number.workers.items w.leave_seat.result in (
            omega (arith, ap vec_len handles, w.push_reserved-in-Err.ensures.len, ap vec_len workers, was.0),
            omega (arith, ap vec_len handles, ap (λ r. r.parts) rest, w.leave_seat.ensures.parts, c.take_seat-seat.ensures.parts, was.1),
            omega (arith, ap (λ r. r.amount) rest, w.leave_seat.ensures.amount, w.leave_seat.ensures.value, c.take_seat-seat.ensures.amount, ap (λ v. sum v.items) workers, total, was.2),
            omega (arith, ap vec_capacity handles, was.3),
            omega (arith, ap vec_capacity workers, w.push_reserved-in-Err.ensures.capacity, was.4),
          )
    ]
