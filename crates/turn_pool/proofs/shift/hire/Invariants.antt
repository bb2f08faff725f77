use Rattle.std.proofs.Common.{◌≡◌, ◌≤◌, ◌+◌, sum, vec_len, vec_capacity}
use Rattle.turn_pool.proofs.shift.hire.Given as goal

abbrev pub invariant-loop-number : goal.invariant-loop-number
invariant-loop-number g l =
    (vec_len l.handles + vec_len l.workers ≡ l.number) × (l.rest.parts + vec_len l.handles ≡ l.fn.shift.rest.parts) ×
    (l.rest.amount ≡ l.fn.shift.rest.amount + sum l.workers.items) × (l.fn.number_of_workers ≤ vec_capacity l.handles) ×
    (vec_capacity l.workers ≡ vec_capacity l.fn.shift.workers)
