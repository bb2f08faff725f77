use Rattle.std.proofs.Common.{◌≡◌, ◌≤◌, ◌+◌, sum, vec_len, vec_capacity}
use Rattle.std.specs.Vec.Iter.{into_iter_len}
use Rattle.turn_pool.proofs.seats.dismiss.Given as goal

abbrev pub invariant-loop-handle : goal.invariant-loop-handle
invariant-loop-handle g l =
    let left = into_iter_len l.handle-iterator in
    (vec_len l.workers + left ≡ vec_len l.fn.workers + vec_len l.fn.handles) × (vec_len l.workers + left ≤ vec_capacity l.workers) ×
    (l.rest.parts + left ≡ l.fn.rest.parts + vec_len l.fn.handles) ×
    (l.rest.amount + sum l.fn.workers.items ≡ l.fn.rest.amount + sum l.workers.items)
