use Rattle.std.proofs.Common.{◌≡◌, ◌+◌, ◌++◌, ◌∷◌, [], ℕ, List, Ok, Err, Vec, Global, map, take, sym, subst}
use Rattle.sdl_ast.specs.Views.{process_of}
use Rattle.sdl_sound.specs.Orders.{IsOrdered}
use Rattle.sdl_measures.proofs.Returning.{SoFar, so_far_order, so_far_back}
use Rattle.sdl_measures.proofs.order.find_orders.Goals as goal
use Rattle.sdl_measures.proofs.order.find_orders.Goals.{in-Ok+in_ok-push-in-Ok, in-Err}
use Rattle.plain_laws.proofs.Lists.{mapped_more}

pub loop-process-preserved : goal.loop-process-preserved
loop-process-preserved c =
    let ts = c.tables-processes.result.now in
    let k = c.loop-process.process-index in
    let t = c.process-item.result in
    let more : map process_of (take (k + 1) ts) ≡ map process_of (take k ts) ++ process_of t ∷ [] = mapped_more process_of ts k t c.loop-process-test.true c.process-item.is in
    elim c.match-branch-2.branch [
      | in-Ok+in_ok-push-in-Ok w ↦
          let told : IsOrdered (process_of t) (Ok w.in-Ok.order) = subst (IsOrdered (process_of t)) w.in-Ok.is c.in_ok-order.ensures in
          rw (w.place-is, w.orders-is, more)
          (subst (λ (l : List (Vec ℕ Global)). SoFar (map process_of (take k ts) ++ process_of t ∷ []) c.loop-process.place l) (sym w.in_ok-push-in-Ok.ensures.items)
          (so_far_order (map process_of (take k ts)) (process_of t) c.loop-process.place c.loop-process.orders.items w.in-Ok.order c.loop-process.invariant told))
      | in-Err w ↦
          let told : IsOrdered (process_of t) (Err w.in-Err.back) = subst (IsOrdered (process_of t)) w.in-Err.is c.in_ok-order.ensures in
          rw (w.place-is, w.orders-is, more)
          (so_far_back (map process_of (take k ts)) (process_of t) c.loop-process.place w.in-Err.back w.earlier-place.result c.loop-process.orders.items c.loop-process.invariant told w.earlier-place.ensures)
    ]
