use Rattle.std.proofs.Common.{◌≡◌, ◌⊎◌, ℕ, inl, inr, arith}
use Rattle.line_streams.specs.Known.{known_of}
use Rattle.mtp2_play.proofs.Speaking.{with_orders}
use Rattle.mtp2_play.proofs.line.running.speak_traced.Goals as goal

-- the status is that of the run, or 4
held : (status served : ℕ) → (status ≡ served) ⊎ (status ≡ 4) → status ≡ 0 → served ≡ 0
held status served (inl same) zero = omega (arith, same, zero)
held status served (inr failed) zero = absurd (omega (arith, failed, zero))

pub returns-clause-spoke : goal.returns-clause-spoke
returns-clause-spoke g c zero =
    with_orders _ _ _ _ _ _ _ _ _ _ _ c.requires.given
    (c.serve_traced-status.ensures.spoke (known_of c.args.desk.now.orders) c.requires.ordered (held _ _ c.end_trace-ended.ensures (c.end_streams.ensures.zero zero)))

pub returns-clause-begun : goal.returns-clause-begun
returns-clause-begun g c = c.serve_traced-status.ensures.begun (known_of c.args.desk.now.orders) c.requires.given c.requires.ordered
