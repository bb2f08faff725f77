use Rattle.std.proofs.Common.{◌≡◌, ◌≤◌, ◌+◌, ◌*◌, sum, take}
use Rattle.pool_soak.proofs.findings.counted.Given as goal

abbrev pub invariant-loop-worker : goal.invariant-loop-worker
invariant-loop-worker l = (l.all ≡ l.client + sum (take l.worker-index l.workers)) × (l.all ≤ (l.worker-index + 1) * 18446744073709551615)
