use Rattle.std.proofs.Common.{◌≡◌, ℕ, ◌<◌, ◌≤◌, get_or}
use Rattle.script_point.proofs.lines.line_begin.Given as goal

abbrev pub invariant-loop-begin : goal.invariant-loop-begin
invariant-loop-begin l = record {
  before : l.begin ≤ l.place;
  whole : (k : ℕ) → l.begin ≤ k → k < l.place → get_or l.text k 0 ≡ 10 → ⊥;
}

abbrev pub decreases-loop-begin : goal.decreases-loop-begin
decreases-loop-begin l = l.begin
