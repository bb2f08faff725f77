use Rattle.std.proofs.Common.{◌≡◌, ℕ, ◌-◌, ◌<◌, ◌≤◌, true, length, get_or}
use Rattle.sdl_lex.specs.Runs.{is_name_byte}
use Rattle.sdl_lex.proofs.runs.name_end.Given as goal

abbrev pub invariant-loop-end : goal.invariant-loop-end
invariant-loop-end l =
    (l.at ≤ l.end) × (l.end ≤ length l.bytes) × ((k : ℕ) → l.at ≤ k → k < l.end → is_name_byte (get_or l.bytes k 0) ≡ true)

abbrev pub decreases-loop-end : goal.decreases-loop-end
decreases-loop-end l = length l.bytes - l.end
