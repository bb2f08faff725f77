use Rattle.std.proofs.Common.{ℕ, ◌+◌, ◌<◌, ◌≤◌}
use Rattle.sdl_lex.specs.Lexed.{ClosesComment}
use Rattle.sdl_lex.proofs.scan.comment_end.Given as goal

abbrev pub invariant-loop-last : goal.invariant-loop-last
invariant-loop-last l = (k : ℕ) → l.at + 2 ≤ k → k < l.last → ClosesComment l.bytes k → ⊥
