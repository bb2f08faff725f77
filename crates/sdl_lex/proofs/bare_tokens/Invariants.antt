use Rattle.std.proofs.Common.{◌-◌, ◌≤◌, length}
use Rattle.sdl_lex.specs.Lexed.{Lexes}
use Rattle.sdl_lex.proofs.bare_tokens.Given as goal

abbrev pub invariant-loop-at : goal.invariant-loop-at
invariant-loop-at l = (l.at ≤ length l.bytes) × Lexes l.bytes l.at 0 l.tokens.items

abbrev pub decreases-loop-at : goal.decreases-loop-at
decreases-loop-at l = length l.bytes - l.at
