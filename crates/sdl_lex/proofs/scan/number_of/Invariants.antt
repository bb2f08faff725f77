use Rattle.std.proofs.Common.{◌≡◌, ◌≤◌, take}
use Rattle.sdl_lex.specs.Limits.{GREATEST_NUMBER}
use Rattle.sdl_lex.specs.Lexed.{decimal}
use Rattle.sdl_lex.proofs.scan.number_of.Given as goal

abbrev pub invariant-loop-digit : goal.invariant-loop-digit
invariant-loop-digit l = (l.n ≡ decimal (take l.digit-index l.digits)) × (l.n ≤ GREATEST_NUMBER)
