use Rattle.std.proofs.Common.{◌≡◌, drop}
use Rattle.script_point.specs.Pointing.{token_end}
use Rattle.mtp2_play.proofs.text.warned.token_end.Given as goal

abbrev pub invariant-loop-token : goal.invariant-loop-token
invariant-loop-token l = token_end (drop l.token-index l.tokens) l.place ≡ token_end l.tokens l.place
