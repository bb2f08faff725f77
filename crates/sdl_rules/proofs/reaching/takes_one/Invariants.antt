use Rattle.std.proofs.Common.{◌≡◌, false, take}
use Rattle.sdl_rules.specs.Reached.{takes_one}
use Rattle.sdl_rules.proofs.reaching.takes_one.Given as goal

abbrev pub invariant-loop-row : goal.invariant-loop-row
invariant-loop-row l = takes_one l.marks (take l.row-index l.rows) ≡ false
