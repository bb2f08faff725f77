use Rattle.std.proofs.Common.{◌≡◌, max, drop}
use Rattle.turn_code.specs.Rules.{greatest, depths}
use Rattle.turn_rules.proofs.entry.deepest.Given as goal

abbrev pub invariant-loop-place : goal.invariant-loop-place
invariant-loop-place l = max l.most (greatest (depths (drop l.place-index l.facts))) ≡ greatest (depths l.facts)
