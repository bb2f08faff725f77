use Rattle.std.proofs.Common.{◌≡◌, map, take}
use Rattle.sdl_rules.specs.Reached.{joining_of, starts_with}
use Rattle.sdl_rules.proofs.reaching.starts_with.Given as goal

abbrev pub invariant-loop-joining : goal.invariant-loop-joining
invariant-loop-joining l = l.starts.items ≡ starts_with l.marks (map joining_of (take l.joining-index l.joinings))
