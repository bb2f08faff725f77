-- The octets so far are converted.
use Rattle.std.proofs.Common.{◌≡◌, ◌++◌, map, take, drop}
use Rattle.line_filter.specs.Filters.{turned}
use Rattle.line_filter.proofs.filter.Bits.turn_all.Given as goal

abbrev pub invariant-loop-octet : goal.invariant-loop-octet
invariant-loop-octet l = l.octets ≡ map (turned l.self) (take l.octet-index l.initial.octets) ++ drop l.octet-index l.initial.octets
