use Rattle.std.proofs.Common.{◌-◌, ◌≤◌, length, take}
use Rattle.link_term.specs.Hearing.{Heard}
use Rattle.link_term.specs.Kept.{Took}
use Rattle.link_term.proofs.terminal.Terminal.line_in.Given as goal

abbrev pub invariant-loop-taken : goal.invariant-loop-taken
invariant-loop-taken l = record {
  within : l.taken ≤ length l.octets;
  heard : Heard l.initial.self (take l.taken l.octets) l.self;
  took : Took l.initial.self l.self;
}

abbrev pub decreases-loop-taken : goal.decreases-loop-taken
decreases-loop-taken l = length l.octets - l.taken
