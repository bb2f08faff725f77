-- The octets appended so far.
use Rattle.std.proofs.Common.{◌<◌, reverse, take}
use Rattle.su_octets.specs.Bits.{bits_of}
use Rattle.script_ends.specs.UnitLines.{IsSent}
use Rattle.script_ends.proofs.unit_line.push_octets.Given as goal

abbrev pub invariant-loop-octet : goal.invariant-loop-octet
invariant-loop-octet l = record {
  sent : IsSent l.initial.line.items (reverse (bits_of (take l.octet-index l.octets))) l.line.items l.ones;
  few : l.ones < 5;
}
