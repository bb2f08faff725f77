use Rattle.std.proofs.Common.{[], ◌+◌, ◌-◌, ◌*◌, ◌≤◌, vec_len}
use Rattle.std.specs.Prelude.{vec_capacity}
use Rattle.link_term.specs.Speaking.{Spoke}
use Rattle.link_term.proofs.terminal.Terminal.line_out.Given as goal

abbrev pub invariant-loop-gone : goal.invariant-loop-gone
invariant-loop-gone l = record {
  spoke : Spoke l.fn.self [] l._gone l.self l.octets.items;
  room : vec_len l.octets + (l.units - l._gone) * 352 ≤ vec_capacity l.octets;
}
