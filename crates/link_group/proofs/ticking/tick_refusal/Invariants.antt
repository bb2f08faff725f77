use Rattle.std.proofs.Common.{◌≡◌, drop}
use Rattle.link_group.specs.Ticking.{first_refusal}
use Rattle.link_group.proofs.ticking.tick_refusal.Given as goal

abbrev pub invariant-loop-link : goal.invariant-loop-link
invariant-loop-link l = first_refusal l.ticks (drop l.link-index l.links) ≡ first_refusal l.ticks l.links
