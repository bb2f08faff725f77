-- The parameters taken so far, and those still to take.
use Rattle.std.proofs.Common.{◌≡◌, drop}
use Rattle.script_covered.specs.Ways.{taken_in}
use Rattle.script_covered.proofs.ways.take_parameters.Given as goal

abbrev pub invariant-loop-number : goal.invariant-loop-number
invariant-loop-number l =
    taken_in l.names l.parameters l.number (drop l.number l.places) l.values.items ≡ taken_in l.names l.parameters 0 l.places l.initial.values.items
