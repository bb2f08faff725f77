-- The output so far is that of the inputs so far.
use Rattle.std.proofs.Common.{take}
use Rattle.std.specs.List.{flat_map}
use Rattle.std.specs.Io.KnownBytes.{Appends}
use Rattle.script_check.specs.Printed.{input_line}
use Rattle.script_check.proofs.costs.write_state.Given as goal

abbrev pub invariant-loop-input : goal.invariant-loop-input
invariant-loop-input g l =
    Appends (g.W.Write.contents l.initial.writer) (g.W.Write.contents l.writer) (flat_map (input_line l.draft.signals l.process l.state) (take l.input-index l.input-items))
