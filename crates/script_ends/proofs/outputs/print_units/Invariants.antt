-- The units printed so far.
use Rattle.std.proofs.Common.{◌<◌, length}
use Rattle.script_book.specs.Played.{last_in}
use Rattle.script_ends.proofs.GroupRuns.{HasGoneSoFar}
use Rattle.script_ends.proofs.outputs.print_units.Given as goal

abbrev pub invariant-loop-gone : goal.invariant-loop-gone
invariant-loop-gone g l = record {
  there : l.link < length l.group.links;
  so_far :
      HasGoneSoFar l.link l.gone (g.W.Write.contents l.initial.writer) (g.W.Write.contents l.writer) (last_in l.initial.printer) (last_in l.printer)
      l.initial.group l.group;
}
