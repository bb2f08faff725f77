use Rattle.std.proofs.Common.{◌-◌, length}
use Rattle.sdl_ast.specs.Views.{text_of}
use Rattle.sdl_emit.specs.Scopes.{scope_in}
use Rattle.sdl_emit.specs.Placing.{AreMarked}
use Rattle.sdl_emit.proofs.Gathering.{Gathered}
use Rattle.sdl_emit.proofs.placing.place_connections.Given as goal

abbrev pub invariant-loop-next : goal.invariant-loop-next
invariant-loop-next l = record {
  gathered : Gathered (scope_in l.names) (text_of l.body.whole.now) l.placed.items l.next;
  marks : AreMarked (scope_in l.names) l.placed.items l.marks.items;
}

abbrev pub decreases-loop-next : goal.decreases-loop-next
decreases-loop-next l = length (scope_in l.names).process.connections - l.next
