use Rattle.std.proofs.Common.{take, length}
use Rattle.sdl_unset.specs.Visits.{Grows, Enters, IsBy, StayInOrder}
use Rattle.sdl_unset.specs.Graph.{Covers}
use Rattle.sdl_unset.proofs.FirstPaths.{IsEntered}
use Rattle.sdl_unset.proofs.paths.enter.Given as goal

abbrev pub invariant-loop-passage : goal.invariant-loop-passage
invariant-loop-passage l = record {
  grows : Grows l.initial.seen.items l.initial.visits.items l.seen.items l.visits.items;
  covers : Covers (take l.passage-index l.passages) l.variable l.seen.items;
  enters : Enters (IsBy l.passages l.variable l.path) l.initial.visits.items l.visits.items;
  order : StayInOrder (length l.path) l.initial.visits.items l.visits.items;
  entered : IsEntered l.passages l.passage-index l.path l.initial.visits.items l.visits.items;
}
