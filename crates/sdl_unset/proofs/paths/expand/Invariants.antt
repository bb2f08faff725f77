use Rattle.std.proofs.Common.{◌+◌, ◌++◌, ◌∷◌, [], take, length}
use Rattle.sdl_unset.specs.Visits.{Grows, Enters, IsByInput, AreSafe, StayInOrder, AreKept, AreNear, AreVisited, AreAllSorted}
use Rattle.sdl_unset.specs.declared.paths.Step.TheVariants.{Input}
use Rattle.sdl_unset.proofs.paths.expand.Given as goal

abbrev pub invariant-loop-number : goal.invariant-loop-number
invariant-loop-number l = record {
  grows : Grows l.initial.seen.items l.initial.visits.items l.seen.items l.visits.items;
  enters : Enters (IsByInput l.inputs l.variable l.state l.path) l.initial.visits.items l.visits.items;
  order : StayInOrder (length l.path + 1) l.initial.visits.items l.visits.items;
  kept : AreAllSorted l.inputs → AreKept (l.path ++ Input l.state 0 ∷ []) 0 l.initial.visits.items → AreKept (l.path ++ Input l.state l.number ∷ []) 0 l.visits.items;
  near : AreAllSorted l.inputs → AreKept (l.path ++ Input l.state 0 ∷ []) 0 l.initial.visits.items → AreVisited l.initial.seen.items l.initial.visits.items
      → AreNear (length l.initial.seen.items) l.variable l.visits.items l.path l.state l.inputs l.number;
  safe : AreSafe (take l.number l.inputs) l.variable l.seen.items;
}
