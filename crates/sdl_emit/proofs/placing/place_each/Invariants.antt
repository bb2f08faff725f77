use Rattle.std.proofs.Common.{◌≡◌, drop}
use Rattle.std.specs.Prelude.{fold}
use Rattle.sdl_meaning.specs.Code.{add_number}
use Rattle.sdl_emit.specs.Scopes.{scope_in}
use Rattle.sdl_emit.specs.Placing.{numbers_of, HaveNumbers, AreMarked}
use Rattle.sdl_emit.proofs.placing.place_each.Given as goal

abbrev pub invariant-loop-join : goal.invariant-loop-join
invariant-loop-join l = record {
  placed : fold add_number l.placed.items (numbers_of (scope_in l.names) (drop l.join-index l.joins)) ≡ fold add_number l.initial.placed.items (numbers_of (scope_in l.names) l.joins);
  named : HaveNumbers (scope_in l.names) (drop l.join-index l.joins);
  marks : AreMarked (scope_in l.names) l.placed.items l.marks.items;
}
