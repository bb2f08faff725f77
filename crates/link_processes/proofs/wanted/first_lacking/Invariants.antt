use Rattle.std.proofs.Common.{drop}
use Rattle.std.specs.Prelude.{All}
use Rattle.link_processes.specs.Wanted.{Has, IsFirstLacking}
use Rattle.link_processes.specs.declared.wanted.Wanted.{Wanted}
use Rattle.link_processes.proofs.wanted.first_lacking.Given as goal

abbrev pub invariant-loop-name : goal.invariant-loop-name
invariant-loop-name l = record {
  found : (name : Wanted) → IsFirstLacking l.set name (drop l.name-index l.all) → IsFirstLacking l.set name l.all;
  none : All (Has l.set) (drop l.name-index l.all) → All (Has l.set) l.all;
}
