-- The lines written so far, and those still to write.
use Rattle.std.proofs.Common.{◌≡◌, ◌++◌, drop}
use Rattle.std.specs.List.{flat_map}
use Rattle.script_play.specs.Thrown.{throw_line}
use Rattle.script_play.proofs.thrown.push_throws.Given as goal

abbrev pub invariant-loop-throw : goal.invariant-loop-throw
invariant-loop-throw l =
    l.text.items ++ flat_map (throw_line l.set) (drop l.throw-index l.throws) ≡ l.initial.text.items ++ flat_map (throw_line l.set) l.throws
