use Rattle.std.proofs.Common.{◌≡◌, vec_len}
use Rattle.sdl_tables.specs.Triggers.{AreBelow}
use Rattle.sdl_tables.proofs.triggers.unseen.Given as goal

abbrev pub invariant-loop-name : goal.invariant-loop-name
invariant-loop-name l = (vec_len l.seen ≡ l._name) × AreBelow l.seen.items 1
