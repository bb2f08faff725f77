use Rattle.std.proofs.Common.{sym, subst, drop}
use Rattle.sdl_emit.specs.Scopes.{scope_in}
use Rattle.sdl_compile.specs.Entries.{AreOfAll}
use Rattle.sdl_compile.proofs.Unchanged.{connections_kept}
use Rattle.sdl_compile.proofs.entries.meet_connections.Goals as goal

pub meet_if_joined-requires-clause-all : goal.meet_if_joined-requires-clause-all
meet_if_joined-requires-clause-all c =
    subst AreOfAll (sym c.loop-left.invariant.entries)
    (connections_kept (scope_in c.args.names.now) (drop c.loop-left.left c.args.order.now) c.args.entries.now.items c.requires.all)
