use Rattle.sdl_emit.specs.declared.uses.Use.{Use}
use Rattle.sdl_emit.specs.Scopes.{scope_in}
use Rattle.sdl_emit.proofs.Used.{one_use}
use Rattle.sdl_emit.proofs.uses.add_use.Goals as goal

pub returns-in_ok-grow : goal.returns-in_ok-grow
returns-in_ok-grow c =
    let s = scope_in c.args.names.now in
    let u : Use = record { id = c.args.id.now; meant = c.args.meant } in
    one_use s c.grow.new.uses.items c.slot-place.result u (c.in_ok-grow.ensures.kept s c.requires.known) c.requires.is
