use Rattle.std.proofs.Common.{subst}
use Rattle.sdl_emit.specs.Uses.{IsUse}
use Rattle.sdl_emit.proofs.uses.UseTable.connection.Goals as goal

pub returns-in-Some-Connection : goal.returns-in-Some-Connection
returns-in-Some-Connection c = λ s h. (subst (IsUse s c.args.id.now.name) c.in-Some-Connection.field-0-is (c.in-Some-Connection.ensures s h)).0
