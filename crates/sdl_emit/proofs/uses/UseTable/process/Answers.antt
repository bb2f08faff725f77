use Rattle.std.proofs.Common.{subst}
use Rattle.sdl_emit.specs.Uses.{IsUse}
use Rattle.sdl_emit.proofs.uses.UseTable.process.Goals as goal

pub returns-in-Some-Process : goal.returns-in-Some-Process
returns-in-Some-Process c = λ s h. (subst (IsUse s c.args.id.now.name) c.in-Some-Process.field-0-is (c.in-Some-Process.ensures s h)).0
