use Rattle.std.proofs.Common.{subst}
use Rattle.sdl_emit.specs.Uses.{IsUse}
use Rattle.sdl_emit.proofs.uses.UseTable.variable.Goals as goal

pub returns-in-Some-Variable : goal.returns-in-Some-Variable
returns-in-Some-Variable c = λ s h. (subst (IsUse s c.args.id.now.name) c.in-Some-Variable.field-0-is (c.in-Some-Variable.ensures s h)).0
