use Rattle.std.proofs.Common.{subst}
use Rattle.sdl_emit.specs.Uses.{IsUse}
use Rattle.sdl_emit.proofs.uses.UseTable.signal.Goals as goal

pub returns-in-Some-Signal : goal.returns-in-Some-Signal
returns-in-Some-Signal c = λ s h. (subst (IsUse s c.args.id.now.name) c.in-Some-Signal.field-0-is (c.in-Some-Signal.ensures s h)).0
