-- Imports for proofs on effects that are made of words.
use Rattle.std.proofs.Common.{[]}
use Rattle.turn_code.specs.declared.effect.Effect.TheVariants as effect
use Rattle.turn_code.specs.declared.after.BareEffect.TheVariants as gives
