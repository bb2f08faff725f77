use Rattle.std.proofs.Common.{◌≡◌, ◌++◌, replicate}
use Rattle.turn_code.specs.declared.instruction.Instruction.TheVariants.{Drop}
use Rattle.sdl_emit.proofs.landing.keep_places.Given as goal

abbrev pub invariant-loop : goal.invariant-loop
invariant-loop l = l.code.items ≡ l.initial.code.items ++ replicate l.counter Drop
