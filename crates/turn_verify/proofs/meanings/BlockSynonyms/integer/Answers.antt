use Rattle.std.proofs.Common.{ap, ◌∙◌}
use Rattle.std.specs.Prelude.{option_and_then}
use Rattle.turn_verify.specs.Meanings.{integer_of}
use Rattle.turn_verify.proofs.meanings.BlockSynonyms.integer.Goals as goal

pub returns-in-Some : goal.returns-in-Some
returns-in-Some c = c.integer.ensures ∙ ap (option_and_then integer_of) c.in-Some.ensures

pub returns-in-None : goal.returns-in-None
returns-in-None c = ap (option_and_then integer_of) c.in-None.ensures
