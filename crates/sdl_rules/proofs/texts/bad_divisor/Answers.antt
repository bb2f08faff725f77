use Rattle.sdl_ast.specs.Plain.{PlainBlock}
use Rattle.sdl_sound.specs.declared.fault.RuleFault.{RuleFault}
use Rattle.sdl_sound.specs.Refusals.{IsKnown}
use Rattle.sdl_sound.specs.Divisors.{bad_divisors}
use Rattle.sdl_rules.specs.Expansion.{expanded}
use Rattle.sdl_rules.specs.Faults.{block_places}
use Rattle.sdl_rules.specs.Texts.{RefusesText, AreDeclared}
use Rattle.sdl_rules.proofs.Refusing.{found_of, is_none, sorted_of_answered}
use Rattle.sdl_rules.proofs.texts.bad_divisor.Goals as goal

pub returns-in-Some : goal.returns-in-Some
returns-in-Some c = λ b are refused.
    found_of (λ (e : RuleFault). (b : PlainBlock) → AreDeclared b c.args.declared.now → IsKnown (expanded b) → RefusesText b e) c.wrong_declared.result c.in-Some.lower c.in-Some.is
    c.wrong_declared.ensures.some b are (sorted_of_answered (expanded b) refused.0).0

pub returns-in-None : goal.returns-in-None
returns-in-None c = λ b are refused. (
  c.wrong_declared.ensures.none (is_none _ c.in-None.is) b are (sorted_of_answered (expanded b) refused.0),
  refused.0,
  c.first.ensures (bad_divisors (expanded b)) (block_places b).divisors refused.1 are.strays.divisor,
)
