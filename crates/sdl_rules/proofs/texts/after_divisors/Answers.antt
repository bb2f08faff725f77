use Rattle.sdl_ast.specs.Plain.{PlainBlock}
use Rattle.sdl_sound.specs.declared.fault.RuleFault.{RuleFault}
use Rattle.sdl_sound.specs.Refusals.{IsAnswered}
use Rattle.sdl_rules.specs.Expansion.{expanded}
use Rattle.sdl_rules.specs.Texts.{RefusesText, AreDeclared}
use Rattle.sdl_rules.proofs.Refusing.{found_of, is_none}
use Rattle.sdl_rules.proofs.texts.after_divisors.Goals as goal

pub returns-in-Some : goal.returns-in-Some
returns-in-Some c = λ b are kept refused.
    found_of (λ (e : RuleFault). (b : PlainBlock) → AreDeclared b c.args.declared.now → IsAnswered (expanded b) → RefusesText b e) c.divisor_declared.result c.in-Some.lower c.in-Some.is
    c.divisor_declared.ensures.some b are kept.0

pub returns-in-None : goal.returns-in-None
returns-in-None c = λ b are kept refused. refused (c.divisor_declared.ensures.none (is_none _ c.in-None.is) b are kept)
