use Rattle.sdl_ast.specs.Plain.{PlainBlock}
use Rattle.sdl_sound.specs.declared.fault.RuleFault.{RuleFault}
use Rattle.sdl_sound.specs.Refusals.{IsDistinct}
use Rattle.sdl_rules.specs.Expansion.{expanded}
use Rattle.sdl_rules.specs.Texts.{RefusesText, AreDeclared}
use Rattle.sdl_rules.proofs.Refusing.{found_of, is_none, some_weaker}
use Rattle.sdl_rules.proofs.texts.wrong_declared.Goals as goal

pub returns-in-Some-clause-some : goal.returns-in-Some-clause-some
returns-in-Some-clause-some c = λ b are kept.
    found_of (λ (e : RuleFault). (b : PlainBlock) → AreDeclared b c.args.declared.now → IsDistinct (expanded b) → RefusesText b e) c.unknown_declared.result c.in-Some.fault c.in-Some.is
    c.unknown_declared.ensures.some b are kept.0

pub returns-in-None-clause-some : goal.returns-in-None-clause-some
returns-in-None-clause-some c =
    some_weaker _ _ c.wrong_used.result (λ e h b are kept. h b are (c.unknown_declared.ensures.none (is_none _ c.in-None.is) b are kept)) c.wrong_used.ensures.some

pub returns-in-None-clause-none : goal.returns-in-None-clause-none
returns-in-None-clause-none c = λ none b are kept.
    c.wrong_used.ensures.none none b are (c.unknown_declared.ensures.none (is_none _ c.in-None.is) b are kept.0) kept
