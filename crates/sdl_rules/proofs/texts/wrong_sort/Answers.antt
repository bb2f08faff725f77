use Rattle.sdl_ast.specs.Plain.{PlainBlock}
use Rattle.sdl_sound.specs.declared.fault.RuleFault.{RuleFault}
use Rattle.sdl_sound.specs.Refusals.{IsDistinct}
use Rattle.sdl_sound.specs.Sorts.{wrong_sorts}
use Rattle.sdl_rules.specs.Expansion.{expanded}
use Rattle.sdl_rules.specs.Faults.{block_places}
use Rattle.sdl_rules.specs.Texts.{RefusesText, AreDeclared}
use Rattle.sdl_rules.proofs.Refusing.{found_of, is_none}
use Rattle.sdl_rules.proofs.texts.wrong_sort.Goals as goal

pub returns-in-Some : goal.returns-in-Some
returns-in-Some c = λ b are refused.
    found_of (λ (e : RuleFault). (b : PlainBlock) → AreDeclared b c.args.declared.now → IsDistinct (expanded b) → RefusesText b e) c.unknown_declared.result c.in-Some.lower c.in-Some.is
    c.unknown_declared.ensures.some b are refused.0.0

pub returns-in-None : goal.returns-in-None
returns-in-None c = λ b are refused.
    (c.unknown_declared.ensures.none (is_none _ c.in-None.is) b are refused.0, c.first.ensures (wrong_sorts (expanded b)) (block_places b).wrong refused.1 are.strays.wrong)
