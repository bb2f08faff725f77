use Rattle.sdl_ast.specs.Plain.{PlainBlock}
use Rattle.sdl_sound.specs.declared.fault.RuleFault.{RuleFault}
use Rattle.sdl_sound.specs.Refusals.{IsAnswered}
use Rattle.sdl_rules.specs.Expansion.{expanded}
use Rattle.sdl_rules.specs.Texts.{RefusesText, AreDeclared}
use Rattle.sdl_rules.proofs.Refusing.{found_of, is_none, divided_of_sound, sound_text}
use Rattle.sdl_rules.proofs.texts.accepted.Goals as goal

pub returns-in-Some-clause-refused : goal.returns-in-Some-clause-refused
returns-in-Some-clause-refused c = λ b are sound.
    found_of (λ (e : RuleFault). (b : PlainBlock) → AreDeclared b c.args.declared.now → IsAnswered (expanded b) → RefusesText b e) c.divisor_declared.result c.in-Some.fault c.in-Some.is
    c.divisor_declared.ensures.some b are (divided_of_sound (expanded b) sound).0

pub returns-clause-sound : goal.returns-clause-sound
returns-clause-sound c = λ b are sound.
    sound_text b sound (c.divisor_declared.ensures.none (is_none _ c.in-None.is) b are (divided_of_sound (expanded b) sound))
