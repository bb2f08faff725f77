use Rattle.sdl_ast.specs.Plain.{PlainBlock}
use Rattle.sdl_sound.specs.declared.fault.RuleFault.{RuleFault}
use Rattle.sdl_sound.specs.Names.{unknown_names}
use Rattle.sdl_rules.specs.Expansion.{expanded}
use Rattle.sdl_rules.specs.Faults.{block_places}
use Rattle.sdl_rules.specs.Texts.{RefusesText, AreDeclared}
use Rattle.sdl_rules.proofs.Refusing.{found_of, is_none}
use Rattle.sdl_rules.proofs.texts.unknown_name.Goals as goal

pub returns-in-Some : goal.returns-in-Some
returns-in-Some c = λ b are refused.
    found_of (λ (e : RuleFault). (b : PlainBlock) → AreDeclared b c.args.declared.now → RefusesText b e) c.double_declared.result c.in-Some.lower c.in-Some.is
    c.double_declared.ensures.some b are

pub returns-in-None : goal.returns-in-None
returns-in-None c = λ b are refused.
    (c.double_declared.ensures.none (is_none _ c.in-None.is) b are refused.0, c.first.ensures (unknown_names (expanded b)) (block_places b).unknown refused.1 are.strays.unknown)
