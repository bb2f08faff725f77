-- Laws that follow from the definitions.
use Rattle.std.specs.Prelude.{◌≡◌, ◌↔◌, List, [], ◌∷◌, Some, ⊤}
use Rattle.sdl_ast.specs.Plain.{PlainSynonym, PlainProcess, PlainBlock}
use Rattle.sdl_ast.specs.Synonymless.{IsPlain}
use Rattle.sdl_tables.specs.Names.{processes_of}
use Rattle.sdl_sound.specs.Sound.{Sound}
use Rattle.sdl_sound.specs.Refusals.{Refuses}
use Rattle.sdl_sound.specs.declared.fault.RuleFault.{RuleFault}
use Rattle.sdl_meaning.specs.Valued.{valued}
use Rattle.sdl_rules.specs.Synonyms.{Known, Sight, expanded_tree, value_of_synonym, and_synonym}
use Rattle.sdl_rules.specs.Expansion.{synonyms_of, own_synonyms_of, first_sight, block_known}
use Rattle.sdl_rules.specs.Expansion.{outer_sight, expanded}
use Rattle.sdl_rules.specs.Texts.{WellDeclared, SoundText, RefusesText}

-- A text means what is written, and the rules on what is written decide whether it is accepted.
pub record MeansItself (b : PlainBlock) : Type 0 where
  pub meaning : expanded b ≡ b
  pub accepted : Sound b → SoundText b
  pub refused : (f : RuleFault) → RefusesText b f ↔ Refuses b f

-- So it is with each text without synonyms.
abbrev pub PlainLaw : Type 0
PlainLaw = (b : PlainBlock) → IsPlain b → MeansItself b

-- ---- the values of synonyms

-- The value of each synonym is that of its expression, in which earlier synonyms have their values.
abbrev pub AreValued : Sight → List PlainSynonym → Type 0
AreValued s [] = ⊤
AreValued s (d ∷ ds) =
    (valued [] (expanded_tree s d.value) [] ≡ Some (value_of_synonym s d))
    × AreValued (and_synonym s d) ds

abbrev pub AreAllValued : Known → List PlainProcess → Type 0
AreAllValued k [] = ⊤
AreAllValued k (p ∷ ps) = AreValued (outer_sight k p) (own_synonyms_of p) × AreAllValued k ps

-- those of a block and of its processes
pub record HaveValues (b : PlainBlock) : Type 0 where
  pub block : AreValued first_sight (synonyms_of b)
  pub processes : AreAllValued (block_known b) (processes_of b)

-- If the declarations of a text break no rule, each synonym has the value of its expression.
abbrev pub SynonymsLaw : Type 0
SynonymsLaw = (b : PlainBlock) → WellDeclared b → HaveValues b
