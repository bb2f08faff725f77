-- The sound texts, and the refusals of texts: the rules on the text with values in place of its
-- synonyms, and on its declarations of synonyms.
use Rattle.std.specs.Prelude.{◌≡◌, ◌++◌, [], Contains, ⊤}
use Rattle.sdl_ast.specs.Plain.{PlainBlock}
use Rattle.sdl_ast.specs.Views.{block_of}
use Rattle.sdl_tables.specs.Scopes.{Marks, double_names}
use Rattle.sdl_sound.specs.Names.{unknown_names}
use Rattle.sdl_sound.specs.Sorts.{wrong_sorts}
use Rattle.sdl_sound.specs.Divisors.{bad_divisors}
use Rattle.sdl_sound.specs.Sound.{Sound}
use Rattle.sdl_sound.specs.Refusals.{IsDistinct, IsKnown, IsSorted, IsAnswered, IsDivided, Refuses}
use Rattle.sdl_sound.specs.declared.fault.RuleFault.{RuleFault}
use Rattle.sdl_sound.specs.declared.fault.RuleFault.TheVariants.{DoubleName, UnknownName, WrongSort}
use Rattle.sdl_sound.specs.declared.fault.RuleFault.TheVariants.{NoState, NoReceiver, TwoReceivers}
use Rattle.sdl_sound.specs.declared.fault.RuleFault.TheVariants.{JoinCycle, NoAnswer, BadDivisor}
use Rattle.sdl_sound.specs.declared.fault.RuleFault.TheVariants.{Limit, Unset, NoMemory}
use Rattle.sdl_rules.specs.Expansion.{block_known, expanded}
use Rattle.sdl_rules.specs.Faults.{double_synonyms, block_places, AreOf}
use Rattle.sdl_rules.specs.declared.expansion.Expansion as the_expansion
use Rattle.sdl_rules.specs.declared.expansion.Misdeclared.{Misdeclared}
use Rattle.sdl_rules.specs.Views.{known_of}

-- the declarations of synonyms break no rule
pub record WellDeclared (b : PlainBlock) : Type 0 where
  pub distinct : double_synonyms b ≡ []
  pub known : (block_places b).unknown ≡ []
  pub sorted : (block_places b).wrong ≡ []
  pub divided : (block_places b).divisors ≡ []

-- no rule is broken, in the meaning of the text or in its declarations
pub record SoundText (b : PlainBlock) : Type 0 where
  pub sound : Sound (expanded b)
  pub declared : WellDeclared b

-- The rules by number: each of these states that neither its own rule nor one with a lesser number
-- is broken.

abbrev pub AreDistinct : PlainBlock → Type 0
AreDistinct b = IsDistinct (expanded b) × (double_synonyms b ≡ [])

abbrev pub AreKnown : PlainBlock → Type 0
AreKnown b = AreDistinct b × IsKnown (expanded b) × ((block_places b).unknown ≡ [])

abbrev pub AreSorted : PlainBlock → Type 0
AreSorted b = AreKnown b × IsSorted (expanded b) × ((block_places b).wrong ≡ [])

abbrev pub AreDivided : PlainBlock → Type 0
AreDivided b = AreSorted b × IsDivided (expanded b) × ((block_places b).divisors ≡ [])

-- A refusal names a rule that is broken at its place, and no rule with a lesser number is broken
-- anywhere.
abbrev pub RefusesText : PlainBlock → RuleFault → Type 0
RefusesText b (DoubleName at) = Contains (double_names (expanded b) ++ double_synonyms b) at
RefusesText b (UnknownName at) =
    AreDistinct b × Contains (unknown_names (expanded b) ++ (block_places b).unknown) at
RefusesText b (WrongSort at) =
    AreKnown b × Contains (wrong_sorts (expanded b) ++ (block_places b).wrong) at
RefusesText b (NoState at) = AreSorted b × Refuses (expanded b) (NoState at)
RefusesText b (NoReceiver at) = AreSorted b × Refuses (expanded b) (NoReceiver at)
RefusesText b (TwoReceivers at) = AreSorted b × Refuses (expanded b) (TwoReceivers at)
RefusesText b (JoinCycle at) = AreSorted b × Refuses (expanded b) (JoinCycle at)
RefusesText b (NoAnswer at) = AreSorted b × Refuses (expanded b) (NoAnswer at)
RefusesText b (BadDivisor at) =
    AreSorted b × IsAnswered (expanded b)
    × Contains (bad_divisors (expanded b) ++ (block_places b).divisors) at
RefusesText b (Limit which) = AreDivided b × Refuses (expanded b) (Limit which)
RefusesText b (Unset x path) = AreDivided b × Refuses (expanded b) (Unset x path)
RefusesText b NoMemory = ⊤

-- ---- the data of the code

-- a place of each of S1, S2, S3 and S9 in the declarations
pub record AreDeclared (b : PlainBlock) (found : Misdeclared) : Type 0 where
  pub double : Marks found.double (double_synonyms b)
  pub strays : AreOf (block_places b) found.strays

-- the text with values, the synonyms of its block, and the faults of its declarations
pub record IsExpansion (b : PlainBlock) (x : the_expansion.Expansion) : Type 0 where
  pub block : block_of x.block ≡ expanded b
  pub known : known_of x.known ≡ block_known b
  pub declared : AreDeclared b x.declared
