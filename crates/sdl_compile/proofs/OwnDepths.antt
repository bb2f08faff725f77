-- The depth of a text without the connections that it joins, and a property of all its actions.
use Rattle.std.proofs.Common.{◌≡◌, ℕ, max, List, refl, arith}
use Rattle.sdl_ast.specs.Plain.{PlainAction, Text, falls, ends, does, decides, Choice, nothing_else, otherwise, answer}
use Rattle.sdl_sound.specs.Longest.{depth, choice_depth}

-- ---- the depth of a text without the connections that it joins

abbrev pub none_joined : List ℕ → ℕ
none_joined x = 0

abbrev pub own : Text → ℕ
own t = depth none_joined t

abbrev pub choice_own : Choice → ℕ
choice_own choice = choice_depth none_joined choice

abbrev pub else_own : Choice → ℕ
else_own nothing_else = 0
else_own (otherwise body) = own body
else_own (answer at rs body others) = else_own others

abbrev pub answers_own : Choice → ℕ
answers_own nothing_else = 0
answers_own (otherwise body) = 0
answers_own (answer at rs body others) = max (own body) (answers_own others)

pub both_own : (choice : Choice) → max (else_own choice) (answers_own choice) ≡ choice_own choice
both_own nothing_else = refl
both_own (otherwise body) = omega arith
both_own (answer at rs body others) = let h = both_own others in omega (arith, h)

-- Each action of a text is right.
module _ (Right : PlainAction → Type 0) where
  abbrev mutual
    pub AllRight : Text → Type 0
    AllRight falls = Unit {0}
    AllRight (ends e) = Unit {0}
    AllRight (does a rest) = Right a × AllRight rest
    AllRight (decides at q choice rest) = ChoiceRight choice × AllRight rest

    pub ChoiceRight : Choice → Type 0
    ChoiceRight nothing_else = Unit {0}
    ChoiceRight (otherwise body) = AllRight body
    ChoiceRight (answer at rs body others) = AllRight body × ChoiceRight others
