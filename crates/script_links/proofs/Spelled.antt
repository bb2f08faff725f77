-- Readers of words, given too few words or many.
use Rattle.std.proofs.Common.{◌≡◌, ℕ, ◌<◌, ◌≤◌, List, [], ◌∷◌, length, Bor, None, refl, arith}
use Rattle.std.specs.Prelude.{option_and_then}
use Rattle.script_lines.specs.Lines.{texts}
use Rattle.script_links.specs.GroupCommands.{shared_of, group_command_of}
use Rattle.script_links.specs.TermCommands.{words_of, term_command_of}
use Rattle.script_links.specs.UnitWords.{unit_of_words}

pub other_unit : (ws : List (Bor (List ℕ))) → length ws < 9 → None ≡ unit_of_words (texts ws)
other_unit [] few = refl
other_unit (a ∷ []) few = refl
other_unit (a ∷ b ∷ []) few = refl
other_unit (a ∷ b ∷ c ∷ []) few = refl
other_unit (a ∷ b ∷ c ∷ d ∷ []) few = refl
other_unit (a ∷ b ∷ c ∷ d ∷ e ∷ []) few = refl
other_unit (a ∷ b ∷ c ∷ d ∷ e ∷ f ∷ []) few = refl
other_unit (a ∷ b ∷ c ∷ d ∷ e ∷ f ∷ g ∷ []) few = refl
other_unit (a ∷ b ∷ c ∷ d ∷ e ∷ f ∷ g ∷ h ∷ []) few = refl
other_unit (a ∷ b ∷ c ∷ d ∷ e ∷ f ∷ g ∷ h ∷ i ∷ more) few = absurd (omega (arith, few))

pub other_command : (ws : List (Bor (List ℕ))) → 3 ≤ length ws → words_of (texts ws) ≡ term_command_of (texts ws)
other_command [] many = absurd (omega (arith, many))
other_command (a ∷ []) many = absurd (omega (arith, many))
other_command (a ∷ b ∷ []) many = absurd (omega (arith, many))
other_command (a ∷ b ∷ c ∷ more) many = refl

pub other_group : (ws : List (Bor (List ℕ))) → 3 ≤ length ws → option_and_then shared_of (term_command_of (texts ws)) ≡ group_command_of (texts ws)
other_group [] many = absurd (omega (arith, many))
other_group (a ∷ []) many = absurd (omega (arith, many))
other_group (a ∷ b ∷ []) many = absurd (omega (arith, many))
other_group (a ∷ b ∷ c ∷ more) many = refl
