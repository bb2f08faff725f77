-- The meaning of the certificate of a transition.
use Rattle.std.specs.Prelude.{◌≡◌, ℕ, ◌≤◌, Some}
use Rattle.turn_code.specs.Limits.{MOST_EFFECTS, MOST_INSTRUCTIONS, MOST_OPERANDS}
use Rattle.turn_code.specs.Transitions.{Transition, transition_at}
use Rattle.turn_code.specs.Rules.{greatest, depths}
use Rattle.turn_code.specs.Paths.{IsLongest, IsMostEffects}
use Rattle.turn_code.specs.declared.input.Place.{Place}
use Rattle.turn_code.specs.declared.draft.Draft.{Draft}
use Rattle.turn_code.specs.declared.draft.Cert.{Cert}

-- the budget is the length of the longest path, the depth the greatest number of operands at a
-- place, and the effects the most of any path; each is within its limit
pub record IsCertified (d : Draft) (p : ℕ) (s : Place) (i : ℕ) (c : Cert) : Type 0 where
  pub transition : Transition
  pub there : transition_at d p s i ≡ Some transition
  pub budget : IsLongest transition.piece.code c.budget
  pub depth : c.depth ≡ greatest (depths transition.piece.facts)
  pub effects : IsMostEffects transition.piece.code c.effects
  pub budget_fits : c.budget ≤ MOST_INSTRUCTIONS
  pub depth_fits : c.depth ≤ MOST_OPERANDS
  pub effects_fits : c.effects ≤ MOST_EFFECTS
