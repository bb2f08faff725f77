-- Received messages that aren't passed on.
use Rattle.std.proofs.Common.{◌≡◌, ◌∙◌, ℕ, ◌<◌, nat_le, Bool, false, if◌then◌else◌, [], ◌∷◌, sym, ap, arith}
use Rattle.std.proofs.lemmas.Bool.Decides.{nat_tests}
use Rattle.resend_store.specs.declared.messages.Msu.{Msu}
use Rattle.line_tending.specs.Came.{came}
use Rattle.line_tending.specs.Telling.{is_for_user, is_for_user_by, message_told}
use Rattle.line_tending.specs.declared.came.Came.{Came}
use Rattle.line_tending.specs.declared.tended_set.TendPlan.{TendPlan}
use Rattle.line_tending.specs.declared.told.Told.TheVariants.{Message}

of_came : (p : TendPlan) (m : Msu) (what : Came) → what ≡ came p.ends m → is_for_user p m ≡ is_for_user_by p.links what
of_came p m what is = ap (λ (x : Came). is_for_user_by p.links x) (sym is)

-- A message that isn't for level 3.
pub unheard : (p : TendPlan) (link : ℕ) (m : Msu) (what : Came) → what ≡ came p.ends m → is_for_user_by p.links what ≡ false → message_told p link m ≡ []
unheard p link m what is not = ap (λ (b : Bool). if b then Message link m ∷ [] else []) (of_came p m what is ∙ not)

-- A link of the set.
pub of_a_link : (links about : ℕ) → about < links → nat_le links about ≡ false
of_a_link links about there = grind (arith, nat_tests)
