use Rattle.std.proofs.Common.{◌≡◌, refl, rules}
use Rattle.std.specs.Bool.{Decides}
use Rattle.std.proofs.lemmas.Slice.Eq.{slice_eq-Decides}
use Rattle.turn_code.specs.contracts.value.SortPartialEq.TheImpl.{eq-value as eq}
use Rattle.turn_code.specs.declared.value.Sort.{Sort}
use Rattle.turn_code.specs.declared.value.Sort.TheVariants.{Integer, Boolean}
use Rattle.link_processes.proofs.wanted.are_sorts.Goals as goal

-- `==` on two sorts
same_sort : (a b : Sort) → Decides (eq.it a b) (a ≡ b)
same_sort Integer Integer = (λ h. refl, λ h. refl)
same_sort Integer Boolean = (λ h. search rules, λ h. search rules)
same_sort Boolean Integer = (λ h. search rules, λ h. search rules)
same_sort Boolean Boolean = (λ h. refl, λ h. refl)

pub returns : goal.returns
returns c = slice_eq-Decides same_sort _ _ _ c.eq.ensures
