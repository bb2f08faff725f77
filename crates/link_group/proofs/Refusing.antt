-- Running out of memory is no refusal.
use Rattle.std.proofs.Common.{◌≡◌, ℕ, ◌==◌, ◌&&◌, Bool, true, false, not, Option, Some, None, refl, sym, ◌∙◌}
use Rattle.std.specs.Prelude.{nat_lt, if◌then◌else◌, is_some}
use Rattle.plain_laws.proofs.Options.{none_some}
use Rattle.group_changeover.specs.declared.availability.Changing.{Changing}
use Rattle.group_changeover.specs.Limits.{T2}
use Rattle.group_changeover.specs.Saying.{count_in}
use Rattle.link_group.specs.declared.link.Link.{Link}
use Rattle.group_changeover.specs.declared.errors.RetrieveError.{RetrieveError}
use Rattle.group_changeover.specs.declared.errors.RetrieveError.TheVariants as retrieve
use Rattle.link_group.specs.OneLink.{unknown, unsure_by, retrieve_fault, retrieve_fault_by, retrieve_fault_in, but_memory}

unsure_some : (n : ℕ) (b : Bool) → (if b then None else Some (retrieve.Unsure n)) ≡ Some retrieve.NoMemory → ⊥
unsure_some n true e = none_some e
unsure_some n false e = cc

never_by : (a b : Bool) (n : ℕ) (o : Option ℕ) → (if a then Some retrieve.Waiting else (if b then Some retrieve.Waiting else unsure_by n o)) ≡ Some retrieve.NoMemory → ⊥
never_by true b n o e = cc
never_by false true n o e = cc
never_by false false n (Some f) e = none_some e
never_by false false n None e = unsure_some n (n == 0) e

never_in : (k : Link) (o : Option Changing) → retrieve_fault_by k o ≡ Some retrieve.NoMemory → ⊥
unfolding retrieve_fault_in
never_in k None e = cc
never_in k (Some c) e = never_by (is_some c.retrieval) (not (is_some c.answer) && nat_lt c.waited T2) (unknown k) (count_in c.answer) e

told_by : (k : Link) (f : RetrieveError) → retrieve_fault k ≡ Some f → but_memory f ≡ Some f
unfolding retrieve_fault
told_by k retrieve.NoLink e = refl
told_by k retrieve.Waiting e = refl
told_by k (retrieve.Unsure n) e = refl
told_by k retrieve.NoMemory e = absurd (never_in k k.availability.changing e)

pub refusal_told : (k : Link) (f : RetrieveError) → Some f ≡ retrieve_fault k → but_memory f ≡ retrieve_fault k
refusal_told k f e = told_by k f (sym e) ∙ e
