use Rattle.std.proofs.Common.{◌∙◌, refl}
use Rattle.std.specs.Prelude.{IfOk, IfErr}
use Rattle.script_check.specs.Checked.{IsGiven, IsRefusal, IsRefusedAt, IsFound}
use Rattle.script_check.proofs.Long.{set_own, set_passed, fault_placed_own}
use Rattle.script_check.proofs.Own.{of_text}
use Rattle.script_check.proofs.sets.find_set.Goals as goal

pub returns-in-Ok-clause-set : goal.returns-in-Ok-clause-set
returns-in-Ok-clause-set g c =
    of_text g.R.Read.remaining c.in-Ok.own _ _ (λ known. IfOk c.pointed_set.result (λ v. IsGiven known (λ bytes. IsFound bytes v))) c.in-Ok.ensures.own refl
    (set_passed _ _ _ c.pointed_set.ensures.set (set_own _ _ c.own_set.ensures.set))

pub returns-in-Ok-clause-fault : goal.returns-in-Ok-clause-fault
returns-in-Ok-clause-fault g c =
    of_text g.R.Read.remaining c.in-Ok.own _ _
    (λ known. IfErr c.pointed_set.result (λ r. IsRefusal r.fault → IsGiven known (λ bytes. IsRefusedAt bytes r))) c.in-Ok.ensures.own refl
    (fault_placed_own _ _ _ _ (c.as_bytes.ensures.value ∙ c.text.ensures) c.pointed_set.ensures.fault c.own_set.ensures.fault)
