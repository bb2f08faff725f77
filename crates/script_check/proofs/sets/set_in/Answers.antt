use Rattle.std.proofs.Common.{◌≡◌, ◌∙◌, List, ℕ, sym, subst, rules}
use Rattle.std.specs.Prelude.{IsTrue, IsUtf8}
use Rattle.script_check.specs.Checked.{IsTooLong}
use Rattle.script_check.proofs.Long.{all_kept, too_many, not_accepted, set_kept, fault_kept}
use Rattle.script_check.proofs.sets.set_in.Goals as goal

pub returns-then-is_too_long-clause-fault : goal.returns-then-is_too_long-clause-fault
returns-then-is_too_long-clause-fault c judged bytes keeps =
    let long : IsTooLong bytes c.args.read.now.kept.items = too_many bytes c.args.read.now keeps (sym c.is_too_long.ensures ∙ c.if-is_too_long.true) in
    let is_text : IsTrue c.args.read.now.is_text = search rules in
    let P : List ℕ → Type 0 = λ kept. IsTooLong bytes kept in
    record {
      is_so = (keeps.utf8.0 is_text, c.too_long.ensures bytes (subst P (sym c.deref.ensures.value) long));
      refused = not_accepted bytes c.args.read.now.kept.items long;
    }

pub returns-in-Ok-clause-set : goal.returns-in-Ok-clause-set
returns-in-Ok-clause-set c =
    set_kept _ c.in-Ok.text.now c.args.read.now
    (λ bytes keeps. c.in-Ok.ensures.cases.0 ∙ (c.deref-2.ensures.value ∙ all_kept bytes c.args.read.now keeps (sym c.is_too_long.ensures ∙ c.if-is_too_long.false)))
    c.text_set.ensures.set

pub returns-in-Ok-clause-fault : goal.returns-in-Ok-clause-fault
returns-in-Ok-clause-fault c =
    fault_kept _ c.in-Ok.text.now c.args.read.now
    (λ bytes keeps. c.in-Ok.ensures.cases.0 ∙ (c.deref-2.ensures.value ∙ all_kept bytes c.args.read.now keeps (sym c.is_too_long.ensures ∙ c.if-is_too_long.false)))
    c.text_set.ensures.fault

pub returns-in-Err-clause-fault : goal.returns-in-Err-clause-fault
returns-in-Err-clause-fault c judged bytes keeps =
    let is_text : IsTrue c.args.read.now.is_text = search rules in
    let same : c.deref-2.result.now ≡ bytes = c.deref-2.ensures.value ∙ all_kept bytes c.args.read.now keeps (sym c.is_too_long.ensures ∙ c.if-is_too_long.false) in
    absurd (c.in-Err.ensures.cases.0 (subst IsUtf8 (sym same) (keeps.utf8.0 is_text)))
