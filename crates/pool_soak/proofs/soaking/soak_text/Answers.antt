use Rattle.std.proofs.Common.{◌≡◌, ◌∙◌, Ok, inl, inr, ap, sym, subst}
use Rattle.std.specs.Prelude.{IsUtf8}
use Rattle.pool_soak.specs.Scripts.{soak_of, plain_soak, IsFaultOf}
use Rattle.script_check.proofs.Long.{all_kept}
use Rattle.pool_soak.proofs.Texts.{too_long, turned, bad_line, is_not}
use Rattle.pool_soak.proofs.soaking.soak_text.Goals as goal
use Rattle.plain_laws.proofs.Numbers.{not_refused}

pub returns-then-not-read-clause-ends : goal.returns-then-not-read-clause-ends
returns-then-not-read-clause-ends g c bytes keeps =
    let no = is_not _ c.if-not-read.true in
    turned _ _ _ bytes c.refuse.ensures.status
    (λ two. inl (record { no_text = λ utf8. no (keeps.utf8.1 utf8); printed = c.refuse.ensures.printed two }))

pub returns-then-is_too_long-clause-ends : goal.returns-then-is_too_long-clause-ends
returns-then-is_too_long-clause-ends g c bytes keeps =
    let is_text = c.if-not-read.false in
    let reads =
    too_long bytes c.deref.result.now c.args.read.now c.line_at_limit-line.result keeps (sym c.is_too_long.ensures ∙ c.if-is_too_long.true) c.deref.ensures.value
    c.line_at_limit-line.ensures in
    turned _ _ _ bytes c.refuse_script.ensures.status
    (λ two. inr (record { utf8 = keeps.utf8.0 is_text; line = c.line_at_limit-line.result; reads = reads; printed = c.refuse_script.ensures.printed two }))

pub returns-in-Ok-soak_script-clause-ends : goal.returns-in-Ok-soak_script-clause-ends
returns-in-Ok-soak_script-clause-ends g c bytes keeps =
    let is_text = c.if-not-read.false in
    let utf8 = keeps.utf8.0 is_text in
    let same : c.in-Ok.text.now ≡ bytes =
    c.in-Ok.ensures.cases.0 ∙ (c.deref-2.ensures.value ∙ all_kept bytes c.args.read.now keeps (sym c.is_too_long.ensures ∙ c.if-is_too_long.false)) in
    let reads : soak_of bytes ≡ Ok (plain_soak c.in-Ok-soak_script.script) = ap soak_of (sym same) ∙ c.in-Ok-soak_script.ensures.script in
    record {
      held = λ zero. record { utf8 = utf8; script = _; reads = reads; printed = c.run_script.ensures.held zero };
      differs = λ one. record { utf8 = utf8; script = _; reads = reads; printed = c.run_script.ensures.differs one };
      refused = λ two. absurd (not_refused _ c.run_script.ensures.status two);
    }

pub returns-in-Err-soak_script-clause-ends : goal.returns-in-Err-soak_script-clause-ends
returns-in-Err-soak_script-clause-ends g c bytes keeps =
    let is_text = c.if-not-read.false in
    let same : c.in-Ok.text.now ≡ bytes =
    c.in-Ok.ensures.cases.0 ∙ (c.deref-2.ensures.value ∙ all_kept bytes c.args.read.now keeps (sym c.is_too_long.ensures ∙ c.if-is_too_long.false)) in
    turned _ _ _ bytes c.refuse_script-in-Err-soak_script.ensures.status
    (λ two. bad_line _ _ bytes c.in-Err-soak_script.fault (keeps.utf8.0 is_text) (subst (λ t. IsFaultOf t c.in-Err-soak_script.fault) same c.in-Err-soak_script.ensures.fault)
    (c.refuse_script-in-Err-soak_script.ensures.printed two))

pub returns-in-Err-clause-ends : goal.returns-in-Err-clause-ends
returns-in-Err-clause-ends g c bytes keeps =
    let same = c.deref-2.ensures.value ∙ all_kept bytes c.args.read.now keeps (sym c.is_too_long.ensures ∙ c.if-is_too_long.false) in
    turned _ _ _ bytes c.refuse-in-Err.ensures.status
    (λ two. inl (record { no_text = λ utf8. c.in-Err.ensures.cases.0 (subst IsUtf8 (sym same) utf8); printed = c.refuse-in-Err.ensures.printed two }))
