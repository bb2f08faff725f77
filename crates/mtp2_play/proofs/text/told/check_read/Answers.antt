use Rattle.std.proofs.Common.{◌∙◌, sym, subst, rules}
use Rattle.std.specs.Prelude.{IsTrue}
use Rattle.script_check.specs.Checked.{IsTooLong}
use Rattle.script_check.proofs.Long.{too_many}
use Rattle.mtp2_play.proofs.CheckedSets.{of_bytes, of_long, of_some, refused}
use Rattle.mtp2_play.proofs.text.told.check_read.Goals as goal

pub returns-then-not-read : goal.returns-then-not-read
returns-then-not-read g c =
    let bytes = c.requires.bytes in
    refused bytes _ _ _ _ (c.refuse_read.ensures.printed bytes (of_bytes _ bytes (λ text. search (rules, c.requires.keeps.utf8)) c.no_text.ensures)) c.refuse_read.ensures.status

pub returns-then-is_too_long : goal.returns-then-is_too_long
returns-then-is_too_long g c =
    let read = c.args.read.now in
    let bytes = c.requires.bytes in
    let is_text : IsTrue read.is_text = search rules in
    let long : IsTooLong bytes read.kept.items = too_many bytes read c.requires.keeps (sym c.is_too_long.ensures ∙ c.if-is_too_long.true) in
    refused bytes _ _ _ _
    (c.refuse_read-then-is_too_long.ensures.printed bytes (of_long _ bytes _ (c.requires.keeps.utf8.0 is_text) (subst (IsTooLong bytes) (sym c.deref.ensures.value) long) c.too_long-refusal.ensures))
    c.refuse_read-then-is_too_long.ensures.status

pub returns-in-Ok : goal.returns-in-Ok
returns-in-Ok g c = of_some _ _ _ _ _ c.check_told.ensures
