use Rattle.std.proofs.Common.{◌≡◌, ◌∙◌, ◌++◌, ap, arith, codes, decimal}
use Rattle.std.specs.Prelude.{string_bytes}
use Rattle.std.proofs.lemmas.Result.{IfOk-weaker}
use Rattle.draw_diff.specs.Ways.{ways_in}
use Rattle.mtp2_play.specs.Compared.{same_text}
use Rattle.mtp2_play.proofs.Comparing.{same_of}
use Rattle.mtp2_play.proofs.text.diff.same_line.Goals as goal

pub returns : goal.returns
returns c =
    let same = c.saturating_sub-same.result in
    let all = c.saturating_add-all.result in
    IfOk-weaker c.format.result (λ t. string_bytes t ≡ codes "same " ++ (decimal same ++ (codes " of " ++ (decimal all ++ codes "\n"))))
    (λ t. string_bytes t ≡ same_text c.args.old.now c.args.new.now)
    (λ t is. same_of c.args.old.now c.args.new.now c.args.found.now c.in_ok-known.known same all c.deref.result.now c.deref-2.result.now (string_bytes t)
    c.requires (c.in_ok-known.ensures ∙ ap ways_in c.draft.ensures.value) c.deref.ensures.value c.deref-2.ensures.value
    (omega (arith, c.saturating_sub-same.ensures, c.lines_in.ensures)) (omega (arith, c.saturating_add-all.ensures, c.lines_in-2.ensures)) is) c.format.ensures.ok
