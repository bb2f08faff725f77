use Rattle.std.proofs.Common.{◌≡◌, ◌++◌, ◌-◌, List, ℕ, length, ap, sym, subst, ◌∙◌, append_assoc}
use Rattle.std.specs.Prelude.{◌↔◌, IsTrue, IsUtf8, replicate}
use Rattle.plain_text.proofs.Blocks.{padded}
use Rattle.plain_text.proofs.check.TextCheck.is_text.Goals as goal

pub returns : goal.returns
returns c bytes held =
    let waiting : List ℕ = c.args.self.now.waiting.items in
    let block : c.block_of.result ≡ waiting ++ replicate (64 - length waiting) 0 = c.block_of.ensures ∙ ap (λ bs. bs ++ replicate (64 - length bs) 0) c.as_slice.ensures.value in
    let all : held.blocks ++ c.block_of.result ≡ bytes ++ replicate (64 - length waiting) 0 =
    ap (λ bs. held.blocks ++ bs) block ∙ (sym (append_assoc held.blocks waiting (replicate (64 - length waiting) 0)) ∙ ap (λ bs. bs ++ replicate (64 - length waiting) 0) (sym held.parts)) in
    let said : IsTrue c.finish.result ↔ IsUtf8 (held.blocks ++ c.block_of.result) = c.finish.ensures _ (c.step.ensures held.blocks held.checked) in
    let pad = padded bytes (64 - length waiting) in
    (λ t. pad.0 (subst IsUtf8 all (said.0 t)), λ u. said.1 (subst IsUtf8 (sym all) (pad.1 u)))
