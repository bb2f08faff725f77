use Rattle.std.proofs.Common.{◌≡◌, ◌++◌, [], ◌-◌, List, ℕ, length, ap, sym, ◌∙◌, arith}
use Rattle.std.specs.Prelude.{replicate}
use Rattle.plain_text.proofs.Blocks.{filled}
use Rattle.plain_text.proofs.check.TextCheck.push.Goals as goal

pub returns-then-len-eq-BLOCK : goal.returns-then-len-eq-BLOCK
returns-then-len-eq-BLOCK c bytes held =
    let pushed : List ℕ = c.push.new.self.items in
    let block : c.block_of.result ≡ pushed ++ replicate (64 - length pushed) 0 = c.block_of.ensures ∙ ap (λ bs. bs ++ replicate (64 - length bs) 0) c.as_slice.ensures.value in
    record {
      blocks = held.blocks ++ c.block_of.result;
      checked = c.step-self.ensures held.blocks held.checked;
      parts =
          filled bytes held.blocks c.args.self.now.waiting.items pushed c.args.byte held.parts c.push.ensures.items (omega arith)
          ∙ (ap (λ bs. (held.blocks ++ bs) ++ []) (sym block) ∙ ap (λ bs. (held.blocks ++ c.block_of.result) ++ bs) (sym c.clear.ensures));
    }
