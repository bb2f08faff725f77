use Rattle.std.proofs.Common.{List, sym, subst, ◌∙◌}
use Rattle.std.specs.Prelude.{Ok}
use Rattle.std.proofs.lemmas.Result.{IfOk-weaker}
use Rattle.sdl_lex.specs.declared.lexemes.Token.{Token}
use Rattle.sdl_tree.specs.Syntax.{Reads}
use Rattle.mtp2_text.proofs.Tokens.{same_tokens, no_tokens}
use Rattle.mtp2_text.proofs.limits.text_limits.Goals as goal

pub returns-in-Ok-clause-read : goal.returns-in-Ok-clause-read
returns-in-Ok-clause-read c =
    IfOk-weaker c.read_limits.result _ _
    (λ limits h ts b written.
    h b (subst (λ (l : List Token). Reads l b) (same_tokens ts _ (c.in-Ok.ensures.exact (Ok ts) written.lexed) ∙ sym c.deref.ensures.value) written.reads) written.low)
    c.read_limits.ensures.read

pub returns-in-Ok-clause-unread : goal.returns-in-Ok-clause-unread
returns-in-Ok-clause-unread c =
    IfOk-weaker c.read_limits.result _ _
    (λ limits h none. h (λ b reads low. none c.in-Ok.tokens.items b (record {
      lexed = c.in-Ok.ensures.lexed;
      reads = subst (λ (l : List Token). Reads l b) c.deref.ensures.value reads;
      low = low;
    })))
    c.read_limits.ensures.unread

pub returns-in-Err-clause-read : goal.returns-in-Err-clause-read
returns-in-Err-clause-read c =
    IfOk-weaker c.unlexed_limits.result _ _ (λ limits other ts b written. absurd (no_tokens c.in-Err.fault ts other (c.in-Err.ensures.exact (Ok ts) written.lexed)))
    c.unlexed_limits.ensures.other

pub returns-in-Err-clause-unread : goal.returns-in-Err-clause-unread
returns-in-Err-clause-unread c = IfOk-weaker c.unlexed_limits.result _ _ (λ limits is none. is) c.unlexed_limits.ensures.none
