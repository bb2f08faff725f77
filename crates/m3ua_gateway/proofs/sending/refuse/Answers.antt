use Rattle.std.proofs.Common.{ℕ, Bool, cond, List, [], ◌∷◌, take, sym, ap, ◌∙◌}
use Rattle.m3ua_frames.specs.declared.kinds.Kind.TheVariants as kind
use Rattle.m3ua_frames.specs.Tags.{DIAGNOSTIC, ERROR_CODE}
use Rattle.m3ua_gateway.specs.Sending.{number, octets_of}
use Rattle.m3ua_gateway.proofs.sending.refuse.Goals as goal

pub returns-then-is_diagnosed : goal.returns-then-is_diagnosed
returns-then-is_diagnosed c =
    c.error_with.ensures ∙ ap (λ (xs : List ℕ). octets_of kind.Error (number ERROR_CODE c.args.code ∷ record { tag = DIAGNOSTIC; value = xs } ∷ [])) c.beginning.ensures.value
    ∙ ap (λ (b : Bool). octets_of kind.Error (number ERROR_CODE c.args.code ∷ cond b (record { tag = DIAGNOSTIC; value = take 40 c.args.heard.now } ∷ []) [])) (sym (sym c.is_diagnosed.ensures ∙ c.if-is_diagnosed.true))

pub returns-else-is_diagnosed : goal.returns-else-is_diagnosed
returns-else-is_diagnosed c =
    c.bare_error.ensures
    ∙ ap (λ (b : Bool). octets_of kind.Error (number ERROR_CODE c.args.code ∷ cond b (record { tag = DIAGNOSTIC; value = take 40 c.args.heard.now } ∷ []) [])) (sym (sym c.is_diagnosed.ensures ∙ c.if-is_diagnosed.false))
