use Rattle.std.proofs.Common.{ℕ, Bool, cond, eqb, List, ◌∷◌, [], sym, ap, subst, ◌∙◌}
use Rattle.m3ua_frames.specs.declared.kinds.Kind.TheVariants as kind
use Rattle.m3ua_frames.specs.Tags.{ROUTING_CONTEXT, ERROR_CODE}
use Rattle.m3ua_frames.specs.Parameters.{AreParameters, value_of}
use Rattle.m3ua_gateway.specs.Contexts.{others_in}
use Rattle.m3ua_gateway.specs.Sending.{number, numbers, same_value, has_contexts, of_error, octets_of}
use Rattle.std.proofs.lemmas.Bool.{ne_eqb}
use Rattle.m3ua_gateway.proofs.sending.error.Goals as goal

pub returns-then-code-eq-INVALID_CONTEXT : goal.returns-then-code-eq-INVALID_CONTEXT
returns-then-code-eq-INVALID_CONTEXT c = λ ps read.
    let are = subst (λ (xs : List ℕ). AreParameters xs ps) (sym c.parameters_of.ensures.value) (read (ap has_contexts c.if-code-eq-INVALID_CONTEXT.true)) in
    c.invalid_context.ensures ps are ∙ ap (λ (n : ℕ). octets_of kind.Error (number ERROR_CODE n ∷ of_error c.args.context n ps)) (sym c.if-code-eq-INVALID_CONTEXT.true)

pub returns-then-code-eq-UNEXPECTED : goal.returns-then-code-eq-UNEXPECTED
returns-then-code-eq-UNEXPECTED c = λ ps read.
    let are = subst (λ (xs : List ℕ). AreParameters xs ps) (sym c.parameters_of-then-code-eq-UNEXPECTED.ensures.value) (read (ap has_contexts c.if-code-eq-UNEXPECTED.true)) in
    c.unexpected.ensures ps are ∙ ap (λ (n : ℕ). octets_of kind.Error (number ERROR_CODE n ∷ of_error c.args.context n ps)) (sym c.if-code-eq-UNEXPECTED.true)

pub returns-else-code-eq-UNEXPECTED : goal.returns-else-code-eq-UNEXPECTED
returns-else-code-eq-UNEXPECTED c = λ ps read.
    c.bare_error.ensures
    ∙ ap (λ (b : Bool). octets_of kind.Error (number ERROR_CODE c.args.code ∷ cond b (same_value ROUTING_CONTEXT (value_of ROUTING_CONTEXT ps)) [])) (sym (ne_eqb c.args.code 0x06 c.if-code-eq-UNEXPECTED.false))
    ∙ ap (λ (b : Bool). octets_of kind.Error (number ERROR_CODE c.args.code ∷ cond b (numbers ROUTING_CONTEXT (others_in c.args.context (value_of ROUTING_CONTEXT ps))) (cond (eqb c.args.code 0x06) (same_value ROUTING_CONTEXT (value_of ROUTING_CONTEXT ps)) [])))
    (sym (ne_eqb c.args.code 0x19 c.if-code-eq-INVALID_CONTEXT.false))
