use Rattle.std.proofs.Common.{◌≡◌, ℕ, List, [], ◌∷◌, ◌++◌, ap, sym, ◌∙◌, Some}
use Rattle.std.specs.List.{flat_map}
use Rattle.m3ua_frames.specs.declared.kinds.Kind.TheVariants as kind
use Rattle.m3ua_frames.specs.Numbers.{octets_4}
use Rattle.m3ua_frames.specs.Parameters.{Parameter}
use Rattle.m3ua_frames.specs.Tags.{ROUTING_CONTEXT, ERROR_CODE}
use Rattle.m3ua_gateway.specs.Contexts.{others_in}
use Rattle.m3ua_gateway.specs.Sending.{number, octets_of}
use Rattle.m3ua_gateway.proofs.SendingLaws.{no_numbers, some_numbers}
use Rattle.m3ua_gateway.proofs.sending.invalid_among.Goals as goal

pub returns-then-is_empty : goal.returns-then-is_empty
returns-then-is_empty c =
    let items : c.push_others.new.octets.items ≡ flat_map octets_4 (others_in c.args.context (Some c.args.contexts.now)) =
    c.push_others.ensures ∙ ap (λ (xs : List ℕ). xs ++ flat_map octets_4 (others_in c.args.context (Some c.args.contexts.now))) c.new-others.ensures in
    c.bare_error.ensures ∙ ap (λ (ps : List Parameter). octets_of kind.Error (number ERROR_CODE 0x19 ∷ ps))
    (sym (no_numbers ROUTING_CONTEXT c.push_others.new.octets.items (others_in c.args.context (Some c.args.contexts.now)) items (sym c.is_empty.ensures ∙ c.if-is_empty.true)))

pub returns-else-is_empty : goal.returns-else-is_empty
returns-else-is_empty c =
    let items : c.push_others.new.octets.items ≡ flat_map octets_4 (others_in c.args.context (Some c.args.contexts.now)) =
    c.push_others.ensures ∙ ap (λ (xs : List ℕ). xs ++ flat_map octets_4 (others_in c.args.context (Some c.args.contexts.now))) c.new-others.ensures in
    c.error_with.ensures ∙ ap (λ (ps : List Parameter). octets_of kind.Error (number ERROR_CODE 0x19 ∷ ps))
    (ap (λ (xs : List ℕ). record { tag = ROUTING_CONTEXT; value = xs } ∷ []) c.as_slice.ensures.value
    ∙ some_numbers ROUTING_CONTEXT c.push_others.new.octets.items (others_in c.args.context (Some c.args.contexts.now)) items (sym c.is_empty.ensures ∙ c.if-is_empty.false))
