use Rattle.std.proofs.Common.{◌≡◌, ℕ, List, ◌∷◌, ◌++◌, [], ap, ◌∙◌}
use Rattle.m3ua_frames.specs.declared.kinds.Kind.TheVariants as kind
use Rattle.m3ua_frames.specs.Tags.{ROUTING_CONTEXT, PROTOCOL_DATA}
use Rattle.m3ua_frames.specs.Parameters.{Parameter, padded, all_padded}
use Rattle.m3ua_gateway.specs.Sending.{number}
use Rattle.m3ua_gateway.proofs.SendingLaws.{spelled, two}
use Rattle.m3ua_frames.specs.Protocol.{protocol_octets, view}
use Rattle.m3ua_gateway.proofs.sending.data_of.Goals as goal

pub returns : goal.returns
returns c =
    let p : Parameter = number ROUTING_CONTEXT c.args.context in
    let q : Parameter = record { tag = PROTOCOL_DATA; value = protocol_octets (view c.args.p.now) } in
    let body : c.push_protocol_data.new.octets.items ≡ all_padded (number ROUTING_CONTEXT c.args.context ∷ record { tag = PROTOCOL_DATA; value = protocol_octets (view c.args.p.now) } ∷ []) =
    c.push_protocol_data.ensures ∙ ap (λ (xs : List ℕ). xs ++ padded q) (c.push_number.ensures ∙ ap (λ (xs : List ℕ). xs ++ padded p) c.new-body.ensures) ∙ two p q in
    c.encode.ensures ∙ spelled kind.Data c.as_slice.result.now (p ∷ q ∷ []) (c.as_slice.ensures.value ∙ body)
