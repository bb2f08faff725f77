use Rattle.std.proofs.Common.{◌≡◌, ℕ, List, ◌++◌, length, ap, ◌∙◌}
use Rattle.m3ua_frames.specs.declared.kinds.Kind.TheVariants as kind
use Rattle.m3ua_frames.specs.Parameters.{completed}
use Rattle.m3ua_frames.specs.Frame.{header, body}
use Rattle.m3ua_gateway.proofs.sending.beat_ack.Goals as goal

pub returns : goal.returns
returns c =
    let same : c.as_slice.result.now ≡ completed (body c.args.heard.now) =
    c.as_slice.ensures.value ∙ c.push_parameters.ensures.items ∙ ap (λ (xs : List ℕ). xs ++ completed c.parameters_of.result.now) c.new-body.ensures ∙ ap completed c.parameters_of.ensures.value in
    c.encode.ensures ∙ ap (λ (xs : List ℕ). header kind.BeatAck (length xs) ++ xs) same
