use Rattle.std.proofs.Common.{ℕ, ◌+◌, ◌++◌, List, length, replicate, ap, ◌∙◌, arith}
use Rattle.m3ua_frames.specs.Numbers.{octets_2}
use Rattle.m3ua_frames.specs.Protocol.{view, protocol_octets}
use Rattle.m3ua_frames.specs.Tags.{PROTOCOL_DATA}
use Rattle.m3ua_frames.proofs.ProtocolLaws.{put_is_padded}
use Rattle.m3ua_frames.proofs.protocol.push_protocol_data.Goals as goal

pub returns : goal.returns
returns g c =
    let n : ℕ = length c.args.p.now.user_data.now in
    let value : List ℕ = protocol_octets (view c.args.p.now) in
    c.push_zeros.ensures
    ∙ ap (λ (ys : List ℕ). ys ++ replicate c.padding_after.result 0) (c.push_fields.ensures.items ∙ ap (λ (ys : List ℕ). ys ++ value) (c.push_2-2.ensures ∙ ap (λ (ys : List ℕ). ys ++ octets_2 (n + 16)) c.push_2.ensures))
    ∙ put_is_padded c.args.octets.now.items value PROTOCOL_DATA (n + 16) (n + 12) c.padding_after.result (omega arith) (omega arith) c.padding_after.ensures.value
