use Rattle.std.proofs.Common.{◌≡◌, ℕ, ◌++◌, List, [], ◌∷◌, ap, ◌∙◌, rules}
use Rattle.m3ua_frames.specs.Numbers.{octets_4}
use Rattle.m3ua_frames.specs.Protocol.{view}
use Rattle.m3ua_frames.proofs.ProtocolLaws.{put_fields}
use Rattle.m3ua_frames.proofs.protocol.push_fields.Goals as goal

pub returns-clause-items : goal.returns-clause-items
returns-clause-items g c =
    let p = c.args.p.now in
    let user : c.try_extend_from_slice.new.self.items ≡ c.push-4.new.self.items ++ p.user_data.now = search rules in
    user ∙ ap (λ (ys : List ℕ). ys ++ p.user_data.now)
    (c.push-4.ensures.items ∙ ap (λ (ys : List ℕ). ys ++ p.sls ∷ [])
    (c.push-3.ensures.items ∙ ap (λ (ys : List ℕ). ys ++ p.mp ∷ [])
    (c.push-2.ensures.items ∙ ap (λ (ys : List ℕ). ys ++ p.ni ∷ [])
    (c.push.ensures.items ∙ ap (λ (ys : List ℕ). ys ++ p.si ∷ [])
    (c.push_4-2.ensures ∙ ap (λ (ys : List ℕ). ys ++ octets_4 p.dpc) c.push_4.ensures)))))
    ∙ put_fields c.args.octets.now.items (view p)
