-- The fields of the messages that a set sends itself.
use Rattle.std.proofs.Common.{◌≡◌, ◌∙◌, ℕ, ◌+◌, ◌*◌, ◌%◌, ◌^◌, ◌<◌, List, [], ◌∷◌, ◌++◌, length, drop, Some, ap, arith}
use Rattle.std.proofs.lemmas.List.{drop_at}
use Rattle.std.proofs.lemmas.Option.{none-some}
use Rattle.resend_store.specs.declared.messages.Msu.{Msu}
use Rattle.group_changeover.specs.declared.labels.Label.{Label}
use Rattle.group_changeover.specs.Labels.{label_in}
use Rattle.line_tending.specs.Ends.{AreEnds, IsAbout}
use Rattle.line_tending.specs.declared.ends.Ends.{Ends}

abbrev pub label_to : Ends → ℕ → Label
label_to e link = record { dpc = e.peer; opc = e.own; sls = link }

-- Values too large would be cut off; none are.
pub label_within : (e : Ends) (link : ℕ) (octets : List ℕ)
    → label_in octets ≡ Some (record { dpc = e.peer % 16384; opc = e.own % 16384; sls = link % 16 })
    → AreEnds e → link < 16 → label_in octets ≡ Some (label_to e link)
label_within e link octets is ends few =
    let peer_is : e.peer % 16384 ≡ e.peer = omega (arith, ends.peer) in
    let own_is : e.own % 16384 ≡ e.own = omega (arith, ends.own) in
    let link_is : link % 16 ≡ link = omega (arith, few) in
    is ∙ cc (peer_is, own_is, link_is)

label_front : (xs ys : List ℕ) (l : Label) → label_in xs ≡ Some l → label_in (xs ++ ys) ≡ Some l
label_front [] ys l e = absurd (none-some l e)
label_front (a ∷ []) ys l e = absurd (none-some l e)
label_front (a ∷ b ∷ []) ys l e = absurd (none-some l e)
label_front (a ∷ b ∷ c ∷ []) ys l e = absurd (none-some l e)
label_front (a ∷ b ∷ c ∷ d ∷ others) ys l e = e

pub is_about : (e : Ends) (indicator link : ℕ) (label content : List ℕ) (m : Msu) → length label ≡ 4
    → m.sio ≡ e.network % 4 * 64 + indicator → m.sif.items ≡ label ++ content
    → (AreEnds e → link < 16 → label_in label ≡ Some (label_to e link))
    → AreEnds e → link < 16 → IsAbout e indicator link content m
is_about e indicator link label content m four sio items label_is ends few =
    let network_is : e.network % 4 ≡ e.network = omega (arith, ends.network) in
    record {
      sio = sio ∙ ap (λ n. n * 64 + indicator) network_is;
      label = ap label_in items ∙ label_front label content (label_to e link) (label_is ends few);
      content_is = ap (drop 4) items ∙ drop_at label content 4 four;
    }
