-- In a life of a link between two sets, what far accepts, then what near retrieves with the number that far reported, is what the link was given.
use Rattle.std.proofs.Common.{◌≡◌, ℕ, Bool, true, false, List, [], ◌++◌, Option, Some, None, refl, sym, ap, ◌∙◌, inl, inr, append_assoc, append-nil}
use Rattle.std.specs.Prelude.{◌⊎◌, if◌then◌else◌, slice_get, option_map}
use Rattle.plain_laws.proofs.Options.{none_some}
use Rattle.resend_store.specs.declared.messages.Msu.{Msu}
use Rattle.su_octets.specs.declared.units.Unit.{Unit}
use Rattle.link_transceiver.specs.declared.signals.Hold.{Hold}
use Rattle.link_transceiver.specs.declared.signals.Hold.TheVariants as hold
use Rattle.link_transceiver.specs.TransceiverState.{TransceiverState, is_held}
use Rattle.link_transceiver.specs.Effects.{renewed, renewed_hold}
use Rattle.group_changeover.specs.declared.availability.Changing.{Changing}
use Rattle.group_changeover.specs.declared.changeover.Changeover.{Changeover}
use Rattle.group_changeover.specs.Bound.{unbound}
use Rattle.group_changeover.specs.Saying.{is_out, count_in, number_in, begun_by_message}
use Rattle.group_changeover.proofs.Unbound.{unbound-append}
use Rattle.link_group.specs.declared.link.Link.{Link}
use Rattle.link_group.specs.OneLink.{count_told, lacking, accepted_in, accepted_of, window}
use Rattle.link_group.specs.Set.{LinkSet}
use Rattle.link_group.specs.Changing.{is_for, after_message, after_retrieve}
use Rattle.link_group.specs.Laws.{hand_at}
use Rattle.link_group.specs.Ends.{Ends, ends_anew, Lives, begins as lives_anew, near_else, far_else}
use Rattle.link_group.specs.Along.{Arrive}
use Rattle.link_group.specs.Joined.{end_of, end_at, Deed, Joined, Does, Empties, SendsAnew, AcceptsAnew, counted_in, counted_of, counted_at, takes_number, IsTold, told_behind, Goes, stays, does, empties}
use Rattle.link_group.proofs.Between.{Between, Fewer, given_out}
use Rattle.link_group.proofs.Far.{FarDid, far_step, far_empty}
use Rattle.link_group.proofs.Faring.{ends_complete}
use Rattle.link_group.proofs.Near.{NearDid, near_step}
use Rattle.link_group.proofs.Telling.{message_counts}

-- ---- one life, as its two ends see it

abbrev pub ends_of : Joined → TransceiverState → TransceiverState → Option ℕ → Ends
ends_of x h g place = record { near = h; far = g; forth = x.forth; back = x.back; taken = x.taken; delivered = x.delivered; told = x.told; place = place }

pub record Inside (l : ℕ) (x : Joined) : Type 0 where
  pub near : TransceiverState
  pub far : TransceiverState
  pub place : Option ℕ
  pub between : Between l x.near x.far (ends_of x near far place)
  pub counts : Fewer place (counted_of (slice_get x.near.links l))

-- ---- it begins

held_anew : (x : Hold) → is_held (renewed_hold x) ≡ true → is_held x ≡ true
unfolding is_held
held_anew hold.Free e = e
held_anew hold.UntilAnew e = refl
held_anew hold.Kept e = e

anew_life : (h g : TransceiverState) → SendsAnew h → AcceptsAnew g → Lives (record { near = h; far = g; forth = []; back = []; taken = h.sender.kept; delivered = []; told = None; place = None })
unfolding renewed
anew_life h g sends accepts =
    let x : Ends = ends_anew h g in
    far_else (record x { near = h }) g (near_else x h (lives_anew h g) sends.sender sends.spare) accepts.receiver accepts.withheld (held_anew g.hold)

pub inside_anew : (l : ℕ) (c d : LinkSet) (h g : TransceiverState) → end_at c l ≡ Some h → end_at d l ≡ Some g → SendsAnew h → AcceptsAnew g → counted_at c l ≡ None
    → Inside l (record { near = c; far = d; forth = []; back = []; taken = h.sender.kept; delivered = []; told = None })
inside_anew l c d h g near far sends accepts none = record {
  near = h;
  far = g;
  place = None;
  between = record { life = anew_life h g sends accepts; near = near; far = far };
  counts = λ p e. absurd (none_some (sym none ∙ e));
}

-- ---- each call continues it

pub inside_near : (l : ℕ) (x : Joined) (e : LinkSet) (deed : Deed) (rest : List Unit) → Inside l x → Does l x.near e deed → Arrive deed.came x.back rest
    → IsTold deed.heard x.told ⊎ (counted_at e l ≡ counted_at x.near l) → Inside l (record x { near = e; forth = x.forth ++ deed.out; back = rest; taken = x.taken ++ deed.given })
inside_near l x e deed rest i call a is =
    let did : NearDid l e x.far (ends_of x i.near i.far i.place) deed.out rest deed.given = near_step l x.near e x.far (ends_of x i.near i.far i.place) deed rest call i.between i.counts a is in
    record { near = did.now; far = i.far; place = did.place; between = did.between; counts = did.counts }

pub inside_far : (l : ℕ) (x : Joined) (e : LinkSet) (deed : Deed) (rest : List Unit) → Inside l x → Does l x.far e deed → Arrive deed.came x.forth rest
    → Inside l (record x { far = e; forth = rest; back = x.back ++ deed.out; delivered = x.delivered ++ deed.accepted; told = told_behind deed.told x.told })
inside_far l x e deed rest i call a =
    let did : FarDid l x.near e (ends_of x i.near i.far i.place) deed.out rest deed.accepted deed.told =
    far_step l x.near x.far e (ends_of x i.near i.far i.place) deed rest call i.between (inl a) in
    record { near = i.near; far = did.now; place = i.place; between = did.between; counts = i.counts }

pub inside_emptied : (l : ℕ) (x : Joined) (e : LinkSet) → Inside l x → Empties l x.far e → Inside l (record x { far = e })
inside_emptied l x e i call =
    let did = far_empty l x.near x.far e (ends_of x i.near i.far i.place) call i.between in
    record { near = i.near; far = did.0; place = i.place; between = did.1; counts = i.counts }

-- ---- far continues after the number

record Behind (l p : ℕ) (c e : LinkSet) (y : Ends) (later : List Msu) : Type 0 where
  z : Ends
  between : Between l c e z
  near : z.near ≡ y.near
  place : z.place ≡ Some p
  taken : z.taken ≡ y.taken
  delivered : z.delivered ≡ y.delivered ++ later

each_behind : (l p : ℕ) (c d e : LinkSet) (y : Ends) (later : List Msu) → y.place ≡ Some p → Between l c d y → Goes l d e later → Behind l p c e y later
each_behind l p c _ _ y _ place b (stays d) = record { z = y; between = b; near = refl; place = place; taken = refl; delivered = sym (append-nil y.delivered) }
each_behind l p c _ _ y _ place b (does d e f later deed r call) =
    let v : Behind l p c e y later = each_behind l p c d e y later place b r in
    let did : FarDid l c f v.z deed.out v.z.forth deed.accepted deed.told = far_step l c e f v.z deed v.z.forth call v.between (inr (p, v.place, refl)) in
    record {
      z = record v.z { far = did.now; back = v.z.back ++ deed.out; delivered = v.z.delivered ++ deed.accepted; told = told_behind deed.told v.z.told };
      between = did.between;
      near = v.near;
      place = v.place;
      taken = v.taken;
      delivered = ap (λ (ms : List Msu). ms ++ deed.accepted) v.delivered ∙ append_assoc y.delivered later deed.accepted;
    }
each_behind l p c _ _ y _ place b (empties d e f later r call) =
    let v : Behind l p c e y later = each_behind l p c d e y later place b r in
    let did = far_empty l c e f v.z call v.between in
    record { z = record v.z { far = did.0 }; between = did.1; near = v.near; place = v.place; taken = v.taken; delivered = v.delivered }

-- ---- retrieved messages

counts_so : (b : Bool) (o : Option ℕ) (p : ℕ) → (if◌then◌else◌ {A = Option ℕ} b None o) ≡ Some p → o ≡ Some p
counts_so true o p e = absurd (none_some e)
counts_so false o p e = e

accepted_so : (o : Option Changing) (p : ℕ) → counted_in o ≡ Some p → accepted_in o ≡ Some p
accepted_so None p e = absurd (none_some e)
accepted_so (Some c) p e = counts_so (is_out c) (count_in c.answer) p e

counted_so : (k : Link) (p : ℕ) → counted_of (Some k) ≡ Some p → accepted_of k ≡ Some p
unfolding accepted_of
counted_so k p e = accepted_so k.availability.changing p e

handed_so : (l : ℕ) (c : LinkSet) (k : Link) (h : TransceiverState) (p : ℕ) → slice_get c.links l ≡ Some k → end_at c l ≡ Some h → counted_of (Some k) ≡ Some p
    → hand_at (after_retrieve c l) l ≡ unbound k.points (lacking h.sender (Some p))
handed_so l c k h p there is counts =
    let both : Some (end_of k) ≡ Some h = sym (ap (λ (o : Option Link). option_map end_of o) there) ∙ is in
    let was : end_of k ≡ h = cc in
    given_out c l k there
    ∙ (ap (λ (o : Option ℕ). unbound k.points (lacking (window k) o)) (counted_so k p counts) ∙ ap (λ (z : TransceiverState). unbound k.points (lacking z.sender (Some p))) was)

pub whole : (l : ℕ) (x : Joined) (k : Link) (p : ℕ) (e : LinkSet) (later : List Msu) → Inside l x → slice_get x.near.links l ≡ Some k → counted_of (Some k) ≡ Some p → Goes l x.far e later
    → unbound k.points x.taken ≡ unbound k.points (x.delivered ++ later) ++ hand_at (after_retrieve x.near l) l
whole l x k p e later i there counts goes =
    let y : Ends = ends_of x i.near i.far i.place in
    let v : Behind l p x.near e y later = each_behind l p x.near x.far e y later (i.counts p (ap counted_of there ∙ counts)) i.between goes in
    let lacks : List Msu = lacking i.near.sender (Some p) in
    let all : x.taken ≡ (x.delivered ++ later) ++ lacks =
    sym v.taken ∙ (ends_complete.whole v.z p v.between.life v.place
    ∙ (ap (λ (ms : List Msu). ms ++ lacking v.z.near.sender (Some p)) v.delivered ∙ ap (λ (h : TransceiverState). (x.delivered ++ later) ++ lacking h.sender (Some p)) v.near)) in
    ap (unbound k.points) all
    ∙ (unbound-append k.points (x.delivered ++ later) lacks
    ∙ ap (λ (ms : List Msu). unbound k.points (x.delivered ++ later) ++ ms) (sym (handed_so l x.near k i.near p there i.between.near counts)))

pub in_order : (l : ℕ) (x : Joined) → Inside l x → (missing : List Msu) × (x.taken ≡ x.delivered ++ missing)
in_order l x i = ends_complete.in_order (ends_of x i.near i.far i.place) i.between.life

-- ---- the number counts when it is heard

pub number_counts : (l : ℕ) (x : Joined) (m : Changeover) (k : Link) (n : ℕ) → Inside l x → x.told ≡ Some n → slice_get x.near.links l ≡ Some k
    → takes_number (begun_by_message m.kind k.availability).changing ≡ true → k.availability.anew ≡ false → is_for x.near m ≡ true → m.label.sls ≡ l → number_in m.kind ≡ Some n
    → (p : ℕ) × (counted_of (slice_get (after_message x.near (Some m)).links l) ≡ Some p)
number_counts l x m k n i told there counts anew ours label number =
    let known = ends_complete.known (ends_of x i.near i.far i.place) n i.between.life told in
    let both : Some (end_of k) ≡ Some i.near = sym (ap (λ (o : Option Link). option_map end_of o) there) ∙ i.between.near in
    let was : end_of k ≡ i.near = cc in (
      known.0,
      message_counts l x.near m k there counts anew ours label
          ∙ (ap (λ (h : TransceiverState). count_told h.sender (number_in m.kind)) was ∙ (ap (count_told i.near.sender) (number ∙ sym told) ∙ known.1)),
    )
