-- A changeover message: which number counts near after it, and which one far reports by its answer.
use Rattle.std.proofs.Common.{◌≡◌, ℕ, ◌==◌, ◌&&◌, ◌||◌, Bool, true, false, not, List, Option, Some, None, refl, sym, ap, ◌∙◌, subst, inl, inr}
use Rattle.std.specs.Prelude.{◌⊎◌, if◌then◌else◌, slice_get, option_map}
use Rattle.std.proofs.lemmas.Bool.Decides.{eqb_tells}
use Rattle.plain_laws.proofs.Options.{none_some}
use Rattle.plain_laws.proofs.Truths.{by_test}
use Rattle.resend_store.specs.Window.{Window}
use Rattle.resend_store.specs.Intake.{Intake}
use Rattle.link_transceiver.specs.TransceiverState.{TransceiverState, is_held}
use Rattle.group_changeover.proofs.Equal.{Same, same}
use Rattle.group_changeover.specs.declared.availability.Answer.{Answer}
use Rattle.group_changeover.specs.declared.availability.Answer.TheVariants as answer
use Rattle.group_changeover.specs.declared.availability.Availability.{Availability}
use Rattle.group_changeover.specs.declared.availability.Changing.{Changing}
use Rattle.group_changeover.specs.declared.changeover.Changeover.{Changeover}
use Rattle.group_changeover.specs.declared.changeover.Kind.{Kind}
use Rattle.group_changeover.specs.declared.changeover.Kind.TheVariants as kind
use Rattle.group_changeover.specs.Availability.{changeover_begins, told_by, told_in}
use Rattle.group_changeover.specs.Saying.{is_late, is_over, is_order, is_changing, count_in, begun_by_message, is_held_by, number_in, answer_by, answer_after, order_after}
use Rattle.link_group.specs.declared.link.Link.{Link}
use Rattle.link_group.specs.OneLink.{count_told, with_availability, with_hold, hold_by, accepted_at}
use Rattle.link_group.specs.Links.{change}
use Rattle.link_group.specs.Failing.{count_heard, marked, hears, replies, replies_at}
use Rattle.link_group.specs.Set.{LinkSet}
use Rattle.link_group.specs.Changing.{is_for, after_message, order_by, order_at, reply_by, reply_to}
use Rattle.link_group.specs.Joined.{end_of, end_at, number_of, if_for, counted_in, counted_of, IsTold}
use Rattle.link_group.proofs.Between.{Fewer}
use Rattle.link_group.proofs.Getting.{change_here, change_other}
use Rattle.link_group.proofs.Leaving.{begins_counts}
use Rattle.link_group.proofs.Within.{Stays, stays_same, held_by_some, heard_stays}

-- ---- numbers of links

equal_so : (a b : ℕ) → ((a == b) ≡ true) × (a ≡ b) ⊎ ((a == b) ≡ false) × (a ≡ b → ⊥) → a ≡ b → (a == b) ≡ true
equal_so a b (inl x) e = x.0
equal_so a b (inr x) e = absurd (x.1 e)

other_so : (a b : ℕ) → ((a == b) ≡ true) × (a ≡ b) ⊎ ((a == b) ≡ false) × (a ≡ b → ⊥) → (a ≡ b → ⊥) → (a == b) ≡ false
other_so a b (inl x) h = absurd (h x.1)
other_so a b (inr x) h = x.0

number_here : (l : ℕ) (m : Changeover) → l ≡ m.label.sls → number_of l (Some m) ≡ number_in m.kind
number_here l m e = ap (λ (b : Bool). if◌then◌else◌ {A = Option ℕ} b (number_in m.kind) None) (equal_so m.label.sls l (eqb_tells m.label.sls l) (sym e))

number_none : (l : ℕ) (m : Changeover) → (l ≡ m.label.sls → ⊥) → number_of l (Some m) ≡ None
number_none l m other = ap (λ (b : Bool). if◌then◌else◌ {A = Option ℕ} b (number_in m.kind) None) (other_so m.label.sls l (eqb_tells m.label.sls l) (λ e. other (sym e)))

-- ---- the count after a message

told_cases : (c : Changing) (r : Option (List ℕ)) (o : Option Answer) (a : Answer) (p : ℕ) → counted_in (Some (told_by r a (record c { retrieval = r; answer = o }))) ≡ Some p
    → (counted_in (Some (record c { retrieval = r; answer = o })) ≡ Some p) ⊎ (count_in (Some a) ≡ Some p)
told_cases c (Some counts) o a p e = absurd (none_some e)
told_cases c None None a p e = inr e
told_cases c None (Some answer.Unknown) a p e = inr e
told_cases c None (Some (answer.Accepted n)) a p e = inl e

told_counts : (o : Option Changing) (a : Answer) (p : ℕ) → counted_in (told_in o a) ≡ Some p → (counted_in o ≡ Some p) ⊎ (count_in (Some a) ≡ Some p)
told_counts None a p e = absurd (none_some e)
told_counts (Some c) a p e = told_cases c c.retrieval c.answer a p e

answer_counts : (n : Option ℕ) (p : ℕ) → count_in (Some (answer_by n)) ≡ Some p → n ≡ Some p
answer_counts None p e = absurd (none_some e)
answer_counts (Some n) p e = e

after_counts : (m : Availability) (n : Option ℕ) (p : ℕ) → count_in (Some (answer_after m n)) ≡ Some p → n ≡ Some p
after_counts m n p =
    by_test (λ (a : Answer). count_in (Some a) ≡ Some p → n ≡ Some p) m.anew answer.Unknown (answer_by n) (λ anew e. absurd (none_some e)) (λ anew e. answer_counts n p e)

message_begins : (what : Kind) (m : Availability) → Fewer (counted_in m.changing) (counted_in (begun_by_message what m).changing)
message_begins what m =
    by_test (λ (n : Availability). Fewer (counted_in m.changing) (counted_in n.changing)) (is_order what && not (is_late m)) (changeover_begins m) m (λ b. begins_counts m) (λ b p e. e)

either_counts : (what : Kind) (k : Link) (p : ℕ) → (counted_in (begun_by_message what k.availability).changing ≡ Some p) ⊎ (count_in (Some (answer_after k.availability (count_heard what k))) ≡ Some p)
    → (counted_of (Some k) ≡ Some p) ⊎ (count_heard what k ≡ Some p)
either_counts what k p (inl e) = inl (message_begins what k.availability p e)
either_counts what k p (inr e) = inr (after_counts k.availability (count_heard what k) p e)

heard_counts : (what : Kind) (k : Link) (p : ℕ) → counted_of (Some (hears what k)) ≡ Some p → (counted_of (Some k) ≡ Some p) ⊎ (count_heard what k ≡ Some p)
heard_counts what k p e = either_counts what k p (told_counts (begun_by_message what k.availability).changing (answer_after k.availability (count_heard what k)) p e)

-- It counted already, or it is the count of the number that was heard.
abbrev pub Counted : Option Link → Option ℕ → ℕ → Type 0
Counted o number p = (counted_of o ≡ Some p) ⊎ ((h : TransceiverState) → option_map end_of o ≡ Some h → count_told h.sender number ≡ Some p)

counted_by : (what : Kind) (k : Link) (p : ℕ) → (counted_of (Some k) ≡ Some p) ⊎ (count_heard what k ≡ Some p) → Counted (Some k) (number_in what) p
counted_by what k p (inl e) = inl e
counted_by what k p (inr e) = inr (λ h is. let was : end_of k ≡ h = cc in subst (λ (z : TransceiverState). count_told z.sender (number_in what) ≡ Some p) was e)

link_counted : (what : Kind) (o : Option Link) (p : ℕ) → counted_of (option_map (hears what) o) ≡ Some p → Counted o (number_in what) p
link_counted what None p e = absurd (none_some e)
link_counted what (Some k) p e = counted_by what k p (heard_counts what k p e)

changed_counted : (what : Kind) (ks : List Link) (i l : ℕ) (p : ℕ) (number : Option ℕ) → Same l i → (l ≡ i → number ≡ number_in what) → counted_of (slice_get (change ks i (hears what)) l) ≡ Some p
    → Counted (slice_get ks l) number p
changed_counted what ks i l p number (inl e) is counts =
    let here : slice_get (change ks i (hears what)) l ≡ option_map (hears what) (slice_get ks l) =
    subst (λ (j : ℕ). slice_get (change ks j (hears what)) l ≡ option_map (hears what) (slice_get ks l)) e (change_here (hears what) ks l (slice_get ks l) refl) in
    subst (λ (n : Option ℕ). Counted (slice_get ks l) n p) (sym (is e)) (link_counted what (slice_get ks l) p (ap counted_of (sym here) ∙ counts))
changed_counted what ks i l p number (inr other) is counts = inl (ap counted_of (sym (change_other (hears what) ks i l other)) ∙ counts)

message_by : (b : Bool) (c : LinkSet) (m : Changeover) (l p : ℕ)
    → counted_of (slice_get (if◌then◌else◌ {A = LinkSet} b (record c { links = change c.links m.label.sls (hears m.kind) }) c).links l) ≡ Some p
    → Counted (slice_get c.links l) (number_of l (if◌then◌else◌ {A = Option Changeover} b (Some m) None)) p
message_by true c m l p e = changed_counted m.kind c.links m.label.sls l p (number_of l (Some m)) (same l m.label.sls) (number_here l m) e
message_by false c m l p e = inl e

pub message_counted : (c : LinkSet) (o : Option Changeover) (l p : ℕ) → counted_of (slice_get (after_message c o).links l) ≡ Some p → Counted (slice_get c.links l) (number_of l (if_for c o)) p
message_counted c None l p e = inl e
message_counted c (Some m) l p e = message_by (is_for c m) c m l p e

-- if the number heard is the one reported
pub told_heard : (w : Window) (heard told : Option ℕ) (p : ℕ) → IsTold heard told → count_told w heard ≡ Some p → count_told w told ≡ Some p
told_heard w None told p is e = absurd (none_some e)
told_heard w (Some n) told p is e = ap (count_told w) is ∙ e

-- ---- the number that an order reports

pub order_number : (d : LinkSet) (l : ℕ) (k : Link) (n : ℕ) → slice_get d.links l ≡ Some k → number_in (order_at d l).kind ≡ Some n → n ≡ (end_of k).receiver.last
unfolding order_at
order_number d l k n there e =
    let kind_is : (order_at d l).kind ≡ order_after k.availability (accepted_at k) = ap (λ (o : Option Link). (order_by d l o).kind) there in
    by_test (λ (w : Kind). number_in w ≡ Some n → n ≡ accepted_at k) k.availability.anew kind.EmergencyOrder (kind.Order (accepted_at k)) (λ anew f. absurd (none_some f))
    (λ anew f. let is : accepted_at k ≡ n = cc in sym is) (ap number_in (sym kind_is) ∙ e)

-- ---- the number that an answer reports

or_true : (b : Bool) → (b || true) ≡ true
or_true true = refl
or_true false = refl

-- an order answered by a number holds the link
holds_so : (fsn : ℕ) (m : Availability) → m.anew ≡ false → is_over m ≡ false → is_held_by (kind.Order fsn) m ≡ true
holds_so fsn m anew over =
    ap (λ (o : Bool). true && not o && (not (is_changing m) || true && not m.anew)) over
    ∙ (ap (λ (a : Bool). true && not false && (not (is_changing m) || true && not a)) anew ∙ or_true (not (is_changing m)))

order_reply : (fsn : ℕ) (m : Availability) (last n : ℕ) (a o : Bool) → m.anew ≡ a → is_over m ≡ o
    → number_in (if◌then◌else◌ {A = Kind} (a || o) kind.EmergencyAcknowledgement (kind.Acknowledgement last)) ≡ Some n → (n ≡ last) × (is_held_by (kind.Order fsn) m ≡ true)
order_reply fsn m last n true o anew over e = absurd (none_some e)
order_reply fsn m last n false true anew over e = absurd (none_some e)
order_reply fsn m last n false false anew over e = let is : last ≡ n = cc in (sym is, holds_so fsn m anew over)

abbrev number_by : Option Kind → Option ℕ
number_by None = None
number_by (Some what) = number_in what

reply_number : (what : Kind) (k : Link) (n : ℕ) → number_by (replies what k) ≡ Some n → (n ≡ accepted_at k) × (is_held_by what k.availability ≡ true)
reply_number (kind.Order fsn) k n e = order_reply fsn k.availability (accepted_at k) n k.availability.anew (is_over k.availability) refl refl e
reply_number (kind.Acknowledgement fsn) k n e = absurd (none_some e)
reply_number kind.EmergencyOrder k n e = absurd (none_some e)
reply_number kind.EmergencyAcknowledgement k n e = absurd (none_some e)

reply_holds : (what : Kind) (k : Link) → is_held_by what k.availability ≡ true → is_held (end_of (hears what k)).hold ≡ true
reply_holds what k e =
    ap (λ (b : Bool). is_held (end_of (with_availability (marked what k) (if◌then◌else◌ {A = Link} b (with_hold (hold_by (marked what k).changing) k) k))).hold) e
    ∙ held_by_some (marked what k).changing

-- An end after a message: a number in the answer is that of the message accepted last there, and the end is held.
pub record HeardFar (o new : Option Link) (h : TransceiverState) (told : Option ℕ) : Type 0 where
  pub end : TransceiverState
  pub is : option_map end_of new ≡ Some end
  pub stays : Stays h end
  pub number : (n : ℕ) → told ≡ Some n → (n ≡ end.receiver.last) × (is_held end.hold ≡ true)

far_same : (o : Option Link) (h : TransceiverState) → option_map end_of o ≡ Some h → HeardFar o o h None
far_same o h e = record { end = h; is = e; stays = stays_same h; number = λ n f. absurd (none_some f) }

number_told : (d : LinkSet) (l n : ℕ) (o : Option Kind) → number_of l (reply_by d l o) ≡ Some n → number_by o ≡ Some n
number_told d l n None e = e
number_told d l n (Some what) e = sym (number_here l (record { label = record { dpc = d.peer; opc = d.own; sls = l }; kind = what }) refl) ∙ e

far_link : (d : LinkSet) (l : ℕ) (what : Kind) (o : Option Link) (h : TransceiverState) → option_map end_of o ≡ Some h
    → HeardFar o (option_map (hears what) o) h (number_of l (reply_by d l (replies_at what o)))
far_link d l what None h e = absurd (none_some e)
far_link d l what (Some k) h e =
    let was : end_of k ≡ h = cc in
    let stay : Stays (end_of k) (end_of (hears what k)) = heard_stays what k in
    record {
      end = end_of (hears what k);
      is = refl;
      stays = subst (λ (z : TransceiverState). Stays z (end_of (hears what k))) was stay;
      number = λ n f.
          let x = reply_number what k n (number_told d l n (replies what k) f) in
          (x.0 ∙ ap (λ (r : Intake). r.last) (sym stay.receiver), reply_holds what k x.1);
    }

told_other : (d : LinkSet) (i l : ℕ) (o : Option Kind) → (l ≡ i → ⊥) → number_of l (reply_by d i o) ≡ None
told_other d i l None other = refl
told_other d i l (Some what) other = number_none l (record { label = record { dpc = d.peer; opc = d.own; sls = i }; kind = what }) other

far_changed : (d : LinkSet) (i l : ℕ) (what : Kind) (h : TransceiverState) → Same l i → end_at d l ≡ Some h
    → HeardFar (slice_get d.links l) (slice_get (change d.links i (hears what)) l) h (number_of l (reply_by d i (replies_at what (slice_get d.links i))))
far_changed d i l what h (inl same_one) e =
    subst (λ (j : ℕ). HeardFar (slice_get d.links l) (slice_get (change d.links j (hears what)) l) h (number_of l (reply_by d j (replies_at what (slice_get d.links j))))) same_one
    (subst (λ (o : Option Link). HeardFar (slice_get d.links l) o h (number_of l (reply_by d l (replies_at what (slice_get d.links l)))))
    (sym (change_here (hears what) d.links l (slice_get d.links l) refl)) (far_link d l what (slice_get d.links l) h e))
far_changed d i l what h (inr other) e =
    subst (λ (t : Option ℕ). HeardFar (slice_get d.links l) (slice_get (change d.links i (hears what)) l) h t) (sym (told_other d i l (replies_at what (slice_get d.links i)) other))
    (subst (λ (o : Option Link). HeardFar (slice_get d.links l) o h None) (sym (change_other (hears what) d.links i l other)) (far_same (slice_get d.links l) h e))

far_by : (b : Bool) (d : LinkSet) (m : Changeover) (l : ℕ) (h : TransceiverState) → end_at d l ≡ Some h
    → HeardFar (slice_get d.links l) (slice_get (if◌then◌else◌ {A = LinkSet} b (record d { links = change d.links m.label.sls (hears m.kind) }) d).links l) h
    (number_of l (if◌then◌else◌ {A = Option Changeover} b (reply_by d m.label.sls (replies_at m.kind (slice_get d.links m.label.sls))) None))
far_by true d m l h e = far_changed d m.label.sls l m.kind h (same l m.label.sls) e
far_by false d m l h e = far_same (slice_get d.links l) h e

pub far_heard : (d : LinkSet) (o : Option Changeover) (l : ℕ) (h : TransceiverState) → end_at d l ≡ Some h
    → HeardFar (slice_get d.links l) (slice_get (after_message d o).links l) h (number_of l (reply_to d o))
far_heard d None l h e = far_same (slice_get d.links l) h e
far_heard d (Some m) l h e = far_by (is_for d m) d m l h e
