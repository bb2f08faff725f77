-- A life of a link between two sets: messages are given to the link, it fails, and its messages are retrieved.
use Rattle.std.proofs.Common.{◌≡◌, ℕ, ◌+◌, ◌==◌, zero, suc, true, List, [], ◌∷◌, ◌++◌, length, Option, Some, None, refl, sym, ap, ◌∙◌, subst, inl, inr, append_assoc}
use Rattle.std.specs.Prelude.{slice_get, option_map}
use Rattle.std.proofs.lemmas.List.{append-nil}
use Rattle.plain_laws.proofs.Options.{none_some}
use Rattle.plain_laws.proofs.Truths.{by_test}
use Rattle.resend_store.specs.declared.messages.Msu.{Msu}
use Rattle.link_transceiver.specs.declared.signals.Hold.TheVariants as hold
use Rattle.link_transceiver.specs.TransceiverState.{TransceiverState, is_held}
use Rattle.group_changeover.specs.Bound.{unbound}
use Rattle.group_changeover.specs.Limits.{SELECTIONS}
use Rattle.group_changeover.specs.declared.availability.Changing.{Changing}
use Rattle.group_changeover.specs.Availability.{retrieval_in}
use Rattle.group_changeover.specs.Sharing.{selection_of, link_of, of, pick, counts_of}
use Rattle.group_changeover.specs.declared.errors.DivertFault.{DivertFault}
use Rattle.group_changeover.proofs.Equal.{Same, same}
use Rattle.link_group.specs.declared.link.Link.{Link}
use Rattle.link_group.specs.OneLink.{lacking, accepted_of, window, puts}
use Rattle.link_group.specs.Links.{change}
use Rattle.link_group.specs.Failing.{messages_by, changeover_begins_at}
use Rattle.link_group.specs.Moving.{Diversion, Diverted, is_out_at, hand_by, without_hand, term_takes, takes_on, takers, is_own, moved_by, moved, move_fault, goes_on, moves, back_fault, back, gives_back, division, hands_over, ends_at, keeps_at}
use Rattle.link_group.specs.Set.{LinkSet, change_by, sent, bound_at}
use Rattle.link_group.specs.Changing.{messages_for, after_failure, after_retrieve}
use Rattle.link_group.specs.Diverting.{diverted, settled_by, after_hand, after_divert}
use Rattle.link_group.specs.Laws.{hand_at}
use Rattle.link_group.specs.Ends.{Ends, Lives, gets, given, far_else}
use Rattle.link_group.specs.Joined.{end_of, end_at, counted_in, counted_of}
use Rattle.link_group.proofs.Calling.{retrieval_here}
use Rattle.link_group.proofs.Getting.{change_here, change_other}
use Rattle.link_group.proofs.Hands.{hands_retrieved}

-- The two ends of a link of a near set and a far one are in a life of it.
pub record Between (l : ℕ) (c d : LinkSet) (x : Ends) : Type 0 where
  pub life : Lives x
  pub near : end_at c l ≡ Some x.near
  pub far : end_at d l ≡ Some x.far

-- of the messages that counted as accepted some may no longer count, but no new ones do
abbrev pub Fewer : Option ℕ → Option ℕ → Type 0
Fewer was now = (p : ℕ) → now ≡ Some p → was ≡ Some p

-- ---- the end of a link that changes

changed_by : (f : Link → Link) (g : TransceiverState → TransceiverState) (o : Option Link) (h : TransceiverState) → ((k : Link) → end_of (f k) ≡ g (end_of k)) → option_map end_of o ≡ Some h
    → option_map end_of (option_map f o) ≡ Some (g h)
changed_by f g None h does e = absurd (none_some e)
changed_by f g (Some k) h does e = let same : end_of k ≡ h = cc in ap (λ (n : TransceiverState). Some n) (does k ∙ ap g same)

pub changed_end : (f : Link → Link) (g : TransceiverState → TransceiverState) (ks : List Link) (l : ℕ) (h : TransceiverState) → ((k : Link) → end_of (f k) ≡ g (end_of k))
    → option_map end_of (slice_get ks l) ≡ Some h → option_map end_of (slice_get (change ks l f) l) ≡ Some (g h)
changed_end f g ks l h does e = ap (λ (o : Option Link). option_map end_of o) (change_here f ks l (slice_get ks l) refl) ∙ changed_by f g (slice_get ks l) h does e

abbrev pub with_more : List Msu → TransceiverState → TransceiverState
with_more ms h = record h { sender = record h.sender { kept = h.sender.kept ++ ms } }

pub puts_one : (m : Msu) (k : Link) → end_of (puts m k) ≡ with_more (m ∷ []) (end_of k)
unfolding puts
puts_one m k = refl

-- ---- messages are given

pub sends : (l : ℕ) (c d : LinkSet) (x : Ends) (m : Msu) → Between l c d x → link_of c.table (selection_of m) ≡ Some l → Between l (sent c m) d (given (m ∷ []) x)
unfolding sent
sends l c d x m b link = record {
  life = gets x (m ∷ []) b.life;
  near = ap (λ (o : Option ℕ). option_map end_of (slice_get (change_by c.links o (puts m)) l)) link ∙ changed_end (puts m) (with_more (m ∷ [])) c.links l x.near (puts_one m) b.near;
  far = b.far;
}

pub binds : (l : ℕ) (c d : LinkSet) (x : Ends) (m : Msu) → Between l c d x → Between l (bound_at c l m) d (given (m ∷ []) x)
unfolding bound_at
binds l c d x m b = record { life = gets x (m ∷ []) b.life; near = changed_end (puts m) (with_more (m ∷ [])) c.links l x.near (puts_one m) b.near; far = b.far }

-- ---- messages are given by a diversion

-- the end holds some more messages, and is otherwise the same; the count there stays or is gone
pub record Grows (old new : Option Link) : Type 0 where
  pub more : List Msu
  pub is : option_map end_of new ≡ option_map (with_more more) (option_map end_of old)
  pub counts : Fewer (counted_of old) (counted_of new)

with_none : (h : TransceiverState) → with_more [] h ≡ h
with_none h = ap (λ (ms : List Msu). record h { sender = record h.sender { kept = ms } }) (append-nil h.sender.kept)

with_both : (ms ns : List Msu) (h : TransceiverState) → with_more ns (with_more ms h) ≡ with_more (ms ++ ns) h
with_both ms ns h = ap (λ (xs : List Msu). record h { sender = record h.sender { kept = xs } }) (append_assoc h.sender.kept ms ns)

none_more : (o : Option TransceiverState) → o ≡ option_map (with_more []) o
none_more None = refl
none_more (Some h) = ap (λ (n : TransceiverState). Some n) (sym (with_none h))

grows_none : (o : Option Link) → Grows o o
grows_none o = record { more = []; is = none_more (option_map end_of o); counts = λ p e. e }

grown_both : (ms ns : List Msu) (o : Option TransceiverState) → option_map (with_more ns) (option_map (with_more ms) o) ≡ option_map (with_more (ms ++ ns)) o
grown_both ms ns None = refl
grown_both ms ns (Some h) = ap (λ (n : TransceiverState). Some n) (with_both ms ns h)

grows_on : (a b c : Option Link) → Grows a b → Grows b c → Grows a c
grows_on a b c first second = record {
  more = first.more ++ second.more;
  is = second.is ∙ (ap (λ (o : Option TransceiverState). option_map (with_more second.more) o) first.is ∙ grown_both first.more second.more (option_map end_of a));
  counts = λ p e. first.counts p (second.counts p e);
}

grows_as : (a b c : Option Link) → b ≡ c → Grows a b → Grows a c
grows_as a b c e g = subst (λ (o : Option Link). Grows a o) e g

grows_by : (f : Link → Link) (more : Link → List Msu) (o : Option Link) → ((k : Link) → end_of (f k) ≡ with_more (more k) (end_of k)) → ((k : Link) → Fewer (counted_of (Some k)) (counted_of (Some (f k))))
    → Grows o (option_map f o)
grows_by f more None does counts = record { more = []; is = refl; counts = λ p e. e }
grows_by f more (Some k) does counts = record { more = more k; is = ap (λ (n : TransceiverState). Some n) (does k); counts = counts k }

changed_grows : (f : Link → Link) (more : Link → List Msu) (ks : List Link) (l j : ℕ) → Same j l → ((k : Link) → end_of (f k) ≡ with_more (more k) (end_of k))
    → ((k : Link) → Fewer (counted_of (Some k)) (counted_of (Some (f k)))) → Grows (slice_get ks j) (slice_get (change ks l f) j)
changed_grows f more ks l j (inl e) does counts =
    subst (λ (i : ℕ). Grows (slice_get ks i) (slice_get (change ks l f) i)) (sym e)
    (grows_as (slice_get ks l) (option_map f (slice_get ks l)) (slice_get (change ks l f) l) (sym (change_here f ks l (slice_get ks l) refl)) (grows_by f more (slice_get ks l) does counts))
changed_grows f more ks l j (inr other) does counts = grows_as (slice_get ks j) (slice_get ks j) (slice_get (change ks l f) j) (sym (change_other f ks l j other)) (grows_none (slice_get ks j))

-- if only marks change
same_grows : (f : Link → Link) (ks : List Link) (l j : ℕ) → ((k : Link) → end_of (f k) ≡ end_of k) → ((k : Link) → Fewer (counted_of (Some k)) (counted_of (Some (f k))))
    → Grows (slice_get ks j) (slice_get (change ks l f) j)
same_grows f ks l j does counts = changed_grows f (λ k. []) ks l j (same j l) (λ k. does k ∙ sym (with_none (end_of k))) counts

takes_more : (ms : List Msu) (k : Link) → end_of (takes_on ms k) ≡ with_more ms (end_of k)
unfolding takes_on term_takes
takes_more ms k = refl

takes_counts : (ms : List Msu) (k : Link) → Fewer (counted_of (Some k)) (counted_of (Some (takes_on ms k)))
unfolding takes_on
takes_counts ms k = λ p e. e

takes_grows : (ms : List Msu) (ks : List Link) (l j : ℕ) → Grows (slice_get ks j) (slice_get (change ks l (takes_on ms)) j)
takes_grows ms ks l j = changed_grows (takes_on ms) (λ k. ms) ks l j (same j l) (takes_more ms) (takes_counts ms)

moved_to : (s : ℕ) (d : Diversion) (o : Option ℕ) (j : ℕ) → Grows (slice_get d.links j) (slice_get (moved_by s d o).links j)
moved_to s d None j = grows_none (slice_get d.links j)
moved_to s d (Some t) j = takes_grows (of s d.rest) d.links t j

moved_grows : (ls : List ℕ) (s : ℕ) (d : Diversion) (j : ℕ) → Grows (slice_get d.links j) (slice_get (moved ls s d).links j)
unfolding moved
moved_grows ls s d j =
    by_test (λ (y : Diversion). Grows (slice_get d.links j) (slice_get y.links j)) (length (of s d.rest) == 0) d (moved_by s d (pick ls s)) (λ e. grows_none (slice_get d.links j))
    (λ e. moved_to s d (pick ls s) j)

goes_grows : (rest : Diversion → Diverted) (old new : Diversion) (o : Option DivertFault) (j : ℕ) (k : Option Link) → Grows k (slice_get (rest new).at.links j) → Grows k (slice_get old.links j)
    → Grows k (slice_get (goes_on rest old new o).at.links j)
goes_grows rest old new None j k on stays = on
goes_grows rest old new (Some fault) j k on stays = stays

moves_grows : (ls : List ℕ) (n s : ℕ) (d : Diversion) (j : ℕ) → Grows (slice_get d.links j) (slice_get (moves ls n s d).at.links j)
unfolding moves
moves_grows ls zero s d j = grows_none (slice_get d.links j)
moves_grows ls (suc n) s d j =
    goes_grows (moves ls n (s + 1)) d (moved ls s d) (move_fault ls s d) j (slice_get d.links j)
    (grows_on (slice_get d.links j) (slice_get (moved ls s d).links j) (slice_get (moves ls n (s + 1) (moved ls s d)).at.links j) (moved_grows ls s d j) (moves_grows ls n (s + 1) (moved ls s d) j))
    (grows_none (slice_get d.links j))

back_grows : (l : ℕ) (d : Diversion) (j : ℕ) → Grows (slice_get d.links j) (slice_get (back l d).links j)
unfolding back
back_grows l d j =
    by_test (λ (y : Diversion). Grows (slice_get d.links j) (slice_get y.links j)) (length d.rest == 0) d
    (record { links = change d.links l (takes_on d.rest); table = d.table; rest = [] }) (λ e. grows_none (slice_get d.links j)) (λ e. takes_grows d.rest d.links l j)

gives_grows : (l : ℕ) (d : Diversion) (o : Option DivertFault) (j : ℕ) → Grows (slice_get d.links j) (slice_get (gives_back l d o).at.links j)
gives_grows l d None j = back_grows l d j
gives_grows l d (Some fault) j = grows_none (slice_get d.links j)

diverted_grows : (ks : List Link) (ts : List (Option ℕ)) (l : ℕ) (ms : List Msu) (j : ℕ) → Grows (slice_get ks j) (slice_get (diverted ks ts l ms).at.links j)
unfolding diverted hands_over
diverted_grows ks ts l ms j =
    let d : Diversion = division ks ts ms in
    by_test (λ (y : Diverted). Grows (slice_get ks j) (slice_get y.at.links j)) (is_own l (takers l ks)) (gives_back l d (back_fault l d)) (moves (takers l ks) SELECTIONS 0 d)
    (λ e. gives_grows l d (back_fault l d) j) (λ e. moves_grows (takers l ks) SELECTIONS 0 d j)

-- no number counts once messages are retrieved
out_counts : (counts : List ℕ) (o : Option Changing) → Fewer (counted_in o) (counted_in (retrieval_in counts o))
out_counts counts None = λ p e. e
out_counts counts (Some c) = λ p e. absurd (none_some e)

settled_grows : (ls : List ℕ) (l : ℕ) (d : Diversion) (o : Option DivertFault) (j : ℕ) → Grows (slice_get d.links j) (slice_get (settled_by ls l d o).links j)
settled_grows ls l d None j = same_grows ends_at d.links l j (λ k. refl) (λ k p e. absurd (none_some e))
settled_grows ls l d (Some fault) j = same_grows (keeps_at d.rest) d.links l j (λ k. refl) (λ k. out_counts (counts_of d.rest) k.availability.changing)

taken_grows : (c : LinkSet) (i : ℕ) (j : ℕ) → Grows (slice_get c.links j) (slice_get (after_hand c i).links j)
taken_grows c i j =
    let ks : List Link = change c.links i without_hand in
    let ms : List Msu = hand_by (slice_get c.links i) in
    let w : Diverted = diverted ks c.table i ms in
    grows_on (slice_get c.links j) (slice_get ks j) (slice_get (settled_by (takers i ks) i w.at w.fault).links j) (same_grows without_hand c.links i j (λ k. refl) (λ k p e. e))
    (grows_on (slice_get ks j) (slice_get w.at.links j) (slice_get (settled_by (takers i ks) i w.at w.fault).links j) (diverted_grows ks c.table i ms j) (settled_grows (takers i ks) i w.at w.fault j))

pub divert_grows : (c : LinkSet) (i j : ℕ) → Grows (slice_get c.links j) (slice_get (after_divert c i).links j)
unfolding after_divert
divert_grows c i j =
    by_test (λ (y : LinkSet). Grows (slice_get c.links j) (slice_get y.links j)) (is_out_at (slice_get c.links i)) (after_hand c i) c (λ e. taken_grows c i j) (λ e. grows_none (slice_get c.links j))

-- ---- it fails at the far end

pub kept_holds : is_held hold.Kept ≡ true
unfolding is_held
kept_holds = refl

pub far_fails : (l : ℕ) (c d : LinkSet) (x : Ends) → Between l c d x → Between l c (after_failure d l) (record x { far = record x.far { hold = hold.Kept } })
unfolding after_failure
far_fails l c d x b = record {
  life = far_else x (record x.far { hold = hold.Kept }) b.life refl refl (λ held. kept_holds);
  near = b.near;
  far = changed_end changeover_begins_at (λ h. record h { hold = hold.Kept }) d.links l x.far (λ k. refl) b.far;
}

-- ---- retrieved messages

pub given_out : (c : LinkSet) (l : ℕ) (k : Link) → slice_get c.links l ≡ Some k → hand_at (after_retrieve c l) l ≡ unbound k.points (lacking (window k) (accepted_of k))
unfolding messages_for
given_out c l k there =
    hands_retrieved c l l ∙ retrieval_here (hand_at c) l (messages_for c l) ∙ ap (λ (o : Option Link). messages_by accepted_of o) there
