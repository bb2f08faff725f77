-- The end of a diversion.
use Rattle.std.proofs.Common.{◌≡◌, ◌≢◌, ℕ, ◌+◌, ◌==◌, ◌&&◌, ◌||◌, zero, suc, Bool, true, false, not, List, [], ◌∷◌, ◌++◌, Option, Some, None, length, refl, sym, ap, ◌∙◌, subst, inl, inr, arith}
use Rattle.std.specs.Prelude.{◌⊎◌, All, is_some, if◌then◌else◌, slice_get}
use Rattle.std.proofs.lemmas.Bool.Decides.{eqb_tells}
use Rattle.std.proofs.lemmas.List.{append-nil, nil_from_length}
use Rattle.std.proofs.lemmas.List.Elements.{All-nil}
use Rattle.plain_laws.proofs.Options.{none_some, some_none}
use Rattle.plain_laws.proofs.Truths.{and_first, and_second, by_test}
use Rattle.resend_store.specs.declared.messages.Msu.{Msu}
use Rattle.group_changeover.specs.declared.availability.Changing.{Changing}
use Rattle.group_changeover.specs.declared.availability.Availability.{Availability}
use Rattle.group_changeover.specs.Laws.{StepsKeepPlaces}
use Rattle.group_changeover.specs.Limits.{SELECTIONS}
use Rattle.group_changeover.specs.Availability.{retrieval_in, with_retrieval}
use Rattle.group_changeover.specs.Places.{standing}
use Rattle.group_changeover.specs.Sharing.{counts_of, link_of, pick}
use Rattle.group_changeover.specs.declared.errors.DivertFault.{DivertFault}
use Rattle.link_group.specs.declared.link.Link.{Link}
use Rattle.group_changeover.specs.declared.bound.Points.{Points}
use Rattle.group_changeover.proofs.Unbound.{IsUnbound}
use Rattle.link_group.specs.OneLink.{shares}
use Rattle.link_group.specs.Links.{change}
use Rattle.link_group.specs.Moving.{retrieval_by, is_out_at, is_so_out, is_still, is_open, places_from, eligible_links, others, own_place, way, first_some, takers, is_own, holds_at, takes_on, Diversion, division, Diverted, moves, back_fault, back, gives_back, hands_over, ends_on, ends_at, keeps_at}
use Rattle.link_group.specs.Set.{LinkSet, points_of}
use Rattle.link_group.specs.Diverting.{diverted, settled_by, with_division, after_taken}
use Rattle.link_group.specs.Laws.{held_by, held_at}
use Rattle.link_group.specs.declared.gone.Gone.{Gone}
use Rattle.link_group.specs.Gone.{messages_gone}
use Rattle.link_group.proofs.Calling.{with_retrieval_of, retrieval_here, retrieval_other, no_retrieval}
use Rattle.link_group.proofs.Diverting.{within, IsOut, IsOther, Others, Moving, Gone_on, takes_held, takes_availability, fits_takes, rest_small, rest_free, fits_retrieved_anew, moves_stay, all_gone}
use Rattle.link_group.proofs.Fitting.{none_small, FitsAvailability, FitsLink, FitsAt, Fits, fits_there, fits_change}
use Rattle.link_group.proofs.Getting.{change_here, change_other, held_changed}
use Rattle.link_group.proofs.PlacingLaws.{link_at, holds_at_none, nothing, with_first}
use Rattle.link_group.proofs.Staying.{places_with, Stays, placed, leaves}
use Rattle.link_group.proofs.Working.{one_changes}

-- ---- equal retrievals for each link

pub same_retrievals : (laws : StepsKeepPlaces) (c : LinkSet) (retrievals new : ℕ → List Msu) (accepted : List Msu) (gone : List Gone) → ((l : ℕ) → new l ≡ retrievals l)
    → Stays c retrievals accepted gone → Stays c new accepted gone
same_retrievals laws c retrievals new accepted gone same stays = record {
  places = laws.placed_anew (places_with c retrievals accepted gone) (places_with c new accepted gone) stays.places
      (record { accepted = refl; gone = refl; held = λ l. refl; retrieval = same; link = λ s lt. inl refl });
  fits = λ l. subst (λ (ms : List Msu). FitsAt (points_of c) (slice_get c.links l) ms) (sym (same l)) (stays.fits l);
  table = stays.table;
}

own_by : (retrievals : ℕ → List Msu) (l j : ℕ) → ((j == l) ≡ true) × (j ≡ l) ⊎ ((j == l) ≡ false) × (j ≢ l) → with_retrieval_of retrievals l (retrievals l) j ≡ retrievals j
own_by retrievals l j (inl x) = ap (λ (b : Bool). if b then retrievals l else retrievals j) x.0 ∙ ap retrievals (sym x.1)
own_by retrievals l j (inr x) = ap (λ (b : Bool). if b then retrievals l else retrievals j) x.0

-- ---- the links that may take messages

-- a link that passes a test, at a place
abbrev pub IsFound : (Link → Bool) → ℕ → List Link → ℕ → Type 0
IsFound may n ks t = (j : ℕ) × (k : Link) × (t ≡ n + j) × (slice_get ks j ≡ Some k) × (may k ≡ true)

found_next : (may : Link → Bool) (n : ℕ) (k : Link) (ks : List Link) (t : ℕ) → IsFound may (n + 1) ks t → IsFound may n (k ∷ ks) t
found_next may n k ks t r = let at : t ≡ n + suc r.0 = omega (arith, r.2) in (suc r.0, r.1, at, r.3, r.4)

found_by : (may : Link → Bool) (n : ℕ) (k : Link) (ks : List Link) (rest : List ℕ) (i t : ℕ) (b : Bool) → may k ≡ b → slice_get (if b then n ∷ rest else rest) i ≡ Some t
    → ((i : ℕ) → slice_get rest i ≡ Some t → IsFound may (n + 1) ks t) → IsFound may n (k ∷ ks) t
found_by may n k ks rest zero t true is e next = let same : n ≡ t = cc in let at : t ≡ n + 0 = omega (arith, same) in (0, k, at, refl, is)
found_by may n k ks rest (suc i) t true is e next = found_next may n k ks t (next i e)
found_by may n k ks rest i t false is e next = found_next may n k ks t (next i e)

places_open : (may : Link → Bool) (n : ℕ) (ks : List Link) (i t : ℕ) → slice_get (places_from may n ks) i ≡ Some t → IsFound may n ks t
unfolding places_from
places_open may n [] i t e = absurd (none_some e)
places_open may n (k ∷ ks) i t e = found_by may n k ks (places_from may (n + 1) ks) i t (may k) refl e (λ j x. places_open may (n + 1) ks j t x)

turned : (b : Bool) → not b ≡ true → b ≡ false
turned true e = let f : false ≡ true = e in cc
turned false e = refl

still_by : (b : Bool) (k : Link) → is_still b k ≡ true → is_some k.availability.changing ≡ false
still_by b k e = turned (is_some k.availability.changing) (and_first (not (is_some k.availability.changing)) (b || not k.availability.failed) e)

-- No changeover goes on at a link that may take messages.
still : (b outage : Bool) (k : Link) → is_open b outage k ≡ true → is_some k.availability.changing ≡ false
still b outage k e = still_by b k (and_second (is_so_out outage k) (is_still b k) (and_second (shares k) (is_so_out outage k && is_still b k) e))

open_other : (p : Points) (b outage : Bool) (ks : List Link) (retrievals : ℕ → List Msu) (l t : ℕ) (own k : Link) → Fits p ks retrievals → slice_get ks l ≡ Some own → is_some own.availability.changing ≡ true
    → slice_get ks t ≡ Some k → is_open b outage k ≡ true → IsOther l retrievals t
open_other p b outage ks retrievals l t own k fits there changing here able =
    let fit : FitsLink p k (retrievals t) = fits_there p ks retrievals t k fits here in
    let idle : is_some k.availability.changing ≡ false = still b outage k able in
    record {
      other = λ e. let same : own ≡ k = one own k (sym there ∙ ap (slice_get ks) (sym e) ∙ here) in
          let f : true ≡ false = sym changing ∙ ap (λ (x : Link). is_some x.availability.changing) same ∙ idle in cc;
      free = fit.availability.idle (no_retrieval k.availability.changing idle);
    }
  where
    one : (a b : Link) → Some a ≡ Some b → a ≡ b
    one a b e = cc

able_others : (p : Points) (b outage : Bool) (ks : List Link) (retrievals : ℕ → List Msu) (l : ℕ) (own : Link) → Fits p ks retrievals → slice_get ks l ≡ Some own → is_some own.availability.changing ≡ true
    → Others l retrievals (eligible_links b outage ks)
unfolding eligible_links
able_others p b outage ks retrievals l own fits there changing = λ i t e.
    let r = places_open (is_open b outage) 0 ks i t e in
    let at : t ≡ r.0 = omega (arith, r.2) in
    open_other p b outage ks retrievals l t own r.1 fits there changing (ap (slice_get ks) at ∙ r.3) r.4

-- other links, unless the link itself is first
abbrev pub OthersOrOwn : ℕ → (ℕ → List Msu) → List ℕ → Type 0
OthersOrOwn l retrievals ls = is_own l ls ≡ false → Others l retrievals ls

first_others : (l : ℕ) (retrievals : ℕ → List Msu) (xs ys : List ℕ) → OthersOrOwn l retrievals xs → OthersOrOwn l retrievals ys → OthersOrOwn l retrievals (first_some xs ys)
first_others l retrievals [] ys first second = second
first_others l retrievals (x ∷ xs) ys first second = first

itself : (l : ℕ) → ((l == l) ≡ true) × (l ≡ l) ⊎ ((l == l) ≡ false) × (l ≢ l) → (l == l) ≡ false → ⊥
itself l (inl x) e = let f : true ≡ false = sym x.0 ∙ e in cc
itself l (inr x) e = x.1 refl

own_by_test : (l : ℕ) (retrievals : ℕ → List Msu) (b : Bool) → OthersOrOwn l retrievals (if b then l ∷ [] else [])
own_by_test l retrievals true = λ e. absurd (itself l (eqb_tells l l) e)
own_by_test l retrievals false = λ e i t h. absurd (none_some h)

own_others : (l : ℕ) (retrievals : ℕ → List Msu) (outage : Bool) (o : Option Link) → OthersOrOwn l retrievals (own_place l outage o)
own_others l retrievals outage None = λ e i t h. absurd (none_some h)
own_others l retrievals outage (Some k) = own_by_test l retrievals (shares k && is_so_out outage k)

both_others : (p : Points) (ks : List Link) (retrievals : ℕ → List Msu) (l : ℕ) (outage : Bool) (own : Link) → Fits p ks retrievals → slice_get ks l ≡ Some own → is_some own.availability.changing ≡ true
    → OthersOrOwn l retrievals (others outage ks)
unfolding others
both_others p ks retrievals l outage own fits there changing =
    first_others l retrievals (eligible_links false outage ks) (eligible_links true outage ks) (λ e. able_others p false outage ks retrievals l own fits there changing)
    (λ e. able_others p true outage ks retrievals l own fits there changing)

way_others : (p : Points) (ks : List Link) (retrievals : ℕ → List Msu) (l : ℕ) (outage : Bool) (own : Link) → Fits p ks retrievals → slice_get ks l ≡ Some own → is_some own.availability.changing ≡ true
    → OthersOrOwn l retrievals (way l outage ks)
unfolding way
way_others p ks retrievals l outage own fits there changing =
    first_others l retrievals (others outage ks) (own_place l outage (slice_get ks l)) (both_others p ks retrievals l outage own fits there changing) (own_others l retrievals outage (slice_get ks l))

-- If the link itself doesn't take its messages, others do, if any do.
takers_others : (p : Points) (ks : List Link) (retrievals : ℕ → List Msu) (l : ℕ) (own : Link) → Fits p ks retrievals → slice_get ks l ≡ Some own → is_some own.availability.changing ≡ true
    → OthersOrOwn l retrievals (takers l ks)
unfolding takers
takers_others p ks retrievals l own fits there changing =
    first_others l retrievals (way l false ks) (way l true ks) (way_others p ks retrievals l false own fits there changing) (way_others p ks retrievals l true own fits there changing)

-- ---- the link whose messages are retrieved

out_by : (o : Option Changing) → is_some (retrieval_by o) ≡ true → (is_some o ≡ true) × (retrieval_by o ≡ None → ⊥)
out_by None e = let f : false ≡ true = e in cc
out_by (Some c) e = (refl, λ x. let f : false ≡ true = ap is_some (sym x) ∙ e in cc)

pub record Holder (c : LinkSet) (retrievals : ℕ → List Msu) (l : ℕ) : Type 0 where
  pub link : Link
  pub there : slice_get c.links l ≡ Some link
  pub changing : is_some link.availability.changing ≡ true
  pub out : retrieval_by link.availability.changing ≡ None → ⊥

holder_by : (c : LinkSet) (retrievals : ℕ → List Msu) (l : ℕ) (o : Option Link) → slice_get c.links l ≡ o → is_out_at o ≡ true → Holder c retrievals l
holder_by c retrievals l None there e = let f : false ≡ true = e in cc
holder_by c retrievals l (Some k) there e =
    let out = out_by k.availability.changing e in
    record { link = k; there = there; changing = out.0; out = out.1 }

holder : (c : LinkSet) (retrievals : ℕ → List Msu) (l : ℕ) → is_out_at (slice_get c.links l) ≡ true → Holder c retrievals l
holder c retrievals l out = holder_by c retrievals l (slice_get c.links l) refl out

-- ---- back to its own link

out_at : (o : Option Link) (k : Link) → o ≡ Some k → (retrieval_by k.availability.changing ≡ None → ⊥) → IsOut o
out_at o k e out = subst (λ (x : Option Link). IsOut x) (sym e) out

order_back : (h x g y : List Msu) → g ≡ h ++ x → y ≡ [] → h ++ x ≡ [] ++ g ++ y
order_back h x g y e none = rw (e, none) (sym (append-nil (h ++ x)))

takes_back : (laws : StepsKeepPlaces) (c : LinkSet) (retrievals : ℕ → List Msu) (accepted : List Msu) (gone : List Gone) (l : ℕ) (d : Diversion) (o : Option Link) → slice_get d.links l ≡ o → IsOut o
    → Moving c retrievals accepted gone l d → Moving c retrievals accepted gone l (record { links = change d.links l (takes_on d.rest); table = d.table; rest = [] })
takes_back laws c retrievals accepted gone l d None there out m = absurd out
takes_back laws c retrievals accepted gone l d (Some k) there out m =
    let e : Diversion = record { links = change d.links l (takes_on d.rest); table = d.table; rest = [] } in
    let now : slice_get (change d.links l (takes_on d.rest)) l ≡ Some (takes_on d.rest k) = change_here (takes_on d.rest) d.links l (Some k) there in
    let free : All (IsUnbound (points_of c)) d.rest = rest_free c retrievals accepted gone l d m in
    let fit : FitsLink (points_of c) k (with_retrieval_of retrievals l d.rest l) = fits_there (points_of c) d.links (with_retrieval_of retrievals l d.rest) l k m.stays.fits there in
    let grows : held_at (within c e) l ≡ held_at (within c d) l ++ with_retrieval_of retrievals l d.rest l =
    ap held_by now ∙ takes_held (points_of c) d.rest k free fit.points ∙ ap (λ (x : Option Link). held_by x ++ d.rest) (sym there) ∙ ap (λ (x : List Msu). held_at (within c d) l ++ x) (sym (retrieval_here retrievals l d.rest)) in
    record {
      stays = record {
        places = leaves laws l (within c d) (within c e) (with_retrieval_of retrievals l d.rest) (with_retrieval_of retrievals l []) accepted [] gone gone m.stays.places (sym (append-nil (messages_gone gone)))
            (order_back (held_at (within c d) l) (with_retrieval_of retrievals l d.rest l) (held_at (within c e) l) (with_retrieval_of retrievals l [] l) grows (retrieval_here retrievals l []))
            (inl (retrieval_here retrievals l [])) (λ j h. ap held_by (change_other (takes_on d.rest) d.links l j h))
            (λ j h. retrieval_other retrievals l j [] h ∙ sym (retrieval_other retrievals l j d.rest h)) refl;
        fits = fits_change (points_of c) (takes_on d.rest) d.links (with_retrieval_of retrievals l []) l
            (fits_retrieved_anew (points_of c) d.links retrievals l d.rest [] m.out none_small (All-nil (IsUnbound (points_of c))) m.stays.fits)
            (λ x here f. fits_takes (points_of c) d.rest (with_retrieval_of retrievals l [] l) x (rest_small c retrievals accepted gone l d m) free f);
        table = m.stays.table;
      };
      out = out_at (slice_get (change d.links l (takes_on d.rest)) l) (takes_on d.rest k) now (λ x. out (ap (λ (n : Availability). retrieval_by n.changing) (sym (takes_availability d.rest k)) ∙ x));
    }

-- a diversion that went as far as it can: if nothing stopped it, no messages remain
pub record Went (c : LinkSet) (retrievals : ℕ → List Msu) (accepted : List Msu) (gone : List Gone) (l : ℕ) (w : Diverted) : Type 0 where
  pub moving : Moving c retrievals accepted gone l w.at
  pub whole : w.fault ≡ None → w.at.rest ≡ []

equal_by : (a b : ℕ) → ((a == b) ≡ true) × (a ≡ b) ⊎ ((a == b) ≡ false) × (a ≢ b) → (a == b) ≡ true → a ≡ b
equal_by a b (inl x) e = x.1
equal_by a b (inr x) e = let f : false ≡ true = sym x.0 ∙ e in cc

back_by : (laws : StepsKeepPlaces) (c : LinkSet) (retrievals : ℕ → List Msu) (accepted : List Msu) (gone : List Gone) (l : ℕ) (d : Diversion) (b : Bool) → (length d.rest == 0) ≡ b
    → Moving c retrievals accepted gone l d
    → Went c retrievals accepted gone l
    (record { at = if b then d else record { links = change d.links l (takes_on d.rest); table = d.table; rest = [] }; fault = None })
back_by laws c retrievals accepted gone l d true is m =
    record { moving = m; whole = λ e. nil_from_length d.rest (equal_by (length d.rest) 0 (eqb_tells (length d.rest) 0) is) }
back_by laws c retrievals accepted gone l d false is m = record { moving = takes_back laws c retrievals accepted gone l d (slice_get d.links l) refl m.out m; whole = λ e. refl }

gives : (laws : StepsKeepPlaces) (c : LinkSet) (retrievals : ℕ → List Msu) (accepted : List Msu) (gone : List Gone) (l : ℕ) (d : Diversion) (o : Option DivertFault) → Moving c retrievals accepted gone l d
    → Went c retrievals accepted gone l (gives_back l d o)
unfolding back
gives laws c retrievals accepted gone l d None m = back_by laws c retrievals accepted gone l d (length d.rest == 0) refl m
gives laws c retrievals accepted gone l d (Some fault) m = record { moving = m; whole = λ e. absurd (some_none e) }

all_shared : (c : LinkSet) (retrievals : ℕ → List Msu) (accepted : List Msu) (gone : List Gone) (l : ℕ) (w : Diverted) → Gone_on c retrievals accepted gone l w → Went c retrievals accepted gone l w
all_shared c retrievals accepted gone l w on = record {
  moving = on.moving;
  whole = λ e. all_gone w.at.rest (rest_small c retrievals accepted gone l w.at on.moving) (on.whole e);
}

-- ---- the changeover ends, or the rest stays retrieved

abbrev pub after_by : LinkSet → ℕ → Diversion → Option DivertFault → LinkSet
after_by c l d o = with_division c (settled_by (takers l c.links) l d o)

abbrev pub left_by : Option DivertFault → List Msu → List Msu
left_by None ms = []
left_by (Some fault) ms = ms

-- the messages that a diversion leaves retrieved
abbrev pub left_to_divert : Diverted → List Msu
left_to_divert d = left_by d.fault d.at.rest

end_cases : (c : LinkSet) (retrievals : ℕ → List Msu) (accepted : List Msu) (gone : List Gone) (l s j : ℕ) (ls : List ℕ) (d : Diversion) (b : Bool)
    → ((j == l) && not (holds_at s (slice_get d.links l))) ≡ b
    → ((if b then pick ls s else Some j) ≡ Some j) ⊎ (standing (places_with (within c d) (with_retrieval_of retrievals l []) accepted gone) s (Some j) ≡ [])
end_cases c retrievals accepted gone l s j ls d false is = inl refl
end_cases c retrievals accepted gone l s j ls d true is =
    let here : j ≡ l = equal_by j l (eqb_tells j l) (and_first (j == l) (not (holds_at s (slice_get d.links l))) is) in
    let none : holds_at s (slice_get d.links l) ≡ false = flip (holds_at s (slice_get d.links l)) (and_second (j == l) (not (holds_at s (slice_get d.links l))) is) in
    inr (rw here (nothing s (held_at (within c d) l) (with_retrieval_of retrievals l [] l) (holds_at_none s (slice_get d.links l) none) (retrieval_here retrievals l [])))
  where
    flip : (x : Bool) → not x ≡ true → x ≡ false
    flip true e = let f : false ≡ true = e in cc
    flip false e = refl

end_links : (c : LinkSet) (retrievals : ℕ → List Msu) (accepted : List Msu) (gone : List Gone) (l s : ℕ) (ls : List ℕ) (d : Diversion) (was : Option ℕ)
    → (ends_on ls l (slice_get d.links l) was s ≡ was) ⊎ (standing (places_with (within c d) (with_retrieval_of retrievals l []) accepted gone) s was ≡ [])
end_links c retrievals accepted gone l s ls d None = inl refl
end_links c retrievals accepted gone l s ls d (Some j) = end_cases c retrievals accepted gone l s j ls d ((j == l) && not (holds_at s (slice_get d.links l))) refl

fits_ends : (p : Points) (k : Link) (ms : List Msu) → ms ≡ [] → FitsLink p k ms → FitsLink p (ends_at k) ms
fits_ends p k ms none fits = record {
  availability = record { idle = λ e. none; failed = λ e. let f : false ≡ true = e in cc };
  small = fits.small;
  small_retrieval = fits.small_retrieval;
  points = fits.points;
  unbound = fits.unbound;
}

ends : (laws : StepsKeepPlaces) (c : LinkSet) (retrievals : ℕ → List Msu) (accepted : List Msu) (gone : List Gone) (l : ℕ) (d : Diversion) → d.rest ≡ [] → Moving c retrievals accepted gone l d
    → Stays (after_by c l d None) (with_retrieval_of retrievals l []) accepted gone
ends laws c retrievals accepted gone l d none m =
    let now : Stays (within c d) (with_retrieval_of retrievals l []) accepted gone = subst (λ (ms : List Msu). Stays (within c d) (with_retrieval_of retrievals l ms) accepted gone) none m.stays in
    let ls : List ℕ = takers l c.links in
    record {
      places = placed laws (within c d) (after_by c l d None) (with_retrieval_of retrievals l []) accepted gone (λ j. held_changed ends_at d.links l j (λ k e. refl))
          (λ s lt. with_first _ _ (link_of d.table s) _ (link_at (λ r. ends_on ls l (slice_get d.links l) (link_of d.table r) r) s lt)
          (end_links c retrievals accepted gone l s ls d (link_of d.table s))) now.places;
      fits = fits_change (points_of c) ends_at d.links (with_retrieval_of retrievals l []) l now.fits (λ k e f. fits_ends (points_of c) k (with_retrieval_of retrievals l [] l) (retrieval_here retrievals l []) f);
      table = refl;
    }

keeps_idle : (counts : List ℕ) (o : Option Changing) (ms : List Msu) → (retrieval_by o ≡ None → ms ≡ []) → retrieval_by (retrieval_in counts o) ≡ None → ms ≡ []
keeps_idle counts None ms idle e = idle e
keeps_idle counts (Some c) ms idle e = absurd (some_none e)

keeps_some : (counts : List ℕ) (o : Option Changing) → is_some (retrieval_in counts o) ≡ is_some o
keeps_some counts None = refl
keeps_some counts (Some c) = refl

fits_keeps : (counts : List ℕ) (m : Availability) (ms : List Msu) → FitsAvailability m ms → FitsAvailability (with_retrieval counts m) ms
fits_keeps counts m ms fits = record {
  idle = λ e. keeps_idle counts m.changing ms fits.idle e;
  failed = λ e. fits.failed (sym (keeps_some counts m.changing) ∙ e);
}

finish : (laws : StepsKeepPlaces) (c : LinkSet) (retrievals : ℕ → List Msu) (accepted : List Msu) (gone : List Gone) (l : ℕ) (d : Diversion) (o : Option DivertFault)
    → (o ≡ None → d.rest ≡ []) → Moving c retrievals accepted gone l d → Stays (after_by c l d o) (with_retrieval_of retrievals l (left_by o d.rest)) accepted gone
finish laws c retrievals accepted gone l d None whole m = ends laws c retrievals accepted gone l d (whole refl) m
finish laws c retrievals accepted gone l d (Some fault) whole m =
    one_changes laws (within c d) (with_retrieval_of retrievals l d.rest) accepted gone l (keeps_at d.rest) (λ k e. (refl, refl)) (λ k ms x. fits_keeps (counts_of d.rest) k.availability ms x) m.stays

pub stays_diverted : (laws : StepsKeepPlaces) (c : LinkSet) (retrievals : ℕ → List Msu) (accepted : List Msu) (gone : List Gone) (l : ℕ) → Stays c retrievals accepted gone → is_out_at (slice_get c.links l) ≡ true
    → Stays (after_taken c l (retrievals l)) (with_retrieval_of retrievals l (left_to_divert (diverted c.links c.table l (retrievals l)))) accepted gone
unfolding diverted hands_over
stays_diverted laws c retrievals accepted gone l stays own =
    let h : Holder c retrievals l = holder c retrievals l own in
    let ls : List ℕ = takers l c.links in
    let d : Diversion = division c.links c.table (retrievals l) in
    let start : Moving c retrievals accepted gone l d = record {
      stays = same_retrievals laws c retrievals (with_retrieval_of retrievals l (retrievals l)) accepted gone (λ j. own_by retrievals l j (eqb_tells j l)) stays;
      out = out_at (slice_get c.links l) h.link h.there h.out;
    } in
    let w : Diverted = if is_own l ls then gives_back l d (back_fault l d) else moves ls SELECTIONS 0 d in
    let went : Went c retrievals accepted gone l w =
    by_test (λ (x : Diverted). Went c retrievals accepted gone l x) (is_own l ls) (gives_back l d (back_fault l d)) (moves ls SELECTIONS 0 d)
    (λ e. gives laws c retrievals accepted gone l d (back_fault l d) start)
    (λ e. all_shared c retrievals accepted gone l (moves ls SELECTIONS 0 d)
    (moves_stay laws c retrievals accepted gone l SELECTIONS 0 ls d refl (takers_others (points_of c) c.links retrievals l h.link stays.fits h.there h.changing e) (λ r lt. absurd (omega (arith, lt))) start)) in
    finish laws c retrievals accepted gone l w.at w.fault went.whole went.moving
