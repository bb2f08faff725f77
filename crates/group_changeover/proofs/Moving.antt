-- A selection that moves from a retrieval to a link, or gets another link, keeps every message in its one place.
use Rattle.std.proofs.Common.{◌≡◌, ℕ, ◌<◌, List, [], ◌++◌, Option, Some, None, refl, sym, ap, ◌∙◌, inl, inr}
use Rattle.std.specs.Prelude.{◌⊎◌}
use Rattle.std.proofs.lemmas.List.{append-nil}
use Rattle.plain_laws.proofs.Lists.{append-nil_left, append-nil_right}
use Rattle.resend_store.specs.declared.messages.Msu.{Msu}
use Rattle.group_changeover.specs.Limits.{SELECTIONS}
use Rattle.group_changeover.specs.Sharing.{of}
use Rattle.group_changeover.specs.Places.{Places, standing, OnePlace, Diverts, PlacesAnew}
use Rattle.group_changeover.proofs.Lists.{of-append, of-nil, of-of, of-of_other, of-off, of-off_other}
use Rattle.group_changeover.proofs.Equal.{Same, same, Is, is, some_same}

module _ (s l t : ℕ) (p q : Places) (small : s < SELECTIONS) (o : OnePlace p) (d : Diverts s l t p q) where
  -- the failed link had the selection
  was_by : Is (p.link s) l → p.link s ≡ Some l
  was_by (inl e) = e
  was_by (inr not_so) = absurd (d.some (o.retrievals_else s l small not_so))

  was : p.link s ≡ Some l
  was = was_by (is (p.link s) l)

  not_to : (r : ℕ) → p.link s ≡ Some r → r ≡ t → ⊥
  not_to r e f = d.other (some_same (sym was ∙ e) ∙ f)

  held_to : of s (p.held t) ≡ []
  held_to = o.links_else s t small (λ e. not_to t e refl)

  -- the failed link holds no message of it
  held_from : of s (p.held l) ≡ []
  held_from = by (o.alone l)
    where
      by : (p.retrieval l ≡ []) ⊎ (p.held l ≡ []) → of s (p.held l) ≡ []
      by (inl e) = absurd (d.some (ap (of s) e ∙ of-nil s))
      by (inr e) = ap (of s) e ∙ of-nil s

  -- ---- the selection itself

  retrieval-to : of s (q.retrieval t) ≡ []
  retrieval-to = ap (of s) (d.retrieval_else t (λ e. d.other (sym e)) ∙ d.free) ∙ of-nil s

  held-to : of s (q.held t) ≡ of s (p.retrieval l)
  held-to = ap (of s) d.held ∙ of-append s (p.held t) (of s (p.retrieval l)) ∙ (rw (held_to, of-of s (p.retrieval l)) refl)

  whole_moved : of s q.accepted ≡ of s q.gone ++ standing q s (q.link s)
  whole_moved =
      let before : standing p s (p.link s) ≡ of s (p.retrieval l) = ap (standing p s) was ∙ ap (λ (x : List Msu). x ++ of s (p.retrieval l)) held_from in
      let now : standing q s (q.link s) ≡ of s (p.retrieval l) = ap (standing q s) d.link ∙ (rw (held-to, retrieval-to) (append-nil (of s (p.retrieval l)))) in
      ap (of s) d.accepted ∙ o.whole s small ∙ ap (λ (x : List Msu). of s p.gone ++ x) before
      ∙ sym (ap (λ (x : List Msu). of s x ++ standing q s (q.link s)) d.gone ∙ ap (λ (x : List Msu). of s p.gone ++ x) now)

  -- ---- other selections

  held-other : (r j : ℕ) → (r ≡ s → ⊥) → Same j t → of r (q.held j) ≡ of r (p.held j)
  held-other r j apart (inl e) = rw e (ap (of r) d.held ∙ of-append r (p.held t) (of s (p.retrieval l)) ∙ ap (λ (x : List Msu). of r (p.held t) ++ x) (of-of_other r s (p.retrieval l) apart) ∙ append-nil (of r (p.held t)))
  held-other r j apart (inr other) = ap (of r) (d.held_else j other)

  retrieval-other : (r j : ℕ) → (r ≡ s → ⊥) → Same j l → of r (q.retrieval j) ≡ of r (p.retrieval j)
  retrieval-other r j apart (inl e) = rw e (ap (of r) d.retrieval ∙ of-off_other r s (p.retrieval l) apart)
  retrieval-other r j apart (inr other) = ap (of r) (d.retrieval_else j other)

  stands-other : (r : ℕ) (k : Option ℕ) → (r ≡ s → ⊥) → standing q r k ≡ standing p r k
  stands-other r None apart = refl
  stands-other r (Some j) apart = rw (held-other r j apart (same j t), retrieval-other r j apart (same j l)) refl

  whole_other : (r : ℕ) → r < SELECTIONS → (r ≡ s → ⊥) → of r q.accepted ≡ of r q.gone ++ standing q r (q.link r)
  whole_other r h apart =
      ap (of r) d.accepted ∙ o.whole r h
      ∙ sym (ap (λ (x : List Msu). of r x ++ standing q r (q.link r)) d.gone
      ∙ ap (λ (x : List Msu). of r p.gone ++ x) (ap (standing q r) (d.link_else r apart) ∙ stands-other r (p.link r) apart))

  whole-at : (r : ℕ) → r < SELECTIONS → Same r s → of r q.accepted ≡ of r q.gone ++ standing q r (q.link r)
  whole-at r h (inl e) = rw e whole_moved
  whole-at r h (inr apart) = whole_other r h apart

  -- ---- other links

  held_moved : (j : ℕ) → (q.link s ≡ Some j → ⊥) → Same j t → of s (q.held j) ≡ []
  held_moved j not_so (inl e) = absurd (not_so (d.link ∙ ap Some (sym e)))
  held_moved j not_so (inr other) = ap (of s) (d.held_else j other) ∙ by (is (p.link s) j)
    where
      by : Is (p.link s) j → of s (p.held j) ≡ []
      by (inl e) = ap (λ (i : ℕ). of s (p.held i)) (some_same (sym e ∙ was)) ∙ held_from
      by (inr none) = o.links_else s j small none

  retrieval_moved : (j : ℕ) → (q.link s ≡ Some j → ⊥) → Same j l → of s (q.retrieval j) ≡ []
  retrieval_moved j not_so (inl e) = rw e (ap (of s) d.retrieval ∙ of-off s (p.retrieval l))
  retrieval_moved j not_so (inr other) = ap (of s) (d.retrieval_else j other) ∙ o.retrievals_else s j small (λ e. other (some_same (sym e ∙ was)))

  held-at : (r j : ℕ) → r < SELECTIONS → (q.link r ≡ Some j → ⊥) → Same r s → of r (q.held j) ≡ []
  held-at r j h not_so (inl e) = rw e (held_moved j (λ f. not_so (ap q.link e ∙ f)) (same j t))
  held-at r j h not_so (inr apart) = held-other r j apart (same j t) ∙ o.links_else r j h (λ f. not_so (d.link_else r apart ∙ f))

  retrieval-at : (r j : ℕ) → r < SELECTIONS → (q.link r ≡ Some j → ⊥) → Same r s → of r (q.retrieval j) ≡ []
  retrieval-at r j h not_so (inl e) = rw e (retrieval_moved j (λ f. not_so (ap q.link e ∙ f)) (same j l))
  retrieval-at r j h not_so (inr apart) = retrieval-other r j apart (same j l) ∙ o.retrievals_else r j h (λ f. not_so (d.link_else r apart ∙ f))

  held_empty : p.held l ≡ []
  held_empty = by (o.alone l)
    where
      by : (p.retrieval l ≡ []) ⊎ (p.held l ≡ []) → p.held l ≡ []
      by (inl e) = absurd (d.some (ap (of s) e ∙ of-nil s))
      by (inr e) = e

  alone-other : (j : ℕ) → (j ≡ l → ⊥) → Same j t → (q.retrieval j ≡ []) ⊎ (q.held j ≡ [])
  alone-other j not_so (inl e) = inl (d.retrieval_else j not_so ∙ ap p.retrieval e ∙ d.free)
  alone-other j not_so (inr other) = rw (d.retrieval_else j not_so, d.held_else j other) (o.alone j)

  alone-at : (j : ℕ) → Same j l → (q.retrieval j ≡ []) ⊎ (q.held j ≡ [])
  alone-at j (inl e) = inr (ap q.held e ∙ d.held_else l d.other ∙ held_empty)
  alone-at j (inr not_so) = alone-other j not_so (same j t)

  pub keeps-diverted : OnePlace q
  keeps-diverted = record {
    whole = λ r h. whole-at r h (same r s);
    links_else = λ r j h not_so. held-at r j h not_so (same r s);
    retrievals_else = λ r j h not_so. retrieval-at r j h not_so (same r s);
    alone = λ j. alone-at j (same j l);
  }

-- ---- other links for selections without messages

module _ (p q : Places) (o : OnePlace p) (d : PlacesAnew p q) where
  stands : (s : ℕ) (k : Option ℕ) → standing q s k ≡ standing p s k
  stands s None = refl
  stands s (Some l) = rw (d.held l, d.retrieval l) refl

  none_by : (s l : ℕ) → s < SELECTIONS → standing p s (p.link s) ≡ [] → Is (p.link s) l → (of s (p.held l) ≡ []) × (of s (p.retrieval l) ≡ [])
  none_by s l h none (inl e) =
      let all : of s (p.held l) ++ of s (p.retrieval l) ≡ [] = sym (ap (standing p s) e) ∙ none in
      (append-nil_left (of s (p.held l)) (of s (p.retrieval l)) all, append-nil_right (of s (p.held l)) (of s (p.retrieval l)) all)
  none_by s l h none (inr not_so) = (o.links_else s l h not_so, o.retrievals_else s l h not_so)

  none_at : (s l : ℕ) → s < SELECTIONS → standing p s (p.link s) ≡ [] → (of s (p.held l) ≡ []) × (of s (p.retrieval l) ≡ [])
  none_at s l h none = none_by s l h none (is (p.link s) l)

  none_stands : (s : ℕ) (k : Option ℕ) → s < SELECTIONS → standing p s (p.link s) ≡ [] → standing p s k ≡ []
  none_stands s None h none = refl
  none_stands s (Some l) h none = let at = none_at s l h none in rw (at.0, at.1) refl

  stands_anew : (s : ℕ) → s < SELECTIONS → (q.link s ≡ p.link s) ⊎ (standing p s (p.link s) ≡ []) → standing q s (q.link s) ≡ standing p s (p.link s)
  stands_anew s h (inl e) = ap (standing q s) e ∙ stands s (p.link s)
  stands_anew s h (inr none) = stands s (q.link s) ∙ none_stands s (q.link s) h none ∙ sym none

  else_by : (s l : ℕ) → s < SELECTIONS → (q.link s ≡ Some l → ⊥) → (q.link s ≡ p.link s) ⊎ (standing p s (p.link s) ≡ []) → (of s (p.held l) ≡ []) × (of s (p.retrieval l) ≡ [])
  else_by s l h not_so (inl e) = (o.links_else s l h (λ f. not_so (e ∙ f)), o.retrievals_else s l h (λ f. not_so (e ∙ f)))
  else_by s l h not_so (inr none) = none_at s l h none

  pub keeps-placed_anew : OnePlace q
  keeps-placed_anew = record {
    whole = λ s h. ap (of s) d.accepted ∙ o.whole s h
        ∙ sym (ap (λ (x : List Msu). of s x ++ standing q s (q.link s)) d.gone ∙ ap (λ (x : List Msu). of s p.gone ++ x) (stands_anew s h (d.link s h)));
    links_else = λ s l h not_so. ap (of s) (d.held l) ∙ (else_by s l h not_so (d.link s h)).0;
    retrievals_else = λ s l h not_so. ap (of s) (d.retrieval l) ∙ (else_by s l h not_so (d.link s h)).1;
    alone = λ l. rw (d.held l, d.retrieval l) (o.alone l);
  }
