-- Each step keeps every message in its one place.
use Rattle.std.proofs.Common.{◌≡◌, ℕ, ◌<◌, List, [], ◌++◌, Option, Some, None, refl, sym, ap, ◌∙◌, append_assoc, inl, inr}
use Rattle.std.specs.Prelude.{◌⊎◌}
use Rattle.std.proofs.lemmas.List.{append-nil}
use Rattle.plain_laws.proofs.Lists.{append-nil_left, append-nil_right}
use Rattle.resend_store.specs.declared.messages.Msu.{Msu}
use Rattle.group_changeover.specs.Limits.{SELECTIONS}
use Rattle.group_changeover.specs.Sharing.{of}
use Rattle.group_changeover.specs.Places.{Places, standing, OnePlace, IsEmpty, AtOneLink}
use Rattle.group_changeover.proofs.Lists.{of-append, of-nil, of-three}
use Rattle.group_changeover.proofs.Equal.{Same, same, Is, is}

-- ---- nothing accepted yet

none_stands : (p : Places) (s : ℕ) (o : Option ℕ) → IsEmpty p → standing p s o ≡ []
none_stands p s None e = refl
none_stands p s (Some l) e = rw (e.held l, e.retrieval l, of-nil s) refl

pub empty-places : (p : Places) → IsEmpty p → OnePlace p
empty-places p e = record {
  whole = λ s h. ap (of s) e.accepted ∙ of-nil s ∙ sym (ap (λ (l : List Msu). l ++ standing p s (p.link s)) (ap (of s) e.gone ∙ of-nil s) ∙ none_stands p s (p.link s) e);
  links_else = λ s l h not_so. ap (of s) (e.held l) ∙ of-nil s;
  retrievals_else = λ s l h not_so. ap (of s) (e.retrieval l) ∙ of-nil s;
  alone = λ l. inl (e.retrieval l);
}

-- ---- at one link

-- the messages of one selection among those held, added and removed
order-of : (s : ℕ) (held retrieval came left held2 hand2 : List Msu) → held ++ retrieval ++ came ≡ left ++ held2 ++ hand2
    → of s held ++ of s retrieval ++ of s came ≡ of s left ++ of s held2 ++ of s hand2
order-of s held retrieval came left held2 hand2 e = sym (of-three s held retrieval came) ∙ ap (of s) e ∙ of-three s left held2 hand2

whole_own : (a g x y c l u v : List Msu) → a ≡ g ++ (x ++ y) → x ++ y ++ c ≡ l ++ u ++ v → a ++ c ≡ g ++ l ++ (u ++ v)
whole_own a g x y c l u v e f =
    ap (λ (t : List Msu). t ++ c) e ∙ append_assoc g (x ++ y) c ∙ ap (λ (t : List Msu). g ++ t) (f ∙ append_assoc l u v) ∙ sym (append_assoc g l (u ++ v))

none_of : (x y c l u v : List Msu) → x ≡ [] → y ≡ [] → c ≡ [] → x ++ y ++ c ≡ l ++ u ++ v → (l ≡ []) × (u ≡ []) × (v ≡ [])
none_of x y c l u v ex ey ec e =
    let all : l ++ u ++ v ≡ [] = sym e ∙ (rw (ex, ey, ec) refl) in
    let front : l ++ u ≡ [] = append-nil_left (l ++ u) v all in
    (append-nil_left l u front, append-nil_right l u front, append-nil_right (l ++ u) v all)

module _ (l : ℕ) (p q : Places) (o : OnePlace p) (t : AtOneLink l p q) where
  of-order : (s : ℕ) → of s (p.held l) ++ of s (p.retrieval l) ++ of s t.came ≡ of s t.left ++ of s (q.held l) ++ of s (q.retrieval l)
  of-order s = order-of s (p.held l) (p.retrieval l) t.came t.left (q.held l) (q.retrieval l) t.order

  came_none : (s : ℕ) → s < SELECTIONS → (p.link s ≡ Some l → ⊥) → of s t.came ≡ []
  came_none s h not_so = by (t.own s h)
    where
      by : (of s t.came ≡ []) ⊎ (p.link s ≡ Some l) → of s t.came ≡ []
      by (inl e) = e
      by (inr e) = absurd (not_so e)

  elsewhere : (s : ℕ) → s < SELECTIONS → (p.link s ≡ Some l → ⊥) → (of s t.left ≡ []) × (of s (q.held l) ≡ []) × (of s (q.retrieval l) ≡ [])
  elsewhere s h not_so =
      none_of (of s (p.held l)) (of s (p.retrieval l)) (of s t.came) (of s t.left) (of s (q.held l)) (of s (q.retrieval l))
      (o.links_else s l h not_so) (o.retrievals_else s l h not_so) (came_none s h not_so) (of-order s)

  accepted-of : (s : ℕ) → of s q.accepted ≡ of s p.accepted ++ of s t.came
  accepted-of s = ap (of s) t.accepted ∙ of-append s p.accepted t.came

  gone-of : (s : ℕ) → of s q.gone ≡ of s p.gone ++ of s t.left
  gone-of s = ap (of s) t.gone ∙ of-append s p.gone t.left

  -- the messages of a selection whose link isn't this one
  stands_else : (s : ℕ) (k : Option ℕ) → (k ≡ Some l → ⊥) → standing q s k ≡ standing p s k
  stands_else s None not_so = refl
  stands_else s (Some j) not_so = rw (t.held_else j (λ e. not_so (ap Some e)), t.retrieval_else j (λ e. not_so (ap Some e))) refl

  whole-at : (s : ℕ) → s < SELECTIONS → Is (p.link s) l → of s q.accepted ≡ of s q.gone ++ standing q s (p.link s)
  whole-at s h (inl e) =
      let before : of s p.accepted ≡ of s p.gone ++ (of s (p.held l) ++ of s (p.retrieval l)) = o.whole s h ∙ ap (λ (k : Option ℕ). of s p.gone ++ standing p s k) e in
      let now : of s p.accepted ++ of s t.came ≡ of s p.gone ++ of s t.left ++ (of s (q.held l) ++ of s (q.retrieval l)) =
      whole_own (of s p.accepted) (of s p.gone) (of s (p.held l)) (of s (p.retrieval l)) (of s t.came) (of s t.left) (of s (q.held l)) (of s (q.retrieval l)) before (of-order s) in
      accepted-of s ∙ now ∙ sym (ap (λ (k : Option ℕ). of s q.gone ++ standing q s k) e ∙ ap (λ (g : List Msu). g ++ (of s (q.held l) ++ of s (q.retrieval l))) (gone-of s))
  whole-at s h (inr not_so) =
      let none = elsewhere s h not_so in
      accepted-of s ∙ ap (λ (c : List Msu). of s p.accepted ++ c) (came_none s h not_so) ∙ append-nil (of s p.accepted) ∙ o.whole s h
      ∙ sym (ap (λ (g : List Msu). g ++ standing q s (p.link s)) (gone-of s ∙ ap (λ (c : List Msu). of s p.gone ++ c) none.0 ∙ append-nil (of s p.gone))
      ∙ ap (λ (c : List Msu). of s p.gone ++ c) (stands_else s (p.link s) not_so))

  held-at : (s j : ℕ) → s < SELECTIONS → (p.link s ≡ Some j → ⊥) → Same j l → of s (q.held j) ≡ []
  held-at s j h not_so (inl e) = ap (λ (i : ℕ). of s (q.held i)) e ∙ (elsewhere s h (λ f. not_so (f ∙ ap Some (sym e)))).1
  held-at s j h not_so (inr other) = ap (of s) (t.held_else j other) ∙ o.links_else s j h not_so

  retrieval-at : (s j : ℕ) → s < SELECTIONS → (p.link s ≡ Some j → ⊥) → Same j l → of s (q.retrieval j) ≡ []
  retrieval-at s j h not_so (inl e) = ap (λ (i : ℕ). of s (q.retrieval i)) e ∙ (elsewhere s h (λ f. not_so (f ∙ ap Some (sym e)))).2
  retrieval-at s j h not_so (inr other) = ap (of s) (t.retrieval_else j other) ∙ o.retrievals_else s j h not_so

  alone-at : (j : ℕ) → Same j l → (q.retrieval j ≡ []) ⊎ (q.held j ≡ [])
  alone-at j (inl e) = rw e t.apart
  alone-at j (inr other) = rw (t.retrieval_else j other, t.held_else j other) (o.alone j)

  pub keeps-at_one_link : OnePlace q
  keeps-at_one_link = record {
    whole = λ s h. whole-at s h (is (p.link s) l) ∙ ap (λ (k : Option ℕ). of s q.gone ++ standing q s k) (sym (t.link s));
    links_else = λ s j h not_so. held-at s j h (λ e. not_so (t.link s ∙ e)) (same j l);
    retrievals_else = λ s j h not_so. retrieval-at s j h (λ e. not_so (t.link s ∙ e)) (same j l);
    alone = λ j. alone-at j (same j l);
  }
