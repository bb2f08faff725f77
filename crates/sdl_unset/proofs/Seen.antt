-- Lists of states that were seen, and of visits.
use Rattle.std.proofs.Common.{◌≡◌, ℕ, zero, suc, ◌+◌, ◌/◌, ◌^◌, ◌<◌, ◌≤◌, Bool, true, false, ◌==◌, List, [], ◌∷◌, ◌++◌, length, refl, ap, sym, ◌∙◌, subst, arith, inl, inr, Some, take, get_or, append_assoc, append-nil, length-append}
use Rattle.std.specs.Prelude.{slice_get, slice_set}
use Rattle.std.proofs.lemmas.Nat.Bits.{shr_and_one}
use Rattle.std.proofs.lemmas.List.Elements.{Contains-append_left, Contains-push, Contains-get_or, All-more}
use Rattle.std.proofs.lemmas.Bool.{cases_eq}
use Rattle.std.proofs.lemmas.List.{length-set, take_all}
use lib.Bits.{bit_and}
use Rattle.sdl_unset.specs.Graph.{has, IsSeen, Covers}
use Rattle.sdl_unset.specs.Visits.{unseen, Grows, AreVisited, Enters, IsVisit, IsBy}
use Rattle.sdl_unset.specs.declared.paths.Visit.{Visit}
use Rattle.sdl_unset.specs.declared.paths.Passage.{Passage}
use Rattle.sdl_unset.specs.declared.paths.Step.{Step}
use Rattle.plain_laws.proofs.Places.{get_set_same, get_set_other}

pub has-shift : (a n : ℕ) → (bit_and (a / 2 ^ n) 1 == 1) ≡ has a n
unfolding has
has-shift a n = rw (shr_and_one a n) refl

pub unseen_set : (seen : List Bool) (k : ℕ) → slice_get seen k ≡ Some false → suc (unseen (slice_set seen k true)) ≡ unseen seen
unfolding unseen
unseen_set [] k e = cc
unseen_set (true ∷ seen) zero e = cc
unseen_set (false ∷ seen) zero e = refl
unseen_set (true ∷ seen) (suc k) e = unseen_set seen k e
unseen_set (false ∷ seen) (suc k) e = ap suc (unseen_set seen k e)

-- A state that was seen stays seen.
stays_at : (seen : List Bool) (k s : ℕ) → k < length seen → IsSeen seen s → IsSeen (slice_set seen k true) s
stays_at seen k s within old h = elim (cases_eq s k) [
  | inl e ↦ rw e (get_set_same seen k true within)
  | inr ne ↦ get_set_other seen k s true ne ∙ old (omega (arith, h, length-set seen k true))
]

-- The state that is seen now has a visit.
visited_at : (seen : List Bool) (visits : List Visit) (k : ℕ) (v : Visit) → k < length seen → v.state ≡ k
    → AreVisited seen visits → AreVisited (slice_set seen k true) (visits ++ v ∷ [])
visited_at seen visits k v within at old s h = elim (cases_eq s k) [
  | inl e ↦ (v, Contains-push visits v, at ∙ sym e)
  | inr ne ↦ let w = old s (sym (get_set_other seen k s true ne) ∙ h) in (w.0, Contains-append_left visits (v ∷ []) w.0 w.1, w.2)
]

-- One more state was seen, and is visited.
pub grows_by : (seen : List Bool) (visits : List Visit) (k : ℕ) (v : Visit) (new_seen : List Bool) (new_visits : List Visit)
    → k < length seen → slice_get seen k ≡ Some false → v.state ≡ k
    → new_seen ≡ slice_set seen k true → new_visits ≡ visits ++ v ∷ []
    → Grows seen visits new_seen new_visits
grows_by seen visits k v new_seen new_visits within not_seen at seen_is visits_are = record {
  states = ap length seen_is ∙ length-set seen k true;
  stays = λ s old. let P : List Bool → Type 0 = λ l. IsSeen l s in subst P (sym seen_is) (stays_at seen k s within old);
  added = v ∷ [];
  all = visits_are;
  visited = λ old.
      let P : List Bool → Type 0 = λ l. AreVisited l new_visits in
      let Q : List Visit → Type 0 = λ l. AreVisited (slice_set seen k true) l in
      subst P (sym seen_is) (subst Q (sym visits_are) (visited_at seen visits k v within at old));
  count =
      let count_is : length new_visits ≡ length visits + 1 = ap length visits_are ∙ length-append visits (v ∷ []) in
      let less : suc (unseen new_seen) ≡ unseen seen = ap (λ l. suc (unseen l)) seen_is ∙ unseen_set seen k not_seen in
      omega (arith, count_is, less);
}

-- Nothing was added.
pub grows_not : (seen : List Bool) (visits : List Visit) → Grows seen visits seen visits
grows_not seen visits = record {
  states = refl;
  stays = λ s h. h;
  added = [];
  all = sym (append-nil visits);
  visited = λ h. h;
  count = refl;
}

pub grows_on : (a : List Bool) (u : List Visit) (b : List Bool) (v : List Visit) (c : List Bool) (w : List Visit)
    → Grows a u b v → Grows b v c w → Grows a u c w
grows_on a u b v c w g h = record {
  states = h.states ∙ g.states;
  stays = λ s old. h.stays s (g.stays s old);
  added = g.added ++ h.added;
  all = h.all ∙ ap (λ l. l ++ h.added) g.all ∙ append_assoc u g.added h.added;
  visited = λ old. h.visited (g.visited old);
  count = h.count ∙ g.count;
}

-- Each visit after two steps was there before, or is of the kind of one of the steps.
pub enters_on : (P Q R : Visit → Type 0) (u v w : List Visit) → Enters P u v → Enters Q v w
    → ((x : Visit) → P x → R x) → ((x : Visit) → Q x → R x) → Enters R u w
enters_on P Q R u v w first second from_first from_second x h = elim (second x h) [
  | inl before ↦ elim (first x before) [ inl old ↦ inl old | inr new ↦ inr (from_first x new) ]
  | inr new ↦ inr (from_second x new)
]

-- One more passage.
pub covers_more : (ps : List Passage) (i x : ℕ) (d : Passage) (old new : List Bool) → i < length ps
    → ((s : ℕ) → IsSeen old s → IsSeen new s) → Covers (take i ps) x old
    → (has (get_or ps i d).keeps x ≡ true → IsSeen new (get_or ps i d).state) → Covers (take (i + 1) ps) x new
covers_more ps i x d old new within stays before last =
    let P : Passage → Type 0 = λ p. has p.keeps x ≡ true → IsSeen new p.state in
    All-more P ps i d within (λ k e lt keeps. stays _ (before k e lt keeps)) last

-- Passages that were covered stay covered when more states are seen.
pub covers_on : (ps : List Passage) (x : ℕ) (old new : List Bool) → ((s : ℕ) → IsSeen old s → IsSeen new s) → Covers ps x old
    → Covers ps x new
covers_on ps x old new stays before = λ k e lt keeps. stays _ (before k e lt keeps)

pub by_passage : (ps : List Passage) (i x : ℕ) (d : Passage) (path : List Step) → i < length ps → has (get_or ps i d).keeps x ≡ true
    → (v : Visit) → IsVisit (get_or ps i d).state path v → IsBy ps x path v
by_passage ps i x d path within keeps v visit = record {
  passage = get_or ps i d;
  among = Contains-get_or ps i d within;
  keeps = keeps;
  visit = visit;
}

-- The passages up to a place after the last one are all passages.
pub covers_all : (ps : List Passage) (i x : ℕ) (seen : List Bool) → length ps ≤ i → Covers (take i ps) x seen → Covers ps x seen
covers_all ps i x seen past h = let P : List Passage → Type 0 = λ l. Covers l x seen in subst P (take_all i ps past) h
