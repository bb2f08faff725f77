-- The path that a search finds exists, and if it finds none there is none.
use Rattle.std.proofs.Common.{◌≡◌, ℕ, suc, zero, ◌+◌, ◌<◌, ◌≤◌, Bool, true, false, List, [], ◌∷◌, ◌++◌, length, refl, ap, sym, ◌∙◌, subst, arith, inl, inr, Option, Some, None, Vec, Global, take, get_or, length-append}
use Rattle.std.specs.Prelude.{slice_get, Contains, IfSome, IfNone, is_some, replicate, option_and_then}
use Rattle.std.proofs.lemmas.List.Elements.{All-contains, All-more}
use Rattle.std.proofs.lemmas.List.{take_all}
use Rattle.std.proofs.lemmas.Option.{slice_get_within, slice_get-get_or, slice_get_past}
use Rattle.std.proofs.lemmas.Bool.{cases_eq, cases_lt}
use Rattle.sdl_unset.proofs.Seen.{covers_on, grows_not}
use Rattle.sdl_unset.specs.declared.paths.Passage.{Passage}
use Rattle.sdl_unset.specs.declared.paths.Visit.{Visit}
use Rattle.sdl_unset.specs.declared.paths.Summary.{Summary}
use Rattle.sdl_unset.specs.declared.paths.Graph.{Graph}
use Rattle.sdl_unset.specs.declared.paths.Step.{Step}
use Rattle.sdl_unset.specs.declared.paths.Step.TheVariants.{Start, Input}
use Rattle.sdl_unset.specs.Graph.{has, Place, Leads, Passes, ReadsFrom, ReadsUnset, Reached, IsSeen, Covers, IsSafe, IsExpanded, IsClosed, IsClosedSet, AreEntered}
use Rattle.sdl_unset.specs.Visits.{unseen, AreSafe, Grows, Enters, IsBy, IsByInput, ReadsBy, AreReached, AreVisited, AreExpanded}
use Rattle.plain_laws.proofs.Places.{among_at as reached_place, all_at}

-- One more step, which reads x.
pub reads_after : (g : Graph) (x : ℕ) (place : Place) (path : List Step) (s : ℕ) (step : Step) (t : Summary)
    → Reached g x place path s → Leads g (Some s) step t → has t.reads x ≡ true → ReadsFrom g x place (path ++ step ∷ [])
reads_after g x place [] s step t here leads reads =
    let P : Place → Type 0 = λ p. Leads g p step t in (t, subst P (sym here) leads, reads)
reads_after g x place (one ∷ []) s step t (u, q, first, passes, rest) leads reads =
    (u, q, first, passes, reads_after g x (Some q) [] s step t rest leads reads)
reads_after g x place (one ∷ two ∷ path) s step t (u, q, first, passes, rest) leads reads =
    (u, q, first, passes, reads_after g x (Some q) (two ∷ path) s step t rest leads reads)

-- One more step, which leaves x unset.
pub reached_after : (g : Graph) (x : ℕ) (place : Place) (path : List Step) (s : ℕ) (step : Step) (t : Summary) (r : ℕ)
    → Reached g x place path s → Leads g (Some s) step t → Passes t x r → Reached g x place (path ++ step ∷ []) r
reached_after g x place [] s step t r here leads passes =
    let P : Place → Type 0 = λ p. Leads g p step t in (t, r, subst P (sym here) leads, passes, refl)
reached_after g x place (one ∷ path) s step t r (u, q, first, passed, rest) leads passes =
    (u, q, first, passed, reached_after g x (Some q) path s step t r rest leads passes)

-- From a state that was seen no path reads x unset, once all states that were seen are expanded.
pub none_from_seen : (g : Graph) (x : ℕ) (seen : List Bool) → IsClosed g x seen → (path : List Step) (s : ℕ)
    → IsSeen seen s → ReadsFrom g x (Some s) path → ⊥
none_from_seen g x seen closed [] s here reads = reads
none_from_seen g x seen closed (step ∷ []) s here (t, leads, reads) =
    let quiet : has t.reads x ≡ false = (closed s here step t leads).reads in cc
none_from_seen g x seen closed (step ∷ next ∷ path) s here (t, q, leads, passes, reads) =
    let covered : IsSeen seen passes.passage.state = All-contains (λ p. has p.keeps x ≡ true → IsSeen seen p.state) _ _ (closed s here step t leads).covers passes.among passes.keeps in
    let P : ℕ → Type 0 = λ n. IsSeen seen n in
    none_from_seen g x seen closed (next ∷ path) q (subst P passes.ends covered) reads

-- ---- the inputs of a state

-- A safe transition stays safe when more states are seen.
pub safe_on : (t : Summary) (x : ℕ) (old new : List Bool) → ((s : ℕ) → IsSeen old s → IsSeen new s) → IsSafe t x old → IsSafe t x new
safe_on t x old new stays safe = record { reads = safe.reads; covers = covers_on t.passages.items x old new stays safe.covers }

-- One more input.
pub safe_more : (inputs : List Summary) (i x : ℕ) (t : Summary) (old new : List Bool) → i < length inputs → t ≡ get_or inputs i t
    → ((s : ℕ) → IsSeen old s → IsSeen new s) → AreSafe (take i inputs) x old → has t.reads x ≡ false
    → Covers t.passages.items x new → AreSafe (take (i + 1) inputs) x new
safe_more inputs i x t old new within is stays before quiet covers =
    let P : Summary → Type 0 = λ u. IsSafe u x new in
    All-more P inputs i t within (λ k d lt. safe_on _ x old new stays (before k d lt))
    (subst P is (record { reads = quiet; covers = covers }))

pub safe_all : (inputs : List Summary) (i x : ℕ) (seen : List Bool) → length inputs ≤ i → AreSafe (take i inputs) x seen → AreSafe inputs x seen
safe_all inputs i x seen past h = let P : List Summary → Type 0 = λ l. AreSafe l x seen in subst P (take_all i inputs past) h

-- A visit by the passages of an input, whose path has that input as its last step.
pub by_input : (inputs : List Summary) (i x state : ℕ) (t : Summary) (path longer : List Step) (passages : List Passage) → slice_get inputs i ≡ Some t
    → passages ≡ t.passages.items → longer ≡ path ++ Input state i ∷ [] → (v : Visit) → IsBy passages x longer v → IsByInput inputs x state path v
by_input inputs i x state t path longer passages there ps all v by = record {
  number = i;
  summary = t;
  there = there;
  by =
      let P : List Passage → Type 0 = λ l. IsBy l x longer v in
      let Q : List Step → Type 0 = λ l. IsBy t.passages.items x l v in
      subst Q all (subst P ps by);
}

-- ---- the search

pub some_weaker : {A : Type 0} (P Q : A → Type 0) (o : Option A) → ((a : A) → P a → Q a) → IfSome o P → IfSome o Q
some_weaker P Q None weaker h = h
some_weaker P Q (Some a) weaker h = weaker a h

-- The input of a state that exists.
pub leads_by : (g : Graph) (s i : ℕ) (inputs : Vec Summary Global) (t : Summary) → slice_get g.states.items s ≡ Some inputs
    → slice_get inputs.items i ≡ Some t → Leads g (Some s) (Input s i) t
leads_by g s i inputs t state there = (refl, ap (λ o. option_and_then (λ (l : Vec Summary Global). slice_get l.items i) o) state ∙ there)

pub found_by : (g : Graph) (x s : ℕ) (path : List Step) (inputs : Vec Summary Global) (longer : List Step) → Reached g x None path s
    → slice_get g.states.items s ≡ Some inputs → ReadsBy inputs.items x s path longer → ReadsUnset g x longer
found_by g x s path inputs longer reached state r =
    let P : List Step → Type 0 = λ l. ReadsUnset g x l in
    subst P (sym r.all) (reads_after g x None path s (Input s r.number) r.summary reached (leads_by g s r.number inputs r.summary state r.there) r.reads)

pub reached_by : (g : Graph) (x s : ℕ) (path : List Step) (inputs : Vec Summary Global) (old new : List Visit) → Reached g x None path s
    → slice_get g.states.items s ≡ Some inputs → AreReached g x old → Enters (IsByInput inputs.items x s path) old new → AreReached g x new
reached_by g x s path inputs old new reached state before enters v here = elim (enters v here) [
  | inl was ↦ before v was
  | inr b ↦
      let passes : Passes b.summary x v.state = record { passage = b.by.passage; among = b.by.among; keeps = b.by.keeps; ends = sym b.by.visit.at } in
      let P : List Step → Type 0 = λ l. Reached g x None l v.state in
      subst P (sym b.by.visit.by) (reached_after g x None path s (Input s b.number) b.summary v.state reached (leads_by g s b.number inputs b.summary state b.there) passes)
]

-- A state whose inputs are safe is expanded.
pub expanded_by : (g : Graph) (x s : ℕ) (inputs : Vec Summary Global) (seen : List Bool) → slice_get g.states.items s ≡ Some inputs
    → AreSafe inputs.items x seen → IsExpanded g x seen s
expanded_by g x s inputs seen state safe Start t leads = absurd leads
expanded_by g x s inputs seen state safe (Input q i) t leads =
    let there : slice_get inputs.items i ≡ Some t = sym (ap (λ o. option_and_then (λ (l : Vec Summary Global). slice_get l.items i) o) state) ∙ leads.1 in
    all_at (λ u. IsSafe u x seen) inputs.items i t safe there

-- A state that doesn't exist has no input.
pub expanded_past : (g : Graph) (x s : ℕ) (seen : List Bool) → length g.states.items ≤ s → IsExpanded g x seen s
expanded_past g x s seen past Start t leads = absurd leads
expanded_past g x s seen past (Input q i) t leads =
    let none : None ≡ Some t = sym (ap (λ o. option_and_then (λ (l : Vec Summary Global). slice_get l.items i) o) (slice_get_past g.states.items s past)) ∙ leads.1 in
    absurd (cc)

pub expanded_on : (g : Graph) (x s : ℕ) (old new : List Bool) → ((q : ℕ) → IsSeen old q → IsSeen new q) → IsExpanded g x old s → IsExpanded g x new s
expanded_on g x s old new stays before step t leads = safe_on t x old new stays (before step t leads)

-- Elements of the first of two lists keep their places.
pub slice_get_front : {A : Type 0} (xs ys : List A) (k : ℕ) → k < length xs → slice_get (xs ++ ys) k ≡ slice_get xs k
slice_get_front [] ys k h = absurd (omega arith)
slice_get_front (x ∷ xs) ys zero h = refl
slice_get_front (x ∷ xs) ys (suc k) h = slice_get_front xs ys k (omega (arith, h))

-- The expanded visits stay expanded, and one more is.
pub expanded_more : (g : Graph) (x next : ℕ) (v : Visit) (old : List Bool) (visits : List Visit) (new : List Bool) (new_visits : List Visit)
    → Grows old visits new new_visits → slice_get visits next ≡ Some v → IsExpanded g x new v.state
    → AreExpanded g x old visits next → AreExpanded g x new new_visits (next + 1)
expanded_more g x next v old visits new new_visits grows there expanded before k w lt at =
    let within : next < length visits = slice_get_within visits next v there in
    let inside : k < length visits = omega (arith, within, lt) in
    let was : slice_get visits k ≡ Some w =
    sym (ap (λ l. slice_get l k) grows.all ∙ slice_get_front visits grows.added k inside) ∙ at in
    elim (cases_eq k next) [
      | inl e ↦
          let same : Some v ≡ Some w = sym there ∙ ap (slice_get visits) (sym e) ∙ was in
          let P : Option Visit → Type 0 = λ o. IfSome o (λ u. IsExpanded g x new u.state) in
          subst P same expanded
      | inr ne ↦ expanded_on g x w.state old new grows.stays (before k w (omega (arith, lt, ne)) was)
    ]

-- Once all visits are expanded, so is each state that was seen.
pub closed_by : (g : Graph) (x next : ℕ) (seen : List Bool) (visits : List Visit) → length seen ≡ length g.states.items
    → length visits ≤ next → AreVisited seen visits → AreExpanded g x seen visits next → IsClosed g x seen
closed_by g x next seen visits states past visited expanded s here = elim (cases_lt s (length seen)) [
  | inl lt ↦
      let found = visited s (here lt) in
      let k : ℕ = found.1.0 in
      let within : k < length visits = found.1.1 in
      let at : slice_get visits k ≡ Some found.0 = slice_get-get_or visits k found.0 within ∙ ap (λ w. Some w) found.1.2 in
      let P : ℕ → Type 0 = λ q. IsExpanded g x seen q in
      subst P found.2 (expanded k found.0 (omega (arith, within, past)) at)
  | inr ge ↦ expanded_past g x s seen (omega (arith, ge, states))
]

-- A state that was seen has a visit, and so a path to it.
pub entered_by : (g : Graph) (x : ℕ) (seen : List Bool) (visits : List Visit) → AreReached g x visits → AreVisited seen visits → AreEntered g x seen
entered_by g x seen visits reached visited s here =
    let found = visited s here in
    let P : ℕ → Type 0 = λ q. Reached g x None found.0.path.items q in
    (found.0.path.items, subst P found.2 (reached found.0 found.1))

-- The invariant between two turns of the search.
pub record Progress (g : Graph) (x : ℕ) (seen : List Bool) (visits : List Visit) (next : ℕ) : Type 0 where
  pub states : length seen ≡ length g.states.items
  pub reached : AreReached g x visits
  pub visited : AreVisited seen visits
  pub count : length visits + unseen seen ≡ length seen
  pub expanded : AreExpanded g x seen visits next
  pub within : next ≤ length visits

-- A turn that went through the inputs of a state.
pub progress_on : (g : Graph) (x next : ℕ) (v : Visit) (inputs : Vec Summary Global) (path : List Step) (old : List Bool) (visits : List Visit)
    (new : List Bool) (new_visits : List Visit) → Progress g x old visits next → slice_get visits next ≡ Some v → path ≡ v.path.items
    → slice_get g.states.items v.state ≡ Some inputs → Grows old visits new new_visits
    → Enters (IsByInput inputs.items x v.state path) visits new_visits → AreSafe inputs.items x new → Progress g x new new_visits (next + 1)
progress_on g x next v inputs path old visits new new_visits p there by state grows enters safe =
    let within : next < length visits = slice_get_within visits next v there in
    let here : Reached g x None v.path.items v.state = p.reached v (reached_place visits next v there) in
    let P : List Step → Type 0 = λ l. Reached g x None l v.state in
    let longer : length new_visits ≡ length visits + length grows.added = ap length grows.all ∙ length-append visits grows.added in
    record {
      states = grows.states ∙ p.states;
      reached = reached_by g x v.state path inputs visits new_visits (subst P (sym by) here) state p.reached enters;
      visited = grows.visited p.visited;
      count = grows.count ∙ p.count ∙ sym grows.states;
      expanded = expanded_more g x next v old visits new new_visits grows there (expanded_by g x v.state inputs new state safe) p.expanded;
      within = omega (arith, within, longer);
    }

-- A turn at a state that doesn't exist.
pub progress_past : (g : Graph) (x next : ℕ) (v : Visit) (seen : List Bool) (visits : List Visit) → Progress g x seen visits next
    → slice_get visits next ≡ Some v → length g.states.items ≤ v.state → Progress g x seen visits (next + 1)
progress_past g x next v seen visits p there past =
    let within : next < length visits = slice_get_within visits next v there in
    record {
      states = p.states;
      reached = p.reached;
      visited = p.visited;
      count = p.count;
      expanded = expanded_more g x next v seen visits seen visits (grows_not seen visits) there (expanded_past g x v.state seen past) p.expanded;
      within = omega (arith, within);
    }

pub when_none : {A : Type 0} (o : Option A) (P : Type 0) → is_some o ≡ false → IfNone o P → P
when_none None P e h = h
when_none (Some a) P e h = let bad : true ≡ false = e in absurd (cc)

-- ---- the whole search

-- The states to which the transition of START leads are reached.
pub reached_from_start : (g : Graph) (x : ℕ) (passages : List Passage) (path : List Step) (new : List Visit) → passages ≡ g.start.passages.items
    → path ≡ Start ∷ [] → Enters (IsBy passages x path) [] new → AreReached g x new
reached_from_start g x passages path new ps all enters v here = elim (enters v here) [
  | inl none ↦ absurd (omega (arith, none.1))
  | inr by ↦
      let among : Contains g.start.passages.items by.passage = let P : List Passage → Type 0 = λ l. Contains l by.passage in subst P ps by.among in
      let Q : List Step → Type 0 = λ l. Reached g x None l v.state in
      subst Q (sym (by.visit.by ∙ all)) (g.start, v.state, refl, record { passage = by.passage; among = among; keeps = by.keeps; ends = sym by.visit.at }, refl)
]

-- If no state was seen, none needs a visit.
pub visited_none : (n : ℕ) → AreVisited (replicate n false) []
visited_none n s h = absurd (not_seen n s h)
  where
    not_seen : (n s : ℕ) → slice_get (replicate n false) s ≡ Some true → ⊥
    not_seen zero s h = let bad : None ≡ Some true = h in absurd (cc)
    not_seen (suc n) zero h = let bad : Some false ≡ Some true = h in absurd (cc)
    not_seen (suc n) (suc s) h = not_seen n s h

pub unseen_all : (n : ℕ) → unseen (replicate n false) ≡ n
unfolding unseen
unseen_all zero = refl
unseen_all (suc n) = ap suc (unseen_all n)

-- No path reads x unset, if the transition of START doesn't and all states that can be reached are safe.
pub none_at_all : (g : Graph) (x : ℕ) (seen : List Bool) → has g.start.reads x ≡ false → Covers g.start.passages.items x seen → IsClosed g x seen
    → (path : List Step) → ReadsUnset g x path → ⊥
none_at_all g x seen quiet covers closed [] reads = reads
none_at_all g x seen quiet covers closed (Start ∷ []) (t, leads, reads) =
    let bad : has g.start.reads x ≡ true = ap (λ u. has u.reads x) (sym leads) ∙ reads in absurd (cc)
none_at_all g x seen quiet covers closed (Input s i ∷ []) (t, leads, reads) = absurd leads
none_at_all g x seen quiet covers closed (Start ∷ next ∷ path) (t, s, leads, passes, reads) =
    let among : Contains g.start.passages.items passes.passage = let P : Summary → Type 0 = λ u. Contains u.passages.items passes.passage in subst P leads passes.among in
    let covered : IsSeen seen passes.passage.state = All-contains (λ p. has p.keeps x ≡ true → IsSeen seen p.state) _ _ covers among passes.keeps in
    let P : ℕ → Type 0 = λ q. IsSeen seen q in
    none_from_seen g x seen closed (next ∷ path) s (subst P passes.ends covered) reads
none_at_all g x seen quiet covers closed (Input q i ∷ next ∷ path) (t, s, leads, passes, reads) = absurd leads

-- The states are a closed set, if the transition of START and all states that can be reached are safe.
pub closed_set : (g : Graph) (x : ℕ) (seen after : List Bool) → length after ≡ length g.states.items → has g.start.reads x ≡ false
    → Covers g.start.passages.items x seen → ((s : ℕ) → IsSeen seen s → IsSeen after s) → IsClosed g x after → IsClosedSet g x after
closed_set g x seen after count quiet covers stays closed = record {
  count = count;
  start = record { reads = quiet; covers = covers_on g.start.passages.items x seen after stays covers };
  states = closed;
}

-- No path reads x unset, if there is a closed set of states.
pub none_with : (g : Graph) (x : ℕ) (marks : List Bool) → IsClosedSet g x marks → (path : List Step) → ReadsUnset g x path → ⊥
none_with g x marks set = none_at_all g x marks set.start.reads set.start.covers set.states
