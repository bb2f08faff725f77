-- The search finds the first path: visits are in order, and each state keeps the visit by the path that comes first.
use Rattle.std.proofs.Common.{◌≡◌, ℕ, ◌+◌, ◌<◌, ◌≤◌, Bool, true, false, List, [], ◌∷◌, ◌++◌, length, take, refl, ap, sym, ◌∙◌, subst, arith, inl, inr, Option, Some, None, Vec, Global, append_assoc, length-append}
use Rattle.std.specs.Prelude.{All, slice_get, Contains, IfSome, option_and_then}
use Rattle.std.proofs.lemmas.List.Elements.{All-contains, All-cons, All-nil, Contains-append_left, Contains-append_cases}
use Rattle.std.proofs.lemmas.List.{get_or-take, length-take-le}
use Rattle.std.proofs.lemmas.Option.{get_or_from_slice_get, slice_get_within, slice_get_past, slice_get-get_or}
use Rattle.std.proofs.lemmas.Bool.{cases_eq, cases_lt}
use Rattle.sdl_unset.specs.declared.paths.Visit.{Visit}
use Rattle.sdl_unset.specs.declared.paths.Passage.{Passage}
use Rattle.sdl_unset.specs.declared.paths.Summary.{Summary}
use Rattle.sdl_unset.specs.declared.paths.Graph.{Graph}
use Rattle.sdl_unset.specs.declared.paths.Step.{Step}
use Rattle.sdl_unset.specs.declared.paths.Step.TheVariants.{Start, Input}
use Rattle.sdl_unset.specs.Graph.{has, Leads, Passes, ReadsFrom, ReadsUnset, Reached, IsShortest, IsSeen, Covers, IsExpanded}
use Rattle.sdl_unset.specs.Order.{Before, NotAfter, IsFirst, AreSorted, IsSorted}
use Rattle.sdl_unset.specs.Visits.{Grows, Enters, IsBy, AreVisited, AreExpanded, AreLevels, ComesBefore, AreKept, AreUnder, IsVisitedBy, LeadsBy, AreNear, AreAllSorted, AreLeast}
use Rattle.sdl_unset.proofs.PathWalking.{slice_get_front}
use Rattle.sdl_unset.proofs.Levels.{last_place, reads_within, place_before}
use Rattle.sdl_unset.proofs.Orders.{before_trans, before_by, not_after_trans, no_longer, one_more, before_last, not_after_more, before_steps, not_after_step, comes_before}
use Rattle.plain_laws.proofs.Places.{among_at as reached_place}

-- ---- one more visit

pub kept_push : (path : List Step) (s q : ℕ) (visits : List Visit) (v : Visit) → v.path.items ≡ path → v.state ≡ s → s < q → AreKept path s visits
    → AreKept path q (visits ++ v ∷ [])
kept_push path s q visits v by at lt h = record {
  order = λ i j u w less at_i at_j. elim (cases_lt j (length visits)) [
    | inl inside ↦
        h.order i j u w less
        (sym (slice_get_front visits (v ∷ []) i (omega (arith, less, inside))) ∙ at_i)
        (sym (slice_get_front visits (v ∷ []) j inside) ∙ at_j)
    | inr past ↦
        let within : j < length (visits ++ v ∷ []) = slice_get_within (visits ++ v ∷ []) j w at_j in
        let long : length (visits ++ v ∷ []) ≡ length visits + 1 = length-append visits (v ∷ []) in
        let front : i < length visits = omega (arith, less, within, long) in
        let among : Contains visits u = reached_place visits i u (sym (slice_get_front visits (v ∷ []) i front) ∙ at_i) in
        let same : v ≡ w = last_place visits j v w past at_j in
        let P : Visit → Type 0 = λ z. ComesBefore u.path.items u.state z.path.items z.state in
        let Q : List Step → Type 0 = λ l. ComesBefore u.path.items u.state l v.state in
        let R : ℕ → Type 0 = λ n. ComesBefore u.path.items u.state path n in
        subst P same (subst Q (sym by) (subst R (sym at) (h.most u among)))
  ];
  most = λ u here. elim (Contains-append_cases visits (v ∷ []) u here) [
    | inl old ↦ elim (h.most u old) [ inl l ↦ inl l | inr e ↦ inr (e.0, omega (arith, e.1, lt)) ]
    | inr new ↦
        let P : Visit → Type 0 = λ z. ComesBefore z.path.items z.state path q in
        All-contains P (v ∷ []) u (All-cons P v [] (inr (by, omega (arith, at, lt))) (All-nil P)) new
  ];
}

-- As above, for lists that are equal to these.
pub kept_added : (path : List Step) (s q : ℕ) (visits new : List Visit) (v : Visit) → v.path.items ≡ path → v.state ≡ s → s < q → new ≡ visits ++ v ∷ []
    → AreKept path s visits → AreKept path q new
kept_added path s q visits new v by at lt all h =
    let P : List Visit → Type 0 = λ l. AreKept path q l in subst P (sym all) (kept_push path s q visits v by at lt h)

pub under_kept : (path : List Step) (q : ℕ) (visits : List Visit) → AreKept path q visits → AreUnder path visits
under_kept path q visits h = record {
  order = h.order;
  most = λ v here. elim (h.most v here) [ inl l ↦ inr l | inr e ↦ inl e.0 ];
}

-- If no path of the visits comes after a path, they all come before any later path.
pub kept_under : (path later : List Step) (visits : List Visit) → Before path later → AreUnder path visits → AreKept later 0 visits
kept_under path later visits less h = record {
  order = h.order;
  most = λ v here. inl (before_by v.path.items path later (h.most v here) less);
}

pub kept_none : (path : List Step) (q : ℕ) → AreKept path q []
kept_none path q = record { order = λ i j v w less at_i at_j. absurd (cc); most = λ v here. absurd (omega (arith, here.1)) }

-- ---- the passages of a transition

-- The states of the first n passages are below q.
abbrev pub AreBelow : List Passage → ℕ → ℕ → Type 0
AreBelow ps n q = (j : ℕ) (p : Passage) → j < n → slice_get ps j ≡ Some p → p.state < q

-- The visits after some passages have been gone through, if the visits were before a path.
abbrev pub IsEntered : List Passage → ℕ → List Step → List Visit → List Visit → Type 0
IsEntered ps n path old new = AreSorted ps → AreKept path 0 old
    → AreUnder path new × ((q : ℕ) → AreBelow ps n q → AreKept path q new)

pub entered_past : (ps : List Passage) (n : ℕ) (path : List Step) (old new : List Visit) → IsEntered ps n path old new → IsEntered ps (n + 1) path old new
entered_past ps n path old new h = λ sorted k. let was = h sorted k in (was.0, λ q below. was.1 q (λ j p lt there. below j p (omega (arith, lt)) there))

pub entered_more : (ps : List Passage) (n : ℕ) (p : Passage) (path : List Step) (old visits new : List Visit) → slice_get ps n ≡ Some p
    → ((q : ℕ) → p.state < q → AreKept path p.state visits → AreKept path q new) → IsEntered ps n path old visits → IsEntered ps (n + 1) path old new
entered_more ps n p path old visits new there see h = λ sorted k.
    let was = h sorted k in
    let here : AreKept path p.state visits = was.1 p.state (λ j r lt at. sorted j n r p lt at there) in (
      under_kept path (p.state + 1) new (see (p.state + 1) (omega arith) here),
      λ q below. see q (below n p (omega arith) there) here,
    )

-- ---- where transitions lead

-- The states that were seen have visits, none by a path that comes later.
pub near_by : (x count : ℕ) (seen : List Bool) (visits : List Visit) (path : List Step) (t : Summary) → count ≤ length seen
    → AreVisited seen visits → AreUnder path visits → Covers t.passages.items x seen → LeadsBy count x visits path t
near_by x count seen visits path t states visited under covers q passes within =
    let covered : IsSeen seen passes.passage.state = All-contains (λ p. has p.keeps x ≡ true → IsSeen seen p.state) _ _ covers passes.among passes.keeps in
    let P : ℕ → Type 0 = λ s. IsSeen seen s in
    let here : IsSeen seen q = subst P passes.ends covered in
    let found = visited q (here (omega (arith, states, within))) in
    record { visit = found.0; among = found.1; at = found.2; by = under.most found.0 found.1 }

-- The states that were visited still are.
pub near_on : (x count : ℕ) (visits new : List Visit) (path : List Step) (t : Summary) → ((v : Visit) → Contains visits v → Contains new v)
    → LeadsBy count x visits path t → LeadsBy count x new path t
near_on x count visits new path t more near q passes within =
    let w = near q passes within in
    record { visit = w.visit; among = more w.visit w.among; at = w.at; by = w.by }

pub more_visits : (old : List Bool) (visits : List Visit) (new : List Bool) (new_visits : List Visit) → Grows old visits new new_visits
    → (v : Visit) → Contains visits v → Contains new_visits v
more_visits old visits new new_visits grows v h =
    let P : List Visit → Type 0 = λ xs. Contains xs v in subst P (sym grows.all) (Contains-append_left visits grows.added v h)

-- One more input.
pub near_more : (x count : ℕ) (seen : List Bool) (visits new : List Visit) (path : List Step) (state : ℕ) (inputs : List Summary) (n : ℕ) (t : Summary)
    → slice_get inputs n ≡ Some t → ((v : Visit) → Contains visits v → Contains new v) → count ≤ length seen → AreVisited seen new
    → AreUnder (path ++ Input state n ∷ []) new → Covers t.passages.items x seen
    → AreNear count x visits path state inputs n → AreNear count x new path state inputs (n + 1)
near_more x count seen visits new path state inputs n t there more states visited under covers before i u lt at = elim (cases_eq i n) [
  | inl e ↦
      let same : Some t ≡ Some u = sym there ∙ (ap (slice_get inputs) (sym e) ∙ at) in
      let P : Option Summary → Type 0 = λ o. IfSome o (λ z. LeadsBy count x new (path ++ Input state i ∷ []) z) in
      let Q : ℕ → Type 0 = λ k. AreUnder (path ++ Input state k ∷ []) new in
      subst P same (near_by x count seen new (path ++ Input state i ∷ []) t states visited (subst Q (sym e) under) covers)
  | inr ne ↦ near_on x count visits new (path ++ Input state i ∷ []) u more (before i u (omega (arith, lt, ne)) at)
]

-- The next input of the same state.
pub kept_next : (path : List Step) (state n : ℕ) (visits : List Visit) → AreUnder (path ++ Input state n ∷ []) visits → AreKept (path ++ Input state (n + 1) ∷ []) 0 visits
kept_next path state n visits h =
    kept_under (path ++ Input state n ∷ []) (path ++ Input state (n + 1) ∷ []) visits (before_last path (Input state n) (Input state (n + 1)) (inr (refl, omega arith))) h

-- What holds of each of the first n elements holds of one of them.
pub taken_at : {A : Type 0} (P : A → Type 0) (xs : List A) (n i : ℕ) (x : A) → n ≤ length xs → All P (take n xs) → i < n → slice_get xs i ≡ Some x → P x
taken_at P xs n i x within all lt at =
    subst P (get_or-take n xs i x lt ∙ get_or_from_slice_get xs i x x at) (all i x (omega (arith, lt, length-take-le n xs within)))

pub reached_some : (g : Graph) (x : ℕ) (path : List Step) (s : ℕ) → Reached g x None path s → 1 ≤ length path
reached_some g x [] s h = absurd (cc)
reached_some g x (step ∷ path) s h = omega arith

-- ---- a turn of the search

front_at : (old : List Bool) (visits : List Visit) (new : List Bool) (new_visits : List Visit) (k : ℕ) → Grows old visits new new_visits → k < length visits
    → slice_get new_visits k ≡ slice_get visits k
front_at old visits new new_visits k grows lt = ap (λ (xs : List Visit). slice_get xs k) grows.all ∙ slice_get_front visits grows.added k lt

pub least_on : (g : Graph) (x next : ℕ) (v : Visit) (inputs : Vec Summary Global) (old : List Bool) (visits : List Visit) (new : List Bool) (new_visits : List Visit) (n : ℕ)
    → AreLeast g x visits next → slice_get visits next ≡ Some v → Grows old visits new new_visits → slice_get g.states.items v.state ≡ Some inputs
    → AreKept (v.path.items ++ Input v.state n ∷ []) 0 new_visits
    → AreNear (length g.states.items) x new_visits v.path.items v.state inputs.items (length inputs.items) → AreLeast g x new_visits (next + 1)
least_on g x next v inputs old visits new new_visits n l there grows state kept near =
    let more = more_visits old visits new new_visits grows in
    let within : next < length visits = slice_get_within visits next v there in
    let still : slice_get new_visits next ≡ Some v = front_at old visits new new_visits next grows within ∙ there in
    record {
      start = near_on x (length g.states.items) visits new_visits (Start ∷ []) g.start more l.start;
      kept = λ w at.
          let less = before_steps v.path.items v.state w.path.items w.state n 0 (kept.order next (next + 1) v w (omega arith) still at) in
          record {
            order = kept.order;
            most = λ u here. elim (kept.most u here) [
              | inl b ↦ inl (before_trans u.path.items (v.path.items ++ Input v.state n ∷ []) (w.path.items ++ Input w.state 0 ∷ []) b less)
              | inr e ↦ absurd (omega (arith, e.1))
            ];
          };
      near = λ k u lt at. elim (cases_eq k next) [
        | inl e ↦
            let same : Some v ≡ Some u = sym still ∙ (ap (slice_get new_visits) (sym e) ∙ at) in
            let P : Option Visit → Type 0 = λ o. IfSome o (λ z. (i : ℕ) (t : Summary) → Leads g (Some z.state) (Input z.state i) t
            → LeadsBy (length g.states.items) x new_visits (z.path.items ++ Input z.state i ∷ []) t) in
            subst P same (λ i t leads.
            let found : slice_get inputs.items i ≡ Some t = sym (ap (λ o. option_and_then (λ (l : Vec Summary Global). slice_get l.items i) o) state) ∙ leads.1 in
            near i t (slice_get_within inputs.items i t found) found)
        | inr ne ↦
            λ i t leads. near_on x (length g.states.items) visits new_visits (u.path.items ++ Input u.state i ∷ []) t more
            (l.near k u (omega (arith, lt, ne)) (sym (front_at old visits new new_visits k grows (omega (arith, lt, ne, within))) ∙ at) i t leads)
      ];
    }

-- As above, stated by the contract of the turn.
pub least_turn : (g : Graph) (x next : ℕ) (v : Visit) (inputs : Vec Summary Global) (path : List Step) (old : List Bool) (visits : List Visit) (new : List Bool) (new_visits : List Visit)
    → IsSorted g → AreLeast g x visits next → slice_get visits next ≡ Some v → path ≡ v.path.items → slice_get g.states.items v.state ≡ Some inputs
    → Grows old visits new new_visits → length old ≡ length g.states.items → AreVisited old visits
    → (AreAllSorted inputs.items → AreKept (path ++ Input v.state 0 ∷ []) 0 visits → (n : ℕ) × AreKept (path ++ Input v.state n ∷ []) 0 new_visits)
    → (AreAllSorted inputs.items → AreKept (path ++ Input v.state 0 ∷ []) 0 visits → AreVisited old visits
    → AreNear (length old) x new_visits path v.state inputs.items (length inputs.items))
    → AreLeast g x new_visits (next + 1)
least_turn g x next v inputs path old visits new new_visits sorted l there by state grows states visited keeps nears =
    let all : AreAllSorted inputs.items = λ i t at. sorted.states v.state i t (ap (λ o. option_and_then (λ (l : Vec Summary Global). slice_get l.items i) o) state ∙ at) in
    let P : List Step → Type 0 = λ l. AreKept (l ++ Input v.state 0 ∷ []) 0 visits in
    let kept : AreKept (path ++ Input v.state 0 ∷ []) 0 visits = subst P (sym by) (l.kept v there) in
    let n = keeps all kept in
    let Q : List Step → Type 0 = λ l. AreKept (l ++ Input v.state n.0 ∷ []) 0 new_visits in
    let R : List Step → Type 0 = λ l. AreNear (length g.states.items) x new_visits l v.state inputs.items (length inputs.items) in
    let S : ℕ → Type 0 = λ count. AreNear count x new_visits path v.state inputs.items (length inputs.items) in
    least_on g x next v inputs old visits new new_visits n.0 l there grows state (subst Q by n.1) (subst R by (subst S states (nears all kept visited)))

-- A turn at a state that doesn't exist.
pub least_past : (g : Graph) (x next : ℕ) (v : Visit) (visits : List Visit) → AreLeast g x visits next → slice_get visits next ≡ Some v
    → length g.states.items ≤ v.state → AreLeast g x visits (next + 1)
least_past g x next v visits l there past =
    let kept = l.kept v there in
    record {
      start = l.start;
      kept = λ w at.
          let less = before_steps v.path.items v.state w.path.items w.state 0 0 (kept.order next (next + 1) v w (omega arith) there at) in
          record {
            order = kept.order;
            most = λ u here. elim (kept.most u here) [
              | inl b ↦ inl (before_trans u.path.items (v.path.items ++ Input v.state 0 ∷ []) (w.path.items ++ Input w.state 0 ∷ []) b less)
              | inr e ↦ absurd (omega (arith, e.1))
            ];
          };
      near = λ k u lt at. elim (cases_eq k next) [
        | inl e ↦
            let same : Some v ≡ Some u = sym there ∙ (ap (slice_get visits) (sym e) ∙ at) in
            let P : Option Visit → Type 0 = λ o. IfSome o (λ z. (i : ℕ) (t : Summary) → Leads g (Some z.state) (Input z.state i) t
            → LeadsBy (length g.states.items) x visits (z.path.items ++ Input z.state i ∷ []) t) in
            subst P same (λ i t leads.
            let none : None ≡ Some t = sym (ap (λ o. option_and_then (λ (l : Vec Summary Global). slice_get l.items i) o) (slice_get_past g.states.items v.state past)) ∙ leads.1 in
            absurd (cc))
        | inr ne ↦ l.near k u (omega (arith, lt, ne)) at
      ];
    }

-- At the start of the search all visits are by START.
pub least_from : (g : Graph) (x : ℕ) (seen : List Bool) (visits : List Visit) → length seen ≡ length g.states.items → AreVisited seen visits
    → Covers g.start.passages.items x seen → AreUnder (Start ∷ []) visits → ((v : Visit) → Contains visits v → v.path.items ≡ Start ∷ []) → AreLeast g x visits 0
least_from g x seen visits states visited covers under all = record {
  start = near_by x (length g.states.items) seen visits (Start ∷ []) g.start (omega (arith, states)) visited under covers;
  kept = λ v at. record {
    order = under.order;
    most = λ u here.
        let one : length u.path.items ≡ 1 = ap length (all u here) in
        let two : length v.path.items ≡ 1 = ap length (all v (reached_place visits 0 v at)) in
        inl (inl (omega (arith, one, two, one_more v.path.items (Input v.state 0))));
  };
  near = λ k v lt at. absurd (omega (arith, lt));
}

pub all_start : (ps : List Passage) (x : ℕ) (path : List Step) (visits : List Visit) → path ≡ Start ∷ [] → Enters (IsBy ps x path) [] visits
    → (v : Visit) → Contains visits v → v.path.items ≡ Start ∷ []
all_start ps x path visits one enters v here = elim (enters v here) [
  | inl none ↦ absurd (omega (arith, none.1))
  | inr by ↦ by.visit.by ∙ one
]

-- ---- the path that is found

-- The inputs of the next visit, and the first of them that reads x.
pub record IsFound (g : Graph) (x : ℕ) (v : Visit) (number : ℕ) : Type 0 where
  pub quiet : (i : ℕ) (t : Summary) → i < number → Leads g (Some v.state) (Input v.state i) t → has t.reads x ≡ false

pub quiet_inputs : (g : Graph) (x : ℕ) (v : Visit) (inputs : Vec Summary Global) (number : ℕ) → slice_get g.states.items v.state ≡ Some inputs
    → ((i : ℕ) (t : Summary) → i < number → slice_get inputs.items i ≡ Some t → has t.reads x ≡ false) → IsFound g x v number
quiet_inputs g x v inputs number state first = record {
  quiet = λ i t lt leads. first i t lt (sym (ap (λ o. option_and_then (λ (l : Vec Summary Global). slice_get l.items i) o) state) ∙ leads.1);
}

-- A step that leads from a state is an input of this state.
step_from : (g : Graph) (s : ℕ) (step : Step) (t : Summary) → Leads g (Some s) step t → (i : ℕ) × (step ≡ Input s i)
step_from g s Start t leads = absurd leads
step_from g s (Input q i) t leads = (i, ap (λ n. Input n i) leads.0)

-- If a path isn't before the visit of its state and goes on by a step that reads x, it isn't before the path found.
last_step : (g : Graph) (x next : ℕ) (v : Visit) (seen : List Bool) (visits : List Visit) (number : ℕ) → AreLeast g x visits next
    → AreExpanded g x seen visits next → slice_get visits next ≡ Some v → IsFound g x v number
    → (s i : ℕ) (t : Summary) (b : List Step) (w : IsVisitedBy visits s b) → Leads g (Some s) (Input s i) t → has t.reads x ≡ true
    → NotAfter (v.path.items ++ Input v.state number ∷ []) (b ++ Input s i ∷ [])
last_step g x next v seen visits number l expanded there found s i t b w leads reads =
    let k : ℕ = w.among.0 in
    let at : slice_get visits k ≡ Some w.visit = slice_get-get_or visits k w.visit w.among.1 ∙ ap (λ u. Some u) w.among.2 in
    elim (cases_eq k next) [
      | inl e ↦
          let same : Some v ≡ Some w.visit = sym there ∙ (ap (slice_get visits) (sym e) ∙ at) in
          let one : v ≡ w.visit = let P : Option Visit → Type 0 = λ o. IfSome o (λ z. v ≡ z) in subst P same refl in
          let state : v.state ≡ s = ap (λ (z : Visit). z.state) one ∙ w.at in
          let P : Visit → Type 0 = λ z. NotAfter z.path.items b in
          let by : NotAfter v.path.items b = subst P (sym one) w.by in
          let Q : ℕ → Type 0 = λ n. Leads g (Some n) (Input n i) t in
          let R : ℕ → Type 0 = λ n. NotAfter (v.path.items ++ Input v.state number ∷ []) (b ++ Input n i ∷ []) in
          elim (cases_lt i number) [
            | inl lt ↦ let quiet : has t.reads x ≡ false = found.quiet i t lt (subst Q (sym state) leads) in absurd (cc)
            | inr ge ↦ subst R state (elim (cases_eq i number) [
              | inl eq ↦ let S : ℕ → Type 0 = λ n. NotAfter (v.path.items ++ Input v.state number ∷ []) (b ++ Input v.state n ∷ []) in
                  subst S (sym eq) (not_after_more v.path.items b (Input v.state number) by)
              | inr ne ↦ not_after_step v.path.items b v.state number i by (omega (arith, ge, ne))
            ])
          ]
      | inr ne ↦ elim (cases_lt k next) [
        | inl lt ↦
            let P : ℕ → Type 0 = λ q. IsExpanded g x seen q in
            let safe : IsExpanded g x seen s = subst P w.at (expanded k w.visit lt at) in
            let quiet : has t.reads x ≡ false = (safe (Input s i) t leads).reads in absurd (cc)
        | inr ge ↦
            let order = (l.kept v there).order next k v w.visit (omega (arith, ge, ne)) there at in
            let Q : ℕ → Type 0 = λ n. ComesBefore v.path.items v.state w.visit.path.items n in
            inr (before_steps v.path.items v.state b s number i (comes_before v.path.items v.state w.visit.path.items b s (subst Q w.at order) w.by))
      ]
    ]

follow : (g : Graph) (x next : ℕ) (v : Visit) (seen : List Bool) (visits : List Visit) (number : ℕ) → AreLevels g x visits next → AreLeast g x visits next
    → AreExpanded g x seen visits next → slice_get visits next ≡ Some v → IsFound g x v number
    → (path : List Step) (s : ℕ) (b : List Step) → IsVisitedBy visits s b → length b + length path ≡ length v.path.items + 1 → ReadsFrom g x (Some s) path
    → NotAfter (v.path.items ++ Input v.state number ∷ []) (b ++ path)
follow g x next v seen visits number levels l expanded there found [] s b w long reads = absurd reads
follow g x next v seen visits number levels l expanded there found (step ∷ []) s b w long (t, leads, reads) =
    let from = step_from g s step t leads in
    let P : Step → Type 0 = λ u. Leads g (Some s) u t in
    let Q : Step → Type 0 = λ u. NotAfter (v.path.items ++ Input v.state number ∷ []) (b ++ u ∷ []) in
    subst Q (sym from.1) (last_step g x next v seen visits number l expanded there found s from.0 t b w (subst P from.1 leads) reads)
follow g x next v seen visits number levels l expanded there found (step ∷ more ∷ path) s b w long (t, q, leads, passes, reads) =
    let from = step_from g s step t leads in
    let k : ℕ = w.among.0 in
    let at : slice_get visits k ≡ Some w.visit = slice_get-get_or visits k w.visit w.among.1 ∙ ap (λ u. Some u) w.among.2 in
    let before : k < next = place_before g x next v visits k w.visit levels there at (omega (arith, no_longer w.visit.path.items b w.by, long)) in
    let P : Step → Type 0 = λ u. Leads g (Some s) u t in
    let Q : ℕ → Type 0 = λ n. Leads g (Some n) (Input n from.0) t in
    let R : ℕ → Type 0 = λ n. LeadsBy (length g.states.items) x visits (w.visit.path.items ++ Input n from.0 ∷ []) t in
    let near : LeadsBy (length g.states.items) x visits (w.visit.path.items ++ Input s from.0 ∷ []) t =
    subst R w.at (l.near k w.visit before at from.0 t (subst Q (sym w.at) (subst P from.1 leads))) in
    let one = near q passes (reads_within g x q (more ∷ path) reads) in
    let S : Step → Type 0 = λ u. IsVisitedBy visits q (b ++ u ∷ []) in
    let here : IsVisitedBy visits q (b ++ step ∷ []) = subst S (sym from.1) (record {
      visit = one.visit;
      among = one.among;
      at = one.at;
      by = not_after_trans one.visit.path.items (w.visit.path.items ++ Input s from.0 ∷ []) (b ++ Input s from.0 ∷ []) one.by
          (not_after_more w.visit.path.items b (Input s from.0) w.by);
    }) in
    let T : List Step → Type 0 = λ u. NotAfter (v.path.items ++ Input v.state number ∷ []) u in
    subst T (append_assoc b (step ∷ []) (more ∷ path))
    (follow g x next v seen visits number levels l expanded there found (more ∷ path) q (b ++ step ∷ []) here (omega (arith, long, one_more b step)) reads)

no_later : (g : Graph) (x next : ℕ) (v : Visit) (seen : List Bool) (visits : List Visit) (number : ℕ) → AreLevels g x visits next → AreLeast g x visits next
    → AreExpanded g x seen visits next → slice_get visits next ≡ Some v → IsFound g x v number → (other : List Step) → length other ≡ length v.path.items + 1
    → 1 ≤ length v.path.items → ReadsUnset g x other → NotAfter (v.path.items ++ Input v.state number ∷ []) other
no_later g x next v seen visits number levels l expanded there found [] long some reads = absurd reads
no_later g x next v seen visits number levels l expanded there found (step ∷ []) long some reads = absurd (omega (arith, long, some))
no_later g x next v seen visits number levels l expanded there found (Start ∷ step ∷ path) long some (t, s, leads, passes, reads) =
    let P : Summary → Type 0 = λ u. Passes u x s in
    let one : IsVisitedBy visits s (Start ∷ []) = l.start s (subst P leads passes) (reads_within g x s (step ∷ path) reads) in
    follow g x next v seen visits number levels l expanded there found (step ∷ path) s (Start ∷ []) one (omega (arith, long)) reads
no_later g x next v seen visits number levels l expanded there found (Input q i ∷ step ∷ path) long some (t, s, leads, passes, reads) = absurd leads

-- The path found by the first input of the next visit that reads x is the first path.
pub first_by : (g : Graph) (x next : ℕ) (v : Visit) (seen : List Bool) (visits : List Visit) (number : ℕ) (path : List Step) → AreLevels g x visits next → AreLeast g x visits next
    → AreExpanded g x seen visits next → slice_get visits next ≡ Some v → IsFound g x v number → 1 ≤ length v.path.items → path ≡ v.path.items ++ Input v.state number ∷ []
    → IsShortest g x path → IsFirst g x path
first_by g x next v seen visits number path levels l expanded there found some is shortest other reads =
    let long : length path ≡ length v.path.items + 1 = ap length is ∙ one_more v.path.items (Input v.state number) in
    let T : List Step → Type 0 = λ u. NotAfter u other in
    elim (cases_eq (length path) (length other)) [
      | inl e ↦ subst T (sym is) (no_later g x next v seen visits number levels l expanded there found other (sym e ∙ long) some reads)
      | inr ne ↦ inr (inl (omega (arith, ne, shortest other reads)))
    ]

-- The path with only START is the first path of all.
pub first_start : (g : Graph) (x : ℕ) (path : List Step) → path ≡ Start ∷ [] → IsFirst g x path
first_start g x path is [] reads = absurd reads
first_start g x path is (Start ∷ []) reads = inl is
first_start g x path is (Input s i ∷ []) (t, leads, reads) = absurd leads
first_start g x path is (step ∷ more ∷ other) reads = inr (inl (omega (arith, ap length is)))
