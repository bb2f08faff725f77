-- The search goes by levels: the path that it finds first has the fewest steps.
use Rattle.std.proofs.Common.{◌≡◌, ℕ, suc, zero, ◌+◌, ◌<◌, ◌≤◌, Bool, true, false, List, [], ◌∷◌, ◌++◌, length, refl, ap, sym, ◌∙◌, subst, arith, inl, inr, Option, Some, None, Vec, Global}
use Rattle.std.specs.Prelude.{slice_get, Contains, IfSome, option_and_then}
use Rattle.std.proofs.lemmas.List.Elements.{All-contains, All-cons, All-nil, Contains-append_left, Contains-append_cases}
use Rattle.std.proofs.lemmas.Option.{slice_get_within, slice_get_past, slice_get-get_or}
use Rattle.std.proofs.lemmas.Bool.{cases_eq, cases_lt}
use Rattle.sdl_unset.proofs.PathWalking.{slice_get_front}
use Rattle.sdl_unset.specs.declared.paths.Visit.{Visit}
use Rattle.sdl_unset.specs.declared.paths.Summary.{Summary}
use Rattle.sdl_unset.specs.declared.paths.Graph.{Graph}
use Rattle.sdl_unset.specs.declared.paths.Step.{Step}
use Rattle.sdl_unset.specs.declared.paths.Step.TheVariants.{Start, Input}
use Rattle.sdl_unset.specs.Graph.{has, Leads, Passes, ReadsFrom, ReadsUnset, IsShortest, IsSeen, Covers, IsExpanded}
use Rattle.sdl_unset.specs.Visits.{Grows, AreVisited, AreExpanded, AreInOrder, StayInOrder, IsVisitedWithin, LeadsWithin, AreLevels}
use Rattle.plain_laws.proofs.Places.{among_at as reached_place}

-- ---- the order of the visits

most_push : (n : ℕ) (visits : List Visit) (v w : Visit) → length v.path.items ≡ n → AreInOrder n visits → Contains (visits ++ v ∷ []) w
    → length w.path.items ≤ n
most_push n visits v w long h here =
    let P : Visit → Type 0 = λ u. length u.path.items ≤ n in
    elim (Contains-append_cases visits (v ∷ []) w here) [
      | inl old ↦ h.most w old
      | inr new ↦ All-contains P (v ∷ []) w (All-cons P v [] (omega (arith, long)) (All-nil P)) new
    ]

pub last_place : (visits : List Visit) (j : ℕ) (v w : Visit) → length visits ≤ j → slice_get (visits ++ v ∷ []) j ≡ Some w → v ≡ w
last_place [] zero v w past at = let P : Option Visit → Type 0 = λ o. IfSome o (λ u. v ≡ u) in subst P at refl
last_place [] (suc j) v w past at = absurd (cc)
last_place (u ∷ visits) zero v w past at = absurd (omega (arith, past))
last_place (u ∷ visits) (suc j) v w past at = last_place visits j v w (omega (arith, past)) at

-- One more visit, whose path is as long as any.
pub order_push : (n : ℕ) (visits : List Visit) (v : Visit) → length v.path.items ≡ n → StayInOrder n visits (visits ++ v ∷ [])
order_push n visits v long h = record {
  order = λ i j u w le at_i at_j. elim (cases_lt j (length visits)) [
    | inl lt ↦
        h.order i j u w le
        (sym (slice_get_front visits (v ∷ []) i (omega (arith, le, lt))) ∙ at_i)
        (sym (slice_get_front visits (v ∷ []) j lt) ∙ at_j)
    | inr past ↦
        let last : length w.path.items ≡ n = ap (λ (x : Visit). length x.path.items) (sym (last_place visits j v w past at_j)) ∙ long in
        let most : length u.path.items ≤ n = most_push n visits v u long h (reached_place (visits ++ v ∷ []) i u at_i) in
        omega (arith, last, most)
  ];
  most = λ w here. most_push n visits v w long h here;
}

-- As above, for lists that are equal to these.
pub order_added : (n : ℕ) (visits new : List Visit) (v : Visit) → length v.path.items ≡ n → new ≡ visits ++ v ∷ [] → StayInOrder n visits new
order_added n visits new v long all h = let P : List Visit → Type 0 = λ l. AreInOrder n l in subst P (sym all) (order_push n visits v long h)

pub order_none : (n : ℕ) → AreInOrder n []
order_none n = record { order = λ i j v w le at_i at_j. absurd (cc); most = λ v here. absurd (omega (arith, here.1)) }

-- ---- where transitions lead

-- The states that were visited still are.
near_on : (g : Graph) (x : ℕ) (visits new : List Visit) (n : ℕ) (t : Summary) → ((v : Visit) → Contains visits v → Contains new v)
    → LeadsWithin g x visits n t → LeadsWithin g x new n t
near_on g x visits new n t more near q passes within =
    let w = near q passes within in
    record { visit = w.visit; among = more w.visit w.among; at = w.at; most = w.most }

-- The states that were seen have visits, and no visit is further from START.
pub near_by : (g : Graph) (x : ℕ) (seen : List Bool) (visits : List Visit) (n : ℕ) (t : Summary) → length seen ≡ length g.states.items
    → AreVisited seen visits → ((v : Visit) → Contains visits v → length v.path.items ≤ n) → Covers t.passages.items x seen
    → LeadsWithin g x visits n t
near_by g x seen visits n t states visited most covers q passes within =
    let covered : IsSeen seen passes.passage.state = All-contains (λ p. has p.keeps x ≡ true → IsSeen seen p.state) _ _ covers passes.among passes.keeps in
    let P : ℕ → Type 0 = λ s. IsSeen seen s in
    let here : IsSeen seen q = subst P passes.ends covered in
    let found = visited q (here (omega (arith, states, within))) in
    record { visit = found.0; among = found.1; at = found.2; most = most found.0 found.1 }

-- A turn of the search.
pub levels_on : (g : Graph) (x next : ℕ) (v : Visit) (old : List Bool) (visits : List Visit) (new : List Bool) (new_visits : List Visit)
    → AreLevels g x visits next → slice_get visits next ≡ Some v → Grows old visits new new_visits → length new ≡ length g.states.items
    → AreVisited new new_visits → IsExpanded g x new v.state → StayInOrder (length v.path.items + 1) visits new_visits
    → AreLevels g x new_visits (next + 1)
levels_on g x next v old visits new new_visits l there grows states visited expanded stay =
    let more : (u : Visit) → Contains visits u → Contains new_visits u =
    λ u h. let P : List Visit → Type 0 = λ xs. Contains xs u in subst P (sym grows.all) (Contains-append_left visits grows.added u h) in
    let within : next < length visits = slice_get_within visits next v there in
    let front : (k : ℕ) → k < length visits → slice_get new_visits k ≡ slice_get visits k =
    λ k lt. ap (λ (xs : List Visit). slice_get xs k) grows.all ∙ slice_get_front visits grows.added k lt in
    let inner : AreInOrder (length v.path.items + 1) new_visits = stay (l.order v there) in
    record {
      quiet = l.quiet;
      start = near_on g x visits new_visits 1 g.start more l.start;
      order = λ w at. record {
        order = inner.order;
        most = λ u here. omega (arith, inner.most u here, inner.order next (next + 1) v w (omega arith) (front next within ∙ there) at);
      };
      near = λ k u lt at. elim (cases_eq k next) [
        | inl e ↦
            let same : Some v ≡ Some u = sym there ∙ (sym (front next within) ∙ (ap (slice_get new_visits) (sym e) ∙ at)) in
            let P : Option Visit → Type 0 = λ o. IfSome o (λ z. (step : Step) (t : Summary) → Leads g (Some z.state) step t → LeadsWithin g x new_visits (length z.path.items + 1) t) in
            subst P same (λ step t leads. near_by g x new new_visits (length v.path.items + 1) t states visited inner.most (expanded step t leads).covers)
        | inr ne ↦
            λ step t leads. near_on g x visits new_visits (length u.path.items + 1) t more
            (l.near k u (omega (arith, lt, ne)) (sym (front k (omega (arith, lt, ne, within))) ∙ at) step t leads)
      ];
    }

-- At the start of the search.
pub levels_from : (g : Graph) (x : ℕ) (seen : List Bool) (visits : List Visit) → has g.start.reads x ≡ false → length seen ≡ length g.states.items
    → AreVisited seen visits → Covers g.start.passages.items x seen → AreInOrder 1 visits → AreLevels g x visits 0
levels_from g x seen visits quiet states visited covers ordered = record {
  quiet = quiet;
  start = near_by g x seen visits 1 g.start states visited ordered.most covers;
  order = λ v at. record { order = ordered.order; most = λ u here. omega (arith, ordered.most u here) };
  near = λ k v lt at. absurd (omega (arith, lt));
}

-- ---- paths with fewer steps

leads_within : (g : Graph) (s : ℕ) (step : Step) (t : Summary) → Leads g (Some s) step t → s < length g.states.items
leads_within g s Start t leads = absurd leads
leads_within g s (Input q i) t leads = elim (cases_lt s (length g.states.items)) [
  | inl lt ↦ lt
  | inr past ↦
      let none : None ≡ Some t = sym (ap (λ o. option_and_then (λ (l : Vec Summary Global). slice_get l.items i) o) (slice_get_past g.states.items s past)) ∙ leads.1 in
      absurd (cc)
]

pub reads_within : (g : Graph) (x s : ℕ) (path : List Step) → ReadsFrom g x (Some s) path → s < length g.states.items
reads_within g x s [] reads = absurd reads
reads_within g x s (step ∷ []) (t, leads, reads) = leads_within g s step t leads
reads_within g x s (step ∷ next ∷ path) (t, q, leads, passes, reads) = leads_within g s step t leads

-- A visit that is nearer to START than the next one comes before it.
pub place_before : (g : Graph) (x next : ℕ) (v : Visit) (visits : List Visit) (k : ℕ) (w : Visit) → AreLevels g x visits next → slice_get visits next ≡ Some v
    → slice_get visits k ≡ Some w → length w.path.items < length v.path.items → k < next
place_before g x next v visits k w l there at nearer = elim (cases_lt k next) [
  | inl lt ↦ lt
  | inr le ↦ absurd (omega (arith, nearer, (l.order v there).order next k v w le there at))
]

-- From a state with a nearer visit, no path reads x before the next visit is expanded.
none_nearer : (g : Graph) (x next : ℕ) (v : Visit) (seen : List Bool) (visits : List Visit) → AreLevels g x visits next
    → AreExpanded g x seen visits next → slice_get visits next ≡ Some v → (path : List Step) (s n : ℕ) → IsVisitedWithin visits s n
    → n + length path ≤ length v.path.items → ReadsFrom g x (Some s) path → ⊥
none_nearer g x next v seen visits l expanded there [] s n w le reads = reads
none_nearer g x next v seen visits l expanded there (step ∷ []) s n w le (t, leads, reads) =
    let k : ℕ = w.among.0 in
    let at : slice_get visits k ≡ Some w.visit = slice_get-get_or visits k w.visit w.among.1 ∙ ap (λ u. Some u) w.among.2 in
    let before : k < next = place_before g x next v visits k w.visit l there at (omega (arith, w.most, le)) in
    let P : ℕ → Type 0 = λ q. IsExpanded g x seen q in
    let safe : IsExpanded g x seen s = subst P w.at (expanded k w.visit before at) in
    let quiet : has t.reads x ≡ false = (safe step t leads).reads in cc
none_nearer g x next v seen visits l expanded there (step ∷ more ∷ path) s n w le (t, q, leads, passes, reads) =
    let k : ℕ = w.among.0 in
    let at : slice_get visits k ≡ Some w.visit = slice_get-get_or visits k w.visit w.among.1 ∙ ap (λ u. Some u) w.among.2 in
    let before : k < next = place_before g x next v visits k w.visit l there at (omega (arith, w.most, le)) in
    let P : ℕ → Type 0 = λ z. Leads g (Some z) step t in
    let one : IsVisitedWithin visits q (length w.visit.path.items + 1) =
    l.near k w.visit before at step t (subst P (sym w.at) leads) q passes (reads_within g x q (more ∷ path) reads) in
    none_nearer g x next v seen visits l expanded there (more ∷ path) q (length w.visit.path.items + 1) one (omega (arith, w.most, le)) reads

none_before : (g : Graph) (x next : ℕ) (v : Visit) (seen : List Bool) (visits : List Visit) → AreLevels g x visits next
    → AreExpanded g x seen visits next → slice_get visits next ≡ Some v → (path : List Step) → length path ≤ length v.path.items
    → ReadsUnset g x path → ⊥
none_before g x next v seen visits l expanded there [] le reads = reads
none_before g x next v seen visits l expanded there (Start ∷ []) le (t, leads, reads) =
    let bad : has g.start.reads x ≡ true = ap (λ (u : Summary). has u.reads x) (sym leads) ∙ reads in
    let quiet : has g.start.reads x ≡ false = l.quiet in
    absurd (cc)
none_before g x next v seen visits l expanded there (Input s i ∷ []) le (t, leads, reads) = absurd leads
none_before g x next v seen visits l expanded there (Start ∷ step ∷ path) le (t, s, leads, passes, reads) =
    let P : Summary → Type 0 = λ u. Passes u x s in
    let one : IsVisitedWithin visits s 1 = l.start s (subst P leads passes) (reads_within g x s (step ∷ path) reads) in
    none_nearer g x next v seen visits l expanded there (step ∷ path) s 1 one (omega (arith, le)) reads
none_before g x next v seen visits l expanded there (Input q i ∷ step ∷ path) le (t, s, leads, passes, reads) = absurd leads

-- The path found by a step from the next visit has the fewest steps.
pub shortest_by : (g : Graph) (x next : ℕ) (v : Visit) (seen : List Bool) (visits : List Visit) → AreLevels g x visits next
    → AreExpanded g x seen visits next → slice_get visits next ≡ Some v → (path : List Step) → length path ≡ length v.path.items + 1
    → IsShortest g x path
shortest_by g x next v seen visits l expanded there path long other reads = elim (cases_lt (length other) (length path)) [
  | inl lt ↦ absurd (none_before g x next v seen visits l expanded there other (omega (arith, lt, long)) reads)
  | inr ge ↦ ge
]

-- A path has at least one step.
pub shortest_start : (g : Graph) (x : ℕ) (path : List Step) → length path ≡ 1 → IsShortest g x path
shortest_start g x path one [] reads = absurd reads
shortest_start g x path one (step ∷ other) reads = omega (arith, one)
