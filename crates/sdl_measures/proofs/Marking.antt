-- The marks of the nodes found.
use Rattle.std.proofs.Common.{◌≡◌, ℕ, zero, suc, ◌+◌, ◌<◌, ◌≤◌, Bool, true, false, List, [], ◌∷◌, ◌++◌, length, refl, ap, sym, ◌∙◌, subst, arith, inl, inr, Option, Some, None, take, get_or, append_assoc, append-nil, length-append}
use Rattle.std.specs.Prelude.{slice_get, slice_set, Contains, All, replicate}
use Rattle.std.proofs.lemmas.Bool.{cases_eq, cases_Bool, eqb-true}
use Rattle.std.proofs.lemmas.List.{length-set, length-replicate, take_more}
use Rattle.std.proofs.lemmas.List.Elements.{All-contains, All-push, Contains-append_left, Contains-append_right, Contains-push, Contains-push_cases, All-more}
use Rattle.std.specs.Option.{option_map, option_map_or}
use Rattle.std.specs.Global.{Vec}
use Rattle.std.proofs.lemmas.Option.{slice_get_within, slice_get-map}
use Rattle.sdl_measures.specs.Links.{nexts, goes_by, goes, any_goes, IsGraph, graph_in}
use Rattle.sdl_measures.specs.Searched.{IsMarked, unmarked, AreFound, Finds, Follows, AreMarks}
use Rattle.sdl_sound.proofs.Lists.{get_set_cases, get_one, any_at, at_any}
use Rattle.sdl_measures.proofs.Ways.{goes_cases, goes_last}
use Rattle.plain_laws.proofs.Places.{get_set_same, get_set_other, among_at, at_among}

unmarked_set : (marks : List Bool) (k : ℕ) → slice_get marks k ≡ Some false → suc (unmarked (slice_set marks k true)) ≡ unmarked marks
unfolding unmarked
unmarked_set [] k e = cc
unmarked_set (true ∷ marks) zero e = cc
unmarked_set (false ∷ marks) zero e = refl
unmarked_set (true ∷ marks) (suc k) e = unmarked_set marks k e
unmarked_set (false ∷ marks) (suc k) e = ap suc (unmarked_set marks k e)

-- A marked node remains marked.
stays_at : (marks : List Bool) (k n : ℕ) → k < length marks → IsMarked marks n → IsMarked (slice_set marks k true) n
stays_at marks k n within h = elim (cases_eq n k) [
  | inl e ↦ subst (IsMarked (slice_set marks k true)) (sym e) (get_set_same marks k true within)
  | inr ne ↦ get_set_other marks k n true ne ∙ h
]

-- A node that is marked already.
pub sees_marked : (k : ℕ) (marks : List Bool) (found : List ℕ) → AreFound marks found → IsMarked marks k → Finds (k ∷ []) marks found marks found
sees_marked k marks found are h = record {
  count = refl;
  stays = λ n m. m;
  added = [];
  all = sym (append-nil found);
  are = are;
  marked = All-push (IsMarked marks) [] k (λ i d no. absurd (omega (arith, no))) h;
  only = λ n m. inl m;
}

-- A node that is new.
pub sees_new : (k : ℕ) (marks : List Bool) (found : List ℕ) → k < length marks → AreFound marks found → slice_get marks k ≡ Some false
    → Finds (k ∷ []) marks found (slice_set marks k true) (found ++ k ∷ [])
sees_new k marks found within are free = record {
  count = length-set marks k true;
  stays = λ n m. stays_at marks k n within m;
  added = k ∷ [];
  all = refl;
  are = record {
    marked = λ n h. elim (Contains-push_cases found k n h) [
      | inl old ↦ stays_at marks k n within (are.marked n old)
      | inr e ↦ subst (IsMarked (slice_set marks k true)) e (get_set_same marks k true within)
    ];
    back = λ n h. elim (get_set_cases marks k n true true h) [
      | inl e ↦ subst (Contains (found ++ k ∷ [])) (sym e.0) (Contains-push found k)
      | inr e ↦ Contains-append_left found (k ∷ []) n (are.back n e.1)
    ];
    count = omega (arith, are.count, unmarked_set marks k free, length-set marks k true, length-append found (k ∷ []));
  };
  marked = All-push (IsMarked (slice_set marks k true)) [] k (λ i d no. absurd (omega (arith, no))) (get_set_same marks k true within);
  only = λ n h. elim (Contains-push_cases found k n h) [
    | inl old ↦ inl old
    | inr e ↦ inr (subst (Contains (k ∷ [])) e (Contains-push [] k))
  ];
}

-- One more node after the others.
pub finds_more : (nodes : List ℕ) (i d : ℕ) (a : List Bool) (u : List ℕ) (b : List Bool) (v : List ℕ) (c : List Bool) (w : List ℕ)
    → i < length nodes → Finds (take i nodes) a u b v → Finds (get_or nodes i d ∷ []) b v c w → Finds (take (i + 1) nodes) a u c w
finds_more nodes i d a u b v c w within first second = record {
  count = second.count ∙ first.count;
  stays = λ n m. second.stays n (first.stays n m);
  added = first.added ++ second.added;
  all = second.all ∙ ap (λ l. l ++ second.added) first.all ∙ append_assoc u first.added second.added;
  are = second.are;
  marked = All-more (IsMarked c) nodes i d within (λ k e lt. second.stays _ (first.marked k e lt)) (second.marked 0 d (omega arith));
  only = λ n h. elim (second.only n h) [
    | inl old ↦ elim (first.only n old) [
      | inl before ↦ inl before
      | inr one ↦ inr (subst (λ l. Contains l n) (sym (take_more nodes i d within)) (Contains-append_left (take i nodes) (get_or nodes i d ∷ []) n one))
    ]
    | inr last ↦ inr (subst (λ l. Contains l n) (sym (take_more nodes i d within)) (Contains-append_right (take i nodes) (get_or nodes i d ∷ []) n last))
  ];
}

-- ---- the search from the nodes found

-- The first `next` nodes found lead only to marked nodes.
abbrev pub AreFollowed : List (List ℕ) → List Bool → List ℕ → ℕ → Type 0
AreFollowed g marks found next = (k n : ℕ) → k < next → slice_get found k ≡ Some n → All (IsMarked marks) (nexts g n)

-- Each node found is reachable from one of the start nodes.
abbrev pub AreReached : List (List ℕ) → List ℕ → List ℕ → Type 0
AreReached g before found = (n : ℕ) → Contains found n → (s : ℕ) × Contains before s × (goes g s n ≡ true)

get_appended : (xs ys : List ℕ) (k n : ℕ) → k < length xs → slice_get (xs ++ ys) k ≡ Some n → slice_get xs k ≡ Some n
get_appended [] ys k n within e = absurd (omega (arith, within))
get_appended (x ∷ xs) ys zero n within e = e
get_appended (x ∷ xs) ys (suc k) n within e = get_appended xs ys k n (omega (arith, within)) e

pub followed_more : (g : List (List ℕ)) (next n : ℕ) (a : List Bool) (u : List ℕ) (b : List Bool) (v : List ℕ) → slice_get u next ≡ Some n
    → AreFollowed g a u next → Finds (nexts g n) a u b v → AreFollowed g b v (next + 1)
followed_more g next n a u b v there before told k m less e =
    let long : next < length u = slice_get_within u next n there in
    let old : slice_get u k ≡ Some m = get_appended u told.added k m (omega (arith, less, long)) (ap (λ l. slice_get l k) (sym told.all) ∙ e) in
    elim (cases_eq k next) [
      | inl is ↦
          let same : n ≡ m = get_one (slice_get u k) n m (ap (slice_get u) is ∙ there) old in
          subst (λ x. All (IsMarked b) (nexts g x)) same told.marked
      | inr not ↦ λ i d within. told.stays _ (before k m (omega (arith, less, not)) old i d within)
    ]

pub reached_more : (g : List (List ℕ)) (start : List ℕ) (n : ℕ) (a : List Bool) (u : List ℕ) (b : List Bool) (v : List ℕ) → All (λ t. t < length g) (nexts g n)
    → Contains u n → AreReached g start u → Finds (nexts g n) a u b v → AreReached g start v
reached_more g start n a u b v within here before told m among = elim (told.only m among) [
  | inl old ↦ before m old
  | inr next ↦
      let way = before n here in
      (way.0, way.1, goes_last g way.0 n m (All-contains (λ t. t < length g) (nexts g n) m within next) way.2 next)
]

-- All nodes found have been followed.
pub follows_all : (g : List (List ℕ)) (next : ℕ) (start_marks : List Bool) (start : List ℕ) (marks : List Bool) (found : List ℕ) → length found ≤ next
    → length marks ≡ length start_marks → ((n : ℕ) → IsMarked start_marks n → IsMarked marks n) → AreFound marks found → AreFollowed g marks found next
    → AreReached g start found → Follows g start_marks start marks
follows_all g next start_marks start marks found past count stays are followed reached = record {
  count = count;
  stays = stays;
  closed = λ n h.
      let at = at_among found n (are.back n h) in
      followed at.0 n (omega (arith, past, slice_get_within found at.0 n at.1)) at.1;
  only = λ n h. reached n (are.back n h);
}

-- The links of a node lead to nodes of the graph.
nexts_in : (g : List (List ℕ)) (n : ℕ) (o : Option (List ℕ)) → IsGraph g → slice_get g n ≡ o → All (λ t. t < length g) (nexts g n)
nexts_in g n None graph e = subst (λ (o : Option (List ℕ)). All (λ t. t < length g) (option_map_or (λ (ts : List ℕ). ts) o [])) (sym e) (λ i d no. absurd (omega (arith, no)))
nexts_in g n (Some ts) graph e = subst (λ (o : Option (List ℕ)). All (λ t. t < length g) (option_map_or (λ (ts : List ℕ). ts) o [])) (sym e)
    (All-contains (All (λ t. t < length g)) g ts graph (among_at g n ts e))

pub nexts_within : (g : List (List ℕ)) (n : ℕ) → IsGraph g → All (λ t. t < length g) (nexts g n)
nexts_within g n graph = nexts_in g n (slice_get g n) graph refl

-- Each node reachable from a marked node is marked.
marked_on : (g : List (List ℕ)) (marks : List Bool) (k n m : ℕ) → ((n : ℕ) → IsMarked marks n → All (IsMarked marks) (nexts g n)) → IsMarked marks n
    → goes_by g k n m ≡ true → IsMarked marks m
marked_on g marks zero n m closed here way = subst (IsMarked marks) (eqb-true n m way) here
marked_on g marks (suc k) n m closed here way = elim (goes_cases g k n m way) [
  | inl e ↦ subst (IsMarked marks) e here
  | inr (t, among, rest) ↦ marked_on g marks k t m closed (All-contains (IsMarked marks) (nexts g n) t (closed n here) among) rest
]

marked_goes : (g : List (List ℕ)) (starts : List ℕ) (a : List Bool) (b : List Bool) (v : List ℕ) (marks : List Bool) (n : ℕ)
    → Finds starts a [] b v → Follows g b v marks → IsMarked marks n → any_goes g starts n ≡ true
marked_goes g starts a b v marks n first told h =
    let way = told.only n h in
    let start : Contains starts way.0 = elim (first.only way.0 way.1) [ inl old ↦ absurd (omega (arith, old.1)) | inr new ↦ new ] in
    any_at (λ s. goes g s n) starts way.0 start way.2

goes_marked : (g : List (List ℕ)) (starts : List ℕ) (a : List Bool) (b : List Bool) (v : List ℕ) (marks : List Bool) (n : ℕ)
    → Finds starts a [] b v → Follows g b v marks → any_goes g starts n ≡ true → IsMarked marks n
goes_marked g starts a b v marks n first told h =
    let way = at_any (λ s. goes g s n) starts h in
    marked_on g marks (length g) way.0 n told.closed (told.stays way.0 (All-contains (IsMarked b) starts way.0 first.marked way.1)) way.2

marks_each : (g : List (List ℕ)) (starts : List ℕ) (a : List Bool) (b : List Bool) (v : List ℕ) (marks : List Bool) (n : ℕ) (m : Bool)
    → Finds starts a [] b v → Follows g b v marks → slice_get marks n ≡ Some m → m ≡ any_goes g starts n
marks_each g starts a b v marks n true first told e = sym (marked_goes g starts a b v marks n first told e)
marks_each g starts a b v marks n false first told e = elim (cases_Bool (any_goes g starts n)) [
  | inl is ↦ let bad : Some true ≡ Some false = sym (goes_marked g starts a b v marks n first told is) ∙ e in absurd (cc)
  | inr not ↦ sym not
]

-- The marks after the search.
pub marks_are : (g : List (List ℕ)) (starts : List ℕ) (a : List Bool) (b : List Bool) (v : List ℕ) (marks : List Bool) → length a ≡ length g
    → Finds starts a [] b v → Follows g b v marks → AreMarks g starts marks
marks_are g starts a b v marks long first told = record {
  count = told.count ∙ first.count ∙ long;
  each = λ n m e. marks_each g starts a b v marks n m first told e;
}

none_marked : (k n : ℕ) → IsMarked (replicate k false) n → ⊥
none_marked zero n h = let bad : None ≡ Some true = h in cc
none_marked (suc k) zero h = let bad : Some false ≡ Some true = h in cc
none_marked (suc k) (suc n) h = none_marked k n h

none_unmarked : (k : ℕ) → unmarked (replicate k false) ≡ k
unfolding unmarked
none_unmarked zero = refl
none_unmarked (suc k) = ap suc (none_unmarked k)

-- The state before a search.
pub found_none : (k : ℕ) → AreFound (replicate k false) []
found_none k = record {
  marked = λ n among. absurd (omega (arith, among.1));
  back = λ n h. absurd (none_marked k n h);
  count = omega (arith, none_unmarked k, length-replicate k false);
}

-- The links of a node.
pub nexts_read : (rows : List (Vec ℕ)) (n : ℕ) (row : Vec ℕ) → slice_get rows n ≡ Some row → nexts (graph_in rows) n ≡ row.items
nexts_read rows n row e =
    ap (λ (o : Option (List ℕ)). option_map_or (λ (ts : List ℕ). ts) o []) (slice_get-map (λ (v : Vec ℕ). v.items) rows n ∙ ap (option_map (λ (v : Vec ℕ). v.items)) e)

pub longer : (xs ys zs : List ℕ) (k : ℕ) → zs ≡ xs ++ ys → k < length xs → k + 1 ≤ length zs
longer xs ys zs k e within = omega (arith, within, ap length e ∙ length-append xs ys)
