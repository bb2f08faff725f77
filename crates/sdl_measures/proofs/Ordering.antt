-- The steps of the search for an order.
use Rattle.std.proofs.Common.{◌≡◌, ◌≢◌, ℕ, zero, suc, ◌+◌, ◌-◌, ◌<◌, ◌≤◌, true, false, List, [], ◌∷◌, ◌++◌, length, refl, ap, sym, ◌∙◌, subst, arith, inl, inr, Option, Some, None, take, get_or, length-append}
use Rattle.std.specs.Prelude.{slice_get, slice_set, Contains, replicate}
use Rattle.std.specs.Option.{option_map_or}
use Rattle.std.proofs.lemmas.Bool.{cases_eq, cases_lt}
use Rattle.std.proofs.lemmas.List.{length-set, length-take-le, length-replicate}
use Rattle.std.proofs.lemmas.Option.{slice_get_within, slice_get-get_or}
use Rattle.sdl_measures.specs.Links.{nexts, goes, Returns, IsOrderOf}
use Rattle.sdl_measures.specs.Searched.{is_new, is_done, unseen, IsSearch, StandsIn, Advances}
use Rattle.sdl_measures.specs.declared.graph.Mark.{Mark}
use Rattle.sdl_measures.specs.declared.graph.Mark.TheVariants.{New, Open, Done}
use Rattle.sdl_measures.specs.declared.graph.Frame.{Frame}
use Rattle.sdl_sound.proofs.Lists.{get_set_cases, get_push_old, get_push_cases, get_take, take_get, get_one}
use Rattle.sdl_measures.proofs.Ways.{goes_itself, goes_first, goes_last}
use Rattle.plain_laws.proofs.Places.{get_set_same, get_set_other, among_at, at_among, last_at as get_push_new}
use Rattle.plain_laws.proofs.Options.{none_some as none_at}
use Rattle.sdl_measures.proofs.MarkCounts.{unseen_less, unseen_same, unseen_none, open_new, done_new, open_done, open_open, done_done}

-- ---- steps

-- The last open node continues with a later link.
pub moved : (g : List (List ℕ)) (marks : List Mark) (path : List Frame) (order : List ℕ) (last next : ℕ) (f : Frame) → IsSearch g marks path order
    → suc last ≡ length path → slice_get path last ≡ Some f
    → ((k t : ℕ) → k < next → slice_get (nexts g f.node) k ≡ Some t → StandsIn order t)
    → IsSearch g marks (slice_set path last (record { node = f.node; next = next })) order
moved g marks path order last next f s long there passed =
    let h : Frame = record { node = f.node; next = next } in
    let within : last < length path = omega (arith, long) in
    record {
      count = s.count;
      total = omega (arith, s.total, length-set path last h);
      opened = λ d a e. elim (get_set_cases path last d h a e) [
        | inl is ↦ subst (λ (x : Frame). slice_get marks x.node ≡ Some (Open d)) (sym is.1) (subst (λ x. slice_get marks f.node ≡ Some (Open x)) (sym is.0) (s.opened last f there))
        | inr not ↦ s.opened d a not.1
      ];
      ordered = s.ordered;
      open_at = λ n d e.
          let old = s.open_at n d e in
          elim (cases_eq d last) [
            | inl is ↦
                let same : f ≡ old.0 = get_one (slice_get path d) f old.0 (ap (slice_get path) is ∙ there) old.1 in
                (h, ap (slice_get (slice_set path last h)) is ∙ get_set_same path last h within, ap (λ (x : Frame). x.node) same ∙ old.2)
            | inr not ↦ (old.0, get_set_other path last d h not ∙ old.1, old.2)
          ];
      done_at = s.done_at;
      chain = λ d a b ea eb. elim (get_set_cases path last (suc d) h b eb) [
        | inl is ↦
            let before : slice_get path d ≡ Some a = sym (get_set_other path last d h (λ e. absurd (omega (arith, e, is.0)))) ∙ ea in
            let here : slice_get path (suc d) ≡ Some f = ap (slice_get path) is.0 ∙ there in
            subst (λ (x : Frame). slice_get (nexts g a.node) a.next ≡ Some x.node) (sym is.1) (s.chain d a f before here)
        | inr not ↦
            let inside : suc d < length path = slice_get_within path (suc d) b not.1 in
            let before : slice_get path d ≡ Some a = sym (get_set_other path last d h (λ e. absurd (omega (arith, e, inside, long)))) ∙ ea in
            s.chain d a b before not.1
      ];
      passed = λ d k t a e less edge. elim (get_set_cases path last d h a e) [
        | inl is ↦
            passed k t (subst (λ (x : Frame). k < x.next) is.1 less) (subst (λ (x : Frame). slice_get (nexts g x.node) k ≡ Some t) is.1 edge)
        | inr not ↦ s.passed d k t a not.1 less edge
      ];
      behind = s.behind;
    }

-- A node is opened: the first one, or one that the last open node leads to.
pub entered : (g : List (List ℕ)) (marks : List Mark) (path : List Frame) (order : List ℕ) (t : ℕ) → IsSearch g marks path order
    → slice_get marks t ≡ Some New
    → ((d : ℕ) (f : Frame) → suc d ≡ length path → slice_get path d ≡ Some f → slice_get (nexts g f.node) f.next ≡ Some t)
    → IsSearch g (slice_set marks t (Open (length path))) (path ++ record { node = t; next = 0 } ∷ []) order
entered g marks path order t s fresh link =
    let h : Frame = record { node = t; next = 0 } in
    let m : Mark = Open (length path) in
    let within : t < length marks = slice_get_within marks t New fresh in
    record {
      count = length-set marks t m ∙ s.count;
      total = omega (arith, s.total, length-set marks t m, length-append path (h ∷ []), unseen_less marks t m fresh refl);
      opened = λ d a e. elim (get_push_cases path h a d e) [
        | inl old ↦ get_set_other marks t a.node m (λ same. open_new (slice_get marks a.node) d (s.opened d a old) (ap (slice_get marks) same ∙ fresh)) ∙ s.opened d a old
        | inr is ↦
            subst (λ (x : Frame). slice_get (slice_set marks t m) x.node ≡ Some (Open d)) (sym is.1)
            (get_set_same marks t m within ∙ ap (λ x. Some (Open x)) (sym is.0))
      ];
      ordered = λ i n e. get_set_other marks t n m (λ same. done_new (slice_get marks n) i (s.ordered i n e) (ap (slice_get marks) same ∙ fresh)) ∙ s.ordered i n e;
      open_at = λ n d e. elim (get_set_cases marks t n m (Open d) e) [
        | inl is ↦
            let at : d ≡ length path = open_open (Some (Open d)) d (length path) refl (ap Some is.1) in
            (h, ap (slice_get (path ++ h ∷ [])) at ∙ get_push_new path h, sym is.0)
        | inr not ↦ let old = s.open_at n d not.1 in (old.0, get_push_old path h old.0 d old.1, old.2)
      ];
      done_at = λ n i e. elim (get_set_cases marks t n m (Done i) e) [
        | inl is ↦ absurd (open_done (Some (Done i)) (length path) i (ap Some is.1) refl)
        | inr not ↦ s.done_at n i not.1
      ];
      chain = λ d a b ea eb. elim (get_push_cases path h b (suc d) eb) [
        | inl old ↦
            let inside : suc d < length path = slice_get_within path (suc d) b old in
            elim (get_push_cases path h a d ea) [
              | inl before ↦ s.chain d a b before old
              | inr is ↦ absurd (omega (arith, is.0, inside))
            ]
        | inr is ↦ elim (get_push_cases path h a d ea) [
          | inl before ↦ subst (λ (x : Frame). slice_get (nexts g a.node) a.next ≡ Some x.node) (sym is.1) (link d a is.0 before)
          | inr same ↦ absurd (omega (arith, is.0, same.0))
        ]
      ];
      passed = λ d k t' a e less edge. elim (get_push_cases path h a d e) [
        | inl old ↦ s.passed d k t' a old less edge
        | inr is ↦ absurd (omega (arith, subst (λ (x : Frame). k < x.next) is.1 less))
      ];
      behind = s.behind;
    }

-- The last open node is appended to the order.
pub finished : (g : List (List ℕ)) (marks : List Mark) (path : List Frame) (order : List ℕ) (last : ℕ) (f : Frame) → IsSearch g marks path order
    → suc last ≡ length path → slice_get path last ≡ Some f
    → ((k t : ℕ) → slice_get (nexts g f.node) k ≡ Some t → StandsIn order t)
    → IsSearch g (slice_set marks f.node (Done (length order))) (take last path) (order ++ f.node ∷ [])
finished g marks path order last f s long there all =
    let m : Mark = Done (length order) in
    let here : slice_get marks f.node ≡ Some (Open last) = s.opened last f there in
    let within : f.node < length marks = slice_get_within marks f.node (Open last) here in
    record {
      count = length-set marks f.node m ∙ s.count;
      total = omega (arith, s.total, length-set marks f.node m, length-append order (f.node ∷ []), unseen_same marks f.node last (length order) here, length-take-le last path (omega (arith, long)), long);
      opened = λ d a e.
          let old = get_take path last d a e in
          get_set_other marks f.node a.node m (λ same.
          let d_is : d ≡ last = open_open (slice_get marks a.node) d last (s.opened d a old.1) (ap (slice_get marks) same ∙ here) in
          absurd (omega (arith, d_is, old.0))) ∙ s.opened d a old.1;
      ordered = λ i n e. elim (get_push_cases order f.node n i e) [
        | inl old ↦ get_set_other marks f.node n m (λ same. open_done (slice_get marks n) last i (ap (slice_get marks) same ∙ here) (s.ordered i n old)) ∙ s.ordered i n old
        | inr is ↦ ap (slice_get (slice_set marks f.node m)) is.1 ∙ get_set_same marks f.node m within ∙ ap (λ x. Some (Done x)) (sym is.0)
      ];
      open_at = λ n d e. elim (get_set_cases marks f.node n m (Open d) e) [
        | inl is ↦ absurd (open_done (Some (Open d)) d (length order) refl (ap Some is.1))
        | inr not ↦
            let old = s.open_at n d not.1 in
            elim (cases_eq d last) [
              | inl same ↦
                  let f_is : f ≡ old.0 = get_one (slice_get path d) f old.0 (ap (slice_get path) same ∙ there) old.1 in
                  absurd (not.0 (sym old.2 ∙ ap (λ (x : Frame). x.node) (sym f_is)))
              | inr other ↦ (old.0, take_get path last d old.0 (omega (arith, other, long, slice_get_within path d old.0 old.1)) old.1, old.2)
            ]
      ];
      done_at = λ n i e. elim (get_set_cases marks f.node n m (Done i) e) [
        | inl is ↦
            let at : i ≡ length order = done_done (Some (Done i)) i (length order) refl (ap Some is.1) in
            ap (slice_get (order ++ f.node ∷ [])) at ∙ get_push_new order f.node ∙ ap Some (sym is.0)
        | inr not ↦ get_push_old order f.node n i (s.done_at n i not.1)
      ];
      chain = λ d a b ea eb. s.chain d a b (get_take path last d a ea).1 (get_take path last (suc d) b eb).1;
      passed = λ d k t a e less edge.
          let old = s.passed d k t a (get_take path last d a e).1 less edge in
          (old.0, get_push_old order f.node t old.0 old.1);
      behind = λ i n k t e edge. elim (get_push_cases order f.node n i e) [
        | inl old ↦ let at = s.behind i n k t old edge in (at.0, at.1, get_push_old order f.node t at.0 at.2)
        | inr is ↦
            let at = all k t (subst (λ x. slice_get (nexts g x) k ≡ Some t) is.1 edge) in
            (at.0, omega (arith, is.0, slice_get_within order at.0 t at.1), get_push_old order f.node t at.0 at.1)
      ];
    }

-- ---- the end of a search

-- A path leads from each open node to the last open node.
path_goes : (g : List (List ℕ)) (marks : List Mark) (path : List Frame) (order : List ℕ) (last j d : ℕ) (f h : Frame) → IsSearch g marks path order
    → suc last ≡ length path → slice_get path last ≡ Some f → slice_get path d ≡ Some h → d + j ≡ last → f.node < length g → goes g h.node f.node ≡ true
path_goes g marks path order last zero d f h s long there at sum within =
    let d_is : d ≡ last = omega (arith, sum) in
    let same : h ≡ f = get_one (slice_get path d) h f at (ap (slice_get path) d_is ∙ there) in
    subst (λ (x : Frame). goes g x.node f.node ≡ true) (sym same) (goes_itself g f.node)
path_goes g marks path order last (suc j) d f h s long there at sum within =
    let next : Frame = get_or path (suc d) h in
    let after : slice_get path (suc d) ≡ Some next = slice_get-get_or path (suc d) h (omega (arith, sum, long)) in
    let rest = path_goes g marks path order last j (suc d) f next s long there after (omega (arith, sum)) within in
    goes_first g h.node next.node f.node within (among_at (nexts g h.node) h.next next.node (s.chain d h next at after)) rest

-- A link from the last open node to an open node closes a cycle.
pub comes_back : (g : List (List ℕ)) (marks : List Mark) (path : List Frame) (order : List ℕ) (last d k t : ℕ) (f : Frame) → IsSearch g marks path order
    → suc last ≡ length path → slice_get path last ≡ Some f → slice_get (nexts g f.node) k ≡ Some t → slice_get marks t ≡ Some (Open d) → Returns g t
comes_back g marks path order last d k t f s long there edge open_there =
    let within : t < length g = omega (arith, slice_get_within marks t (Open d) open_there, s.count) in
    let f_within : f.node < length g = omega (arith, slice_get_within marks f.node (Open last) (s.opened last f there), s.count) in
    let at = s.open_at t d open_there in
    elim (cases_eq d last) [
      | inl same ↦
          let f_is : f ≡ at.0 = get_one (slice_get path d) f at.0 (ap (slice_get path) same ∙ there) at.1 in
          let node : f.node ≡ t = ap (λ (x : Frame). x.node) f_is ∙ at.2 in
          record {
            next = t;
            among = subst (λ x. Contains (nexts g x) t) node (among_at (nexts g f.node) k t edge);
            back = goes_itself g t;
          }
      | inr other ↦
          let inside : d < length path = slice_get_within path d at.0 at.1 in
          let next : Frame = get_or path (suc d) f in
          let after : slice_get path (suc d) ≡ Some next = slice_get-get_or path (suc d) f (omega (arith, inside, long, other)) in
          let less : suc d ≤ last = omega (arith, inside, long, other) in
          let way = path_goes g marks path order last (last - suc d) (suc d) f next s long there after (omega (arith, less)) f_within in
          record {
            next = next.node;
            among = subst (λ x. Contains (nexts g x) next.node) at.2 (among_at (nexts g at.0.node) at.0.next next.node (s.chain d at.0 next at.1 after));
            back = goes_last g next.node f.node t within way (among_at (nexts g f.node) k t edge);
          }
    ]

mark_cases : (marks : List Mark) (order : List ℕ) (n : ℕ) (m : Mark) → slice_get marks n ≡ Some m → ((d : ℕ) → slice_get marks n ≡ Some (Open d) → ⊥)
    → (slice_get marks n ≡ Some New → ⊥) → ((i : ℕ) → slice_get marks n ≡ Some (Done i) → slice_get order i ≡ Some n) → StandsIn order n
mark_cases marks order n New e none seen done = absurd (seen e)
mark_cases marks order n (Open d) e none seen done = absurd (none d e)
mark_cases marks order n (Done i) e none seen done = (i, done i e)

-- If every node was visited and none is open, the list is an order.
pub is_order : (g : List (List ℕ)) (marks : List Mark) (path : List Frame) (order : List ℕ) → IsSearch g marks path order → path ≡ []
    → ((n : ℕ) → slice_get marks n ≡ Some New → ⊥) → IsOrderOf g order
is_order g marks path order s none seen = record {
  count = omega (arith, s.total, s.count, unseen_none marks seen, ap length none);
  known = λ i n e. omega (arith, slice_get_within marks n (Done i) (s.ordered i n e), s.count);
  each = λ n within.
      mark_cases marks order n (get_or marks n New) (slice_get-get_or marks n New (omega (arith, within, s.count)))
      (λ d e. let f = s.open_at n d e in absurd (omega (arith, slice_get_within path d f.0 f.1, ap length none)))
      (seen n) (s.done_at n);
  once = λ i j n a b. done_done (slice_get marks n) i j (s.ordered i n a) (s.ordered j n b);
  behind = λ i n t e among. let at = at_among (nexts g n) t among in s.behind i n at.0 t e at.1;
}

-- ---- the results of tests of marks

new_by : (o : Option Mark) → option_map_or is_new o false ≡ true → o ≡ Some New
new_by None e = absurd (cc)
new_by (Some New) e = refl
new_by (Some (Open d)) e = absurd (cc)
new_by (Some (Done i)) e = absurd (cc)

pub new_at : (marks : List Mark) (n : ℕ) → option_map_or is_new (slice_get marks n) false ≡ true → slice_get marks n ≡ Some New
new_at marks n e = new_by (slice_get marks n) e

done_by : (o : Option Mark) → option_map_or is_done o false ≡ true → (i : ℕ) × (o ≡ Some (Done i))
done_by None e = absurd (cc)
done_by (Some New) e = absurd (cc)
done_by (Some (Open d)) e = absurd (cc)
done_by (Some (Done i)) e = (i, refl)

pub stands_by : (g : List (List ℕ)) (marks : List Mark) (path : List Frame) (order : List ℕ) (n : ℕ) → IsSearch g marks path order
    → option_map_or is_done (slice_get marks n) false ≡ true → StandsIn order n
stands_by g marks path order n s e = let at = done_by (slice_get marks n) e in (at.0, s.done_at n at.0 at.1)

open_by : (m : Mark) → is_new m ≡ false → is_done m ≡ false → (d : ℕ) × (m ≡ Open d)
open_by New a b = absurd (cc)
open_by (Open d) a b = (d, refl)
open_by (Done i) a b = absurd (cc)

pub open_by_tests : (marks : List Mark) (n : ℕ) → n < length marks → option_map_or is_new (slice_get marks n) false ≡ false
    → option_map_or is_done (slice_get marks n) false ≡ false → (d : ℕ) × (slice_get marks n ≡ Some (Open d))
open_by_tests marks n within a b =
    let there : slice_get marks n ≡ Some (get_or marks n New) = slice_get-get_or marks n New within in
    let m = open_by (get_or marks n New) (ap (λ o. option_map_or is_new o false) (sym there) ∙ a) (ap (λ o. option_map_or is_done o false) (sym there) ∙ b) in
    (m.0, there ∙ ap Some m.1)

-- ---- steps of the code

abbrev pub frame_at : ℕ → ℕ → Frame
frame_at node next = record { node = node; next = next }

-- The links before the current one at the last open node lead to nodes in the order.
pub passed_to : (g : List (List ℕ)) (marks : List Mark) (path : List Frame) (order : List ℕ) (last next : ℕ) (f : Frame) → IsSearch g marks path order
    → slice_get path last ≡ Some f
    → ((k n : ℕ) → f.next ≤ k → k < next → slice_get (nexts g f.node) k ≡ Some n → option_map_or is_done (slice_get marks n) false ≡ true)
    → (k t : ℕ) → k < next → slice_get (nexts g f.node) k ≡ Some t → StandsIn order t
passed_to g marks path order last next f s there seen k t less edge = elim (cases_lt k f.next) [
  | inl before ↦ s.passed last k t f there before edge
  | inr now ↦ stands_by g marks path order t s (seen k t now less edge)
]

-- The last open node is completed.
pub advances_done : (g : List (List ℕ)) (marks : List Mark) (path : List Frame) (order : List ℕ) (last : ℕ) (f : Frame) → IsSearch g marks path order
    → suc last ≡ length path → slice_get path last ≡ Some f
    → ((k t : ℕ) → slice_get (nexts g f.node) k ≡ Some t → StandsIn order t)
    → Advances g marks path (slice_set marks f.node (Done (length order))) (take last path) (order ++ f.node ∷ [])
advances_done g marks path order last f s long there all =
    let here : slice_get marks f.node ≡ Some (Open last) = s.opened last f there in
    record {
      search = finished g marks path order last f s long there all;
      less = omega (arith, long, length-take-le last path (omega (arith, long)), unseen_same marks f.node last (length order) here);
      seen = λ n e. elim (get_set_cases marks f.node n (Done (length order)) New e) [
        | inl is ↦ let bad : New ≡ Done (length order) = is.1 in absurd (done_new (Some New) (length order) (ap Some bad) refl)
        | inr not ↦ not.1
      ];
    }

-- A node is opened after the last open node.
pub advances_on : (g : List (List ℕ)) (marks : List Mark) (path : List Frame) (order : List ℕ) (last next t : ℕ) (f : Frame) → IsSearch g marks path order
    → suc last ≡ length path → slice_get path last ≡ Some f
    → ((k t : ℕ) → k < next → slice_get (nexts g f.node) k ≡ Some t → StandsIn order t)
    → slice_get (nexts g f.node) next ≡ Some t → slice_get marks t ≡ Some New
    → Advances g marks path (slice_set marks t (Open (length (slice_set path last (frame_at f.node next))))) (slice_set path last (frame_at f.node next) ++ frame_at t 0 ∷ []) order
advances_on g marks path order last next t f s long there passed edge fresh =
    let h : Frame = frame_at f.node next in
    let moves = slice_set path last h in
    let same : length moves ≡ length path = length-set path last h in
    let m : Mark = Open (length moves) in
    let s' = moved g marks path order last next f s long there passed in
    record {
      search = entered g marks moves order t s' fresh (λ d a at e.
          let d_is : d ≡ last = omega (arith, at, same, long) in
          let a_is : a ≡ h = get_one (slice_get moves d) a h e (ap (slice_get moves) d_is ∙ get_set_same path last h (omega (arith, long))) in
          subst (λ (x : Frame). slice_get (nexts g x.node) x.next ≡ Some t) (sym a_is) edge);
      less = omega (arith, same, length-append moves (frame_at t 0 ∷ []), unseen_less marks t m fresh refl);
      seen = λ n e. elim (get_set_cases marks t n m New e) [
        | inl is ↦ let bad : New ≡ m = is.1 in absurd (open_new (Some New) (length moves) (ap Some bad) refl)
        | inr not ↦ not.1
      ];
    }

-- The first node is opened.
pub enters_first : (g : List (List ℕ)) (marks : List Mark) (path : List Frame) (order : List ℕ) (t : ℕ) → IsSearch g marks path order → path ≡ []
    → slice_get marks t ≡ Some New → IsSearch g (slice_set marks t (Open (length path))) (path ++ frame_at t 0 ∷ []) order
enters_first g marks path order t s none fresh = entered g marks path order t s fresh (λ d f at e. absurd (omega (arith, at, ap length none)))

pub seen_set : (marks : List Mark) (t d n : ℕ) → slice_get marks t ≡ Some New → slice_get (slice_set marks t (Open d)) n ≡ Some New
    → (slice_get marks n ≡ Some New) × (n ≢ t)
seen_set marks t d n fresh e = elim (get_set_cases marks t n (Open d) New e) [
  | inl is ↦ let bad : New ≡ Open d = is.1 in absurd (open_new (Some New) d (ap Some bad) refl)
  | inr not ↦ (not.1, not.0)
]

new_only : (n : ℕ) (k : ℕ) (m : Mark) → slice_get (replicate k New) n ≡ Some m → m ≡ New
new_only n zero m e = let bad : None ≡ Some m = e in absurd (cc)
new_only zero (suc k) m e = let is : Some New ≡ Some m = e in cc
new_only (suc n) (suc k) m e = new_only n k m e

unseen_all : (k : ℕ) → unseen (replicate k New) ≡ k
unfolding unseen
unseen_all zero = refl
unseen_all (suc k) = ap suc (unseen_all k)

-- The state before a search.
pub search_none : (g : List (List ℕ)) (k : ℕ) → k ≡ length g → IsSearch g (replicate k New) [] []
search_none g k long = record {
  count = length-replicate k New ∙ long;
  total = omega (arith, unseen_all k, length-replicate k New);
  opened = λ d f e. absurd (none_at e);
  ordered = λ i n e. absurd (none_at e);
  open_at = λ n d e. absurd (open_new (Some (Open d)) d refl (ap Some (new_only n k (Open d) e)));
  done_at = λ n i e. absurd (done_new (Some (Done i)) i refl (ap Some (new_only n k (Done i) e)));
  chain = λ d f h e. absurd (none_at e);
  passed = λ d k t f e. absurd (none_at e);
  behind = λ i n k t e. absurd (none_at e);
}

-- As `Advances`, for equal lists.
pub advances_as : (g : List (List ℕ)) (marks : List Mark) (path : List Frame) (m m' : List Mark) (p p' : List Frame) (o o' : List ℕ)
    → m ≡ m' → p ≡ p' → o ≡ o' → Advances g marks path m' p' o' → Advances g marks path m p o
advances_as g marks path m m' p p' o o' a b c h =
    subst (λ x. Advances g marks path x p o) (sym a) (subst (λ x. Advances g marks path m' x o) (sym b) (subst (λ x. Advances g marks path m' p' x) (sym c) h))

pub search_as : (g : List (List ℕ)) (m m' : List Mark) (p p' : List Frame) (o o' : List ℕ) → m ≡ m' → p ≡ p' → o ≡ o' → IsSearch g m' p' o' → IsSearch g m p o
search_as g m m' p p' o o' a b c h =
    subst (λ x. IsSearch g x p o) (sym a) (subst (λ x. IsSearch g m' x o) (sym b) (subst (λ x. IsSearch g m' p' x) (sym c) h))

pub not_new_at : (marks : List Mark) (n : ℕ) → option_map_or is_new (slice_get marks n) false ≡ false → slice_get marks n ≡ Some New → ⊥
not_new_at marks n a b = let bad : true ≡ false = sym (ap (λ o. option_map_or is_new o false) b) ∙ a in cc
