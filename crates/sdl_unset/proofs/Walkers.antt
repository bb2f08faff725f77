-- Bits of chances: one part after another, and the answers of a DECISION side by side.
use Rattle.std.proofs.Common.{◌≡◌, ℕ, zero, suc, ◌<◌, ◌≤◌, ◌==◌, Bool, true, false, not, ◌&&◌, ◌||◌, List, [], ◌∷◌, ◌++◌, length, Option, None, Some, get_or, set, refl, sym, ap, ◌∙◌, arith, inl, inr, true≢false}
use Rattle.std.specs.Prelude.{slice_get, option_and_then}
use Rattle.std.specs.Option.{option_map_or}
use Rattle.std.specs.Global.{Vec}
use Rattle.std.proofs.lemmas.Bool.{cases_eq, cases_lt, eq-eqb, ne_eqb}
use Rattle.std.proofs.lemmas.Option.{slice_get-get_or, slice_get_past}
use lib.Bits.{bit_and, bit_or}
use Rattle.sdl_unset.specs.Graph.{has}
use Rattle.sdl_ast.specs.declared.expression.Identifier.{Identifier}
use Rattle.sdl_ast.specs.Plain.{PlainAction, task, output, set_timer, reset_timer, Text, falls, Choice, nothing_else, answer, PlainStatement, act, decide, PlainAnswer, before, all_before, all_answers, PlainProcess}
use Rattle.sdl_tables.specs.Names.{number_of, connector_names, states_of, is_state}
use Rattle.sdl_sound.specs.Paths.{Event, tree_events, action_events, reads_first, sets_in}
use Rattle.sdl_sound.specs.Chances.{Chances, no_chances, leaving, event_chances, behind, beside, last_chances, chances, choice_chances}
use Rattle.sdl_unset.specs.Flows.{Does, is_quoted, Doings, mask_at, Stands, Walked, Forked, AreTold}
use Rattle.sdl_unset.specs.declared.firsts.Firsts.{Firsts}
use Rattle.sdl_unset.specs.declared.flow.Flow.{Flow}
use Rattle.sdl_unset.specs.declared.walker.Walker.{Walker}
use Rattle.sdl_unset.proofs.Bits.{has_and, has_or, has_none, has_all}
use Rattle.std.proofs.Math.Bool.{and_assoc, or_assoc, and-false as and_false, and-true as and_true}
use Rattle.plain_laws.proofs.Options.{some_of as through}
use Rattle.sdl_ast.proofs.Views.{all_before-more as before-append, all_answers-more as answers-append}

-- ---- masks

mask-same : (masks : List ℕ) (state w : ℕ) → state < length masks → mask_at (set masks state w) state ≡ w
mask-same [] state w h = absurd (omega arith)
mask-same (m ∷ ms) zero w h = refl
mask-same (m ∷ ms) (suc state) w h = mask-same ms state w (omega arith)

mask-other : (masks : List ℕ) (state q w : ℕ) → (q ≡ state → ⊥) → mask_at (set masks state w) q ≡ mask_at masks q
mask-other [] state q w h = refl
mask-other (m ∷ ms) zero zero w h = absurd (h refl)
mask-other (m ∷ ms) zero (suc q) w h = refl
mask-other (m ∷ ms) (suc state) zero w h = refl
mask-other (m ∷ ms) (suc state) (suc q) w h = mask-other ms state q w (λ e. h (ap suc e))

or_false : (b : Bool) → (b || false) ≡ b
or_false true = refl
or_false false = refl

pub mask_added : (masks : List ℕ) (state mask old : ℕ) → state < length masks → old ≡ get_or masks state old → (v q : ℕ)
    → has (mask_at (set masks state (bit_or old mask)) q) v ≡ (has (mask_at masks q) v || (has mask v && (state == q)))
mask_added masks state mask old within is v q = elim (cases_eq q state) [
  | inl e ↦
      let there : mask_at masks state ≡ old = ap (λ (o : Option ℕ). option_map_or (λ m. m) o 0) (slice_get-get_or masks state old within) ∙ sym is in
      let same : (state == q) ≡ true = eq-eqb state q (sym e) in
      ap (λ k. has (mask_at (set masks state (bit_or old mask)) k) v) e
      ∙ (ap (λ m. has m v) (mask-same masks state (bit_or old mask) within)
      ∙ (has_or old mask v
      ∙ (ap (λ m. has m v || has mask v) (sym there ∙ ap (mask_at masks) (sym e))
      ∙ ap (λ b. has (mask_at masks q) v || b) (sym (ap (λ b. has mask v && b) same ∙ and_true (has mask v))))))
  | inr ne ↦
      let differ : (state == q) ≡ false = ne_eqb state q (λ e. ne (sym e)) in
      ap (λ m. has m v) (mask-other masks state q (bit_or old mask) ne)
      ∙ sym (ap (λ b. has (mask_at masks q) v || (has mask v && b)) differ ∙ (ap (λ b. has (mask_at masks q) v || b) (and_false (has mask v)) ∙ or_false (has (mask_at masks q) v)))
]

pub mask_past : (masks : List ℕ) (q : ℕ) → length masks ≤ q → mask_at masks q ≡ 0
mask_past masks q h = ap (λ (o : Option ℕ). option_map_or (λ m. m) o 0) (slice_get_past masks q h)

pub masks_added : (masks new others : List ℕ) (keeps i : ℕ) → length new ≡ length masks → length masks ≤ i
    → ((q : ℕ) → q < i → mask_at new q ≡ bit_or (mask_at masks q) (bit_and keeps (mask_at others q)))
    → ((q : ℕ) → i ≤ q → mask_at new q ≡ mask_at masks q) → length others ≡ length masks → (v q : ℕ)
    → has (mask_at new q) v ≡ (has (mask_at masks q) v || (has keeps v && has (mask_at others q) v))
masks_added masks new others keeps i count past done left same v q = elim (cases_lt q i) [
  | inl lt ↦ ap (λ m. has m v) (done q lt) ∙ (has_or (mask_at masks q) (bit_and keeps (mask_at others q)) v ∙ ap (λ b. has (mask_at masks q) v || b) (has_and keeps (mask_at others q) v))
  | inr ge ↦
      let none : has (mask_at others q) v ≡ false = ap (λ m. has m v) (mask_past others q (omega (arith, ge, past, same))) ∙ has_none v in
      ap (λ m. has m v) (left q ge)
      ∙ sym (ap (λ b. has (mask_at masks q) v || (has keeps v && b)) none ∙ (ap (λ b. has (mask_at masks q) v || b) (and_false (has keeps v)) ∙ or_false (has (mask_at masks q) v)))
]

-- ---- Booleans

or_and_bits : (a b c v : ℕ) (x y z : Bool) → has a v ≡ x → has b v ≡ y → has c v ≡ z → has (bit_or a (bit_and b c)) v ≡ (x || (y && z))
or_and_bits a b c v x y z h k l =
    has_or a (bit_and b c) v ∙ (ap (λ u. u || has (bit_and b c) v) h ∙ ap (λ u. x || u) (has_and b c v ∙ (ap (λ u. u && has c v) k ∙ ap (λ u. y && u) l)))

and_bits : (b c v : ℕ) (y z : Bool) → has b v ≡ y → has c v ≡ z → has (bit_and b c) v ≡ (y && z)
and_bits b c v y z k l = has_and b c v ∙ (ap (λ u. u && has c v) k ∙ ap (λ u. y && u) l)

or_bits : (b c v : ℕ) (y z : Bool) → has b v ≡ y → has c v ≡ z → has (bit_or b c) v ≡ (y || z)
or_bits b c v y z k l = has_or b c v ∙ (ap (λ u. u || has c v) k ∙ ap (λ u. y || u) l)

-- Nothing is added.
no_more : (x y : Bool) → x ≡ (x || (y && false))
no_more x y = sym (ap (λ u. x || u) (and_false y) ∙ or_false x)

bits_behind : (a l b m c : Bool) → ((a || (l && b)) || ((l && m) && c)) ≡ (a || (l && (b || (m && c))))
bits_behind true l b m c = refl
bits_behind false true b m c = refl
bits_behind false false b m c = refl

bits_beside : (a l b c : Bool) → ((a || (l && b)) || (l && c)) ≡ (a || (l && (b || c)))
bits_beside true l b c = refl
bits_beside false true b c = refl
bits_beside false false b c = refl

both_ways : (l b c : Bool) → ((l && b) || (l && c)) ≡ (l && (b || c))
both_ways true b c = refl
both_ways false b c = refl

chances_by_parts : (a b : Chances) → a.reads ≡ b.reads → a.leaves ≡ b.leaves → a.enters ≡ b.enters → a ≡ b
chances_by_parts a b r l e =
    ap (λ (u : Bool). let c : Chances = record { reads = u; leaves = a.leaves; enters = a.enters } in c) r
    ∙ (ap (λ (u : Bool). let c : Chances = record { reads = b.reads; leaves = u; enters = a.enters } in c) l
    ∙ ap (λ (u : Bool). let c : Chances = record { reads = b.reads; leaves = b.leaves; enters = u } in c) e)

pub behind_behind : (a b c : Chances) → behind (behind a b) c ≡ behind a (behind b c)
behind_behind a b c =
    chances_by_parts (behind (behind a b) c) (behind a (behind b c)) (bits_behind a.reads a.leaves b.reads b.leaves c.reads) (and_assoc a.leaves b.leaves c.leaves)
    (bits_behind a.enters a.leaves b.enters b.leaves c.enters)

pub behind_leaving : (a : Chances) → behind a leaving ≡ a
behind_leaving a = chances_by_parts (behind a leaving) a (sym (no_more a.reads a.leaves)) (and_true a.leaves) (sym (no_more a.enters a.leaves))

pub beside_beside : (a b c : Chances) → beside (beside a b) c ≡ beside a (beside b c)
beside_beside a b c =
    chances_by_parts (beside (beside a b) c) (beside a (beside b c)) (or_assoc a.reads b.reads c.reads) (or_assoc a.leaves b.leaves c.leaves) (or_assoc a.enters b.enters c.enters)

pub beside_none : (a : Chances) → beside a no_chances ≡ a
beside_none a = chances_by_parts (beside a no_chances) a (or_false a.reads) (or_false a.leaves) (or_false a.enters)

-- ---- walkers

pub stands_same : (p : PlainProcess) (f g : Doings) (w : Walker) → ((x : List ℕ) (q : ℕ) → f x q ≡ g x q) → Stands p f w → Stands p g w
unfolding Stands
stands_same p f g w e s = (
  s.0,
  λ v q id lt there.
      let b = s.1 v q id lt there in
      let is = e id.name q in
      (b.0 ∙ ap (λ (c : Chances). c.reads) is, b.1 ∙ ap (λ (c : Chances). c.leaves) is, b.2 ∙ ap (λ (c : Chances). c.enters) is),
)

pub walked_same : (p : PlainProcess) (f g : Doings) (a b : Walker) → ((x : List ℕ) (q : ℕ) → f x q ≡ g x q) → Walked p f a b → Walked p g a b
unfolding Walked
walked_same p f g a b e w = λ h s. stands_same p (λ x q. behind (h x q) (f x q)) (λ x q. behind (h x q) (g x q)) b (λ x q. ap (behind (h x q)) (e x q)) (w h s)

pub walked_behind : (p : PlainProcess) (f g : Doings) (a b c : Walker) → Walked p f a b → Walked p g b c → Walked p (λ x q. behind (f x q) (g x q)) a c
unfolding Walked
walked_behind p f g a b c one two = λ h s.
    stands_same p (λ x q. behind (behind (h x q) (f x q)) (g x q)) (λ x q. behind (h x q) (behind (f x q) (g x q))) c (λ x q. behind_behind (h x q) (f x q) (g x q))
    (two (λ x q. behind (h x q) (f x q)) (one h s))

pub walked_none : (p : PlainProcess) (a : Walker) → Walked p (λ x q. leaving) a a
unfolding Walked
walked_none p a = λ h s. stands_same p h (λ x q. behind (h x q) leaving) a (λ x q. sym (behind_leaving (h x q))) s

-- A TASK that holds only quoted text reads and sets nothing.
pub walked_quoted : (p : PlainProcess) (action : PlainAction) (a : Walker) → is_quoted action ≡ true → Walked p (λ x q. event_chances (action_events action) x) a a
walked_quoted p (task at []) a e = walked_none p a
walked_quoted p (task at (x ∷ xs)) a e = absurd (true≢false (sym e))
walked_quoted p (output at xs to) a e = absurd (true≢false (sym e))
walked_quoted p (set_timer at x n) a e = absurd (true≢false (sym e))
walked_quoted p (reset_timer at n) a e = absurd (true≢false (sym e))

pub at_start : (p : PlainProcess) (masks : Vec ℕ) (firsts : Firsts) → length masks.items ≡ length (states_of p) → ((q : ℕ) → mask_at masks.items q ≡ 0)
    → Stands p (λ x q. leaving) (record { reads = 0; leaves = 4294967295; enters = masks; firsts = firsts })
unfolding Stands
at_start p masks firsts count empty = (count, λ v q id lt there. (has_none v, has_all v lt, ap (λ m. has m v) (empty q) ∙ has_none v))

pub nowhere : (p : PlainProcess) (masks : Vec ℕ) (firsts : Firsts) → length masks.items ≡ length (states_of p) → ((q : ℕ) → mask_at masks.items q ≡ 0)
    → Stands p (λ x q. no_chances) (record { reads = 0; leaves = 0; enters = masks; firsts = firsts })
unfolding Stands
nowhere p masks firsts count empty = (count, λ v q id lt there. (has_none v, has_none v, ap (λ m. has m v) (empty q) ∙ has_none v))

pub passed : (p : PlainProcess) (events : List Event) (w : Walker) (flow : Flow) (firsts : Firsts) → Does p events flow
    → Walked p (λ x q. event_chances events x) w (record { reads = bit_or w.reads (bit_and w.leaves flow.reads); leaves = bit_and w.leaves flow.keeps; enters = w.enters; firsts = firsts })
unfolding Walked Stands Does
passed p events w flow firsts d = λ f s. (
  s.0,
  λ v q id lt there.
      let b = s.1 v q id lt there in
      let c = f id.name q in (
        or_and_bits w.reads w.leaves flow.reads v c.reads c.leaves (reads_first events id.name) b.0 b.1 (d.0.at v id lt there),
        and_bits w.leaves flow.keeps v c.leaves (not (sets_in events id.name)) b.1 (d.1.at v id lt there),
        b.2 ∙ no_more c.enters c.leaves,
      ),
)

pub stopped : (p : PlainProcess) (w : Walker) → Walked p (λ x q. no_chances) w (record { reads = w.reads; leaves = 0; enters = w.enters; firsts = w.firsts })
unfolding Walked Stands
stopped p w = λ f s. (
  s.0,
  λ v q id lt there.
      let b = s.1 v q id lt there in
      let c = f id.name q in
      (b.0 ∙ no_more c.reads c.leaves, has_none v ∙ sym (and_false c.leaves), b.2 ∙ no_more c.enters c.leaves),
)

pub entered : (p : PlainProcess) (w : Walker) (state : ℕ) (masks : Vec ℕ) → length masks.items ≡ length w.enters.items
    → (state < length w.enters.items → (v q : ℕ) → has (mask_at masks.items q) v ≡ (has (mask_at w.enters.items q) v || (has w.leaves v && (state == q))))
    → state < length (states_of p)
    → Walked p (λ x q. record { reads = false; leaves = false; enters = state == q }) w (record { reads = w.reads; leaves = 0; enters = masks; firsts = w.firsts })
unfolding Walked Stands
entered p w state masks count bits there = λ f s. (
  count ∙ s.0,
  λ v q id lt at.
      let b = s.1 v q id lt at in
      let c = f id.name q in (
        b.0 ∙ no_more c.reads c.leaves,
        has_none v ∙ sym (and_false c.leaves),
        bits (omega (arith, there, s.0)) v q ∙ (ap (λ u. u || (has w.leaves v && (state == q))) b.2 ∙ ap (λ u. c.enters || (u && (state == q))) b.1),
      ),
)

pub joined : (p : PlainProcess) (g : Doings) (w other : Walker) (masks : Vec ℕ) (firsts : Firsts) → length masks.items ≡ length w.enters.items
    → (length other.enters.items ≡ length w.enters.items → (v q : ℕ)
    → has (mask_at masks.items q) v ≡ (has (mask_at w.enters.items q) v || (has w.leaves v && has (mask_at other.enters.items q) v)))
    → Stands p g other
    → Walked p g w (record { reads = bit_or w.reads (bit_and w.leaves other.reads); leaves = bit_and w.leaves other.leaves; enters = masks; firsts = firsts })
unfolding Walked Stands
joined p g w other masks firsts count bits told = λ f s. (
  count ∙ s.0,
  λ v q id lt at.
      let b = s.1 v q id lt at in
      let d = told.1 v q id lt at in
      let c = f id.name q in
      let e = g id.name q in (
        or_and_bits w.reads w.leaves other.reads v c.reads c.leaves e.reads b.0 b.1 d.0,
        and_bits w.leaves other.leaves v c.leaves e.leaves b.1 d.1,
        bits (told.0 ∙ sym s.0) v q
            ∙ (ap (λ u. u || (has w.leaves v && has (mask_at other.enters.items q) v)) b.2
            ∙ (ap (λ u. c.enters || (u && has (mask_at other.enters.items q) v)) b.1 ∙ ap (λ u. c.enters || (c.leaves && u)) d.2)),
      ),
)

-- ---- the answers of a DECISION

pub fork_start : (p : PlainProcess) (w : Walker) → Forked p (λ x q. no_chances) w w 0
unfolding Forked
fork_start p w = (refl, stopped p w)

pub fork_more : (p : PlainProcess) (f g : Doings) (old now next : Walker) (after : ℕ) → Forked p f old now after → Walked p g now next
    → Forked p (λ x q. beside (f x q) (g x q)) old (record { reads = next.reads; leaves = old.leaves; enters = next.enters; firsts = next.firsts }) (bit_or after next.leaves)
unfolding Forked Walked Stands
fork_more p f g old now next after fork walk = (
  refl,
  λ h s.
      let done = fork.1 h s in
      let back : Doings = λ x q. record { reads = (behind (h x q) (f x q)).reads; leaves = (h x q).leaves; enters = (behind (h x q) (f x q)).enters } in
      let again : Stands p back now = (
        done.0,
        λ v q id lt at.
            let d = done.1 v q id lt at in
            let b = s.1 v q id lt at in
            (d.0, ap (λ m. has m v) fork.0 ∙ b.1, d.2),
      ) in
      let new = walk back again in (
        new.0,
        λ v q id lt at.
            let d = done.1 v q id lt at in
            let n = new.1 v q id lt at in
            let b = h id.name q in
            let c = f id.name q in
            let e = g id.name q in (
              n.0 ∙ bits_beside b.reads b.leaves c.reads e.reads,
              or_bits after next.leaves v (b.leaves && c.leaves) (b.leaves && e.leaves) d.1 n.1 ∙ both_ways b.leaves c.leaves e.leaves,
              n.2 ∙ bits_beside b.enters b.leaves c.enters e.enters,
            ),
      ),
)

pub fork_end : (p : PlainProcess) (f : Doings) (old now : Walker) (after : ℕ) → Forked p f old now after
    → Walked p f old (record { reads = now.reads; leaves = after; enters = now.enters; firsts = now.firsts })
unfolding Forked
fork_end p f old now after fork = fork.1

pub forked_same : (p : PlainProcess) (f g : Doings) (old now : Walker) (after : ℕ) → ((x : List ℕ) (q : ℕ) → f x q ≡ g x q) → Forked p f old now after → Forked p g old now after
unfolding Forked
forked_same p f g old now after e fork = (fork.0, walked_same p f g old (record { reads = now.reads; leaves = after; enters = now.enters; firsts = now.firsts }) e fork.1)

-- ---- lists of statements and of answers

statement_then : (states : List Identifier) (told : List ℕ → Chances) (x : List ℕ) (q : ℕ) (s : PlainStatement) (rest : Text)
    → chances states told x q (before s rest) ≡ behind (chances states told x q (before s falls)) (chances states told x q rest)
statement_then states told x q (act a) rest =
    ap (λ c. behind c (chances states told x q rest)) (sym (behind_leaving (event_chances (action_events a) x)))
statement_then states told x q (decide at t c) rest =
    let d = choice_chances states told x q c in
    let e = event_chances (tree_events t) x in
    let r = chances states told x q rest in
    ap (λ u. behind e (behind u r)) (sym (behind_leaving d)) ∙ sym (behind_behind e (behind d leaving) r)

pub statements_then : (states : List Identifier) (told : List ℕ → Chances) (x : List ℕ) (q : ℕ) (ss : List PlainStatement) (rest : Text)
    → chances states told x q (all_before ss rest) ≡ behind (chances states told x q (all_before ss falls)) (chances states told x q rest)
statements_then states told x q [] rest = refl
statements_then states told x q (s ∷ ss) rest =
    let one = chances states told x q (before s falls) in
    let some = chances states told x q (all_before ss falls) in
    let r = chances states told x q rest in
    statement_then states told x q s (all_before ss rest)
    ∙ (ap (behind one) (statements_then states told x q ss rest)
    ∙ (sym (behind_behind one some r) ∙ ap (λ u. behind u r) (sym (statement_then states told x q s (all_before ss falls)))))

pub statements_more : (states : List Identifier) (told : List ℕ → Chances) (x : List ℕ) (q : ℕ) (ss : List PlainStatement) (s : PlainStatement)
    → chances states told x q (all_before (ss ++ s ∷ []) falls) ≡ behind (chances states told x q (all_before ss falls)) (chances states told x q (before s falls))
statements_more states told x q ss s = ap (chances states told x q) (before-append ss s falls) ∙ statements_then states told x q ss (before s falls)

pub answers_then : (states : List Identifier) (told : List ℕ → Chances) (x : List ℕ) (q : ℕ) (list : List PlainAnswer) (others : Choice)
    → choice_chances states told x q (all_answers list others) ≡ beside (choice_chances states told x q (all_answers list nothing_else)) (choice_chances states told x q others)
answers_then states told x q [] others = refl
answers_then states told x q (a ∷ list) others =
    let one = chances states told x q a.text in
    ap (beside one) (answers_then states told x q list others)
    ∙ sym (beside_beside one (choice_chances states told x q (all_answers list nothing_else)) (choice_chances states told x q others))

pub answers_more : (states : List Identifier) (told : List ℕ → Chances) (x : List ℕ) (q : ℕ) (list : List PlainAnswer) (a : PlainAnswer)
    → choice_chances states told x q (all_answers (list ++ a ∷ []) nothing_else)
    ≡ beside (choice_chances states told x q (all_answers list nothing_else)) (chances states told x q a.text)
answers_more states told x q list a =
    ap (choice_chances states told x q) (answers-append list a nothing_else)
    ∙ (answers_then states told x q list (answer a.at a.ranges a.text nothing_else)
    ∙ ap (beside (choice_chances states told x q (all_answers list nothing_else))) (beside_none (chances states told x q a.text)))

-- ---- the walkers of the connections

pub told_there : (p : PlainProcess) (told : List ℕ → ℕ → List ℕ → Chances) (walkers : List Walker) (y : List ℕ) (w : Walker) → AreTold p told walkers
    → option_and_then (slice_get walkers) (number_of (connector_names p) y) ≡ Some w → Stands p (λ x q. told x q y) w
unfolding AreTold
told_there p told walkers y w t h =
    let there = through (slice_get walkers) (number_of (connector_names p) y) w h in
    t.0 y there.0 w there.1 there.2

pub told_nowhere : (p : PlainProcess) (told : List ℕ → ℕ → List ℕ → Chances) (walkers : List Walker) (y : List ℕ) (a b : Walker) → AreTold p told walkers
    → option_and_then (slice_get walkers) (number_of (connector_names p) y) ≡ None → Walked p (λ x q. no_chances) a b → Walked p (λ x q. told x q y) a b
unfolding AreTold
told_nowhere p told walkers y a b t h w = walked_same p (λ x q. no_chances) (λ x q. told x q y) a b (λ x q. sym (t.1 y h x q)) w

pub next_nowhere : (p : PlainProcess) (y : List ℕ) (a b : Walker) → number_of (states_of p) y ≡ None → Walked p (λ x q. no_chances) a b
    → Walked p (λ x q. record { reads = false; leaves = false; enters = is_state (states_of p) q y }) a b
next_nowhere p y a b h w =
    walked_same p (λ x q. no_chances) (λ x q. record { reads = false; leaves = false; enters = is_state (states_of p) q y }) a b
    (λ x q. sym (ap (λ (o : Option ℕ). let c : Chances = record { reads = false; leaves = false; enters = option_map_or (λ n. n == q) o false } in c) h)) w

pub next_there : (p : PlainProcess) (y : List ℕ) (n : ℕ) (a b : Walker) → number_of (states_of p) y ≡ Some n
    → Walked p (λ x q. record { reads = false; leaves = false; enters = n == q }) a b
    → Walked p (λ x q. record { reads = false; leaves = false; enters = is_state (states_of p) q y }) a b
next_there p y n a b h w =
    walked_same p (λ x q. record { reads = false; leaves = false; enters = n == q }) (λ x q. record { reads = false; leaves = false; enters = is_state (states_of p) q y }) a b
    (λ x q. sym (ap (λ (o : Option ℕ). let c : Chances = record { reads = false; leaves = false; enters = option_map_or (λ k. k == q) o false } in c) h)) w

-- ---- whole texts

pub walked_from : (p : PlainProcess) (f g : Doings) (a b : Walker) → Stands p f a → Walked p g a b → Stands p (λ x q. behind (f x q) (g x q)) b
unfolding Walked
walked_from p f g a b s w = w f s

last_is : (c : Chances) → behind (behind leaving c) no_chances ≡ last_chances c
last_is c = chances_by_parts (behind (behind leaving c) no_chances) (last_chances c) (sym (no_more c.reads c.leaves)) (and_false c.leaves) (sym (no_more c.enters c.leaves))

pub walked_last : (p : PlainProcess) (f : Doings) (a b c : Walker) → Stands p (λ x q. leaving) a → Walked p f a b → Walked p (λ x q. no_chances) b c
    → Stands p (λ x q. last_chances (f x q)) c
walked_last p f a b c s w v =
    stands_same p (λ x q. behind (behind leaving (f x q)) no_chances) (λ x q. last_chances (f x q)) c (λ x q. last_is (f x q))
    (walked_from p (λ x q. behind leaving (f x q)) (λ x q. no_chances) b c (walked_from p (λ x q. leaving) f a b s w) v)

leaving_first : (c : Chances) → behind leaving c ≡ c
leaving_first c = chances_by_parts (behind leaving c) c refl refl refl

-- A walker that went through a text from its beginning.
pub walked_whole : (p : PlainProcess) (f : Doings) (a b : Walker) → Stands p (λ x q. leaving) a → Walked p f a b → Stands p f b
walked_whole p f a b s w = stands_same p (λ x q. behind leaving (f x q)) f b (λ x q. leaving_first (f x q)) (walked_from p (λ x q. leaving) f a b s w)
