-- Waiting lines, and how many of them are of a kind.
use Rattle.std.proofs.Common.{◌≡◌, ◌∙◌, ℕ, ◌+◌, ◌-◌, ◌<◌, ◌==◌, if◌then◌else◌, Bool, true, false, List, [], ◌∷◌, ◌++◌, length, map, get_or, slice_get, Option, None, Some, option_map, option_to_list, Result, Ok, Err, is_ok, not, IsSome, IsNone, IsTrue, true≢false, refl, sym, ap, subst, arith}
use Rattle.std.specs.Prelude.{◌↔◌}
use Rattle.std.proofs.lemmas.Bool.Decides.{nat_tests}
use Rattle.std.proofs.lemmas.List.{map-append}
use Rattle.line_filter.specs.Reporting.{ToldLine, kind_of, count_in}
use Rattle.line_filter.specs.declared.reports.Wait.{Wait}
use Rattle.line_filter.specs.declared.reports.Wait.TheVariants.{Message, Answer}
use Rattle.line_streams.specs.Waiting.{line_of, lines_of, IsCounted}
use Rattle.line_streams.specs.declared.backlog.Waiting.{Waiting}

-- one more line
pub count_more : (wait : Wait) (ls : List ToldLine) (l : ToldLine) → count_in wait (ls ++ l ∷ []) ≡ count_in wait ls + (if kind_of l.wait == kind_of wait then 1 else 0)
count_more wait [] l = omega arith
count_more wait (x ∷ ls) l = omega (arith, count_more wait ls l)

-- ---- whether one waits

pub is_empty_so : (ws : List Waiting) (count : ℕ) (b : Bool) → count ≡ length ws → b ≡ (count == 0) → IsTrue b ↔ (lines_of ws ≡ [])
is_empty_so [] count b is b_is = (λ shown. refl, λ none. let e : b ≡ true = grind (arith, nat_tests) in e)
is_empty_so (w ∷ ws) count b is b_is = (
  λ shown. absurd (let e : b ≡ false = grind (arith, nat_tests) in true≢false (sym shown ∙ e)),
  λ none. absurd (let e : line_of w ∷ lines_of ws ≡ [] = none in cc),
)

-- ---- the first line

pub first_octets : (ws : List Waiting) (w : Waiting) (octets : List ℕ) (count : ℕ) → count ≡ length ws → 0 < count → w ≡ get_or ws 0 w → octets ≡ w.octets.items
    → Some octets ≡ option_map (λ (line : ToldLine). line.octets) (slice_get (lines_of ws) 0)
first_octets [] w octets count is some there so = absurd (omega (arith, is, some))
first_octets (v ∷ ws) w octets count is some there so = ap (λ (os : List ℕ). Some os) (so ∙ ap (λ (x : Waiting). x.octets.items) there)

pub no_first : (ws : List Waiting) (count : ℕ) → count ≡ length ws → (0 < count → false ≡ true)
    → None ≡ option_map (λ (line : ToldLine). line.octets) (slice_get (lines_of ws) 0)
no_first [] count is none = refl
no_first (w ∷ ws) count is none = absurd (true≢false (sym (none (omega (arith, is)))))

-- ---- the first line is removed

pub dropped_none : (old new : List Waiting) → old ≡ new → lines_of old ≡ [] → lines_of new ≡ []
dropped_none old new same none = sym (ap lines_of same) ∙ none

abbrev tail_of : List ToldLine → List ToldLine
tail_of [] = []
tail_of (l ∷ ls) = ls

pub dropped_some : (w : Waiting) (old new : List Waiting) → old ≡ w ∷ new → (first : ToldLine) (left : List ToldLine) → lines_of old ≡ first ∷ left → lines_of new ≡ left
dropped_some w old new is first left parts =
    let e : line_of w ∷ lines_of new ≡ first ∷ left = sym (ap lines_of is) ∙ parts in ap (λ (ls : List ToldLine). tail_of ls) e

pub dropped_not : (w : Waiting) (old new : List Waiting) → old ≡ w ∷ new → lines_of old ≡ [] → lines_of new ≡ []
dropped_not w old new is none = absurd (let e : line_of w ∷ lines_of new ≡ [] = sym (ap lines_of is) ∙ none in cc)

pub dropped_absent : (old new : List Waiting) (count : ℕ) → count ≡ length old → (0 < count → false ≡ true) → (first : ToldLine) (left : List ToldLine)
    → lines_of old ≡ first ∷ left → lines_of new ≡ left
dropped_absent [] new count is none first left parts = absurd (let e : [] ≡ first ∷ left = parts in cc)
dropped_absent (w ∷ ws) new count is none first left parts = absurd (true≢false (sym (none (omega (arith, is)))))

-- if none was taken, nothing changed
pub same_lines : (r : Option Waiting) (old new : List Waiting) → ((w : Waiting) → r ≡ Some w → ⊥) → old ≡ option_to_list r ++ new → old ≡ new
same_lines None old new isnt is = is
same_lines (Some w) old new isnt is = absurd (isnt w refl)

pub dropped_absent_by : (r : Option Waiting) (old new : List Waiting) (count : ℕ) → ((w : Waiting) → r ≡ Some w → ⊥) → count ≡ length old → (0 < count → IsSome r)
    → (first : ToldLine) (left : List ToldLine) → lines_of old ≡ first ∷ left → lines_of new ≡ left
dropped_absent_by None old new count isnt is some first left parts = dropped_absent old new count is some first left parts
dropped_absent_by (Some w) old new count isnt is some first left parts = absurd (isnt w refl)

one_less : (wait : Wait) (w : Waiting) (new : List Waiting) (count one less : ℕ) → count ≡ count_in wait (line_of w ∷ lines_of new)
    → one ≡ (if kind_of w.wait == kind_of wait then 1 else 0) → less ≡ count - one → less ≡ count_in wait (lines_of new)
one_less wait w new count one less count_is one_is less_is = omega (arith, count_is, one_is, less_is)

pub counted_less : (w : Waiting) (old new : List Waiting) (messages answers one two fewer less : ℕ) → old ≡ w ∷ new → IsCounted old messages answers
    → one ≡ (if kind_of w.wait == kind_of Message then 1 else 0) → two ≡ (if kind_of w.wait == kind_of Answer then 1 else 0)
    → fewer ≡ messages - one → less ≡ answers - two → IsCounted new fewer less
counted_less w old new messages answers one two fewer less is counted one_is two_is fewer_is less_is = record {
  messages_are = one_less Message w new messages one fewer (counted.messages_are ∙ ap (λ (ws : List Waiting). count_in Message (lines_of ws)) is) one_is fewer_is;
  answers_are = one_less Answer w new answers two less (counted.answers_are ∙ ap (λ (ws : List Waiting). count_in Answer (lines_of ws)) is) two_is less_is;
}

pub counted_same : (old new : List Waiting) (messages answers : ℕ) → old ≡ new → IsCounted old messages answers → IsCounted new messages answers
counted_same old new messages answers same counted = subst (λ (ws : List Waiting). IsCounted ws messages answers) same counted

-- ---- a line is appended

pub was_put : {E : Type 0} (r : Result (Unit {0}) E) (w : Waiting) (old new : List Waiting) (b : Bool) → new ≡ (if is_ok r then old ++ w ∷ [] else old)
    → is_ok r ≡ not b → b ≡ false → new ≡ old ++ w ∷ []
was_put (Ok u) w old new b is ok isnt = is
was_put (Err e) w old new b is ok isnt = absurd (let t : false ≡ true = ok ∙ ap not isnt in true≢false (sym t))

pub wasnt_put : {E : Type 0} (r : Result (Unit {0}) E) (w : Waiting) (old new : List Waiting) (b : Bool) → new ≡ (if is_ok r then old ++ w ∷ [] else old)
    → is_ok r ≡ not b → b ≡ true → new ≡ old
wasnt_put (Ok u) w old new b is ok was = absurd (let t : true ≡ false = ok ∙ ap not was in true≢false t)
wasnt_put (Err e) w old new b is ok was = is

pub put_last : (w : Waiting) (old new : List Waiting) → new ≡ old ++ w ∷ [] → lines_of new ≡ lines_of old ++ line_of w ∷ []
put_last w old new is = ap lines_of is ∙ map-append line_of old (w ∷ [])

pub put_lines : {E : Type 0} (r : Result (Unit {0}) E) (w : Waiting) (old new : List Waiting) (b : Bool) → new ≡ (if is_ok r then old ++ w ∷ [] else old)
    → is_ok r ≡ not b → b ≡ false → {lines : List ToldLine} → lines ≡ lines_of old → lines_of new ≡ lines ++ line_of w ∷ []
put_lines r w old new b is ok isnt {lines} same =
    put_last w old new (was_put r w old new b is ok isnt) ∙ ap (λ (ls : List ToldLine). ls ++ line_of w ∷ []) (sym same)

pub wasnt_put_lines : {E : Type 0} (r : Result (Unit {0}) E) (w : Waiting) (old new : List Waiting) (b : Bool) → new ≡ (if is_ok r then old ++ w ∷ [] else old)
    → is_ok r ≡ not b → b ≡ true → lines_of new ≡ lines_of old
wasnt_put_lines r w old new b is ok was = ap lines_of (wasnt_put r w old new b is ok was)

one_more : (wait : Wait) (w : Waiting) (old new : List Waiting) (count one more : ℕ) → new ≡ old ++ w ∷ [] → count ≡ count_in wait (lines_of old)
    → one ≡ (if kind_of w.wait == kind_of wait then 1 else 0) → more ≡ count + one → more ≡ count_in wait (lines_of new)
one_more wait w old new count one more is count_is one_is more_is =
    let now : count_in wait (lines_of new) ≡ count_in wait (lines_of old) + (if kind_of w.wait == kind_of wait then 1 else 0) =
    ap (λ (ls : List ToldLine). count_in wait ls) (put_last w old new is) ∙ count_more wait (lines_of old) (line_of w) in
    omega (arith, now, count_is, one_is, more_is)

pub counted_more : (w : Waiting) (old new : List Waiting) (messages answers one two more also : ℕ) → new ≡ old ++ w ∷ [] → IsCounted old messages answers
    → one ≡ (if kind_of w.wait == kind_of Message then 1 else 0) → two ≡ (if kind_of w.wait == kind_of Answer then 1 else 0)
    → more ≡ messages + one → also ≡ answers + two → IsCounted new more also
counted_more w old new messages answers one two more also is counted one_is two_is more_is also_is = record {
  messages_are = one_more Message w old new messages one more is counted.messages_are one_is more_is;
  answers_are = one_more Answer w old new answers two also is counted.answers_are two_is also_is;
}
