-- Orders that wait.
use Rattle.std.proofs.Common.{◌≡◌, ◌∙◌, ℕ, zero, suc, ◌+◌, ◌-◌, ◌^◌, ◌<◌, ◌≤◌, min, cond, Bool, true, false, List, [], ◌∷◌, ◌++◌, length, map, take, get_or, Option, None, Some, IfSome, IsSome, IsNone, IsTrue, Result, is_ok, if◌then◌else◌, option_to_list, option_map, slice_get, true≢false, refl, sym, ap, arith}
use Rattle.std.specs.Prelude.{◌↔◌}
use Rattle.std.proofs.lemmas.List.{map-append, length-map, take_all}
use Rattle.std.proofs.lemmas.List.Sums.{sum_by_more}
use Rattle.std.proofs.lemmas.Option.{slice_get-get_or, slice_get-map}
use Rattle.line_play.specs.SetQueues.{Waited, waited_of, is_of, is_at, count_of}
use Rattle.line_play.specs.declared.set.queue.Waiting.{Waiting}

abbrev texts : List Waiting → List Waited
texts ws = map waited_of ws

none_in : (ws : List Waiting) → length ws ≡ 0 → texts ws ≡ []
none_in [] none_there = refl
none_in (w ∷ ws) none_there = absurd (omega (arith, none_there))

pub many_wait : (ws : List Waiting) (count most : ℕ) → count ≡ length ws → most ≤ count → most ≤ length (texts ws)
many_wait ws count most count_is many = omega (arith, count_is, many, length-map ws waited_of)

pub few_wait : (ws : List Waiting) (count most : ℕ) → count ≡ length ws → count < most → length (texts ws) < most
few_wait ws count most count_is few = omega (arith, count_is, few, length-map ws waited_of)

pub first_taken : (r : Option Waiting) (old new : List Waiting) → old ≡ option_to_list r ++ new → IfSome r (λ (w : Waiting). texts old ≡ waited_of w ∷ texts new)
first_taken None old new is = tt
first_taken (Some w) old new is = ap texts is

pub none_taken : (r : Option Waiting) (old new : List Waiting) → old ≡ option_to_list r ++ new → IsNone r → texts new ≡ texts old
none_taken None old new is none = sym (ap texts is)
none_taken (Some w) old new is none = absurd (let e : true ≡ false = none in cc)

nothing : (n : ℕ) → (0 < n → ⊥) → n ≡ 0
nothing zero none_more = refl
nothing (suc n) none_more = absurd (none_more (omega arith))

pub empty_taken : (r : Option Waiting) (old new : List Waiting) (count : ℕ) → old ≡ option_to_list r ++ new → count ≡ length old → (IsSome r ↔ (0 < count))
    → IsNone r → texts old ≡ []
empty_taken None old new count is count_is some none =
    none_in old (sym count_is ∙ nothing count (λ more. absurd (true≢false (sym (some.1 more)))))
empty_taken (Some w) old new count is count_is some none = absurd (true≢false none)

pub put_behind : {A E : Type 0} (r : Result A E) (old new : List Waiting) (w : Waiting) (b : Bool) → new ≡ (if is_ok r then old ++ w ∷ [] else old) → b ≡ is_ok r
    → IsTrue b → texts new ≡ texts old ++ waited_of w ∷ []
put_behind r old new w b is b_is shown =
    let done : is_ok r ≡ true = sym b_is ∙ shown in
    let more : new ≡ old ++ w ∷ [] = is ∙ ap (λ (x : Bool). if x then old ++ w ∷ [] else old) done in
    ap texts more ∙ map-append waited_of old (w ∷ [])

-- ---- the number of waiting orders of a selection

past_by : (n count : ℕ) → (n < count → ⊥) → count ≤ n
past_by n zero past = omega arith
past_by zero (suc k) past = absurd (past (omega arith))
past_by (suc n) (suc k) past = let so : k ≤ n = past_by n k (λ (w : n < k). past (omega (arith, w))) in omega (arith, so)

past_end : (ws : List Waiting) (n : ℕ) → length ws ≤ n → slice_get ws n ≡ None
past_end [] n past = refl
past_end (w ∷ ws) zero past = absurd (omega (arith, past))
past_end (w ∷ ws) (suc n) past = past_end ws n (omega (arith, past))

place_of : (s : ℕ) (ws : List Waiting) (n : ℕ) (o : Option Waiting) → slice_get ws n ≡ o → is_at s (option_map waited_of o) ≡ is_at s (slice_get (texts ws) n)
place_of s ws n o there = ap (is_at s) (sym (slice_get-map waited_of ws n ∙ ap (option_map waited_of) there))

pub is_there : (s : ℕ) (ws : List Waiting) (n : ℕ) (w : Waiting) (count : ℕ) → count ≡ length ws → n < count → w ≡ get_or ws n w
    → is_of s (waited_of w) ≡ is_at s (slice_get (texts ws) n)
is_there s ws n w count count_is there is =
    place_of s ws n (Some w) (slice_get-get_or ws n w (omega (arith, count_is, there)) ∙ ap (λ (v : Waiting). Some v) (sym is))

pub is_nowhere : (s : ℕ) (ws : List Waiting) (n count : ℕ) → count ≡ length ws → (n < count → false ≡ true) → false ≡ is_at s (slice_get (texts ws) n)
is_nowhere s ws n count count_is none_there =
    let past : count ≤ n = past_by n count (λ (w : n < count). true≢false (sym (none_there w))) in
    place_of s ws n None (past_end ws n (omega (arith, count_is, past)))

abbrev no_one : Waited
no_one = record { mark = []; text = []; octets = []; since = 0 }

at_place : (s : ℕ) (ws : List Waited) (n : ℕ) (b : Bool) → n < length ws → b ≡ is_at s (slice_get ws n) → is_of s (get_or ws n no_one) ≡ b
at_place s ws n b within is = sym (is ∙ ap (is_at s) (slice_get-get_or ws n no_one within))

within : (ws : List Waiting) (n count : ℕ) → count ≡ length ws → n < count → n < length (texts ws)
within ws n count is small = omega (arith, is, small, length-map ws waited_of)

pub counted_more : (s : ℕ) (ws : List Waiting) (n count one len : ℕ) → len ≡ length ws → n < len → count ≡ min (2 ^ 64 - 1) (count_of s (take n (texts ws)))
    → one ≡ cond {A = ℕ} (is_at s (slice_get (texts ws) n)) 1 0 → min (2 ^ 64 - 1) (count + one) ≡ min (2 ^ 64 - 1) (count_of s (take (n + 1) (texts ws)))
counted_more s ws n count one len len_is small so one_is =
    let there : n < length (texts ws) = within ws n len len_is small in
    let more : count_of s (take (n + 1) (texts ws)) ≡ count_of s (take n (texts ws)) + one =
    sum_by_more (λ (w : Waited). cond {A = ℕ} (is_of s w) 1 0) (texts ws) n no_one there
    ∙ ap (λ (k : ℕ). count_of s (take n (texts ws)) + k)
    (ap (λ (b : Bool). cond {A = ℕ} b 1 0) (at_place s (texts ws) n (is_at s (slice_get (texts ws) n)) there refl) ∙ sym one_is) in
    omega (arith, so, more)

pub counted_all : (s : ℕ) (ws : List Waiting) (n count len : ℕ) → len ≡ length ws → len ≤ n → count ≡ min (2 ^ 64 - 1) (count_of s (take n (texts ws)))
    → count ≡ min (2 ^ 64 - 1) (count_of s (texts ws))
counted_all s ws n count len len_is all so =
    so ∙ ap (λ (l : List Waited). min (2 ^ 64 - 1) (count_of s l)) (take_all n (texts ws) (omega (arith, len_is, all, length-map ws waited_of)))

pub waiting_length : (ws : List Waiting) (count : ℕ) → count ≡ length ws → count ≡ length (texts ws)
waiting_length ws count is = is ∙ sym (length-map ws waited_of)
