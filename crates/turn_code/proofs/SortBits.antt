-- Sorts as bits, and the values of words.
use Rattle.std.proofs.Common.{◌≡◌, ◌≢◌, ℕ, ◌+◌, ◌-◌, ◌*◌, ◌/◌, ◌%◌, ◌<◌, ◌≤◌, ℤ, pos, true, false, eqb, if◌then◌else◌, List, [], ◌∷◌, ◌++◌, length, map, take, drop, take_all, Some, refl, sym, ap, ◌∙◌, ⊎_elim, arith}
use Rattle.std.specs.Prelude.{slice_get, slice_set, slice_index_or}
use Rattle.std.proofs.lemmas.Bool.Decides.{eqb_tells}
use Rattle.std.proofs.lemmas.List.{append_assoc, length-drop}
use Rattle.plain_laws.proofs.Places.{get_set_same, get_set_other}
use Rattle.turn_code.specs.Values.{sort_of}
use Rattle.turn_code.specs.declared.value.Sort.{Sort}
use Rattle.turn_code.specs.declared.value.Sort.TheVariants.{Integer, Boolean}
use Rattle.turn_code.specs.declared.value.Value.{Value}
use Rattle.turn_code.specs.declared.draft.DraftSignal.{DraftSignal}
use Rattle.turn_code.specs.Meant.{word_of}
use Rattle.turn_code.specs.Sorts.{is_boolean, sort_bits}

-- ---- the bits of each signal, one signal after another
pub bits_more : (ss : List DraftSignal) (bits : List ℕ) (k b : ℕ) (x : DraftSignal) → k < length bits → slice_get ss k ≡ Some x → b ≡ sort_bits x.parameters
    → ((n : ℕ) (s : DraftSignal) → n < k → slice_get ss n ≡ Some s → slice_get bits n ≡ Some (sort_bits s.parameters))
    → (n : ℕ) (s : DraftSignal) → n < k + 1 → slice_get ss n ≡ Some s → slice_get (slice_set bits k b) n ≡ Some (sort_bits s.parameters)
bits_more ss bits k b x room here is below n s less e =
    ⊎_elim
    (λ (same : (eqb n k ≡ true) × (n ≡ k)).
    let one : Some s ≡ Some x = sym e ∙ ap (λ u. slice_get ss u) same.1 ∙ here in
    let own : x ≡ s = cc in
    ap (λ u. slice_get (slice_set bits k b) u) same.1 ∙ get_set_same bits k b room ∙ ap Some (is ∙ ap (λ (u : DraftSignal). sort_bits u.parameters) own))
    (λ (other : (eqb n k ≡ false) × (n ≢ k)). get_set_other bits k n b other.1 ∙ below n s (omega (arith, less, other.1)) e)
    (eqb_tells n k)

-- ---- the values of words, one word after another
lowest : (s : Sort) (bits rest : ℕ) → bits ≡ (if is_boolean s then 1 else 0) + 2 * rest → eqb (bits % 2) 1 ≡ is_boolean s
lowest Integer bits rest e = let even : bits % 2 ≡ 0 = omega arith in rw even refl
lowest Boolean bits rest e = let odd : bits % 2 ≡ 1 = omega arith in rw odd refl

others : (s : Sort) (bits rest : ℕ) → bits ≡ (if is_boolean s then 1 else 0) + 2 * rest → bits / 2 ≡ rest
others Integer bits rest e = omega arith
others Boolean bits rest e = omega arith

pub added : (xs olds mids news : List Value) (ws : List ℤ) (bits : ℕ) (v : Value) → 1 ≤ length ws
    → ((x : Value) → word_of x ≡ slice_index_or ws 0 (pos 0) → is_boolean (sort_of x) ≡ eqb (bits % 2) 1 → v ≡ x)
    → mids ≡ olds ++ v ∷ []
    → ((ys : List Value) → take (length ws - 1) (drop 1 ws) ≡ map word_of ys → bits / 2 ≡ sort_bits (map sort_of ys) → news ≡ mids ++ ys)
    → ws ≡ map word_of xs → bits ≡ sort_bits (map sort_of xs) → news ≡ olds ++ xs
added [] olds mids news ws bits v some one more rest words are = let none : length ws ≡ 0 = ap length words in absurd (omega arith)
added (x ∷ xs) olds mids news ws bits v some one more rest words are =
    let first : slice_index_or ws 0 (pos 0) ≡ word_of x = ap (λ u. slice_index_or u 0 (pos 0)) words in
    let all : take (length ws - 1) (drop 1 ws) ≡ drop 1 ws = take_all (length ws - 1) (drop 1 ws) (omega (arith, length-drop 1 ws)) in
    let behind : take (length ws - 1) (drop 1 ws) ≡ map word_of xs = all ∙ ap (drop 1) words in
    let is : v ≡ x = one x (sym first) (sym (lowest (sort_of x) bits (sort_bits (map sort_of xs)) are)) in
    rest xs behind (others (sort_of x) bits (sort_bits (map sort_of xs)) are)
    ∙ ap (λ u. u ++ xs) (more ∙ ap (λ u. olds ++ u ∷ []) is) ∙ append_assoc olds (x ∷ []) xs
