-- Flags by the newest seven bits, and the content between them.
use Rattle.std.proofs.Common.{◌≡◌, ◌≤◌, Bool, true, false, cond, not, ◌&&◌, ◌||◌, Option, Some, None, List, [], ◌∷◌, ◌++◌, length, drop, refl, sym, ap, ◌∙◌, arith}
use Rattle.std.specs.Prelude.{nat_lt}
use Rattle.std.specs.Option.{option_map}
use Rattle.bit_line.specs.Stuffing.{taken_out}
use Rattle.bit_line.specs.Flags.{six_ones, ends_flag, since_flag, inside, begins, MOST_BITS}
use Rattle.bit_line.specs.Deframing.{seventh}

-- ---- flags
pub ends_flag-zero : (h : List Bool) → ends_flag (false ∷ h) ≡ six_ones h
unfolding ends_flag
ends_flag-zero h = refl

pub ends_flag-one : (h : List Bool) → ends_flag (true ∷ h) ≡ false
unfolding ends_flag
ends_flag-one h = refl

pub ends_flag-plain : (b : Bool) (h : List Bool) → six_ones h ≡ false → ends_flag (b ∷ h) ≡ false
ends_flag-plain true h none = ends_flag-one h
ends_flag-plain false h none = ends_flag-zero h ∙ none

pub begins-seventh : (h : List Bool) → six_ones h ≡ true → begins (true ∷ h) ≡ true
unfolding begins
begins-seventh h six = ap (λ s. (true && s) || (not (ends_flag (true ∷ h)) && nat_lt MOST_BITS (length (taken_out (inside (true ∷ h)))))) six

pub begins-flag : (h : List Bool) → six_ones h ≡ true → begins (false ∷ h) ≡ false
unfolding begins
begins-flag h six = ap (λ s. not s && nat_lt MOST_BITS (length (taken_out (inside (false ∷ h))))) (ends_flag-zero h ∙ six)

pub begins-plain : (b : Bool) (h : List Bool) → six_ones h ≡ false → begins (b ∷ h) ≡ nat_lt MOST_BITS (length (taken_out (inside (b ∷ h))))
unfolding begins
begins-plain true h none =
    ap (λ s. (true && s) || (not (ends_flag (true ∷ h)) && nat_lt MOST_BITS (length (taken_out (inside (true ∷ h)))))) none
    ∙ ap (λ e. not e && nat_lt MOST_BITS (length (taken_out (inside (true ∷ h))))) (ends_flag-one h)
begins-plain false h none = ap (λ e. not e && nat_lt MOST_BITS (length (taken_out (inside (false ∷ h))))) (ends_flag-zero h ∙ none)

pub since_flag-flag : (b : Bool) (h : List Bool) → ends_flag (b ∷ h) ≡ true → since_flag (b ∷ h) ≡ Some []
unfolding since_flag
since_flag-flag b h ends = ap (λ e. cond e (Some []) (option_map (λ c. b ∷ c) (since_flag h))) ends

pub since_flag-other : (b : Bool) (h : List Bool) → ends_flag (b ∷ h) ≡ false → since_flag (b ∷ h) ≡ option_map (λ c. b ∷ c) (since_flag h)
unfolding since_flag
since_flag-other b h none = ap (λ e. cond e (Some []) (option_map (λ c. b ∷ c) (since_flag h))) none

-- the bits since the last flag are a part of the history
grows : (b : Bool) (h c : List Bool) (s : Option (List Bool)) → ((d : List Bool) → s ≡ Some d → (rest : List Bool) × (h ≡ d ++ rest))
    → option_map (λ d. b ∷ d) s ≡ Some c → (rest : List Bool) × (b ∷ h ≡ c ++ rest)
grows b h c None parts is = absurd (let e : None ≡ Some c = is in cc)
grows b h c (Some d) parts is =
    let part : (rest : List Bool) × (h ≡ d ++ rest) = parts d refl in
    let same : b ∷ d ≡ c = cc in
    (part.0, ap (λ l. b ∷ l) part.1 ∙ ap (λ l. l ++ part.0) same)

part_by : (b : Bool) (h c : List Bool) (e : Bool) → ends_flag (b ∷ h) ≡ e → ((d : List Bool) → since_flag h ≡ Some d → (rest : List Bool) × (h ≡ d ++ rest))
    → since_flag (b ∷ h) ≡ Some c → (rest : List Bool) × (b ∷ h ≡ c ++ rest)
part_by b h c true ends parts is =
    let none : [] ≡ c = (let e : Some [] ≡ Some c = sym (since_flag-flag b h ends) ∙ is in cc) in
    (b ∷ h, ap (λ l. l ++ (b ∷ h)) none)
part_by b h c false ends parts is = grows b h c (since_flag h) parts (sym (since_flag-other b h ends) ∙ is)

pub part_of : (h c : List Bool) → since_flag h ≡ Some c → (rest : List Bool) × (h ≡ c ++ rest)
unfolding since_flag
part_of [] c is = absurd (let e : None ≡ Some c = is in cc)
part_of (b ∷ h) c is = part_by b h c (ends_flag (b ∷ h)) refl (λ d e. part_of h d e) is

-- if seven bits follow the last flag, the seventh is the next bit of the content
pub seventh-is : (c rest : List Bool) → 7 ≤ length c → drop 6 c ≡ seventh (c ++ rest) ∷ drop 7 c
unfolding seventh
seventh-is (c0 ∷ c1 ∷ c2 ∷ c3 ∷ c4 ∷ c5 ∷ c6 ∷ c) rest long = refl
seventh-is ([]) rest long = absurd (let e : 7 ≤ 0 = long in omega arith)
seventh-is (c0 ∷ []) rest long = absurd (let e : 7 ≤ 1 = long in omega arith)
seventh-is (c0 ∷ c1 ∷ []) rest long = absurd (let e : 7 ≤ 2 = long in omega arith)
seventh-is (c0 ∷ c1 ∷ c2 ∷ []) rest long = absurd (let e : 7 ≤ 3 = long in omega arith)
seventh-is (c0 ∷ c1 ∷ c2 ∷ c3 ∷ []) rest long = absurd (let e : 7 ≤ 4 = long in omega arith)
seventh-is (c0 ∷ c1 ∷ c2 ∷ c3 ∷ c4 ∷ []) rest long = absurd (let e : 7 ≤ 5 = long in omega arith)
seventh-is (c0 ∷ c1 ∷ c2 ∷ c3 ∷ c4 ∷ c5 ∷ []) rest long = absurd (let e : 7 ≤ 6 = long in omega arith)
