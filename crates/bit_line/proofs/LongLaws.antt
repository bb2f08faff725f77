-- Up to forty-eight line bits after a 0: the inserted zeros among them, and the bits left without these.
use Rattle.std.proofs.Common.{◌≡◌, ℕ, ◌+◌, ◌-◌, ◌*◌, ◌/◌, ◌%◌, ◌^◌, ◌<◌, ◌≤◌, zero, suc, min, Bool, true, false, List, [], ◌∷◌, ◌++◌, reverse, refl, sym, ap, ◌∙◌, arith, subst, append_assoc, inl, inr}
use Rattle.std.specs.Prelude.{◌==◌, ◌⊎◌, bit_and}
use Rattle.std.specs.Int.{bit_at}
use Rattle.std.proofs.lemmas.Nat.{shr-shr, pow_pos, one_shl, shl_whole, mod_below}
use Rattle.std.proofs.lemmas.Nat.Bits.{bit_at_and}
use Rattle.std.proofs.lemmas.List.{append-nil}
use Rattle.su_octets.specs.Bits.{low_bits}
use Rattle.bit_line.specs.Stuffing.{trailing}
use Rattle.bit_line.proofs.StuffLaws.{trailing-none, trailing-one, trailing-zero}
use Rattle.bit_line.proofs.PlainLaws.{at_shifted, pair_at, low_none, bits_more}
use Rattle.bit_line.proofs.TakenLaws.{data_of, ones_of, six_of}
use Rattle.bit_line.proofs.FewLaws.{joined, joined_fits, pow_small}
use Rattle.su_octets.proofs.BitLists.{low_bits-split, low_bits-mod}
use Rattle.plain_laws.proofs.Numbers.{zero_or_one, div_small}

-- ---- five 1s in a row, as the code finds them
abbrev pub fives : ℕ → ℕ
fives w = bit_and (bit_and (bit_and w (w / 2)) (bit_and w (w / 2) / 4)) (w / 16)

-- five 1s begin at this place
abbrev pub FiveAt : ℕ → ℕ → Type 0
FiveAt w j = (s : ℕ) → s < 5 → bit_at w (s + j) ≡ 1

pub five_set : (w j : ℕ) → FiveAt w j → bit_at (fives w) j ≡ 1
five_set w j all =
    let pairs : ℕ = bit_and w (w / 2) in
    let pair : (s : ℕ) → s < 4 → bit_at pairs (s + j) ≡ 1 = λ s few. pair_at w (s + j) (all s (omega arith)) (ap (λ n. bit_at w n) (let e : 1 + (s + j) ≡ 1 + s + j = omega arith in e) ∙ all (1 + s) (omega arith)) in
    let first : bit_at pairs j ≡ 1 = ap (λ n. bit_at pairs n) (let e : j ≡ 0 + j = omega arith in e) ∙ pair 0 (omega arith) in
    let third : bit_at (pairs / 4) j ≡ 1 = at_shifted pairs 2 j ∙ pair 2 (omega arith) in
    let fifth : bit_at (w / 16) j ≡ 1 = at_shifted w 4 j ∙ all 4 (omega arith) in
    bit_at_and (bit_and pairs (pairs / 4)) (w / 16) j
    ∙ ap (λ n. min n (bit_at (w / 16) j)) (bit_at_and pairs (pairs / 4) j ∙ ap (λ n. min n (bit_at (pairs / 4) j)) first ∙ ap (λ n. min 1 n) third)
    ∙ ap (λ n. min 1 n) fifth

-- ---- bits without five 1s in a row, after a few 1s
pub record Walks (r : ℕ) (bs : List Bool) : Type 0 where
  pub data_bits : (cs : List Bool) → data_of r (bs ++ cs) ≡ bs ++ data_of (ones_of r bs) cs
  pub ones : (cs : List Bool) → ones_of r (bs ++ cs) ≡ ones_of (ones_of r bs) cs
  pub six : (cs : List Bool) → six_of r (bs ++ cs) ≡ six_of (ones_of r bs) cs
  pub few : ones_of r bs ≤ 4

walks_one : (r : ℕ) (bs : List Bool) → r < 4 → Walks (suc r) bs → Walks r (true ∷ bs)
walks_one zero bs few w = record { data_bits = λ cs. ap (λ l. true ∷ l) (w.data_bits cs); ones = w.ones; six = w.six; few = w.few }
walks_one (suc zero) bs few w = record { data_bits = λ cs. ap (λ l. true ∷ l) (w.data_bits cs); ones = w.ones; six = w.six; few = w.few }
walks_one (suc (suc zero)) bs few w = record { data_bits = λ cs. ap (λ l. true ∷ l) (w.data_bits cs); ones = w.ones; six = w.six; few = w.few }
walks_one (suc (suc (suc zero))) bs few w = record { data_bits = λ cs. ap (λ l. true ∷ l) (w.data_bits cs); ones = w.ones; six = w.six; few = w.few }
walks_one (suc (suc (suc (suc r)))) bs few w = absurd (omega arith)

walks_zero : (r : ℕ) (bs : List Bool) → r ≤ 4 → Walks 0 bs → Walks r (false ∷ bs)
walks_zero zero bs few w = record { data_bits = λ cs. ap (λ l. false ∷ l) (w.data_bits cs); ones = w.ones; six = w.six; few = w.few }
walks_zero (suc zero) bs few w = record { data_bits = λ cs. ap (λ l. false ∷ l) (w.data_bits cs); ones = w.ones; six = w.six; few = w.few }
walks_zero (suc (suc zero)) bs few w = record { data_bits = λ cs. ap (λ l. false ∷ l) (w.data_bits cs); ones = w.ones; six = w.six; few = w.few }
walks_zero (suc (suc (suc zero))) bs few w = record { data_bits = λ cs. ap (λ l. false ∷ l) (w.data_bits cs); ones = w.ones; six = w.six; few = w.few }
walks_zero (suc (suc (suc (suc zero)))) bs few w = record { data_bits = λ cs. ap (λ l. false ∷ l) (w.data_bits cs); ones = w.ones; six = w.six; few = w.few }
walks_zero (suc (suc (suc (suc (suc r))))) bs few w = absurd (omega arith)

-- r 1s are before place i
abbrev Before : ℕ → ℕ → ℕ → Type 0
Before w i r = (s : ℕ) → s < r → bit_at w (i - 1 - s) ≡ 1

one_before : (w i r : ℕ) → r ≤ i → bit_at w i ≡ 1 → Before w i r → Before w (i + 1) (suc r)
one_before w i r within one before zero less = ap (λ n. bit_at w n) (let e : i + 1 - 1 - 0 ≡ i = omega arith in e) ∙ one
one_before w i r within one before (suc s) less = ap (λ n. bit_at w n) (let e : i + 1 - 1 - suc s ≡ i - 1 - s = omega arith in e) ∙ before s (omega arith)

five_before : (w i : ℕ) → 4 ≤ i → bit_at w i ≡ 1 → Before w i 4 → FiveAt w (i - 4)
five_before w i within one before zero less = ap (λ n. bit_at w n) (let e : 0 + (i - 4) ≡ i - 1 - 3 = omega (arith, within) in e) ∙ before 3 (omega arith)
five_before w i within one before (suc zero) less = ap (λ n. bit_at w n) (let e : 1 + (i - 4) ≡ i - 1 - 2 = omega (arith, within) in e) ∙ before 2 (omega arith)
five_before w i within one before (suc (suc zero)) less = ap (λ n. bit_at w n) (let e : 2 + (i - 4) ≡ i - 1 - 1 = omega (arith, within) in e) ∙ before 1 (omega arith)
five_before w i within one before (suc (suc (suc zero))) less = ap (λ n. bit_at w n) (let e : 3 + (i - 4) ≡ i - 1 - 0 = omega (arith, within) in e) ∙ before 0 (omega arith)
five_before w i within one before (suc (suc (suc (suc zero)))) less = ap (λ n. bit_at w n) (let e : 4 + (i - 4) ≡ i = omega (arith, within) in e) ∙ one
five_before w i within one before (suc (suc (suc (suc (suc s))))) less = absurd (omega arith)

few_before : (w i n r : ℕ) → r ≤ 4 → r ≤ i → bit_at w i ≡ 1 → Before w i r → ((j : ℕ) → j + 5 ≤ i + suc n → FiveAt w j → ⊥) → (r ≡ 4) ⊎ (r < 4) → r < 4
few_before w i n r few within one before none (inl four) =
    absurd (none (i - 4) (omega arith) (five_before w i (omega arith) one (let P : ℕ → Type 0 = λ m. Before w i m in subst P four before)))
few_before w i n r few within one before none (inr less) = less

four_or_less : (r : ℕ) → r ≤ 4 → (r ≡ 4) ⊎ (r < 4)
four_or_less zero few = inr (omega arith)
four_or_less (suc zero) few = inr (omega arith)
four_or_less (suc (suc zero)) few = inr (omega arith)
four_or_less (suc (suc (suc zero))) few = inr (omega arith)
four_or_less (suc (suc (suc (suc zero)))) few = inl refl
four_or_less (suc (suc (suc (suc (suc r))))) few = absurd (omega arith)

next_low : (w i n : ℕ) → low_bits (suc n) (w / 2 ^ i) ≡ (bit_at w i == 1) ∷ low_bits n (w / 2 ^ (i + 1))
unfolding low_bits
next_low w i n = ap (λ x. (w / 2 ^ i % 2 == 1) ∷ low_bits n x) (shr-shr w i 1)

walk_by : (w i n r : ℕ) → r ≤ 4 → r ≤ i → Before w i r → ((j : ℕ) → j + 5 ≤ i + suc n → FiveAt w j → ⊥)
    → ((q : ℕ) → q ≤ 4 → q ≤ i + 1 → Before w (i + 1) q → Walks q (low_bits n (w / 2 ^ (i + 1)))) → (bit_at w i ≡ 0) ⊎ (bit_at w i ≡ 1)
    → Walks r (low_bits (suc n) (w / 2 ^ i))
walk_by w i n r few within before none on (inl is) =
    let P : List Bool → Type 0 = λ l. Walks r l in
    subst P (sym (next_low w i n ∙ ap (λ b. (b == 1) ∷ low_bits n (w / 2 ^ (i + 1))) is))
    (walks_zero r (low_bits n (w / 2 ^ (i + 1))) few (on 0 (omega arith) (omega arith) (λ s less. absurd (omega arith))))
walk_by w i n r few within before none on (inr is) =
    let P : List Bool → Type 0 = λ l. Walks r l in
    let less : r < 4 = few_before w i n r few within is before none (four_or_less r few) in
    subst P (sym (next_low w i n ∙ ap (λ b. (b == 1) ∷ low_bits n (w / 2 ^ (i + 1))) is))
    (walks_one r (low_bits n (w / 2 ^ (i + 1))) less (on (suc r) (omega arith) (omega arith) (one_before w i r within is before)))

walk : (w i n r : ℕ) → r ≤ 4 → r ≤ i → Before w i r → ((j : ℕ) → j + 5 ≤ i + n → FiveAt w j → ⊥) → Walks r (low_bits n (w / 2 ^ i))
unfolding low_bits
walk w i zero r few within before none = record { data_bits = λ cs. refl; ones = λ cs. refl; six = λ cs. refl; few = few }
walk w i (suc n) r few within before none =
    walk_by w i n r few within before none (λ q less more at. walk w (i + 1) n q less more at (λ j last. none j (omega arith)))
    (zero_or_one (bit_at w i) (let e : w / 2 ^ i % 2 < 2 = omega arith in e))

-- no five 1s begin among the first bits
pub walk_all : (w n : ℕ) → ((j : ℕ) → j + 5 ≤ n → FiveAt w j → ⊥) → Walks 0 (low_bits n w)
walk_all w n none =
    let P : ℕ → Type 0 = λ x. Walks 0 (low_bits n x) in
    let whole : w / 2 ^ 0 ≡ w = omega arith in
    subst P whole (walk w 0 n 0 (omega arith) (omega arith) (λ s less. absurd (omega arith)) (λ j last. none j (omega arith)))

-- ---- if there are no five 1s, all bits are left
pub none_at : (found w j : ℕ) → found ≡ 0 → (FiveAt w j → bit_at found j ≡ 1) → FiveAt w j → ⊥
none_at found w j none set five =
    let one : bit_at found j ≡ 1 = set five in
    let clear : bit_at found j ≡ 0 = ap (λ n. n / 2 ^ j % 2) none ∙ ap (λ n. n % 2) (div_small 0 j (pow_pos j)) in
    omega (arith, one, clear)

pub none_below : (found w first j : ℕ) → found % 2 ^ first ≡ 0 → j < first → (FiveAt w j → bit_at found j ≡ 1) → FiveAt w j → ⊥
none_below found w first j none less set five =
    let one : bit_at found j ≡ 1 = set five in
    let clear : bit_at found j ≡ 0 = low_none found j first less none in
    omega (arith, one, clear)

-- ---- the bits that the code has processed, and the bits still left
pub record Gone (len bits count taken left rest : ℕ) : Type 0 where
  pub data_bits : data_of 0 (low_bits len bits) ≡ low_bits count taken ++ data_of 0 (low_bits left rest)
  pub ones : ones_of 0 (low_bits len bits) ≡ ones_of 0 (low_bits left rest)
  pub six : six_of 0 (low_bits len bits) ≡ six_of 0 (low_bits left rest)

pub gone_none : (len bits : ℕ) → Gone len bits 0 0 len bits
unfolding low_bits
gone_none len bits = record { data_bits = refl; ones = refl; six = refl }

-- ---- the first five 1s
ends_zero : (r : ℕ) (bs : List Bool) → ones_of r (bs ++ false ∷ []) ≡ 0
ends_zero r [] = refl
ends_zero r (true ∷ bs) = ends_zero (suc r) bs
ends_zero r (false ∷ bs) = ends_zero 0 bs

no_ones : (first rest : ℕ) → rest * 2 / 2 ^ first % 128 ≡ 62 → ones_of 0 (low_bits first rest) ≡ 0
unfolding low_bits
no_ones zero rest is = refl
no_ones (suc f) rest is =
    let halved : rest * 2 / 2 ^ (1 + f) ≡ rest * 2 / 2 / 2 ^ f = sym (shr-shr (rest * 2) 1 f) in
    let whole : rest * 2 / 2 ≡ rest = omega arith in
    let at : rest / 2 ^ f % 128 ≡ 62 = sym (ap (λ n. n % 128) (ap (λ e. rest * 2 / 2 ^ e) (let e : suc f ≡ 1 + f = omega arith in e) ∙ halved ∙ ap (λ n. n / 2 ^ f) whole)) ∙ is in
    let even : rest / 2 ^ f % 2 ≡ 0 = omega (arith, at) in
    ap (λ n. ones_of 0 (low_bits n rest)) (let e : suc f ≡ f + 1 = omega arith in e) ∙ ap (λ l. ones_of 0 l) (low_bits-split f 1 rest)
    ∙ ap (λ b. ones_of 0 (low_bits f rest ++ (b == 1) ∷ [])) even ∙ ends_zero 0 (low_bits f rest)

abbrev ones_and_zero : List Bool
ones_and_zero = true ∷ true ∷ true ∷ true ∷ true ∷ false ∷ []

five_bits : (x : ℕ) → x % 64 ≡ 31 → low_bits 6 x ≡ ones_and_zero
unfolding low_bits
five_bits x is = sym (low_bits-mod 6 x) ∙ ap (λ n. low_bits 6 n) is

four_bits : (x : ℕ) → x % 64 ≡ 31 → low_bits 5 x ≡ true ∷ true ∷ true ∷ true ∷ true ∷ []
unfolding low_bits
four_bits x is = sym (low_bits-mod 5 x) ∙ ap (λ n. low_bits 5 n) (let e : x % 32 ≡ 31 = omega (arith, is) in e)

at_first : (first rest : ℕ) → rest * 2 / 2 ^ first % 128 ≡ 62 → rest / 2 ^ first % 64 ≡ 31
at_first first rest is =
    let double : rest * 2 / 2 ^ first ≡ rest * 2 / 2 ^ first = refl in
    let back : rest * 2 / 2 ^ first / 2 ≡ rest * 2 / 2 ^ (first + 1) = shr-shr (rest * 2) first 1 in
    let again : rest * 2 / 2 / 2 ^ first ≡ rest * 2 / 2 ^ (1 + first) = shr-shr (rest * 2) 1 first in
    let same : rest * 2 / 2 ^ (first + 1) ≡ rest * 2 / 2 ^ (1 + first) = ap (λ e. rest * 2 / 2 ^ e) (let e : first + 1 ≡ 1 + first = omega arith in e) in
    let whole : rest * 2 / 2 ≡ rest = omega arith in
    let half : rest / 2 ^ first ≡ rest * 2 / 2 ^ first / 2 = sym (ap (λ n. n / 2 ^ first) whole) ∙ again ∙ sym same ∙ sym back in
    omega (arith, half, is)

pub gone_more : (len bits count taken left rest first taken_more rest_more : ℕ) → first + 6 ≤ left → ((j : ℕ) → j < first → FiveAt rest j → ⊥)
    → rest * 2 / 2 ^ first % 128 ≡ 62 → low_bits (count + (first + 5)) taken_more ≡ low_bits count taken ++ low_bits (first + 5) rest → rest_more ≡ rest / 2 ^ (first + 6)
    → Gone len bits count taken left rest → Gone len bits (count + (first + 5)) taken_more (left - (first + 6)) rest_more
gone_more len bits count taken left rest first taken_more rest_more within none is gives next gone =
    let p : List Bool = low_bits first rest in
    let more : ℕ = left - (first + 6) in
    let q : List Bool = low_bits more rest_more in
    let x : ℕ = rest / 2 ^ first in
    let six : low_bits 6 x ≡ ones_and_zero = five_bits x (at_first first rest is) in
    let five : low_bits 5 x ≡ true ∷ true ∷ true ∷ true ∷ true ∷ [] = four_bits x (at_first first rest is) in
    let behind : x / 2 ^ 6 ≡ rest_more = shr-shr rest first 6 ∙ sym next in
    let parts : low_bits left rest ≡ p ++ (ones_and_zero ++ q) =
    ap (λ n. low_bits n rest) (let e : left ≡ first + (6 + more) = omega (arith, within) in e) ∙ low_bits-split first (6 + more) rest
    ∙ ap (λ l. p ++ l) (low_bits-split 6 more x ∙ ap (λ l. l ++ low_bits more (x / 2 ^ 6)) six ∙ ap (λ n. ones_and_zero ++ low_bits more n) behind) in
    let w : Walks 0 p = walk_all rest first (λ j last. none j (omega arith)) in
    let start : ones_of 0 p ≡ 0 = no_ones first rest is in
    let front : low_bits (first + 5) rest ≡ p ++ (true ∷ true ∷ true ∷ true ∷ true ∷ []) = low_bits-split first 5 rest ∙ ap (λ l. p ++ l) five in
    let left_over : data_of 0 (low_bits left rest) ≡ low_bits (first + 5) rest ++ data_of 0 q =
    ap (λ l. data_of 0 l) parts ∙ w.data_bits (ones_and_zero ++ q) ∙ ap (λ r. p ++ data_of r (ones_and_zero ++ q)) start
    ∙ sym (ap (λ l. l ++ data_of 0 q) front ∙ append_assoc p (true ∷ true ∷ true ∷ true ∷ true ∷ []) (data_of 0 q)) in
    record {
      data_bits =
          gone.data_bits ∙ ap (λ l. low_bits count taken ++ l) left_over ∙ sym (append_assoc (low_bits count taken) (low_bits (first + 5) rest) (data_of 0 q))
          ∙ ap (λ l. l ++ data_of 0 q) (sym gives);
      ones = gone.ones ∙ ap (λ l. ones_of 0 l) parts ∙ w.ones (ones_and_zero ++ q) ∙ ap (λ r. ones_of r (ones_and_zero ++ q)) start;
      six = gone.six ∙ ap (λ l. six_of 0 l) parts ∙ w.six (ones_and_zero ++ q) ∙ ap (λ r. six_of r (ones_and_zero ++ q)) start;
    }

-- ---- the bits left without inserted zeros
pub record All (len bits n y : ℕ) : Type 0 where
  pub data_bits : data_of 0 (low_bits len bits) ≡ low_bits n y
  pub six : six_of 0 (low_bits len bits) ≡ false
  pub few : ones_of 0 (low_bits len bits) ≤ 4
  pub ones : ℕ
  pub last : ones_of 0 (low_bits len bits) ≡ ones

pub gone_all : (len bits count taken left rest y : ℕ) → ((j : ℕ) → FiveAt rest j → ⊥) → low_bits (count + left) y ≡ low_bits count taken ++ low_bits left rest
    → Gone len bits count taken left rest → All len bits (count + left) y
gone_all len bits count taken left rest y none gives gone =
    let b : List Bool = low_bits left rest in
    let w : Walks 0 b = walk_all rest left (λ j last. none j) in
    let alone : b ++ [] ≡ b = append-nil b in
    record {
      data_bits = gone.data_bits ∙ ap (λ l. low_bits count taken ++ l) (ap (λ l. data_of 0 l) (sym alone) ∙ w.data_bits [] ∙ alone) ∙ sym gives;
      six = gone.six ∙ ap (λ l. six_of 0 l) (sym alone) ∙ w.six [];
      few = (let P : ℕ → Type 0 = λ n. n ≤ 4 in subst P (sym gone.ones) w.few);
      ones = ones_of 0 b;
      last = gone.ones;
    }

-- ---- the 1s at the end
pub last_start : (len bits : ℕ) → trailing (reverse (low_bits len bits)) ≡ 0 + trailing (reverse (low_bits (len - 0) bits))
last_start len bits =
    let same : trailing (reverse (low_bits len bits)) ≡ trailing (reverse (low_bits (len - 0) bits)) = ap (λ n. trailing (reverse (low_bits n bits))) (let e : len ≡ len - 0 = omega arith in e) in
    omega (arith, same)

last_bit : (len bits i b : ℕ) → i < len → bits / 2 ^ (len - 1 - i) % 2 ≡ b → reverse (low_bits (len - i) bits) ≡ (b == 1) ∷ reverse (low_bits (len - (i + 1)) bits)
last_bit len bits i b less is =
    let before : ℕ = len - (i + 1) in
    ap (λ n. reverse (low_bits n bits)) (let e : len - i ≡ before + 1 = omega (arith, less) in e) ∙ bits_more before bits
    ∙ ap (λ n. (n == 1) ∷ reverse (low_bits before bits)) (ap (λ e. bits / 2 ^ e % 2) (let e : before ≡ len - 1 - i = omega (arith, less) in e) ∙ is)

pub last_one : (len bits i : ℕ) → i < len → bits / 2 ^ (len - 1 - i) % 2 ≡ 1 → trailing (reverse (low_bits len bits)) ≡ i + trailing (reverse (low_bits (len - i) bits))
    → trailing (reverse (low_bits len bits)) ≡ i + 1 + trailing (reverse (low_bits (len - (i + 1)) bits))
last_one len bits i less is all =
    let h : List Bool = reverse (low_bits (len - (i + 1)) bits) in
    let here : trailing (reverse (low_bits (len - i) bits)) ≡ suc (trailing h) = ap trailing (last_bit len bits i 1 less is) ∙ trailing-one h in
    omega (arith, all, here)

pub last_zero : (len bits i : ℕ) → i < len → bits / 2 ^ (len - 1 - i) % 2 ≡ 0 → trailing (reverse (low_bits len bits)) ≡ i + trailing (reverse (low_bits (len - i) bits))
    → i ≡ trailing (reverse (low_bits len bits))
last_zero len bits i less is all =
    let h : List Bool = reverse (low_bits (len - (i + 1)) bits) in
    let here : trailing (reverse (low_bits (len - i) bits)) ≡ 0 = ap trailing (last_bit len bits i 0 less is) ∙ trailing-zero h in
    omega (arith, all, here)

no_bits : (n bits : ℕ) → n ≡ 0 → trailing (reverse (low_bits n bits)) ≡ 0
unfolding low_bits
no_bits n bits none = ap (λ k. trailing (reverse (low_bits k bits))) none ∙ trailing-none

pub last_all : (len bits i : ℕ) → i ≡ len → trailing (reverse (low_bits len bits)) ≡ i + trailing (reverse (low_bits (len - i) bits)) → len ≡ trailing (reverse (low_bits len bits))
last_all len bits i whole all = let none : trailing (reverse (low_bits (len - i) bits)) ≡ 0 = no_bits (len - i) bits (omega (arith, whole)) in omega (arith, all, none, whole)

-- ---- the bits left, as the code computes them in 64 bits
pub record Joins (count taken len x all : ℕ) : Type 0 where
  pub bits : low_bits (count + len) all ≡ low_bits count taken ++ low_bits len x
  pub fits : all < 2 ^ (count + len)
  pub small : all < 18446744073709551616

joins : (count taken len y x all : ℕ) → taken < 2 ^ count → y < 2 ^ len → count + len ≤ 48 → low_bits len y ≡ low_bits len x → all ≡ taken + y * 2 ^ count % 18446744073709551616
    → Joins count taken len x all
joins count taken len y x all fits small few same is =
    let whole : all ≡ taken + y * 2 ^ count = is ∙ ap (λ n. taken + n) (shl_whole y len count 64 small (omega (arith, few))) in
    let Within : ℕ → Type 0 = λ n. n < 2 ^ (count + len) in
    let within : all < 2 ^ (count + len) = subst Within (sym whole) (joined_fits taken count y len fits small) in
    record {
      bits = ap (λ n. low_bits (count + len) n) whole ∙ joined taken count y len fits ∙ ap (λ l. low_bits count taken ++ l) same;
      fits = within;
      small = omega (arith, within, pow_small (count + len) 48 few);
    }

pub joins_front : (count taken first left rest : ℕ) → taken < 2 ^ count → count + left ≤ 48 → first + 6 ≤ left
    → Joins count taken (first + 5) rest (taken + rest % (1 * 2 ^ (first + 5) % 18446744073709551616) * 2 ^ count % 18446744073709551616)
joins_front count taken first left rest fits few within =
    let power : 1 * 2 ^ (first + 5) % 18446744073709551616 ≡ 2 ^ (first + 5) = one_shl (first + 5) 64 (omega (arith, few, within)) in
    joins count taken (first + 5) (rest % 2 ^ (first + 5)) rest (taken + rest % (1 * 2 ^ (first + 5) % 18446744073709551616) * 2 ^ count % 18446744073709551616) fits
    (mod_below rest (2 ^ (first + 5)) (pow_pos (first + 5))) (omega (arith, few, within)) (low_bits-mod (first + 5) rest)
    (ap (λ p. taken + rest % p * 2 ^ count % 18446744073709551616) power)

pub joins_rest : (count taken left rest : ℕ) → taken < 2 ^ count → rest < 2 ^ left → count + left ≤ 48 → Joins count taken left rest (taken + rest * 2 ^ count % 18446744073709551616)
joins_rest count taken left rest fits small few =
    joins count taken left rest rest (taken + rest * 2 ^ count % 18446744073709551616) fits small few refl refl
