-- A few bits at once: after the bits of a part, and among the bits of a unit.
use Rattle.std.proofs.Common.{◌≡◌, ℕ, ◌+◌, ◌-◌, ◌*◌, ◌/◌, ◌%◌, ◌^◌, ◌<◌, ◌≤◌, Bool, true, false, List, [], ◌∷◌, ◌++◌, length, reverse, refl, sym, ap, ◌∙◌, arith, subst, append_assoc}
use Rattle.std.proofs.Math.Nat.{mul-le-mul_left, mul_comm}
use Rattle.std.proofs.lemmas.Nat.{shr_high, mod_low, shl_whole, pow-add, pow_pos}
use Rattle.std.proofs.lemmas.List.{append-nil, reverse-append, reverse-reverse, length-append, length-reverse}
use Rattle.std.specs.Prelude.{nat_lt}
use Rattle.std.proofs.lemmas.Bool.{lt-ltb, ltb-true, le-ltb}
use Rattle.bit_line.specs.Deframing.{Gathers, Holds, has_six}
use Rattle.bit_line.specs.Stuffing.{trailing, taken_out}
use Rattle.bit_line.specs.declared.content.Content.{Content}
use Rattle.bit_line.specs.declared.data.Data.{Data}
use Rattle.bit_line.proofs.ContentLaws.{packed-length}
use Rattle.su_octets.specs.Bits.{low_bits, bits_of}
use Rattle.bit_line.specs.Parts.{Packed}
use Rattle.su_octets.proofs.BitLists.{length-low_bits, low_bits-split, low_bits-mod, bits_of-append, octet_bits}

-- ---- after the bits of a part
pub joined : (bits len x k : ℕ) → bits < 2 ^ len → low_bits (len + k) (bits + x * 2 ^ len) ≡ low_bits len bits ++ low_bits k x
joined bits len x k fits =
    let n : ℕ = bits + x * 2 ^ len in
    let swap : n ≡ x * 2 ^ len + bits = omega arith in
    let high : n / 2 ^ len ≡ x = ap (λ m. m / 2 ^ len) swap ∙ shr_high x len bits fits in
    let low : n % 2 ^ len ≡ bits = ap (λ m. m % 2 ^ len) swap ∙ mod_low x len bits fits in
    low_bits-split len k n ∙ ap (λ l. l ++ low_bits k (n / 2 ^ len)) (sym (low_bits-mod len n) ∙ ap (λ m. low_bits len m) low)
    ∙ ap (λ m. low_bits len bits ++ low_bits k m) high

pub joined_fits : (bits len x k : ℕ) → bits < 2 ^ len → x < 2 ^ k → bits + x * 2 ^ len < 2 ^ (len + k)
joined_fits bits len x k fits small =
    let most : 2 ^ len * (x + 1) ≤ 2 ^ len * 2 ^ k = mul-le-mul_left (2 ^ len) (omega arith) in
    let turned : x * 2 ^ len ≡ 2 ^ len * x = mul_comm x (2 ^ len) in
    let sum : 2 ^ (len + k) ≡ 2 ^ len * 2 ^ k = pow-add 2 len k in
    omega (arith, most, turned, sum, fits)

packed_joined : (octets : List ℕ) (bits len x k : ℕ) (h : List Bool) → bits < 2 ^ len → Packed octets bits len h
    → bits_of octets ++ low_bits (len + k) (bits + x * 2 ^ len) ≡ reverse (reverse (low_bits k x) ++ h)
unfolding Packed
packed_joined octets bits len x k h fits packed =
    ap (λ l. bits_of octets ++ l) (joined bits len x k fits) ∙ sym (append_assoc (bits_of octets) (low_bits len bits) (low_bits k x))
    ∙ ap (λ l. l ++ low_bits k x) packed
    ∙ sym (reverse-append (reverse (low_bits k x)) h ∙ ap (λ l. reverse h ++ l) (reverse-reverse (low_bits k x)))

pub pow_small : (m n : ℕ) → m ≤ n → 2 ^ m ≤ 2 ^ n
pow_small m n le =
    let sum : 2 ^ n ≡ 2 ^ m * 2 ^ (n - m) = ap (λ i. 2 ^ i) (let e : n ≡ m + (n - m) = omega arith in e) ∙ pow-add 2 m (n - m) in
    let most : 2 ^ m * 1 ≤ 2 ^ m * 2 ^ (n - m) = mul-le-mul_left (2 ^ m) (let e : 0 < 2 ^ (n - m) = pow_pos (n - m) in omega (arith, e)) in
    omega (arith, sum, most)

-- as the code computes it, in sixteen bits
whole : (x len k : ℕ) → len < 8 → k ≤ 8 → x < 2 ^ k → x * 2 ^ len % 65536 ≡ x * 2 ^ len
whole x len k short few small = shl_whole x k len 16 small (omega arith)

low_whole : (n m : ℕ) → m < 8 → n < 2 ^ m → n % 256 ≡ n
low_whole n m short small = omega (arith, small, pow_small m 8 (omega arith))

pub part_fits : (bits len x k : ℕ) → len < 8 → k ≤ 8 → bits < 2 ^ len → x < 2 ^ k → len + k < 8 → (bits + x * 2 ^ len % 65536) % 256 < 2 ^ (len + k)
part_fits bits len x k short few fits small less =
    let all : bits + x * 2 ^ len < 2 ^ (len + k) = joined_fits bits len x k fits small in
    let same : bits + x * 2 ^ len % 65536 ≡ bits + x * 2 ^ len = ap (λ n. bits + n) (whole x len k short few small) in
    let P : ℕ → Type 0 = λ n. n < 2 ^ (len + k) in
    subst P (sym (ap (λ n. n % 256) same ∙ low_whole (bits + x * 2 ^ len) (len + k) less all)) all

pub rest_fits : (bits len x k : ℕ) → len < 8 → k ≤ 8 → bits < 2 ^ len → x < 2 ^ k → 8 ≤ len + k → (bits + x * 2 ^ len % 65536) / 256 < 2 ^ (len + k - 8)
rest_fits bits len x k short few fits small more =
    let all : bits + x * 2 ^ len < 2 ^ (len + k) = joined_fits bits len x k fits small in
    let same : bits + x * 2 ^ len % 65536 ≡ bits + x * 2 ^ len = ap (λ n. bits + n) (whole x len k short few small) in
    let sum : 2 ^ (len + k) ≡ 2 ^ (len + k - 8) * 256 = ap (λ i. 2 ^ i) (let e : len + k ≡ len + k - 8 + 8 = omega (arith, more) in e) ∙ pow-add 2 (len + k - 8) 8 in
    omega (arith, all, same, sum)

pub packed_part : (octets : List ℕ) (bits len x k : ℕ) (h : List Bool) → len < 8 → k ≤ 8 → bits < 2 ^ len → x < 2 ^ k → len + k < 8 → Packed octets bits len h
    → Packed (octets ++ []) ((bits + x * 2 ^ len % 65536) % 256) (len + k) (reverse (low_bits k x) ++ h)
unfolding Packed
packed_part octets bits len x k h short few fits small less packed =
    let all : bits + x * 2 ^ len < 2 ^ (len + k) = joined_fits bits len x k fits small in
    ap (λ os. bits_of os ++ low_bits (len + k) ((bits + x * 2 ^ len % 65536) % 256)) (append-nil octets)
    ∙ ap (λ n. bits_of octets ++ low_bits (len + k) n) (ap (λ n. (bits + n) % 256) (whole x len k short few small) ∙ low_whole (bits + x * 2 ^ len) (len + k) less all)
    ∙ packed_joined octets bits len x k h fits packed

pub packed_rest : (octets : List ℕ) (bits len x k : ℕ) (h : List Bool) → len < 8 → k ≤ 8 → bits < 2 ^ len → x < 2 ^ k → 8 ≤ len + k → Packed octets bits len h
    → Packed (octets ++ (bits + x * 2 ^ len % 65536) % 256 ∷ []) ((bits + x * 2 ^ len % 65536) / 256) (len + k - 8) (reverse (low_bits k x) ++ h)
unfolding Packed
packed_rest octets bits len x k h short few fits small more packed =
    let n : ℕ = bits + x * 2 ^ len in
    let P : ℕ → Type 0 = λ m. bits_of (octets ++ (bits + m) % 256 ∷ []) ++ low_bits (len + k - 8) ((bits + m) / 256) ≡ reverse (reverse (low_bits k x) ++ h) in
    subst P (sym (whole x len k short few small))
    (ap (λ l. l ++ low_bits (len + k - 8) (n / 256)) (bits_of-append octets (n % 256 ∷ []) ∙ ap (λ l. bits_of octets ++ l) (octet_bits (n % 256)))
    ∙ append_assoc (bits_of octets) (low_bits 8 (n % 256)) (low_bits (len + k - 8) (n / 256))
    ∙ ap (λ l. bits_of octets ++ l)
    (ap (λ l. l ++ low_bits (len + k - 8) (n / 256)) (low_bits-mod 8 n) ∙ sym (low_bits-split 8 (len + k - 8) n)
    ∙ ap (λ i. low_bits i n) (let e : 8 + (len + k - 8) ≡ len + k = omega (arith, more) in e))
    ∙ packed_joined octets bits len x k h fits packed)

-- ---- among the bits of a unit
over_few : (o : Bool) (n k : ℕ) → k ≤ 8 → o ≡ nat_lt 2224 n → (o ≡ false → n ≤ 2215) → o ≡ nat_lt 2224 (k + n)
over_few true n k few is short = let above : 2224 < n = ltb-true 2224 n (sym is) in sym (lt-ltb 2224 (k + n) (omega arith))
over_few false n k few is short = let below : n ≤ 2215 = short refl in sym (le-ltb 2224 (k + n) (omega arith))

pub gathers-few : (k h : List Bool) (old new : Data) → length k ≤ 8 → length old.octets.items < 277 → old.part.len < 8 → new.over ≡ old.over
    → (Packed old.octets.items old.part.bits old.part.len h → Packed new.octets.items new.part.bits new.part.len (k ++ h)) → Gathers h old → Gathers (k ++ h) new
gathers-few k h old new few room len over packed gathers = record {
  over = over ∙ over_few old.over (length h) (length k) few gathers.over
      (λ not_over. let all : 8 * length old.octets.items + old.part.len ≡ length h = packed-length old.octets.items old.part.bits old.part.len h (gathers.bits not_over) in omega arith)
      ∙ ap (λ n. nat_lt 2224 n) (sym (length-append k h));
  bits = λ not_over. packed (gathers.bits (sym over ∙ not_over));
}

pub gathers-room : (h : List Bool) (d : Data) → d.over ≡ false → length d.octets.items < 277 → d.part.len < 8 → Gathers h d → length h + 8 ≤ 2224
gathers-room h d over room len gathers =
    let all : 8 * length d.octets.items + d.part.len ≡ length h = packed-length d.octets.items d.part.bits d.part.len h (gathers.bits over) in omega arith

pub length-few : (k x : ℕ) → k ≤ 8 → length (reverse (low_bits k x)) ≤ 8
length-few k x few = omega (arith, length-reverse (low_bits k x), length-low_bits k x, few)

-- ---- bits one by one
pub each_none : (x : ℕ) (h : List Bool) → reverse (low_bits 0 x) ++ h ≡ h
unfolding low_bits
each_none x h = refl

-- ---- in a content
pub holds-few : (k d h : List Bool) (old new : Content) → new.ones ≤ 5 → new.ones ≡ trailing (k ++ h) → new.six ≡ old.six → has_six (k ++ h) ≡ has_six h
    → taken_out (k ++ h) ≡ d ++ taken_out h → Gathers (d ++ taken_out h) new.data_bits → Holds h old → Holds (k ++ h) new
holds-few k d h old new few ones six same_six taken gathers holds =
    let P : List Bool → Type 0 = λ l. Gathers l new.data_bits in
    record { ones = omega (arith, few, ones); six = six ∙ holds.six ∙ sym same_six; gathers = subst P (sym taken) gathers }
