-- The first octets after a flag: their bits as one number, and as a content.
use Rattle.std.proofs.Common.{◌≡◌, ℕ, ◌+◌, ◌-◌, ◌*◌, ◌/◌, ◌%◌, ◌^◌, ◌<◌, ◌≤◌, Bool, false, List, [], ◌∷◌, ◌++◌, length, reverse, take, refl, sym, ap, ◌∙◌, arith, subst, append_assoc}
use Rattle.std.specs.Prelude.{get_or}
use Rattle.std.proofs.lemmas.Bool.{le-ltb}
use Rattle.std.proofs.lemmas.List.{append-nil, reverse-reverse, length-reverse}
use Rattle.su_octets.specs.Bits.{low_bits, bits_of}
use Rattle.bit_line.specs.Parts.{Packed}
use Rattle.bit_line.specs.Stuffing.{trailing, taken_out}
use Rattle.bit_line.specs.Deframing.{Gathers, Holds, has_six}
use Rattle.bit_line.specs.declared.content.Content.{Content}
use Rattle.bit_line.specs.declared.data.Data.{Data}
use Rattle.bit_line.proofs.FewLaws.{joined, pow_small}
use Rattle.su_octets.proofs.BitLists.{length-low_bits, low_bits-split, low_bits-mod, bits_of-append, octet_bits as one_bits}

-- ---- five octets as a number
pub five_of : (os : List ℕ) → 5 ≤ length os → take 5 os ≡ get_or os 0 0 ∷ get_or os 1 0 ∷ get_or os 2 0 ∷ get_or os 3 0 ∷ get_or os 4 0 ∷ []
five_of [] long = absurd (omega (arith, long))
five_of (a ∷ []) long = absurd (omega (arith, long))
five_of (a ∷ b ∷ []) long = absurd (omega (arith, long))
five_of (a ∷ b ∷ c ∷ []) long = absurd (omega (arith, long))
five_of (a ∷ b ∷ c ∷ d ∷ []) long = absurd (omega (arith, long))
five_of (a ∷ b ∷ c ∷ d ∷ e ∷ os) long = refl

pub more_bits : (v n k : ℕ) (os : List ℕ) → v < 256 → low_bits k n ≡ bits_of os → low_bits (8 + k) (v + n * 256) ≡ bits_of (v ∷ os)
unfolding bits_of
more_bits v n k os small is = joined v 8 n k small ∙ ap (λ l. low_bits 8 v ++ l) is

pub word_bits : (a b c d e : ℕ) → a < 256 → b < 256 → c < 256 → d < 256 → low_bits 40 (a + (b + (c + (d + e * 256) * 256) * 256) * 256) ≡ bits_of (a ∷ b ∷ c ∷ d ∷ e ∷ [])
word_bits a b c d e small_a small_b small_c small_d =
    more_bits a (b + (c + (d + e * 256) * 256) * 256) 32 (b ∷ c ∷ d ∷ e ∷ []) small_a
    (more_bits b (c + (d + e * 256) * 256) 24 (c ∷ d ∷ e ∷ []) small_b
    (more_bits c (d + e * 256) 16 (d ∷ e ∷ []) small_c (more_bits d e 8 (e ∷ []) small_d (sym (one_bits e)))))

-- ---- the octets of a number as bits of a unit
pub refill_start : (os : List ℕ) (len bits : ℕ) → os ≡ [] → bits_of os ++ low_bits len bits ≡ low_bits len bits
unfolding bits_of
refill_start os len bits none = ap (λ l. bits_of l ++ low_bits len bits) none

pub refill_more : (os pushed : List ℕ) (left rest : ℕ) (all : List Bool) → 8 ≤ left → pushed ≡ os ++ rest % 256 ∷ [] → bits_of os ++ low_bits left rest ≡ all
    → bits_of pushed ++ low_bits (left - 8) (rest / 256) ≡ all
refill_more os pushed left rest all enough is before =
    let parts : low_bits left rest ≡ low_bits 8 rest ++ low_bits (left - 8) (rest / 256) =
    ap (λ n. low_bits n rest) (let e : left ≡ 8 + (left - 8) = omega (arith, enough) in e) ∙ low_bits-split 8 (left - 8) rest in
    ap (λ l. bits_of l ++ low_bits (left - 8) (rest / 256)) is ∙ ap (λ l. l ++ low_bits (left - 8) (rest / 256)) (bits_of-append os (rest % 256 ∷ []))
    ∙ append_assoc (bits_of os) (bits_of (rest % 256 ∷ [])) (low_bits (left - 8) (rest / 256))
    ∙ ap (λ l. bits_of os ++ (l ++ low_bits (left - 8) (rest / 256))) (one_bits (rest % 256) ∙ low_bits-mod 8 rest)
    ∙ ap (λ l. bits_of os ++ l) (sym parts) ∙ before

pub refilled : (d : Data) (len bits left rest : ℕ) → len ≤ 40 → d.over ≡ false → d.part.len ≡ left → d.part.bits ≡ rest % 256 → left < 8 → rest < 2 ^ left
    → bits_of d.octets.items ++ low_bits left rest ≡ low_bits len bits → Gathers (reverse (low_bits len bits)) d
unfolding Packed
refilled d len bits left rest few over is_left is_rest short fits all =
    let long : length (reverse (low_bits len bits)) ≡ len = length-reverse (low_bits len bits) ∙ length-low_bits len bits in
    let small : rest % 256 ≡ rest = omega (arith, fits, pow_small left 7 (omega (arith, short))) in
    record {
      over = over ∙ sym (le-ltb 2224 (length (reverse (low_bits len bits))) (omega (arith, long, few)));
      bits = λ not_over.
          ap (λ n. bits_of d.octets.items ++ low_bits n d.part.bits) is_left ∙ ap (λ n. bits_of d.octets.items ++ low_bits left n) (is_rest ∙ small) ∙ all
          ∙ sym (reverse-reverse (low_bits len bits));
    }

-- ---- a content of only these line bits
pub restarted : (c : Content) (len bits n y : ℕ) → c.ones ≤ 5 → c.ones ≡ trailing (reverse (low_bits len bits) ++ []) → c.six ≡ false
    → has_six (reverse (low_bits len bits) ++ []) ≡ has_six [] → taken_out (reverse (low_bits len bits) ++ []) ≡ reverse (low_bits n y) ++ taken_out []
    → Gathers (reverse (low_bits n y)) c.data_bits → Holds (reverse (low_bits len bits) ++ []) c
unfolding has_six taken_out
restarted c len bits n y few ones six same_six taken gathers =
    let P : List Bool → Type 0 = λ l. Gathers l c.data_bits in
    record {
      ones = omega (arith, few, ones);
      six = six ∙ sym same_six;
      gathers = subst P (sym (taken ∙ append-nil (reverse (low_bits n y)))) gathers;
    }
