-- One step by an octet changes the register as eight steps by its bits do.
use Rattle.std.proofs.Common.{◌≡◌, ℕ, ◌+◌, ◌*◌, ◌/◌, ◌%◌, ◌^◌, ◌<◌, zero, suc, Bool, false, List, [], ◌∷◌, ◌++◌, length, reverse, replicate, refl, sym, ap, ◌∙◌, arith}
use Rattle.std.specs.Prelude.{bit_xor, ◌==◌}
use Rattle.std.proofs.lemmas.Nat.{xor_lt}
use Rattle.std.proofs.Math.Nat.{mul_assoc}
use Rattle.su_octets.specs.Polynomial.{odd_sum, plus}
use Rattle.su_octets.specs.Bits.{low_bits}
use Rattle.su_octets.specs.Register.{Register}
use Rattle.su_octets.proofs.Remainders.{Word, bits, remainder, xor_none, xor_assoc}
use Rattle.su_octets.proofs.Registers.{dividend, step, remainder-step, register_bits, register_of_bits}
use Rattle.su_octets.proofs.BitLists.{length-low_bits, low_bits-xor, low_bits-split, low_bits-mod}
use Rattle.plain_laws.proofs.Numbers.{div_small}
use Rattle.plain_laws.proofs.Lists.{front_same}

-- ---- the bits of shifted numbers
low_bits-none : (k : ℕ) → low_bits k 0 ≡ replicate k false
unfolding low_bits
low_bits-none zero = refl
low_bits-none (suc k) = ap (λ bs. false ∷ bs) (low_bits-none k)

low_bits-up : (j k n : ℕ) → low_bits (j + k) (n * 2 ^ j) ≡ replicate j false ++ low_bits k n
unfolding low_bits
low_bits-up zero k n = ap (λ i. low_bits i (n * 2 ^ 0)) (let e : zero + k ≡ k = omega arith in e) ∙ ap (λ m. low_bits k m) (let e : n * 2 ^ 0 ≡ n = omega arith in e)
low_bits-up (suc j) k n =
    let twice : n * 2 ^ suc j ≡ n * 2 ^ j * 2 = ap (λ p. n * p) (let e : 2 ^ suc j ≡ 2 ^ j * 2 = omega arith in e) ∙ sym (mul_assoc n (2 ^ j) 2) in
    let even : n * 2 ^ suc j % 2 ≡ 0 = omega (arith, twice) in
    let half : n * 2 ^ suc j / 2 ≡ n * 2 ^ j = omega (arith, twice) in
    ap (λ i. low_bits i (n * 2 ^ suc j)) (let e : suc j + k ≡ suc (j + k) = omega arith in e)
    ∙ ap (λ m. (m == 1) ∷ low_bits (j + k) (n * 2 ^ suc j / 2)) even
    ∙ ap (λ m. false ∷ low_bits (j + k) m) half
    ∙ ap (λ bs. false ∷ bs) (low_bits-up j k n)

-- the bits of a number below 2^j are followed by zeros
low_bits-small : (j k n : ℕ) → n < 2 ^ j → low_bits (j + k) n ≡ low_bits j n ++ replicate k false
low_bits-small j k n small =
    low_bits-split j k n ∙ ap (λ m. low_bits j n ++ low_bits k m) (div_small n j small) ∙ ap (λ bs. low_bits j n ++ bs) (low_bits-none k)

-- ---- eight bits, and the halves of numbers
abbrev eight : Bool → Bool → Bool → Bool → Bool → Bool → Bool → Bool → List Bool
eight b0 b1 b2 b3 b4 b5 b6 b7 = b0 ∷ b1 ∷ b2 ∷ b3 ∷ b4 ∷ b5 ∷ b6 ∷ b7 ∷ []

halves : (n : ℕ) (us vs : List Bool) → length us ≡ 8 → low_bits 16 n ≡ us ++ vs → (low_bits 8 n ≡ us) × (low_bits 8 (n / 256) ≡ vs)
halves n us vs long same = front_same (low_bits 8 n) us (low_bits 8 (n / 256)) vs (length-low_bits 8 n ∙ sym long) (sym (low_bits-split 8 8 n) ∙ same)

quarters : (n : ℕ) (us vs : List Bool) → length us ≡ 4 → low_bits 8 n ≡ us ++ vs → (low_bits 4 n ≡ us) × (low_bits 4 (n / 16) ≡ vs)
quarters n us vs long same = front_same (low_bits 4 n) us (low_bits 4 (n / 16)) vs (length-low_bits 4 n ∙ sym long) (sym (low_bits-split 4 4 n) ∙ same)

-- ---- the bits that are fed back
abbrev pub mixed_of : ℕ → ℕ → ℕ
mixed_of register octet = bit_xor (register % 256) octet

abbrev pub fed_of : ℕ → ℕ
fed_of mixed = bit_xor (mixed * 16 % 256) mixed

-- computed from the low bits of the register and the bits of the octet
abbrev early : Bool → Bool → Bool
early r o = odd_sum r o

abbrev late : Bool → Bool → Bool → Bool → Bool
late r o r4 o4 = odd_sum (odd_sum (odd_sum r o) r4) o4

fed_sum : (r0 r1 r2 r3 r4 r5 r6 r7 o0 o1 o2 o3 o4 o5 o6 o7 : Bool)
    → plus (false ∷ false ∷ false ∷ false ∷ odd_sum r0 o0 ∷ odd_sum r1 o1 ∷ odd_sum r2 o2 ∷ odd_sum r3 o3 ∷ [])
    (plus (eight r0 r1 r2 r3 r4 r5 r6 r7) (eight o0 o1 o2 o3 o4 o5 o6 o7))
    ≡ eight (early r0 o0) (early r1 o1) (early r2 o2) (early r3 o3) (late r0 o0 r4 o4) (late r1 o1 r5 o5) (late r2 o2 r6 o6) (late r3 o3 r7 o7)
unfolding plus
fed_sum r0 r1 r2 r3 r4 r5 r6 r7 o0 o1 o2 o3 o4 o5 o6 o7 =
    rw (xor_assoc (odd_sum r0 o0) r4 o4, xor_assoc (odd_sum r1 o1) r5 o5, xor_assoc (odd_sum r2 o2) r6 o6, xor_assoc (odd_sum r3 o3) r7 o7) refl

mixed_sum : (r0 r1 r2 r3 r4 r5 r6 r7 o0 o1 o2 o3 o4 o5 o6 o7 : Bool)
    → plus (eight r0 r1 r2 r3 r4 r5 r6 r7) (eight o0 o1 o2 o3 o4 o5 o6 o7)
    ≡ (odd_sum r0 o0 ∷ odd_sum r1 o1 ∷ odd_sum r2 o2 ∷ odd_sum r3 o3 ∷ []) ++ (odd_sum r4 o4 ∷ odd_sum r5 o5 ∷ odd_sum r6 o6 ∷ odd_sum r7 o7 ∷ [])
unfolding plus
mixed_sum r0 r1 r2 r3 r4 r5 r6 r7 o0 o1 o2 o3 o4 o5 o6 o7 = refl

fed_bits : (register octet : ℕ) (r0 r1 r2 r3 r4 r5 r6 r7 o0 o1 o2 o3 o4 o5 o6 o7 : Bool)
    → low_bits 8 register ≡ eight r0 r1 r2 r3 r4 r5 r6 r7 → low_bits 8 octet ≡ eight o0 o1 o2 o3 o4 o5 o6 o7
    → low_bits 8 (fed_of (mixed_of register octet))
    ≡ eight (early r0 o0) (early r1 o1) (early r2 o2) (early r3 o3) (late r0 o0 r4 o4) (late r1 o1 r5 o5) (late r2 o2 r6 o6) (late r3 o3 r7 o7)
fed_bits register octet r0 r1 r2 r3 r4 r5 r6 r7 o0 o1 o2 o3 o4 o5 o6 o7 of_register of_octet =
    let m : ℕ = mixed_of register octet in
    let mixed : low_bits 8 m ≡ plus (eight r0 r1 r2 r3 r4 r5 r6 r7) (eight o0 o1 o2 o3 o4 o5 o6 o7) =
    low_bits-xor 8 (register % 256) octet ∙ ap (λ bs. plus bs (low_bits 8 octet)) (low_bits-mod 8 register ∙ of_register) ∙ ap (λ bs. plus (eight r0 r1 r2 r3 r4 r5 r6 r7) bs) of_octet in
    let low : low_bits 4 m ≡ odd_sum r0 o0 ∷ odd_sum r1 o1 ∷ odd_sum r2 o2 ∷ odd_sum r3 o3 ∷ [] =
    (quarters m (odd_sum r0 o0 ∷ odd_sum r1 o1 ∷ odd_sum r2 o2 ∷ odd_sum r3 o3 ∷ []) (odd_sum r4 o4 ∷ odd_sum r5 o5 ∷ odd_sum r6 o6 ∷ odd_sum r7 o7 ∷ []) refl
    (mixed ∙ mixed_sum r0 r1 r2 r3 r4 r5 r6 r7 o0 o1 o2 o3 o4 o5 o6 o7)).0 in
    let high : low_bits 8 (m * 16 % 256) ≡ replicate 4 false ++ low_bits 4 m = low_bits-mod 8 (m * 16) ∙ low_bits-up 4 4 m in
    low_bits-xor 8 (m * 16 % 256) m ∙ ap (λ bs. plus bs (low_bits 8 m)) (high ∙ ap (λ bs. replicate 4 false ++ bs) low)
    ∙ ap (λ bs. plus (false ∷ false ∷ false ∷ false ∷ odd_sum r0 o0 ∷ odd_sum r1 o1 ∷ odd_sum r2 o2 ∷ odd_sum r3 o3 ∷ []) bs) mixed
    ∙ fed_sum r0 r1 r2 r3 r4 r5 r6 r7 o0 o1 o2 o3 o4 o5 o6 o7

-- ---- the next register
abbrev pub next_of : ℕ → ℕ → ℕ
next_of fed register = bit_xor (bit_xor (bit_xor (fed / 16) (fed * 8 % 65536)) (fed * 256 % 65536)) (register / 256)

-- computed from the bits that are fed back and the high bits of the register
abbrev after : Bool → Bool → Bool → Bool → Bool → Bool → Bool → Bool → Bool → Bool → Bool → Bool → Bool → Bool → Bool → Bool → List Bool
after f0 f1 f2 f3 f4 f5 f6 f7 s0 s1 s2 s3 s4 s5 s6 s7 =
    odd_sum f4 s0 ∷ odd_sum f5 s1 ∷ odd_sum f6 s2 ∷ odd_sum f7 (odd_sum f0 s3) ∷ odd_sum f1 s4 ∷ odd_sum f2 s5 ∷ odd_sum f3 s6 ∷ odd_sum f4 s7
    ∷ odd_sum f5 f0 ∷ odd_sum f6 f1 ∷ odd_sum f7 f2 ∷ f3 ∷ f4 ∷ f5 ∷ f6 ∷ f7 ∷ []

next_sum : (f0 f1 f2 f3 f4 f5 f6 f7 s0 s1 s2 s3 s4 s5 s6 s7 : Bool)
    → plus (plus (plus ((f4 ∷ f5 ∷ f6 ∷ f7 ∷ []) ++ replicate 12 false) (replicate 3 false ++ eight f0 f1 f2 f3 f4 f5 f6 f7 ++ replicate 5 false))
    (replicate 8 false ++ eight f0 f1 f2 f3 f4 f5 f6 f7)) (eight s0 s1 s2 s3 s4 s5 s6 s7 ++ replicate 8 false)
    ≡ after f0 f1 f2 f3 f4 f5 f6 f7 s0 s1 s2 s3 s4 s5 s6 s7
unfolding plus
next_sum f0 f1 f2 f3 f4 f5 f6 f7 s0 s1 s2 s3 s4 s5 s6 s7 = simp (xor_none, xor_assoc)

next_bits : (fed register : ℕ) (f0 f1 f2 f3 f4 f5 f6 f7 s0 s1 s2 s3 s4 s5 s6 s7 : Bool) → fed < 256 → register < 65536
    → low_bits 8 fed ≡ eight f0 f1 f2 f3 f4 f5 f6 f7 → low_bits 8 (register / 256) ≡ eight s0 s1 s2 s3 s4 s5 s6 s7
    → low_bits 16 (next_of fed register) ≡ after f0 f1 f2 f3 f4 f5 f6 f7 s0 s1 s2 s3 s4 s5 s6 s7
next_bits fed register f0 f1 f2 f3 f4 f5 f6 f7 s0 s1 s2 s3 s4 s5 s6 s7 fed_small small of_fed of_register =
    let a : low_bits 16 (fed / 16) ≡ (f4 ∷ f5 ∷ f6 ∷ f7 ∷ []) ++ replicate 12 false =
    low_bits-small 4 12 (fed / 16) (omega arith)
    ∙ ap (λ bs. bs ++ replicate 12 false) (quarters fed (f0 ∷ f1 ∷ f2 ∷ f3 ∷ []) (f4 ∷ f5 ∷ f6 ∷ f7 ∷ []) refl of_fed).1 in
    let b : low_bits 16 (fed * 8 % 65536) ≡ replicate 3 false ++ eight f0 f1 f2 f3 f4 f5 f6 f7 ++ replicate 5 false =
    low_bits-mod 16 (fed * 8) ∙ low_bits-up 3 13 fed
    ∙ ap (λ bs. replicate 3 false ++ bs) (low_bits-small 8 5 fed fed_small ∙ ap (λ bs. bs ++ replicate 5 false) of_fed) in
    let c : low_bits 16 (fed * 256 % 65536) ≡ replicate 8 false ++ eight f0 f1 f2 f3 f4 f5 f6 f7 =
    low_bits-mod 16 (fed * 256) ∙ low_bits-up 8 8 fed ∙ ap (λ bs. replicate 8 false ++ bs) of_fed in
    let d : low_bits 16 (register / 256) ≡ eight s0 s1 s2 s3 s4 s5 s6 s7 ++ replicate 8 false =
    low_bits-small 8 8 (register / 256) (omega arith) ∙ ap (λ bs. bs ++ replicate 8 false) of_register in
    low_bits-xor 16 (bit_xor (bit_xor (fed / 16) (fed * 8 % 65536)) (fed * 256 % 65536)) (register / 256)
    ∙ ap (λ bs. plus bs (low_bits 16 (register / 256)))
    (low_bits-xor 16 (bit_xor (fed / 16) (fed * 8 % 65536)) (fed * 256 % 65536)
    ∙ ap (λ bs. plus bs (low_bits 16 (fed * 256 % 65536))) (low_bits-xor 16 (fed / 16) (fed * 8 % 65536)))
    ∙ rw (a, b, c, d) (next_sum f0 f1 f2 f3 f4 f5 f6 f7 s0 s1 s2 s3 s4 s5 s6 s7)

-- ---- eight steps
abbrev steps : Bool → Bool → Bool → Bool → Bool → Bool → Bool → Bool → Word → Word
steps o0 o1 o2 o3 o4 o5 o6 o7 w = step o7 (step o6 (step o5 (step o4 (step o3 (step o2 (step o1 (step o0 w)))))))

steps_after : (o0 o1 o2 o3 o4 o5 o6 o7 : Bool) (w : Word)
    → after (early w.c15 o0) (early w.c14 o1) (early w.c13 o2) (early w.c12 o3) (late w.c15 o0 w.c11 o4) (late w.c14 o1 w.c10 o5) (late w.c13 o2 w.c9 o6) (late w.c12 o3 w.c8 o7)
    w.c7 w.c6 w.c5 w.c4 w.c3 w.c2 w.c1 w.c0 ≡ reverse (bits (steps o0 o1 o2 o3 o4 o5 o6 o7 w))
steps_after o0 o1 o2 o3 o4 o5 o6 o7 w = refl

remainder-steps : (o0 o1 o2 o3 o4 o5 o6 o7 : Bool) (sent : List Bool)
    → remainder (dividend (o7 ∷ o6 ∷ o5 ∷ o4 ∷ o3 ∷ o2 ∷ o1 ∷ o0 ∷ sent)) ≡ steps o0 o1 o2 o3 o4 o5 o6 o7 (remainder (dividend sent))
remainder-steps o0 o1 o2 o3 o4 o5 o6 o7 sent =
    remainder-step o7 (o6 ∷ o5 ∷ o4 ∷ o3 ∷ o2 ∷ o1 ∷ o0 ∷ sent)
    ∙ ap (step o7) (remainder-step o6 (o5 ∷ o4 ∷ o3 ∷ o2 ∷ o1 ∷ o0 ∷ sent)
    ∙ ap (step o6) (remainder-step o5 (o4 ∷ o3 ∷ o2 ∷ o1 ∷ o0 ∷ sent)
    ∙ ap (step o5) (remainder-step o4 (o3 ∷ o2 ∷ o1 ∷ o0 ∷ sent)
    ∙ ap (step o4) (remainder-step o3 (o2 ∷ o1 ∷ o0 ∷ sent)
    ∙ ap (step o3) (remainder-step o2 (o1 ∷ o0 ∷ sent)
    ∙ ap (step o2) (remainder-step o1 (o0 ∷ sent)
    ∙ ap (step o1) (remainder-step o0 sent)))))))

steps_by : (register octet : ℕ) (sent : List Bool) (o0 o1 o2 o3 o4 o5 o6 o7 : Bool) → register < 65536 → octet < 256
    → low_bits 8 octet ≡ eight o0 o1 o2 o3 o4 o5 o6 o7 → Register register sent
    → Register (next_of (fed_of (mixed_of register octet)) register) (o7 ∷ o6 ∷ o5 ∷ o4 ∷ o3 ∷ o2 ∷ o1 ∷ o0 ∷ sent)
steps_by register octet sent o0 o1 o2 o3 o4 o5 o6 o7 small octet_small of_octet holds =
    let w : Word = remainder (dividend sent) in
    let m : ℕ = mixed_of register octet in
    let parts : (low_bits 8 register ≡ eight w.c15 w.c14 w.c13 w.c12 w.c11 w.c10 w.c9 w.c8) × (low_bits 8 (register / 256) ≡ eight w.c7 w.c6 w.c5 w.c4 w.c3 w.c2 w.c1 w.c0) =
    halves register (eight w.c15 w.c14 w.c13 w.c12 w.c11 w.c10 w.c9 w.c8) (eight w.c7 w.c6 w.c5 w.c4 w.c3 w.c2 w.c1 w.c0) refl (register_bits register sent holds) in
    let mixed_small : m < 2 ^ 8 = xor_lt 8 (register % 256) octet (omega arith) octet_small in
    let fed_small : fed_of m < 2 ^ 8 = xor_lt 8 (m * 16 % 256) m (omega arith) mixed_small in
    let new : low_bits 16 (next_of (fed_of m) register) ≡ reverse (bits (steps o0 o1 o2 o3 o4 o5 o6 o7 w)) =
    next_bits (fed_of m) register _ _ _ _ _ _ _ _ _ _ _ _ _ _ _ _ fed_small small
    (fed_bits register octet w.c15 w.c14 w.c13 w.c12 w.c11 w.c10 w.c9 w.c8 o0 o1 o2 o3 o4 o5 o6 o7 parts.0 of_octet) parts.1
    ∙ steps_after o0 o1 o2 o3 o4 o5 o6 o7 w in
    register_of_bits (next_of (fed_of m) register) (o7 ∷ o6 ∷ o5 ∷ o4 ∷ o3 ∷ o2 ∷ o1 ∷ o0 ∷ sent) (new ∙ ap (λ v. reverse (bits v)) (sym (remainder-steps o0 o1 o2 o3 o4 o5 o6 o7 sent)))

pub octet_step : (register octet : ℕ) (sent : List Bool) → register < 65536 → octet < 256 → Register register sent
    → Register (next_of (fed_of (mixed_of register octet)) register) (reverse (low_bits 8 octet) ++ sent)
unfolding low_bits
octet_step register octet sent small octet_small holds = steps_by register octet sent _ _ _ _ _ _ _ _ small octet_small refl holds
