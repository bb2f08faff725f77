-- Numbers that follow each other in octets.
use Rattle.std.proofs.Common.{◌≡◌, ℕ, ◌<◌, ◌≤◌, List, [], ◌∷◌, length, take, drop, refl, arith}
use Rattle.m3ua_frames.specs.Numbers.{number_4, numbers_in}

pub numbers_few : (octets : List ℕ) → length octets < 4 → numbers_in octets ≡ []
numbers_few [] few = refl
numbers_few (a ∷ []) few = refl
numbers_few (a ∷ b ∷ []) few = refl
numbers_few (a ∷ b ∷ c ∷ []) few = refl
numbers_few (a ∷ b ∷ c ∷ d ∷ more) few = absurd (omega (arith, few))

pub numbers_more : (octets : List ℕ) → 4 ≤ length octets → numbers_in octets ≡ number_4 octets 0 ∷ numbers_in (drop 4 octets)
numbers_more [] enough = absurd (omega (arith, enough))
numbers_more (a ∷ []) enough = absurd (omega (arith, enough))
numbers_more (a ∷ b ∷ []) enough = absurd (omega (arith, enough))
numbers_more (a ∷ b ∷ c ∷ []) enough = absurd (omega (arith, enough))
numbers_more (a ∷ b ∷ c ∷ d ∷ more) enough = refl

pub taken_4 : (octets : List ℕ) → 4 ≤ length octets → number_4 octets 0 ≡ number_4 (take 4 octets) 0
taken_4 [] enough = absurd (omega (arith, enough))
taken_4 (a ∷ []) enough = absurd (omega (arith, enough))
taken_4 (a ∷ b ∷ []) enough = absurd (omega (arith, enough))
taken_4 (a ∷ b ∷ c ∷ []) enough = absurd (omega (arith, enough))
taken_4 (a ∷ b ∷ c ∷ d ∷ more) enough = refl
