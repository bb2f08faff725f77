-- The texts of scripts.
use Rattle.std.proofs.Common.{◌≡◌, ℕ, inl, inr, arith}
use Rattle.std.specs.Prelude.{◌⊎◌}

-- a refusal doesn't have status 0
pub not_held : (status : ℕ) → (status ≡ 2) ⊎ (status ≡ 4) → status ≡ 0 → ⊥
not_held status (inl two) zero = omega arith
not_held status (inr four) zero = omega arith

-- a refusal doesn't have status 1
pub not_missed : (status : ℕ) → (status ≡ 2) ⊎ (status ≡ 4) → status ≡ 1 → ⊥
not_missed status (inl two) one = omega arith
not_missed status (inr four) one = omega arith
