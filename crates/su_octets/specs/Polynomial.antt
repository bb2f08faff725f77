-- Polynomials modulo 2 as lists of bits. The first bit is the coefficient of the lowest power.
use Rattle.std.specs.Prelude.{◌≡◌, Bool, true, false, not, ◌&&◌, List, [], ◌∷◌, map, length}

-- the sum of two bits modulo 2
abbrev pub odd_sum : Bool → Bool → Bool
odd_sum false b = b
odd_sum true b = not b

-- the sum of two polynomials: each coefficient modulo 2
unfoldable pub plus : List Bool → List Bool → List Bool
plus [] q = q
plus (a ∷ p) [] = a ∷ p
plus (a ∷ p) (b ∷ q) = odd_sum a b ∷ plus p q

-- a coefficient times a polynomial
unfoldable pub scale : Bool → List Bool → List Bool
scale a p = map (λ b. a && b) p

-- the product of two polynomials
unfoldable pub times : List Bool → List Bool → List Bool
times [] p = []
times (a ∷ q) p = plus (scale a p) (false ∷ times q p)

-- x^16 + x^12 + x^5 + 1
unfoldable pub generator : List Bool
generator =
    true ∷ false ∷ false ∷ false ∷ false ∷ true ∷ false ∷ false ∷ false ∷ false ∷ false ∷ false
    ∷ true ∷ false ∷ false ∷ false ∷ true ∷ []

-- r is the remainder of p: it has sixteen bits, and p is a multiple of the generator plus r
pub record IsRemainder (r p : List Bool) : Type 0 where
  pub short : length r ≡ 16
  pub quotient : List Bool
  pub differ : p ≡ plus (times quotient generator) r
