-- Laws over the definitions of this crate, each the contract of a public function.
use Rattle.std.specs.Prelude.{◌≡◌, ℕ, Bool, not, List, map, reverse, length}
use Rattle.su_octets.specs.Bits.{bits_of}
use Rattle.su_octets.specs.Polynomial.{plus, IsRemainder}
use Rattle.su_octets.specs.Check.{Check, raised_ones, raised, content_polynomial}
use Rattle.su_octets.specs.Frame.{Frame, SpareBitsAreZero}
use Rattle.su_octets.specs.declared.units.Unit.{Unit}

-- the remainder of a sum is the sum of the remainders
abbrev pub RemaindersAdd : Type 0
RemaindersAdd =
    (r s p q : List Bool) → IsRemainder r p → IsRemainder s q → IsRemainder (plus r s) (plus p q)

-- The complement of the check bits is one remainder, that of the sum of the two polynomials.
abbrev pub CheckIsOneRemainder : Type 0
CheckIsOneRemainder = (content check : List ℕ) → Check content check
    → IsRemainder (reverse (map not (bits_of check)))
    (plus (raised_ones (length (bits_of content))) (raised (content_polynomial content)))

-- a content has one pair of check octets
abbrev pub OneCheck : Type 0
OneCheck = (content a b : List ℕ) → Check content a → Check content b → a ≡ b

-- octets are those of at most one unit
abbrev pub OneUnit : Type 0
OneUnit = (octets : List ℕ) (u v : Unit) → Frame octets u → Frame octets v → u ≡ v

-- a unit has one list of octets whose spare bits are 0
abbrev pub OneSpelling : Type 0
OneSpelling =
    (a b : List ℕ) (unit : Unit) → Frame a unit → SpareBitsAreZero a → Frame b unit
    → SpareBitsAreZero b → a ≡ b
