-- Parameters: a tag, a length, a value, and padding up to a multiple of four octets (RFC 4666,
-- 3.2).
use Rattle.std.specs.Prelude.{◌≡◌, ℕ, ◌+◌, ◌-◌, ◌%◌, ◌^◌, ◌<◌, ◌≤◌, ◌==◌, true, if◌then◌else◌}
use Rattle.std.specs.Prelude.{List, [], ◌∷◌, ◌++◌, length, drop, replicate, Option, Some, None}
use Rattle.std.specs.Prelude.{◌⊎◌}
use Rattle.std.specs.List.{flat_map}
use Rattle.m3ua_frames.specs.Numbers.{number_2, octets_2}
use Rattle.m3ua_frames.specs.Tags.{is_sized}

pub record Parameter : Type 0 where
  pub tag : ℕ
  pub value : List ℕ

-- the number of octets of padding after a value of n octets
abbrev pub padding_after : ℕ → ℕ
padding_after n = (4 - n % 4) % 4

-- Octets begin with this parameter, and the rest follows. Its length counts its tag, its length and
-- its value, but not the padding, which may be any octets. The padding after the last value may be
-- missing (3.1.4).
pub record IsFirst (octets : List ℕ) (p : Parameter) (rest : List ℕ) : Type 0 where
  pub headed : 4 ≤ length octets
  pub tag : p.tag ≡ number_2 octets 0
  pub counted : number_2 octets 2 ≡ length p.value + 4
  pub sized : is_sized p.tag (length p.value) ≡ true
  pub padding : List ℕ
  pub padded :
      (length padding ≡ padding_after (length p.value)) ⊎ ((padding ≡ []) × (rest ≡ []))
  pub parts : drop 4 octets ≡ p.value ++ (padding ++ rest)

-- octets are these parameters, in this order
abbrev pub AreParameters : List ℕ → List Parameter → Type 0
AreParameters octets [] = octets ≡ []
AreParameters octets (p ∷ ps) = (rest : List ℕ) × IsFirst octets p rest × AreParameters rest ps

-- the value of the first parameter with this tag
abbrev pub value_of : ℕ → List Parameter → Option (List ℕ)
value_of tag [] = None
value_of tag (p ∷ ps) = if p.tag == tag then Some p.value else value_of tag ps

-- the values of the parameters with this tag, in order
abbrev pub values_of : ℕ → List Parameter → List (List ℕ)
values_of tag [] = []
values_of tag (p ∷ ps) = if p.tag == tag then p.value ∷ values_of tag ps else values_of tag ps

-- The first value with this tag among parameters, and the octets of the parameters after it.
abbrev pub IsNext : ℕ → List Parameter → Option (List ℕ × List ℕ) → Type 0
IsNext tag ps None = values_of tag ps ≡ []
IsNext tag ps (Some x) =
    (qs : List Parameter) × AreParameters x.1 qs
    × (values_of tag ps ≡ x.0 ∷ values_of tag qs)

-- ---- parameters in the form in which they are sent

-- a parameter that can be sent
pub record IsParameter (p : Parameter) : Type 0 where
  pub tag : p.tag < 2 ^ 16
  pub fits : length p.value + 4 < 2 ^ 16
  pub sized : is_sized p.tag (length p.value) ≡ true

-- with padding of zeros
abbrev pub padded : Parameter → List ℕ
padded p =
    octets_2 p.tag ++ octets_2 (length p.value + 4) ++ p.value
    ++ replicate (padding_after (length p.value)) 0

abbrev pub all_padded : List Parameter → List ℕ
all_padded ps = flat_map padded ps

-- octets of parameters, of which the last has its padding
abbrev pub completed : List ℕ → List ℕ
completed octets = octets ++ replicate (padding_after (length octets)) 0
