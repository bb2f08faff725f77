-- The bytes of names.
use Rattle.std.proofs.Common.{◌≡◌, ℕ, ◌-◌, ◌<◌, ◌≤◌, true, ◌&&◌, List, [], ◌∷◌, ◌++◌, length, take, drop, replicate, map, refl, ap, ◌∙◌, get_or, arith, zero, suc, length-append}
use Rattle.std.specs.Prelude.{IsUtf8, nat_le}
use Rattle.std.specs.List.{list_all}
use Rattle.std.specs.Char.{is_ascii_alphabetic, to_ascii_lowercase}
use Rattle.std.proofs.lemmas.Bool.{and_parts, and_from, le-leb}
use Rattle.std.proofs.lemmas.Str.{IsUtf8-from_ascii}
use Rattle.std.proofs.lemmas.List.{take-map, map-append, length-map, drop-replicate, length-replicate}
use Rattle.std.proofs.Math.Seq.{take-append_seam}
use Rattle.std.proofs.lemmas.Grind.{common_steps}
use Rattle.sdl_lex.specs.Spelling.{IsName, is_name_byte, is_spelled_as_name, folded}

-- a byte of a name is ASCII
pub name_byte_ascii : (b : ℕ) → is_name_byte b ≡ true → b < 128
name_byte_ascii b h = grind (arith, common_steps)

pub letter_ascii : (b : ℕ) → is_ascii_alphabetic b ≡ true → b < 128
letter_ascii b h = grind (arith, common_steps)

pub all_ascii : (bs : List ℕ) → list_all is_name_byte bs ≡ true → (i : ℕ) → get_or bs i 0 < 128
all_ascii [] h i = omega arith
all_ascii (b ∷ bs) h zero = name_byte_ascii b (and_parts _ _ h).0
all_ascii (b ∷ bs) h (suc i) = all_ascii bs (and_parts _ _ h).1 i

-- Lowering the case of a byte keeps it a letter or a byte of a name.
pub lower-letter : (b : ℕ) → is_ascii_alphabetic b ≡ true → is_ascii_alphabetic (to_ascii_lowercase b) ≡ true
lower-letter b h = grind (arith, common_steps)

pub lower-name_byte : (b : ℕ) → is_name_byte b ≡ true → is_name_byte (to_ascii_lowercase b) ≡ true
lower-name_byte b h = grind (arith, common_steps)

pub lower-zeros : (n : ℕ) → map to_ascii_lowercase (replicate n 0) ≡ replicate n 0
lower-zeros zero = refl
lower-zeros (suc n) = ap (λ (xs : List ℕ). 0 ∷ xs) (lower-zeros n)

name_ascii : (b : ℕ) (bs : List ℕ) → is_ascii_alphabetic b ≡ true → list_all is_name_byte bs ≡ true → (i : ℕ) → get_or (b ∷ bs) i 0 < 128
name_ascii b bs l h zero = letter_ascii b l
name_ascii b bs l h (suc i) = all_ascii bs h i

-- The bytes of a name are UTF-8.
pub name_utf8 : (bs : List ℕ) → IsName bs → IsUtf8 bs
name_utf8 [] h = absurd (cc)
name_utf8 (b ∷ bs) h =
    let parts = and_parts (is_ascii_alphabetic b) (list_all is_name_byte bs) (and_parts _ _ h).0 in
    IsUtf8-from_ascii (b ∷ bs) (name_ascii b bs parts.0 parts.1)

-- the lower case of a name is a name
all_lower : (bs : List ℕ) → list_all is_name_byte bs ≡ true → list_all is_name_byte (map to_ascii_lowercase bs) ≡ true
all_lower [] h = refl
all_lower (b ∷ bs) h =
    let parts = and_parts (is_name_byte b) (list_all is_name_byte bs) h in
    and_from _ _ (lower-name_byte b parts.0) (all_lower bs parts.1)

pub IsName-folded : (bs : List ℕ) → IsName bs → IsName (folded bs)
IsName-folded [] h = absurd (cc)
IsName-folded (b ∷ bs) h =
    let outer = and_parts (is_ascii_alphabetic b && list_all is_name_byte bs) (nat_le (length (b ∷ bs)) 32) h in
    let parts = and_parts (is_ascii_alphabetic b) (list_all is_name_byte bs) outer.0 in
    and_from _ _ (and_from _ _ (lower-letter b parts.0) (all_lower bs parts.1)) (rw length-map outer.1)

-- The invariant of `Name`: a buffer of 32 bytes holds the spelling of a name, and zeros after it.
abbrev pub IsRoom : ℕ → List ℕ → Type 0
IsRoom used bytes = (used ≤ 32) × (length bytes ≡ 32) × (bytes ≡ take used bytes ++ replicate (32 - used) 0) × IsName (take used bytes)

pub IsRoom-folded : (used : ℕ) (bytes low : List ℕ) → IsRoom used bytes → low ≡ map to_ascii_lowercase bytes → IsRoom used low
IsRoom-folded used bytes low room e =
    let taken : take used low ≡ map to_ascii_lowercase (take used bytes) =
    rw e (take-map to_ascii_lowercase used bytes) in
    let zeros : map to_ascii_lowercase (replicate (32 - used) 0) ≡ replicate (32 - used) 0 = lower-zeros (32 - used) in
    let parts : map to_ascii_lowercase (take used bytes ++ replicate (32 - used) 0) ≡ take used low ++ replicate (32 - used) 0 =
    map-append to_ascii_lowercase (take used bytes) (replicate (32 - used) 0) ∙ cc in (
      room.0,
      ap length e ∙ length-map bytes to_ascii_lowercase ∙ room.1,
      e ∙ ap (λ (xs : List ℕ). map to_ascii_lowercase xs) room.2 ∙ parts,
      rw taken (IsName-folded (take used bytes) room.3),
    )

-- A spelling followed by zeros satisfies the invariant of `Name`.
pub IsRoom-new : (s front zeros : List ℕ) → front ≡ s → zeros ≡ replicate 32 0 → length s ≤ 32 → is_spelled_as_name s ≡ true
    → IsRoom (length s) (front ++ drop (length s) zeros)
IsRoom-new s front zeros e z l h =
    let rest : drop (length s) zeros ≡ replicate (32 - length s) 0 = rw z (drop-replicate (length s) 32 0) in
    let fore : take (length s) (s ++ replicate (32 - length s) 0) ≡ s = take-append_seam s (replicate (32 - length s) 0) in
    rw (e, rest) (
      l,
      rw (length-append, length-replicate) (omega arith),
      rw fore refl,
      rw fore (and_from _ _ h (le-leb (length s) 32 l)),
    )
