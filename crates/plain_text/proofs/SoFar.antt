-- The bytes read so far, and what is kept of them.
use Rattle.std.proofs.Common.{◌≡◌, ℕ, zero, suc, ◌+◌, ◌-◌, ◌≤◌, List, [], ◌∷◌, ◌++◌, length, take, Option, refl, sym, ap, ◌∙◌, arith, length-take}
use Rattle.std.specs.Prelude.{◌↔◌, IsTrue, IsUtf8}
use Rattle.std.proofs.lemmas.List.{append-nil}
use Rattle.std.specs.Io.KnownBytes.{Consumes, IsAtEnd, Keeps}
use Rattle.std.proofs.KnownBytes.{Consumes-trans, Consumes-kept, Consumes-all}
use Rattle.plain_text.specs.declared.check.TextCheck.{TextCheck}
use Rattle.plain_text.specs.declared.reading.TextRead.{TextRead}
use Rattle.plain_text.specs.Reading.{LONGEST, HasTaken, IsReading}

pub record SoFar (first now : Option (List ℕ)) (kept : List ℕ) (check : TextCheck) : Type 0 where
  pub bytes : List ℕ
  pub consumed : Consumes first now bytes
  pub keeps : kept ≡ take (LONGEST + 1) bytes
  pub taken : HasTaken check bytes

take_parts : (n : ℕ) (xs ys : List ℕ) → take n (xs ++ ys) ≡ take n xs ++ take (n - length (take n xs)) ys
take_parts zero xs ys = refl
take_parts (suc n) [] ys = ap (λ k. take k ys) (let e : suc n ≡ suc n - 0 = omega arith in e)
take_parts (suc n) (x ∷ xs) ys =
    ap (λ l. x ∷ l) (take_parts n xs ys ∙ ap (λ k. take n xs ++ take k ys) (let e : n - length (take n xs) ≡ suc n - suc (length (take n xs)) = omega arith in e))

-- a further part was read
pub so_far-more : (first now next : Option (List ℕ)) (kept more part : List ℕ) (check after : TextCheck) → SoFar first now kept check
    → Consumes now next part → more ≡ kept ++ take (LONGEST + 1 - length kept) part
    → ((bytes : List ℕ) → HasTaken check bytes → HasTaken after (bytes ++ part)) → SoFar first next more after
so_far-more first now next kept more part check after s given grows takes = record {
  bytes = s.bytes ++ part;
  consumed = Consumes-trans first now next s.bytes part s.consumed given;
  keeps =
      grows ∙ (ap (λ k. k ++ take (LONGEST + 1 - length k) part) s.keeps ∙ sym (take_parts (LONGEST + 1) s.bytes part));
  taken = takes s.bytes s.taken;
}

pub so_far-short : (first now : Option (List ℕ)) (kept : List ℕ) (check : TextCheck) → SoFar first now kept check → length kept ≤ LONGEST + 1
so_far-short first now kept check s = omega (arith, ap length s.keeps, length-take (LONGEST + 1) s.bytes)

-- a read that returned no bytes
pub so_far-kept : (first now next : Option (List ℕ)) (kept : List ℕ) (check : TextCheck) → SoFar first now kept check → Keeps now next → SoFar first next kept check
so_far-kept first now next kept check s same =
    record { bytes = s.bytes; consumed = Consumes-kept first now next s.bytes s.consumed same; keeps = s.keeps; taken = s.taken }

-- the end of the text
pub so_far-all : (first now next : Option (List ℕ)) (kept : List ℕ) (check : TextCheck) (read : TextRead) → SoFar first now kept check → Consumes now next [] → IsAtEnd next
    → read.kept.items ≡ kept → ((bytes : List ℕ) → HasTaken check bytes → IsTrue read.is_text ↔ IsUtf8 bytes) → IsReading first read
so_far-all first now next kept check read s none end same text = record {
  bytes = s.bytes;
  are_known = Consumes-all first next (s.bytes ++ []) [] s.bytes (Consumes-trans first now next s.bytes [] s.consumed none) end (sym (append-nil s.bytes));
  keeps = record { first = same ∙ s.keeps; utf8 = text s.bytes s.taken };
}
