-- Blocks of 64 bytes, the last one filled up with zeros.
use Rattle.std.proofs.Common.{◌≡◌, ℕ, zero, suc, ◌-◌, List, [], ◌∷◌, ◌++◌, length, refl, sym, ap, ◌∙◌, append_assoc, arith, subst}
use Rattle.std.specs.Prelude.{◌↔◌, IsUtf8, replicate}
use Rattle.std.specs.Str.{IsAscii}
use Rattle.std.proofs.lemmas.List.{append-nil}
use Rattle.std.proofs.Math.Seq.{take-append_seam}
use Rattle.std.proofs.lemmas.Str.{IsUtf8-append, IsUtf8-from_ascii, IsUtf8-take, IsCharBoundary-at_seam}

-- a byte fills the block
pub filled : (bytes blocks waiting pushed : List ℕ) (byte : ℕ) → bytes ≡ blocks ++ waiting → pushed ≡ waiting ++ byte ∷ [] → length pushed ≡ 64
    → bytes ++ byte ∷ [] ≡ (blocks ++ (pushed ++ replicate (64 - length pushed) 0)) ++ []
filled bytes blocks waiting pushed byte parts more whole =
    ap (λ bs. bs ++ byte ∷ []) parts
    ∙ (append_assoc blocks waiting (byte ∷ [])
    ∙ (ap (λ bs. blocks ++ bs) (sym more ∙ (sym (append-nil pushed) ∙ ap (λ k. pushed ++ replicate k 0) (let e : 0 ≡ 64 - length pushed = omega (arith, whole) in e)))
    ∙ sym (append-nil _)))

zeros_ascii : (k : ℕ) → IsAscii (replicate k 0)
zeros_ascii zero i = omega arith
zeros_ascii (suc k) zero = omega arith
zeros_ascii (suc k) (suc i) = zeros_ascii k i

zeros : (k : ℕ) → IsUtf8 (replicate k 0)
zeros k = IsUtf8-from_ascii (replicate k 0) (zeros_ascii k)

-- zeros after the bytes make no difference
pub padded : (bytes : List ℕ) (k : ℕ) → IsUtf8 (bytes ++ replicate k 0) ↔ IsUtf8 bytes
padded bytes k = (
  λ u. subst IsUtf8 (take-append_seam bytes (replicate k 0))
      (IsUtf8-take (bytes ++ replicate k 0) (length bytes) u (IsCharBoundary-at_seam (bytes ++ replicate k 0) bytes (replicate k 0) refl (zeros k))),
  λ u. IsUtf8-append bytes (replicate k 0) u (zeros k),
)
