-- The padding of the last parameter.
use Rattle.std.proofs.Common.{◌≡◌, ℕ, ◌+◌, ◌≤◌, ◌⊎◌, inl, inr, List, [], ◌∷◌, ◌++◌, length, drop, refl, sym, ap, ◌∙◌, append_assoc, arith}
use Rattle.std.specs.Prelude.{replicate}
use Rattle.std.proofs.lemmas.List.{append-nil, length-append, length-drop, length-replicate}
use Rattle.m3ua_frames.specs.Numbers.{number_2}
use Rattle.m3ua_frames.specs.Parameters.{Parameter, IsFirst, AreParameters, padding_after}
use Rattle.m3ua_frames.specs.Laws.{CompletedIsRead}

pub record Goes (octets zeros : List ℕ) : Type 0 where
  pub tag : number_2 (octets ++ zeros) 0 ≡ number_2 octets 0
  pub size : number_2 (octets ++ zeros) 2 ≡ number_2 octets 2
  pub behind : drop 4 (octets ++ zeros) ≡ drop 4 octets ++ zeros

goes : (octets zeros : List ℕ) → 4 ≤ length octets → Goes octets zeros
goes [] zeros long = absurd (omega (arith, long))
goes (a ∷ []) zeros long = absurd (omega (arith, long))
goes (a ∷ b ∷ []) zeros long = absurd (omega (arith, long))
goes (a ∷ b ∷ c ∷ []) zeros long = absurd (omega (arith, long))
goes (a ∷ b ∷ c ∷ d ∷ more) zeros long = record { tag = refl; size = refl; behind = refl }

-- octets go on after a parameter with its padding
first_on : (octets : List ℕ) (p : Parameter) (rest zeros : List ℕ) (h : IsFirst octets p rest) → length h.padding ≡ padding_after (length p.value) → IsFirst (octets ++ zeros) p (rest ++ zeros)
first_on octets p rest zeros h full =
    let on : Goes octets zeros = goes octets zeros h.headed in
    record {
      headed = omega (arith, h.headed, length-append octets zeros);
      tag = h.tag ∙ sym on.tag;
      counted = on.size ∙ h.counted;
      sized = h.sized;
      padding = h.padding;
      padded = inl full;
      parts =
          on.behind ∙ ap (λ (xs : List ℕ). xs ++ zeros) h.parts ∙ append_assoc p.value (h.padding ++ rest) zeros
          ∙ ap (λ (xs : List ℕ). p.value ++ xs) (append_assoc h.padding rest zeros);
    }

-- the last parameter gets its padding
first_last : (octets : List ℕ) (p : Parameter) (zeros : List ℕ) (h : IsFirst octets p []) → h.padding ≡ [] → length zeros ≡ padding_after (length p.value) → IsFirst (octets ++ zeros) p []
first_last octets p zeros h none full =
    let on : Goes octets zeros = goes octets zeros h.headed in
    let value : drop 4 octets ≡ p.value = h.parts ∙ ap (λ (xs : List ℕ). p.value ++ (xs ++ [])) none ∙ append-nil p.value in
    record {
      headed = omega (arith, h.headed, length-append octets zeros);
      tag = h.tag ∙ sym on.tag;
      counted = on.size ∙ h.counted;
      sized = h.sized;
      padding = zeros;
      padded = inl full;
      parts = on.behind ∙ ap (λ (xs : List ℕ). xs ++ zeros) value ∙ ap (λ (xs : List ℕ). p.value ++ xs) (sym (append-nil zeros));
    }

abbrev pub AreOn : List ℕ → List Parameter → Type 0
AreOn octets ps = (zeros : List ℕ) → zeros ≡ replicate (padding_after (length octets)) 0 → AreParameters (octets ++ zeros) ps

none_on : (octets : List ℕ) → octets ≡ [] → (zeros : List ℕ) → zeros ≡ replicate (padding_after (length octets)) 0 → octets ++ zeros ≡ []
none_on octets empty zeros are =
    let none : zeros ≡ [] = are ∙ ap (λ (xs : List ℕ). replicate (padding_after (length xs)) 0) empty in
    ap (λ (xs : List ℕ). xs ++ zeros) empty ∙ none

long_of : (octets : List ℕ) (p : Parameter) (rest : List ℕ) (h : IsFirst octets p rest) → length octets ≡ 4 + (length p.value + (length h.padding + length rest))
long_of octets p rest h =
    omega (arith, h.headed, length-drop 4 octets, ap length h.parts, length-append p.value (h.padding ++ rest), length-append h.padding rest)

same_padding : (v r n : ℕ) → n ≡ 4 + (v + (padding_after v + r)) → padding_after n ≡ padding_after r
same_padding v r n e = omega (arith, e)

last_padding : (v n : ℕ) → n ≡ 4 + v → padding_after n ≡ padding_after v
last_padding v n e = omega (arith, e)

full_on : (octets : List ℕ) (p : Parameter) (ps : List Parameter) (rest : List ℕ) (h : IsFirst octets p rest) → length h.padding ≡ padding_after (length p.value) → AreOn rest ps
    → (zeros : List ℕ) → zeros ≡ replicate (padding_after (length octets)) 0 → AreParameters (octets ++ zeros) (p ∷ ps)
full_on octets p ps rest h full others zeros are =
    let n : padding_after (length octets) ≡ padding_after (length rest) = same_padding (length p.value) (length rest) (length octets) (long_of octets p rest h ∙ ap (λ (k : ℕ). 4 + (length p.value + (k + length rest))) full) in
    (rest ++ zeros, first_on octets p rest zeros h full, others zeros (are ∙ ap (λ (k : ℕ). replicate k 0) n))

last_on : (octets : List ℕ) (p : Parameter) (ps : List Parameter) (h : IsFirst octets p []) → h.padding ≡ [] → AreParameters [] ps
    → (zeros : List ℕ) → zeros ≡ replicate (padding_after (length octets)) 0 → AreParameters (octets ++ zeros) (p ∷ ps)
last_on octets p ps h none others zeros are =
    let n : padding_after (length octets) ≡ padding_after (length p.value) = last_padding (length p.value) (length octets) (omega (arith, long_of octets p [] h, ap length none)) in
    let full : length zeros ≡ padding_after (length p.value) = ap length are ∙ length-replicate (padding_after (length octets)) 0 ∙ n in
    ([], first_last octets p zeros h none full, others)

-- where nothing follows, the rest is replaced by nothing
nothing_on : (octets : List ℕ) (p : Parameter) (ps : List Parameter) (rest : List ℕ) → rest ≡ [] → (h : IsFirst octets p rest) → h.padding ≡ [] → AreParameters rest ps
    → (zeros : List ℕ) → zeros ≡ replicate (padding_after (length octets)) 0 → AreParameters (octets ++ zeros) (p ∷ ps)
nothing_on octets p ps [] e h none others zeros are = last_on octets p ps h none others zeros are
nothing_on octets p ps (x ∷ xs) e h none others zeros are = absurd cc

either_on : (octets : List ℕ) (p : Parameter) (ps : List Parameter) (rest : List ℕ) (h : IsFirst octets p rest) → AreParameters rest ps → AreOn rest ps
    → (length h.padding ≡ padding_after (length p.value)) ⊎ ((h.padding ≡ []) × (rest ≡ [])) → AreOn octets (p ∷ ps)
either_on octets p ps rest h others on (inl full) zeros are = full_on octets p ps rest h full on zeros are
either_on octets p ps rest h others on (inr none) zeros are = nothing_on octets p ps rest none.1 h none.0 others zeros are

pub all_on : (octets : List ℕ) (ps : List Parameter) → AreParameters octets ps → AreOn octets ps
all_on octets [] empty zeros are = none_on octets empty zeros are
all_on octets (p ∷ ps) a zeros are = either_on octets p ps a.0 a.1 a.2 (all_on a.0 ps a.2) a.1.padded zeros are

pub completed_is_read : CompletedIsRead
completed_is_read octets ps are = all_on octets ps are (replicate (padding_after (length octets)) 0) refl
