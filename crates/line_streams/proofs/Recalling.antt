-- The units that are recorded.
use Rattle.std.proofs.Common.{◌≡◌, ℕ, Bool, true, false, List, ◌∷◌, Option, Some, option_map, refl, sym, ap, ◌∙◌, subst}
use Rattle.arrayvec.specs.declared.array_vec.ArrayVec.{ArrayVec}
use Rattle.line_streams.specs.declared.seen.Seen.{Seen}
use Rattle.line_streams.specs.declared.repeats.Repeats.{Repeats}
use Rattle.line_streams.specs.Repeats.{is_kept, with_kept, kept, StandsFor}
use Rattle.line_streams.specs.Capturing.{IsUnit}

-- One more unit, recorded or not.
pub kept_more : (every keeps : Bool) (s : Seen) (seen : List Seen) (r : Repeats) → keeps ≡ is_kept every (kept every seen) s
    → StandsFor s.link (with_kept keeps s (kept every seen)) r → StandsFor s.link (kept every (s ∷ seen)) r
kept_more every keeps s seen r are stands =
    let P : Bool → Type 0 = λ b. StandsFor s.link (with_kept b s (kept every seen)) r in subst P are stands

pub is_recorded : (every keeps : Bool) (s : Seen) (seen : List Seen) → keeps ≡ true → keeps ≡ is_kept every (kept every seen) s
    → kept every (s ∷ seen) ≡ s ∷ kept every seen
is_recorded every keeps s seen is are = ap (λ b. with_kept b s (kept every seen)) (sym are ∙ is)

pub is_left_out : (every keeps : Bool) (s : Seen) (seen : List Seen) → keeps ≡ false → keeps ≡ is_kept every (kept every seen) s
    → kept every (s ∷ seen) ≡ kept every seen
is_left_out every keeps s seen is are = ap (λ b. with_kept b s (kept every seen)) (sym are ∙ is)

pub is_unit : (went : Bool) (link at : ℕ) (unit : Option (ArrayVec ℕ 278 (Unit {0}))) (s : Seen) (seen : List Seen) → unit ≡ Some s.octets
    → s.went ≡ went → s.link ≡ link → s.at ≡ at → IsUnit went link at (option_map (λ (u : ArrayVec ℕ 278 (Unit {0})). u.items) unit) seen (s ∷ seen)
is_unit went link at unit s seen is way of_link moment =
    let P : Option (ArrayVec ℕ 278 (Unit {0})) → Type 0 = λ u. IsUnit went link at (option_map (λ (v : ArrayVec ℕ 278 (Unit {0})). v.items) u) seen (s ∷ seen) in
    subst P (sym is) (way, of_link, moment, refl, refl)

pub kept_as : (l m : ℕ) (d e : Bool) (seen : List Seen) (r : Repeats) → l ≡ m → d ≡ e → StandsFor m (kept e seen) r → StandsFor l (kept d seen) r
kept_as l m d e seen r link every stands =
    let P : ℕ → Type 0 = λ n. StandsFor n (kept d seen) r in
    let Q : Bool → Type 0 = λ b. StandsFor m (kept b seen) r in
    subst P (sym link) (subst Q (sym every) stands)
