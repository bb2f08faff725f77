-- The claims about the counts of a piece are those that a valid draft keeps.
use Rattle.std.proofs.Common.{◌≡◌, ℕ, zero, suc, ◌+◌, ◌≤◌, List, [], ◌∷◌, length, map, refl, sym, ap, ◌∙◌}
use Rattle.std.specs.Prelude.{slice_get}
use Rattle.turn_code.specs.declared.draft.PlaceFacts.{PlaceFacts}
use Rattle.turn_code.specs.Code.{successors}
use Rattle.turn_code.specs.Transitions.{Transition}
use Rattle.turn_code.specs.Rules.{greatest, depths, count_in, effects_in, KeepsCounts}
use Rattle.sdl_sound.specs.Longest.{Piece, piece_depth}
use Rattle.sdl_meaning.specs.Outcomes.{Scope}
use Rattle.sdl_compile.specs.PlaceCounts.{weight, number_at}
use Rattle.sdl_compile.specs.declared.counts.Counted.TheVariants.{Effects}
use Rattle.sdl_compile.specs.Made.{IsLongestOf, AreCountsOf, IsPieceOf}
use Rattle.sdl_meaning.specs.Named.{NamedPiece, AreSorted}
use Rattle.sdl_compile.proofs.Depths.{facts_deep}
use Rattle.sdl_compile.proofs.Passes.{same_all as same_greatest}

count_of : (fs : List PlaceFacts) (k : ℕ) → number_at (map (λ (f : PlaceFacts). f.count) fs) k ≡ count_in (slice_get fs k)
count_of [] k = refl
count_of (f ∷ fs) zero = refl
count_of (f ∷ fs) (suc k) = count_of fs k

effects_at_is : (fs : List PlaceFacts) (k : ℕ) → number_at (map (λ (f : PlaceFacts). f.effects) fs) k ≡ effects_in (slice_get fs k)
effects_at_is [] k = refl
effects_at_is (f ∷ fs) zero = refl
effects_at_is (f ∷ fs) (suc k) = effects_at_is fs k

pub keeps_counts : (c : Scope) (q : Piece) (t : Transition) → AreCountsOf c q t.piece.code t.piece.facts → IsLongestOf c q t.piece.certificate → greatest (depths t.piece.facts) ≡ piece_depth c.process q → (k : ℕ) → KeepsCounts t k
keeps_counts c q t h longest deep k =
    let fs = t.piece.facts in
    record {
      certificate = λ e. record {
        budget = longest.budget ∙ sym h.longest ∙ count_of fs 0;
        depth = longest.depth ∙ sym deep;
        effects = longest.effects ∙ sym h.most ∙ effects_at_is fs 0;
      };
      counts = λ i f at here.
          sym (ap count_in here) ∙ sym (count_of fs k) ∙ h.counts.each k i at
          ∙ ap (λ n. 1 + n) (same_greatest (number_at (map (λ (f : PlaceFacts). f.count) fs)) (λ j. count_in (slice_get fs j)) (successors i k) (count_of fs));
      effects = λ i f at here.
          sym (ap effects_in here) ∙ sym (effects_at_is fs k) ∙ h.effects.each k i at
          ∙ ap (λ n. weight Effects i + n) (same_greatest (number_at (map (λ (f : PlaceFacts). f.effects) fs)) (λ j. effects_in (slice_get fs j)) (successors i k) (effects_at_is fs));
    }

-- The piece of a transition keeps its counts and its certificate.
pub piece_keeps : (c : Scope) (q : Piece) (t : Transition) → NamedPiece c q → AreSorted c q.text → length q.places ≤ length t.parameters → IsPieceOf c t.parameters t.entry q t.piece → (k : ℕ) → KeepsCounts t k
piece_keeps c q t named fits le made =
    keeps_counts c q t made.counted made.certificate
    (facts_deep c t.parameters q made.code.numbers made.code.placed named fits le t.piece.code t.piece.facts made.code.code made.facts.shaped)
