use Rattle.std.proofs.Common.{◌≡◌, ◌+◌, ◌++◌, ◌∷◌, [], ℕ, List, Some, length, inl, inr, sym, ap, ◌∙◌, subst}
use Rattle.std.specs.Prelude.{slice_get}
use Rattle.std.specs.Int.{bit_at}
use Rattle.std.proofs.lemmas.List.{length_push}
use Rattle.sdl_sound.proofs.Lists.{get_push_cases}
use Rattle.sdl_unset.specs.Fates.{set_bit}
use Rattle.sdl_unset.proofs.sets.sets_in.Goals as goal

pub loop-state-preserved : goal.loop-state-preserved
loop-state-preserved c =
    let fates = c.args.fates.now in
    let old = c.loop-state.sets.items in
    let new = c.set_in.result in
    let items : c.push.new.self.items ≡ old ++ new ∷ [] = c.in_ok-push.ensures.items in
    record {
      count = ap length items ∙ (length_push old new ∙ ap (λ n. n + 1) c.loop-state.invariant.count);
      bits = λ q set there.
          elim (get_push_cases old new set q (subst (λ (l : List ℕ). slice_get l q ≡ Some set) items there)) [
            | inl before ↦ c.loop-state.invariant.bits q set before
            | inr now ↦ λ v.
                ap (λ s. bit_at s v) now.1 ∙ (c.set_in.ensures v ∙ ap (λ k. set_bit fates k v) (sym (now.0 ∙ c.loop-state.invariant.count)))
          ];
    }
