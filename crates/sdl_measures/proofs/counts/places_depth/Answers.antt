use Rattle.std.proofs.Common.{◌≡◌, ◌+◌, ◌++◌, ◌∷◌, [], take, max, sym, ap, ◌∙◌, arith}
use Rattle.std.proofs.lemmas.List.{take_more}
use Rattle.sdl_sound.specs.Longest.{place_depth, places_depth}
use Rattle.sdl_measures.proofs.Texts.{places_depth-push, place_depth_le}
use Rattle.sdl_measures.proofs.counts.places_depth.Goals as goal

pub loop-place-preserved : goal.loop-place-preserved
loop-place-preserved c =
    let xs = c.args.places.now in
    let i = c.loop-place.place-index in
    let x = c.place-item.result in
    let done = take i xs in
    let more : take (i + 1) xs ≡ done ++ x ∷ [] =
    take_more xs i x c.loop-place-test.true ∙ ap (λ y. done ++ y ∷ []) (sym c.place-item.is) in
    let deeper : places_depth (take (i + 1) xs) ≡ max (places_depth done) (place_depth x) =
    ap places_depth more ∙ places_depth-push done x in
    omega (arith, deeper, place_depth_le x, c.loop-place.invariant, c.max-most.ensures, c.place_depth.ensures)
