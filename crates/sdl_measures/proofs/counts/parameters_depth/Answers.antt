use Rattle.std.proofs.Common.{◌≡◌, ◌+◌, ◌++◌, ◌∷◌, [], map, take, max, length, sym, ap, ◌∙◌, arith}
use Rattle.std.proofs.lemmas.List.{take_more, map-append, length-map, length-take-le}
use Rattle.sdl_ast.specs.Views.{tree_of}
use Rattle.sdl_sound.specs.Longest.{depth_of, parameters_depth}
use Rattle.sdl_measures.proofs.Texts.{parameters_depth-push}
use Rattle.sdl_measures.proofs.counts.parameters_depth.Goals as goal

pub loop-parameter-preserved : goal.loop-parameter-preserved
loop-parameter-preserved c =
    let xs = c.args.parameters.now in
    let i = c.loop-parameter.parameter-index in
    let x = c.parameter-item.result in
    let done = take i xs in
    let more : take (i + 1) xs ≡ done ++ x ∷ [] =
    take_more xs i x c.loop-parameter-test.true ∙ ap (λ y. done ++ y ∷ []) (sym c.parameter-item.is) in
    let count : length (map tree_of done) ≡ i = length-map done tree_of ∙ length-take-le i xs (omega (arith, c.loop-parameter-test.true)) in
    let deeper : parameters_depth 0 (map tree_of (take (i + 1) xs)) ≡ max (parameters_depth 0 (map tree_of done)) ((0 + length (map tree_of done)) + depth_of (tree_of x)) =
    ap (parameters_depth 0) (ap (map tree_of) more ∙ map-append tree_of done (x ∷ []))
    ∙ parameters_depth-push 0 (map tree_of done) (tree_of x) in (
      omega (arith, c.loop-parameter.invariant.0, c.saturating_add-waiting.ensures),
      omega (arith, deeper, count, c.loop-parameter.invariant.0, c.loop-parameter.invariant.1, c.max-most.ensures, c.saturating_add.ensures, c.depth.ensures),
    )
