use Rattle.std.proofs.Common.{◌≡◌, ◌+◌, ◌++◌, ◌∷◌, [], map, take, max, min, sym, ap, ◌∙◌, arith}
use Rattle.std.proofs.lemmas.List.{take_more, map-append}
use Rattle.sdl_ast.specs.Views.{sending_of, tree_of}
use Rattle.sdl_sound.specs.Longest.{parameters_depth, sendings_depth}
use Rattle.sdl_measures.proofs.Texts.{sendings_depth-push}
use Rattle.sdl_measures.proofs.counts.sendings_depth.Goals as goal

pub loop-sending-preserved : goal.loop-sending-preserved
loop-sending-preserved c =
    let xs = c.args.sendings.now in
    let i = c.loop-sending.sending-index in
    let x = c.sending-item.result in
    let done = take i xs in
    let more : take (i + 1) xs ≡ done ++ x ∷ [] =
    take_more xs i x c.loop-sending-test.true ∙ ap (λ y. done ++ y ∷ []) (sym c.sending-item.is) in
    let deeper : sendings_depth (map sending_of (take (i + 1) xs)) ≡ max (sendings_depth (map sending_of done)) (parameters_depth 0 (sending_of x).parameters) =
    ap sendings_depth (ap (map sending_of) more ∙ map-append sending_of done (x ∷ []))
    ∙ sendings_depth-push (map sending_of done) (sending_of x) in
    let here : c.parameters_depth.result ≡ min (parameters_depth 0 (sending_of x).parameters) 4294967295 =
    c.parameters_depth.ensures ∙ ap (λ ps. min (parameters_depth 0 (map tree_of ps)) 4294967295) c.deref.ensures.value in
    omega (arith, deeper, here, c.loop-sending.invariant, c.max-most.ensures)
