use Rattle.std.proofs.Common.{◌≡◌, ◌+◌, ◌++◌, ◌∷◌, [], map, take, max, sym, ap, ◌∙◌, arith}
use Rattle.std.proofs.lemmas.List.{take_more, map-append}
use Rattle.sdl_ast.specs.Views.{tree_of, assignment_of}
use Rattle.sdl_sound.specs.Longest.{depth_of, assignments_depth}
use Rattle.sdl_measures.proofs.Texts.{assignments_depth-push}
use Rattle.sdl_measures.proofs.counts.assignments_depth.Goals as goal

pub loop-assignment-preserved : goal.loop-assignment-preserved
loop-assignment-preserved c =
    let xs = c.args.assignments.now in
    let i = c.loop-assignment.assignment-index in
    let x = c.assignment-item.result in
    let done = take i xs in
    let more : take (i + 1) xs ≡ done ++ x ∷ [] =
    take_more xs i x c.loop-assignment-test.true ∙ ap (λ y. done ++ y ∷ []) (sym c.assignment-item.is) in
    let deeper : assignments_depth (map assignment_of (take (i + 1) xs)) ≡ max (assignments_depth (map assignment_of done)) (depth_of (tree_of x.value)) =
    ap assignments_depth (ap (map assignment_of) more ∙ map-append assignment_of done (x ∷ []))
    ∙ assignments_depth-push (map assignment_of done) (assignment_of x) in
    omega (arith, deeper, c.loop-assignment.invariant, c.max-most.ensures, c.depth.ensures)
