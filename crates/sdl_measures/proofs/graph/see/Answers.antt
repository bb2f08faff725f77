use Rattle.std.proofs.Common.{◌≡◌, ◌∷◌, [], List, ℕ, true, false, Some, length, rules, refl, ap, sym, ◌∙◌, subst}
use Rattle.std.specs.Prelude.{slice_get, slice_set}
use Rattle.std.proofs.lemmas.Option.{slice_get_read}
use Rattle.sdl_measures.specs.Searched.{Finds}
use Rattle.sdl_measures.proofs.Marking.{sees_new, sees_marked}
use Rattle.sdl_measures.proofs.graph.see.Goals as goal

pub returns-in_ok-push : goal.returns-in_ok-push
returns-in_ok-push c =
    let marks = c.args.marks.now.items in
    let found = c.args.found.now.items in
    let there : slice_get marks c.args.node ≡ Some c.index.result.now = slice_get_read marks (length marks) c.args.node c.index.result.now refl c.requires.within (search rules) in
    let free : c.index.result.now ≡ false = search rules in
    subst (λ (l : List ℕ). Finds (c.args.node ∷ []) marks found (slice_set marks c.args.node true) l) (sym c.in_ok-push.ensures.items)
    (sees_new c.args.node marks found c.requires.within c.requires.found (there ∙ ap Some free))

pub returns-else-not-index : goal.returns-else-not-index
returns-else-not-index c =
    let marks = c.args.marks.now.items in
    let there : slice_get marks c.args.node ≡ Some c.index.result.now = slice_get_read marks (length marks) c.args.node c.index.result.now refl c.requires.within (search rules) in
    let is : c.index.result.now ≡ true = search rules in
    sees_marked c.args.node marks c.args.found.now.items c.requires.found (there ∙ ap Some is)
