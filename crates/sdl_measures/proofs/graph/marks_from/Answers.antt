use Rattle.std.proofs.Common.{rules, ◌≡◌, ℕ, [], List, Bool, false, length, ap, sym, ◌∙◌, subst}
use Rattle.std.proofs.lemmas.List.{length-map, length-replicate}
use Rattle.std.specs.Prelude.{replicate}
use Rattle.sdl_measures.specs.Links.{graph_in}
use Rattle.sdl_measures.specs.Searched.{AreFound, Finds}
use Rattle.sdl_measures.proofs.Marking.{found_none, marks_are}
use Rattle.sdl_measures.proofs.graph.marks_from.Goals as goal

pub see_all-requires-clause-found : goal.see_all-requires-clause-found
see_all-requires-clause-found c =
    let blank : c.in_ok-marks.marks.items ≡ replicate (length c.args.graph.now) false = search rules in
    subst (λ (l : List Bool). AreFound l c.new-found.result.items) (sym blank)
    (subst (λ (l : List ℕ). AreFound (replicate (length c.args.graph.now) false) l) (sym c.new-found.ensures.items) (found_none (length c.args.graph.now)))

pub returns : goal.returns
returns c =
    let g = graph_in c.args.graph.now in
    let blank : c.in_ok-marks.marks.items ≡ replicate (length c.args.graph.now) false = search rules in
    let long : length c.in_ok-marks.marks.items ≡ length g =
    ap length blank ∙ length-replicate (length c.args.graph.now) false ∙ sym (length-map c.args.graph.now (λ v. v.items)) in
    let first : Finds c.args.starts.now c.in_ok-marks.marks.items [] c.see_all.new.marks.items c.see_all.new.found.items =
    subst (λ (l : List ℕ). Finds c.args.starts.now c.in_ok-marks.marks.items l c.see_all.new.marks.items c.see_all.new.found.items) c.new-found.ensures.items
    c.in_ok-see_all.ensures in
    marks_are g c.args.starts.now _ _ _ _ long first c.in_ok-follow.ensures
