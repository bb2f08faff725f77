use Rattle.std.proofs.Common.{◌≡◌, ◌∷◌, [], length, map, sym, ap, ◌∙◌, append_assoc, append-nil, arith}
use Rattle.std.specs.Vec.Iter.{into_iter_items}
use Rattle.sdl_productions.specs.BodyViews.{marked_view}
use Rattle.sdl_productions.specs.Marks.{more, gathered}
use Rattle.sdl_productions.proofs.KeptLemmas.{nothing_left}
use Rattle.sdl_productions.proofs.MarkLemmas.{gathered_more}
use Rattle.sdl_productions.proofs.marked.gathered.Goals as goal

pub rows-preserved : goal.rows-preserved
rows-preserved g c =
    let at = c.rows in
    let x = c.in-Some.part in
    let steps : into_iter_items at.part-iterator ≡ x ∷ into_iter_items c.next.new.self = c.in-Some.ensures.steps.0 in (
      append_assoc at.yielded (x ∷ []) _ ∙ rw (← steps) at.invariant.0,
      c.in_ok-found.ensures.ok ∙ ap (λ l. more l (marked_view g.T.Part.view x)) at.invariant.1 ∙ sym (gathered_more (marked_view g.T.Part.view) at.yielded x),
      let was = at.invariant.2 in
          let gone = c.in-Some.ensures.steps.1 in
          let short = ap length steps in
          omega arith,
    )

pub returns-clause-ok : goal.returns-clause-ok
returns-clause-ok g c =
    let at = c.rows in
    let none = c.in-None.ensures.steps in
    let empty : into_iter_items at.part-iterator ≡ [] = nothing_left _ (sym at.invariant.2 ∙ none.0) in
    let all = sym (append-nil at.yielded) ∙ rw empty at at.invariant.0 ∙ c.into_iter-part-iterator.ensures.into_iter_gives.0 in
    at.invariant.1 ∙ ap (λ l. gathered (map (marked_view g.T.Part.view) l)) all
