use Rattle.std.proofs.Common.{◌≡◌, ◌∷◌, [], ◌++◌, length, map, sym, ap, ◌∙◌, append_assoc, append-nil, arith}
use Rattle.std.specs.List.{filter_map}
use Rattle.std.specs.Option.{option_map, option_to_list}
use Rattle.std.specs.Vec.Iter.{into_iter_items}
use Rattle.sdl_ast.specs.Views.{assignment_of}
use Rattle.sdl_productions.proofs.KeptLemmas.{kept_more, nothing_left}
use Rattle.sdl_tree.proofs.actions.kept.Goals as goal

pub rows-preserved : goal.rows-preserved
rows-preserved c =
    let at = c.rows in
    let x = c.in-Some.item in
    let steps : into_iter_items at.item-iterator ≡ x ∷ into_iter_items c.next.new.self = c.in-Some.ensures.steps.0 in (
      append_assoc at.yielded (x ∷ []) _ ∙ rw (← steps) at.invariant.0,
      c.in_ok-keep.ensures.ok ∙ ap (λ l. l ++ option_to_list (option_map assignment_of x)) at.invariant.1 ∙ sym (kept_more (option_map assignment_of) at.yielded x),
      let was = at.invariant.2 in
          let gone = c.in-Some.ensures.steps.1 in
          let short = ap length steps in
          omega arith,
    )

pub returns-clause-ok : goal.returns-clause-ok
returns-clause-ok c =
    let at = c.rows in
    let none = c.in-None.ensures.steps in
    let empty : into_iter_items at.item-iterator ≡ [] = nothing_left _ (sym at.invariant.2 ∙ none.0) in
    let all = sym (append-nil at.yielded) ∙ rw empty at at.invariant.0 ∙ c.into_iter-item-iterator.ensures.into_iter_gives.0 in
    at.invariant.1 ∙ ap (λ l. filter_map (λ i. i) (map (option_map assignment_of) l)) all
