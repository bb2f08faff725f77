use Rattle.std.proofs.Common.{◌≡◌, ◌∷◌, [], ◌++◌, length, map, sym, ap, ◌∙◌, append_assoc, append-nil, arith}
use Rattle.std.specs.List.{filter_map}
use Rattle.std.specs.Option.{option_to_list}
use Rattle.std.specs.Vec.Iter.{into_iter_items}
use Rattle.sdl_productions.specs.MarkedParts.{marked_state_in, marked_connection_in}
use Rattle.sdl_tree.specs.SectionViews.{section_of}
use Rattle.sdl_productions.proofs.KeptLemmas.{kept_by, nothing_left}
use Rattle.sdl_tree.proofs.sections.parted.Goals as goal

pub rows-preserved : goal.rows-preserved
rows-preserved c =
    let at = c.rows in
    let x = c.in-Some.section in
    let steps : into_iter_items at.section-iterator ≡ x ∷ into_iter_items c.next.new.self = c.in-Some.ensures.steps.0 in (
      append_assoc at.yielded (x ∷ []) _ ∙ rw (← steps) at.invariant.0,
      c.in_ok-file.ensures.states ∙ ap (λ l. l ++ option_to_list (marked_state_in (section_of x))) at.invariant.1 ∙ sym (kept_by marked_state_in section_of at.yielded x),
      c.in_ok-file.ensures.connections ∙ ap (λ l. l ++ option_to_list (marked_connection_in (section_of x))) at.invariant.2 ∙ sym (kept_by marked_connection_in section_of at.yielded x),
      let was = at.invariant.3 in
          let gone = c.in-Some.ensures.steps.1 in
          let short = ap length steps in
          omega arith,
    )

pub returns-clause-states : goal.returns-clause-states
returns-clause-states c =
    let at = c.rows in
    let none = c.in-None.ensures.steps in
    let empty : into_iter_items at.section-iterator ≡ [] = nothing_left _ (sym at.invariant.3 ∙ none.0) in
    let all = sym (append-nil at.yielded) ∙ rw empty at at.invariant.0 ∙ c.into_iter-section-iterator.ensures.into_iter_gives.0 in
    at.invariant.1 ∙ ap (λ l. filter_map marked_state_in (map section_of l)) all

pub returns-clause-connections : goal.returns-clause-connections
returns-clause-connections c =
    let at = c.rows in
    let none = c.in-None.ensures.steps in
    let empty : into_iter_items at.section-iterator ≡ [] = nothing_left _ (sym at.invariant.3 ∙ none.0) in
    let all = sym (append-nil at.yielded) ∙ rw empty at at.invariant.0 ∙ c.into_iter-section-iterator.ensures.into_iter_gives.0 in
    at.invariant.2 ∙ ap (λ l. filter_map marked_connection_in (map section_of l)) all
