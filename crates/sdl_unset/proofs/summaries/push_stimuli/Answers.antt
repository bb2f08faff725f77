use Rattle.std.proofs.Common.{sym, subst, map, take, List, Option, ◌++◌, ◌+◌}
use Rattle.std.specs.List.{AllZip}
use Rattle.sdl_unset.specs.declared.paths.Summary.{Summary}
use Rattle.sdl_ast.specs.declared.expression.Identifier.{Identifier}
use Rattle.sdl_ast.specs.declared.tree.Stimulus.{Stimulus}
use Rattle.sdl_ast.specs.Views.{stimulus_of, process_of}
use Rattle.sdl_tables.specs.Names.{Input}
use Rattle.sdl_sound.specs.Paths.{input_transition}
use Rattle.sdl_unset.specs.Flows.{Does, place_events, IsSummaryBy}
use Rattle.plain_laws.proofs.Pairwise.{zip_behind}
use Rattle.sdl_unset.proofs.summaries.push_stimuli.Goals as goal

pub loop-stimulus-preserved : goal.loop-stimulus-preserved
loop-stimulus-preserved c = λ before at text walked old.
    let p = process_of c.args.table.now in
    let all = c.args.stimuli.now in
    let i = c.loop-stimulus.stimulus-index in
    let s = c.stimulus-item.result in
    let R = λ (input : Input) (s : Summary). IsSummaryBy p (input_transition input) s in
    let g : Stimulus → Input = λ s. record { at = at; stimulus = stimulus_of s; text = text } in
    let places = subst (λ (ids : List (Option Identifier)). Does p (place_events ids) c.places_flow-places.result) c.deref.ensures.value c.places_flow-places.ensures in
    subst (λ (ys : List Summary). AllZip R (before ++ map g (take (i + 1) all)) ys) (sym c.in_ok-push.ensures.items)
    (zip_behind R g before all i s c.loop-stimulus.summaries.items c.in_ok-summary.field-0 c.loop-stimulus-test.true c.stimulus-item.is
    (c.loop-stimulus.invariant before at text walked old) (c.in_ok-summary.ensures (place_events s.places.items) text places walked))
