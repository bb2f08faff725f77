use Rattle.std.proofs.Common.{List, length, sym, ap, ◌∙◌}
use Rattle.std.proofs.lemmas.List.{length-map}
use Rattle.sdl_ast.specs.Views.{text_of, connection_of, process_of}
use Rattle.sdl_ast.specs.Plain.{PlainConnection}
use Rattle.script_covered.specs.Ways.{taken_in}
use Rattle.script_covered.proofs.Walking.{goes_as}
use Rattle.script_covered.proofs.ways.pass.Goals as goal

pub returns : goal.returns
returns c = λ xs has.
    let ids = c.variables.result.now in
    let places = c.args.places.now in
    let x = c.args.input.now in
    goes_as (process_of c.args.process.now) _ _ (text_of c.args.transition.now) _ _ xs c.go.new.counts
    (sym (length-map c.connections_in-joins.result.now connection_of) ∙ ap (λ (l : List PlainConnection). length l) c.connections_in-joins.ensures)
    (c.take_parameters.ensures
    ∙ (ap (λ vs. taken_in ids c.deref.result.now 0 places vs) (ap (λ v. v.items) c.copied_variables-values.ensures)
    ∙ (ap (λ ps. taken_in ids ps 0 places x.variables.items) c.deref.ensures.0
    ∙ ap (λ ns. taken_in ns x.parameters.items 0 places x.variables.items) c.variables.ensures)))
    (c.go.ensures xs has)
