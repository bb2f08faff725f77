use Rattle.std.proofs.Common.{rules, arith, ◌≡◌, ◌<◌, ◌∷◌, [], List, Some, None, true, false, if◌then◌else◌, length, refl, ap, sym, ◌∙◌}
use Rattle.std.specs.Prelude.{slice_get}
use Rattle.std.proofs.lemmas.List.{length-map}
use Rattle.std.proofs.lemmas.Option.{slice_get_read}
use Rattle.sdl_ast.specs.declared.expression.Identifier.{Identifier}
use Rattle.sdl_ast.specs.Views.{process_of}
use Rattle.sdl_tables.specs.Names.{number_of, connector_names}
use Rattle.sdl_measures.specs.Links.{graph_in}
use Rattle.sdl_measures.proofs.Connectors.{links_length}
use Rattle.sdl_measures.proofs.Returning.{one_within, back_none, back_is, marked_place}
use Rattle.sdl_measures.proofs.order.place_back.Goals as goal

pub returns-in-None : goal.returns-in-None
returns-in-None c = λ connection own.
    let p = process_of c.args.process.now in
    let none : number_of (connector_names p) c.args.join.connector.name ≡ None =
    ap (λ (ids : List Identifier). number_of ids c.args.join.connector.name) (sym c.connectors.ensures) ∙ sym c.in-None.ensures.number in
    back_none p connection c.args.join c.args.own none own

pub marks_from-requires-clause-starts : goal.marks_from-requires-clause-starts
marks_from-requires-clause-starts c =
    let p = process_of c.args.process.now in
    one_within c.in-Some.target (length c.args.links.now)
    (omega (arith, c.in-Some.ensures.within, ap length c.connectors.ensures, length-map p.connections (λ c. c.name), links_length p, ap length c.requires.links, length-map c.args.links.now (λ v. v.items)))

pub returns-then-index : goal.returns-then-index
returns-then-index c = λ connection own.
    let p = process_of c.args.process.now in
    let at : number_of (connector_names p) c.args.join.connector.name ≡ Some c.in-Some.target =
    ap (λ (ids : List Identifier). number_of ids c.args.join.connector.name) (sym c.connectors.ensures) ∙ sym c.in-Some.ensures.number in
    let marks = c.in_ok-marks-in-Some.marks.items in
    let within : c.args.own < length marks = omega (arith, c.in_ok-marks-in-Some.ensures.count, c.requires.within, length-map c.args.links.now (λ v. v.items)) in
    let mark : slice_get marks c.args.own ≡ Some c.index.result.now = slice_get_read marks (length marks) c.args.own c.index.result.now refl within c.index.ensures in
    let is : c.index.result.now ≡ true = search rules in
    marked_place _ c.args.join.at
    (back_is p connection c.args.join c.in-Some.target c.args.own (graph_in c.args.links.now) marks c.index.result.now c.requires.links c.in_ok-marks-in-Some.ensures at own mark
    ∙ ap (λ b. if b then c.args.join.at ∷ [] else []) is)

pub returns : goal.returns
returns c = λ connection own.
    let p = process_of c.args.process.now in
    let at : number_of (connector_names p) c.args.join.connector.name ≡ Some c.in-Some.target =
    ap (λ (ids : List Identifier). number_of ids c.args.join.connector.name) (sym c.connectors.ensures) ∙ sym c.in-Some.ensures.number in
    let marks = c.in_ok-marks-in-Some.marks.items in
    let within : c.args.own < length marks = omega (arith, c.in_ok-marks-in-Some.ensures.count, c.requires.within, length-map c.args.links.now (λ v. v.items)) in
    let mark : slice_get marks c.args.own ≡ Some c.index.result.now = slice_get_read marks (length marks) c.args.own c.index.result.now refl within c.index.ensures in
    let not : c.index.result.now ≡ false = search rules in
    back_is p connection c.args.join c.in-Some.target c.args.own (graph_in c.args.links.now) marks c.index.result.now c.requires.links c.in_ok-marks-in-Some.ensures at own mark
    ∙ ap (λ b. if b then c.args.join.at ∷ [] else []) not
