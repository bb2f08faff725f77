use Rattle.std.proofs.Common.{◌≡◌, ◌∙◌, ap, sym, List, [], ◌∷◌, Some, None}
use Rattle.std.specs.List.{flat_map}
use Rattle.sdl_ast.specs.declared.expression.Identifier.{Identifier}
use Rattle.sdl_ast.specs.Views.{process_of}
use Rattle.sdl_tables.specs.Names.{variable_names, timers_of, connector_names, number_of, triggers_by_state}
use Rattle.sdl_tables.specs.Scopes.{repeats}
use Rattle.plain_laws.proofs.Lists.{append-nil_left}
use Rattle.sdl_unset.proofs.Bits.{bit_named, bit_past, bit_none}
use Rattle.sdl_unset.proofs.flow.bit.Goals as goal

pub returns-then-number-lt32 : goal.returns-then-number-lt32
returns-then-number-lt32 c =
    let p = process_of c.args.table.now in
    let distinct : repeats [] (variable_names p) ≡ [] = append-nil_left (repeats [] (variable_names p)) (flat_map (repeats []) (timers_of p ∷ connector_names p ∷ triggers_by_state p)) c.process-distinct.ensures.distinct in
    let is : number_of (variable_names p) c.args.name ≡ Some c.in-Some.number =
    ap (λ (ids : List Identifier). number_of ids c.args.name) (sym c.variables.ensures) ∙ (sym c.number.ensures.number ∙ c.in-Some.is) in
    bit_named (variable_names p) c.args.name c.in-Some.number distinct is c.if-number-lt32.true

pub returns-else-number-lt32 : goal.returns-else-number-lt32
returns-else-number-lt32 c =
    let p = process_of c.args.table.now in
    let distinct : repeats [] (variable_names p) ≡ [] = append-nil_left (repeats [] (variable_names p)) (flat_map (repeats []) (timers_of p ∷ connector_names p ∷ triggers_by_state p)) c.process-distinct.ensures.distinct in
    let is : number_of (variable_names p) c.args.name ≡ Some c.in-Some.number =
    ap (λ (ids : List Identifier). number_of ids c.args.name) (sym c.variables.ensures) ∙ (sym c.number.ensures.number ∙ c.in-Some.is) in
    bit_past (variable_names p) c.args.name c.in-Some.number distinct is c.if-number-lt32.false

pub returns-in-None : goal.returns-in-None
returns-in-None c =
    let p = process_of c.args.table.now in
    let is : number_of (variable_names p) c.args.name ≡ None =
    ap (λ (ids : List Identifier). number_of ids c.args.name) (sym c.variables.ensures) ∙ (sym c.number.ensures.number ∙ c.in-None.is) in
    bit_none (variable_names p) c.args.name is
