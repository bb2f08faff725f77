use Rattle.std.proofs.Common.{◌≡◌, ◌<◌, ℕ, List, Option, Some, None, length, sym, ap, ◌∙◌, subst}
use Rattle.std.specs.Prelude.{IfSome}
use Rattle.sdl_ast.specs.declared.expression.Identifier.{Identifier}
use Rattle.sdl_ast.specs.Views.{process_of}
use Rattle.sdl_tables.specs.Names.{number_of, states_of}
use Rattle.sdl_unset.proofs.Walkers.{next_there, next_nowhere}
use Rattle.sdl_unset.proofs.walks.walk_next.Goals as goal

pub returns-in-None : goal.returns-in-None
returns-in-None c =
    let p = process_of c.args.table.now in
    let is : number_of (states_of p) c.args.name ≡ None =
    ap (λ (ids : List Identifier). number_of ids c.args.name) (sym c.states.ensures) ∙ (sym c.number.ensures.number ∙ c.in-None.is) in
    next_nowhere p c.args.name c.args.walker.now c.stop.new.self is (c.stop.ensures p)

pub returns-in-Some : goal.returns-in-Some
returns-in-Some c =
    let p = process_of c.args.table.now in
    let n = c.in-Some.state in
    let is : number_of (states_of p) c.args.name ≡ Some n =
    ap (λ (ids : List Identifier). number_of ids c.args.name) (sym c.states.ensures) ∙ (sym c.number.ensures.number ∙ c.in-Some.is) in
    let here : n < length c.states.result.now = subst (λ (o : Option ℕ). IfSome o (λ k. k < length c.states.result.now)) c.in-Some.is c.number.ensures.within in
    let within : n < length (states_of p) = subst (λ (ids : List Identifier). n < length ids) c.states.ensures here in
    next_there p c.args.name n c.args.walker.now c.enter.new.self is (c.enter.ensures p within)
