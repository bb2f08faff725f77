use Rattle.std.proofs.Common.{◌≡◌, ◌∙◌, ◌<◌, List, length, ap, subst}
use Rattle.std.specs.Prelude.{All}
use Rattle.std.proofs.lemmas.List.{length-map}
use Rattle.sdl_ast.specs.Views.{text_of, process_of}
use Rattle.sdl_ast.specs.declared.expression.Identifier.{Identifier}
use Rattle.sdl_sound.specs.Statements.{joins_of}
use Rattle.sdl_sound.specs.Orders.{joins_in, targets_of}
use Rattle.sdl_measures.proofs.joins.targets_in.Goals as goal

pub returns-clause-targets : goal.returns-clause-targets
returns-clause-targets c =
    let p = process_of c.args.process.now in
    let joins : c.deref.result.now ≡ joins_of (text_of c.args.transition.now) = c.deref.ensures.value ∙ c.in_ok-joins.ensures in
    c.in_ok-targets.ensures.targets ∙ ap (λ ids. joins_in ids c.deref.result.now) c.connectors.ensures ∙ ap (targets_of p) joins

pub returns-clause-within : goal.returns-clause-within
returns-clause-within c =
    let p = process_of c.args.process.now in
    subst (λ k. All (λ n. n < k) c.in_ok-targets.targets.items)
    (ap (λ (ids : List Identifier). length ids) c.connectors.ensures ∙ length-map p.connections (λ d. d.name)) c.in_ok-targets.ensures.within
