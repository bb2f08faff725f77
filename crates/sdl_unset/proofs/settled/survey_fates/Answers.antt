use Rattle.std.proofs.Common.{◌≡◌, ◌<◌, ◌≤◌, ℕ, List, Option, Some, length, arith, sym, ap, ◌∙◌, subst}
use Rattle.std.specs.Prelude.{IfNone, IfSome, slice_get}
use Rattle.sdl_ast.specs.Views.{process_of, block_of}
use Rattle.sdl_ast.specs.declared.expression.Identifier.{Identifier}
use Rattle.sdl_tables.specs.Names.{variable_names, states_of}
use Rattle.sdl_unset.specs.Fates.{AreSet, IsUnsetAt, fate_path, HasFirst}
use Rattle.sdl_unset.proofs.Surveying.{survey_steps, survey_reads, survey_names, survey_shortest, survey_first, number_within}
use Rattle.sdl_unset.proofs.Settling.{settled, never}
use Rattle.plain_laws.specs.Limits.{MOST_VARIABLES}
use Rattle.sdl_unset.proofs.settled.survey_fates.Goals as goal

pub sets_in-requires : goal.sets_in-requires
sets_in-requires c = subst (λ (n : ℕ). n ≤ MOST_VARIABLES) (sym c.requires.fates.count) c.requires.few

pub returns-in_ok-sets-in-None : goal.returns-in_ok-sets-in-None
returns-in_ok-sets-in-None c =
    let p = process_of c.args.table.now in
    let fates = c.args.fates.now in
    let set : AreSet fates = subst (λ (o : Option ℕ). IfNone o (AreSet fates)) c.in-None.is c.find_first.ensures.none in
    let count : length c.in_ok-sets-in-None.sets.items ≡ length (states_of p) =
    c.in_ok-sets-in-None.ensures.count ∙ (c.len.ensures ∙ ap length c.states.ensures) in (
      settled p fates c.in_ok-sets-in-None.sets.items c.requires.fates set count c.in_ok-sets-in-None.ensures.bits,
      never (block_of c.args.block.now) p fates c.requires.known c.requires.fates set,
    )

pub name-variable-requires : goal.name-variable-requires
name-variable-requires c =
    let p = process_of c.args.table.now in
    let fates = c.args.fates.now in
    let unset : IsUnsetAt fates c.in-Some.number =
    subst (λ (o : Option ℕ). IfSome o (IsUnsetAt fates)) c.in-Some.is c.find_first.ensures.found in
    let within : c.in-Some.number < length (variable_names p) = number_within p fates c.in-Some.number c.requires.fates unset in
    omega (arith, within, ap length c.variables.ensures)

pub named_path-requires : goal.named_path-requires
named_path-requires c =
    let fates = c.args.fates.now in
    let n = c.in-Some.number in
    let unset : IsUnsetAt fates n = subst (λ (o : Option ℕ). IfSome o (IsUnsetAt fates)) c.in-Some.is c.find_first.ensures.found in
    survey_steps (process_of c.args.table.now) fates n c.requires.fates unset c.path_at.result.now c.path_at.ensures

pub returns-in_ok-path-in-Some : goal.returns-in_ok-path-in-Some
returns-in_ok-path-in-Some c =
    let b = block_of c.args.block.now in
    let p = process_of c.args.table.now in
    let fates = c.args.fates.now in
    let n = c.in-Some.number in
    let unset : IsUnsetAt fates n = subst (λ (o : Option ℕ). IfSome o (IsUnsetAt fates)) c.in-Some.is c.find_first.ensures.found in
    let path : c.path_at.result.now ≡ fate_path fates n = c.path_at.ensures in
    let var : slice_get (variable_names p) n ≡ Some c.name-variable.result =
    ap (λ (ids : List Identifier). slice_get ids n) (sym c.variables.ensures) ∙ c.name-variable.ensures in
    let steps = c.in_ok-path-in-Some.path.steps.items in
    let named = c.in_ok-path-in-Some.ensures.named in
    let first : HasFirst fates n = subst (λ (o : Option ℕ). IfSome o (HasFirst fates)) c.in-Some.is c.find_first.ensures.first in (
      (
        survey_reads p fates n c.requires.fates unset c.path_at.result.now path c.name-variable.result var steps named,
        survey_names b p n c.name-variable.result c.path_at.result.now steps c.requires.known var named c.in_ok-path-in-Some.ensures.spelled,
      ),
      survey_shortest b p fates n c.requires.known c.requires.fates first c.path_at.result.now path steps named,
      survey_first b p fates n c.requires.known c.requires.fates first c.path_at.result.now path steps named,
    )
