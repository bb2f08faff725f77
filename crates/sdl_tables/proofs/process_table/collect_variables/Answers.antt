use Rattle.std.proofs.Common.{[], ◌++◌, map, ap, sym, ◌∙◌}
use Rattle.std.specs.List.{flat_map}
use Rattle.sdl_ast.specs.Views.{declaration_of, group_of}
use Rattle.sdl_tables.specs.Rows.{variable_of}
use Rattle.sdl_tables.specs.Names.{declared_variables, group_variables}
use Rattle.sdl_tables.proofs.Growing.{join_on, join_nothing}
use Rattle.sdl_tables.proofs.process_table.collect_variables.Goals as goal
use Rattle.sdl_tables.proofs.process_table.collect_variables.Goals.{in-Variables+in_ok-push_groups-in-Variables, in-Timers, in-Synonyms}
use Rattle.plain_laws.proofs.Lists.{mapped_more}

pub loop-declaration-preserved : goal.loop-declaration-preserved
loop-declaration-preserved c =
    let more = mapped_more declaration_of c.args.declarations.now c.loop-declaration.declaration-index c.declaration-item.result c.loop-declaration-test.true c.declaration-item.is in
    elim c.match-declaration.branch [
      | in-Variables+in_ok-push_groups-in-Variables w ↦
          join_on declared_variables [] _ _ _ _ _ more c.loop-declaration.invariant (ap (λ v. map variable_of v.items) w.rows-is ∙ (w.in_ok-push_groups-in-Variables.ensures ∙ ap (λ l. map variable_of c.loop-declaration.rows.items ++ flat_map group_variables (map group_of l)) w.deref.ensures.value ∙ ap (λ l. map variable_of c.loop-declaration.rows.items ++ l) (sym (ap (λ d. declared_variables (declaration_of d)) w.in-Variables.is))))
      | in-Timers w ↦
          join_nothing declared_variables [] _ _ _ _ _ more c.loop-declaration.invariant (ap (λ v. map variable_of v.items) w.rows-is) (ap (λ d. declared_variables (declaration_of d)) w.in-Timers.is)
      | in-Synonyms w ↦
          join_nothing declared_variables [] _ _ _ _ _ more c.loop-declaration.invariant (ap (λ v. map variable_of v.items) w.rows-is) (ap (λ d. declared_variables (declaration_of d)) w.in-Synonyms.is)
    ]
