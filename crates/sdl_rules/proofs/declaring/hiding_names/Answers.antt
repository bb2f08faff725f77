use Rattle.std.proofs.Common.{[], ◌++◌, map, ap, sym, ◌∙◌}
use Rattle.std.specs.List.{flat_map}
use Rattle.sdl_ast.specs.Views.{declaration_of, group_of, synonym_of}
use Rattle.sdl_rules.specs.Expansion.{names_declared, synonym_names}
use Rattle.sdl_tables.proofs.Growing.{join_on, join_nothing}
use Rattle.sdl_rules.proofs.declaring.hiding_names.Goals as goal
use Rattle.sdl_rules.proofs.declaring.hiding_names.Goals.{in-Variables+in_ok-push_groups-in-Variables, in-Synonyms+in_ok-push_names-in-Synonyms, in-Timers}
use Rattle.plain_laws.proofs.Lists.{mapped_more}

pub loop-declaration-preserved : goal.loop-declaration-preserved
loop-declaration-preserved c =
    let more = mapped_more declaration_of c.args.declarations.now c.loop-declaration.declaration-index c.declaration-item.result c.loop-declaration-test.true c.declaration-item.is in
    elim c.match-declaration.branch [
      | in-Variables+in_ok-push_groups-in-Variables w ↦
          join_on names_declared [] _ _ _ _ _ more c.loop-declaration.invariant (ap (λ v. v.items) w.names-is ∙ (w.in_ok-push_groups-in-Variables.ensures ∙ ap (λ l. c.loop-declaration.names.items ++ flat_map (λ g. g.names) (map group_of l)) w.deref.ensures.value ∙ ap (λ l. c.loop-declaration.names.items ++ l) (sym (ap (λ d. names_declared (declaration_of d)) w.in-Variables.is))))
      | in-Synonyms+in_ok-push_names-in-Synonyms w ↦
          join_on names_declared [] _ _ _ _ _ more c.loop-declaration.invariant (ap (λ v. v.items) w.names-is ∙ (w.in_ok-push_names-in-Synonyms.ensures ∙ ap (λ l. c.loop-declaration.names.items ++ synonym_names (map synonym_of l)) w.deref-in-Synonyms.ensures.value ∙ ap (λ l. c.loop-declaration.names.items ++ l) (sym (ap (λ d. names_declared (declaration_of d)) w.in-Synonyms.is))))
      | in-Timers w ↦
          join_nothing names_declared [] _ _ _ _ _ more c.loop-declaration.invariant (ap (λ v. v.items) w.names-is) (ap (λ d. names_declared (declaration_of d)) w.in-Timers.is)
    ]
