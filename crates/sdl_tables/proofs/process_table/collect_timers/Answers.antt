use Rattle.std.proofs.Common.{[], ◌++◌, ap, sym, ◌∙◌}
use Rattle.sdl_ast.specs.Views.{declaration_of}
use Rattle.sdl_tables.specs.Names.{timers_in}
use Rattle.sdl_tables.proofs.Growing.{join_on, join_nothing}
use Rattle.sdl_tables.proofs.process_table.collect_timers.Goals as goal
use Rattle.sdl_tables.proofs.process_table.collect_timers.Goals.{in-Variables, in-Timers+in_ok-push_ids-in-Timers, in-Synonyms}
use Rattle.plain_laws.proofs.Lists.{mapped_more}

pub loop-declaration-preserved : goal.loop-declaration-preserved
loop-declaration-preserved c =
    let more = mapped_more declaration_of c.args.declarations.now c.loop-declaration.declaration-index c.declaration-item.result c.loop-declaration-test.true c.declaration-item.is in
    elim c.match-declaration.branch [
      | in-Variables w ↦
          join_nothing timers_in [] _ _ _ _ _ more c.loop-declaration.invariant (ap (λ v. v.items) w.rows-is) (ap (λ d. timers_in (declaration_of d)) w.in-Variables.is)
      | in-Timers+in_ok-push_ids-in-Timers w ↦
          join_on timers_in [] _ _ _ _ _ more c.loop-declaration.invariant (ap (λ v. v.items) w.rows-is ∙ (w.in_ok-push_ids-in-Timers.ensures ∙ ap (λ l. c.loop-declaration.rows.items ++ l) w.deref.ensures.value ∙ ap (λ l. c.loop-declaration.rows.items ++ l) (sym (ap (λ d. timers_in (declaration_of d)) w.in-Timers.is))))
      | in-Synonyms w ↦
          join_nothing timers_in [] _ _ _ _ _ more c.loop-declaration.invariant (ap (λ v. v.items) w.rows-is) (ap (λ d. timers_in (declaration_of d)) w.in-Synonyms.is)
    ]
