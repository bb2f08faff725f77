use Rattle.std.proofs.Common.{◌++◌, map, ap, sym, ◌∙◌}
use Rattle.sdl_ast.specs.Views.{clause_of}
use Rattle.sdl_tables.specs.Rows.{row_input}
use Rattle.sdl_tables.specs.Names.{clause_inputs}
use Rattle.sdl_tables.proofs.Growing.{join_on, join_nothing}
use Rattle.sdl_tables.proofs.input_rows.push_part.Goals as goal
use Rattle.sdl_tables.proofs.input_rows.push_part.Goals.{in-Input+in_ok-push_input-in-Input, in-Save}
use Rattle.plain_laws.proofs.Lists.{mapped_more}

pub loop-clause-preserved : goal.loop-clause-preserved
loop-clause-preserved c =
    let more = mapped_more clause_of c.deref-clause-items.result.now c.loop-clause.clause-index c.clause-item.result c.loop-clause-test.true c.clause-item.is in
    elim c.match-clause.branch [
      | in-Input+in_ok-push_input-in-Input w ↦
          join_on clause_inputs _ _ _ _ _ _ more c.loop-clause.invariant (ap (λ v. map row_input v.items) w.rows-is ∙ (w.in_ok-push_input-in-Input.ensures ∙ ap (λ l. map row_input c.loop-clause.rows.items ++ l) (sym (ap (λ d. clause_inputs (clause_of d)) w.in-Input.is))))
      | in-Save w ↦
          join_nothing clause_inputs _ _ _ _ _ _ more c.loop-clause.invariant (ap (λ v. map row_input v.items) w.rows-is) (ap (λ d. clause_inputs (clause_of d)) w.in-Save.is)
    ]
