use Rattle.std.proofs.Common.{◌++◌, map, ap, sym, ◌∙◌}
use denote.Ref.{Bor}
use Rattle.sdl_ast.specs.declared.tree.InputPart.{InputPart}
use Rattle.sdl_ast.specs.Views.{clause_of, input_of}
use Rattle.sdl_tables.specs.Names.{clause_parts}
use Rattle.sdl_tables.proofs.Growing.{join_on, join_nothing, pushed}
use Rattle.sdl_tables.proofs.process_table.push_parts.Goals as goal
use Rattle.sdl_tables.proofs.process_table.push_parts.Goals.{in-Input+in_ok-push-in-Input, in-Save}
use Rattle.plain_laws.proofs.Lists.{mapped_more}

pub loop-clause-preserved : goal.loop-clause-preserved
loop-clause-preserved c =
    let more = mapped_more clause_of c.deref-clause-items.result.now c.loop-clause.clause-index c.clause-item.result c.loop-clause-test.true c.clause-item.is in
    elim c.match-clause.branch [
      | in-Input+in_ok-push-in-Input w ↦
          join_on clause_parts _ _ _ _ _ _ more c.loop-clause.invariant (ap (λ v. map (λ (i : Bor InputPart). input_of i.now) v.items) w.parts-is ∙ (pushed (λ (i : Bor InputPart). input_of i.now) _ _ _ w.in_ok-push-in-Input.ensures.items ∙ ap (λ l. map (λ (i : Bor InputPart). input_of i.now) c.loop-clause.parts.items ++ l) (sym (ap (λ d. clause_parts (clause_of d)) w.in-Input.is))))
      | in-Save w ↦
          join_nothing clause_parts _ _ _ _ _ _ more c.loop-clause.invariant (ap (λ v. map (λ (i : Bor InputPart). input_of i.now) v.items) w.parts-is) (ap (λ d. clause_parts (clause_of d)) w.in-Save.is)
    ]
