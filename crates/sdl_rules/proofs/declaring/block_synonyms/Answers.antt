use Rattle.std.proofs.Common.{[], ◌++◌, map, ap, sym, ◌∙◌}
use Rattle.std.specs.List.{flat_map}
use denote.Ref.{Bor}
use Rattle.sdl_ast.specs.declared.tree.Synonym.{Synonym}
use Rattle.sdl_ast.specs.Views.{entity_of, synonym_of}
use Rattle.sdl_rules.specs.Expansion.{synonyms_in}
use Rattle.sdl_tables.proofs.Growing.{join_on, join_nothing}
use Rattle.sdl_rules.proofs.declaring.block_synonyms.Goals as goal
use Rattle.sdl_rules.proofs.declaring.block_synonyms.Goals.{in-Synonyms+in_ok-push_synonyms-in-Synonyms, in-Signals, in-Route, in-Connect, in-Process}
use Rattle.plain_laws.proofs.Lists.{mapped_more}

pub loop-entity-preserved : goal.loop-entity-preserved
loop-entity-preserved c =
    let more = mapped_more entity_of c.args.entities.now c.loop-entity.entity-index c.entity-item.result c.loop-entity-test.true c.entity-item.is in
    elim c.match-entity.branch [
      | in-Synonyms+in_ok-push_synonyms-in-Synonyms w ↦
          join_on synonyms_in [] _ _ _ _ _ more c.loop-entity.invariant (ap (λ v. map (λ (d : Bor Synonym). synonym_of d.now) v.items) w.synonyms-is ∙ (w.in_ok-push_synonyms-in-Synonyms.ensures ∙ ap (λ l. map (λ (d : Bor Synonym). synonym_of d.now) c.loop-entity.synonyms.items ++ map synonym_of l) w.deref.ensures.value ∙ ap (λ l. map (λ (d : Bor Synonym). synonym_of d.now) c.loop-entity.synonyms.items ++ l) (sym (ap (λ d. synonyms_in (entity_of d)) w.in-Synonyms.is))))
      | in-Signals w ↦
          join_nothing synonyms_in [] _ _ _ _ _ more c.loop-entity.invariant (ap (λ v. map (λ (d : Bor Synonym). synonym_of d.now) v.items) w.synonyms-is) (ap (λ d. synonyms_in (entity_of d)) w.in-Signals.is)
      | in-Route w ↦
          join_nothing synonyms_in [] _ _ _ _ _ more c.loop-entity.invariant (ap (λ v. map (λ (d : Bor Synonym). synonym_of d.now) v.items) w.synonyms-is) (ap (λ d. synonyms_in (entity_of d)) w.in-Route.is)
      | in-Connect w ↦
          join_nothing synonyms_in [] _ _ _ _ _ more c.loop-entity.invariant (ap (λ v. map (λ (d : Bor Synonym). synonym_of d.now) v.items) w.synonyms-is) (ap (λ d. synonyms_in (entity_of d)) w.in-Connect.is)
      | in-Process w ↦
          join_nothing synonyms_in [] _ _ _ _ _ more c.loop-entity.invariant (ap (λ v. map (λ (d : Bor Synonym). synonym_of d.now) v.items) w.synonyms-is) (ap (λ d. synonyms_in (entity_of d)) w.in-Process.is)
    ]
