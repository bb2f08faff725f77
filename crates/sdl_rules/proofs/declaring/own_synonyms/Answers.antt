use Rattle.std.proofs.Common.{[], ◌++◌, map, ap, sym, ◌∙◌}
use Rattle.std.specs.List.{flat_map}
use denote.Ref.{Bor}
use Rattle.sdl_ast.specs.declared.tree.Synonym.{Synonym}
use Rattle.sdl_ast.specs.Views.{declaration_of, synonym_of}
use Rattle.sdl_rules.specs.Expansion.{own_synonyms_in}
use Rattle.sdl_tables.proofs.Growing.{join_on, join_nothing}
use Rattle.sdl_rules.proofs.declaring.own_synonyms.Goals as goal
use Rattle.sdl_rules.proofs.declaring.own_synonyms.Goals.{in-Synonyms+in_ok-push_synonyms-in-Synonyms, in-Variables, in-Timers}
use Rattle.plain_laws.proofs.Lists.{mapped_more}

pub loop-declaration-preserved : goal.loop-declaration-preserved
loop-declaration-preserved c =
    let more = mapped_more declaration_of c.args.declarations.now c.loop-declaration.declaration-index c.declaration-item.result c.loop-declaration-test.true c.declaration-item.is in
    elim c.match-declaration.branch [
      | in-Synonyms+in_ok-push_synonyms-in-Synonyms w ↦
          join_on own_synonyms_in [] _ _ _ _ _ more c.loop-declaration.invariant (ap (λ v. map (λ (d : Bor Synonym). synonym_of d.now) v.items) w.synonyms-is ∙ (w.in_ok-push_synonyms-in-Synonyms.ensures ∙ ap (λ l. map (λ (d : Bor Synonym). synonym_of d.now) c.loop-declaration.synonyms.items ++ map synonym_of l) w.deref.ensures.value ∙ ap (λ l. map (λ (d : Bor Synonym). synonym_of d.now) c.loop-declaration.synonyms.items ++ l) (sym (ap (λ d. own_synonyms_in (declaration_of d)) w.in-Synonyms.is))))
      | in-Variables w ↦
          join_nothing own_synonyms_in [] _ _ _ _ _ more c.loop-declaration.invariant (ap (λ v. map (λ (d : Bor Synonym). synonym_of d.now) v.items) w.synonyms-is) (ap (λ d. own_synonyms_in (declaration_of d)) w.in-Variables.is)
      | in-Timers w ↦
          join_nothing own_synonyms_in [] _ _ _ _ _ more c.loop-declaration.invariant (ap (λ v. map (λ (d : Bor Synonym). synonym_of d.now) v.items) w.synonyms-is) (ap (λ d. own_synonyms_in (declaration_of d)) w.in-Timers.is)
    ]
