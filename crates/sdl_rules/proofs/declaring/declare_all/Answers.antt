use Rattle.std.proofs.Common.{List, map, take_all, subst, ap, ◌∙◌}
use denote.Ref.{Bor}
use Rattle.sdl_ast.specs.declared.tree.Synonym.{Synonym}
use Rattle.sdl_ast.specs.Views.{synonym_of}
use Rattle.sdl_rules.specs.Synonyms.{and_synonyms}
use Rattle.sdl_rules.specs.Faults.{AreOf, synonyms_places}
use Rattle.sdl_rules.specs.Views.{sight_of}
use Rattle.sdl_rules.proofs.Declares.{declared_next, strays_next}
use Rattle.sdl_rules.proofs.declaring.declare_all.Goals as goal
use Rattle.plain_laws.proofs.Lists.{mapped_more}

pub loop-synonym-preserved : goal.loop-synonym-preserved
loop-synonym-preserved c =
    let more = mapped_more (λ (d : Bor Synonym). synonym_of d.now) c.args.synonyms.now c.loop-synonym.synonym-index c.synonym-item.result c.loop-synonym-test.true c.synonym-item.is in (
      declared_next _ _ _ _ _ _ more c.loop-synonym.invariant.0 c.in_ok-here.ensures.sight,
      strays_next _ _ _ _ _ _ _ _ more c.loop-synonym.invariant.0 c.loop-synonym.invariant.1 c.in_ok-here.ensures.strays c.first_of-found.ensures,
    )

pub returns-clause-sight : goal.returns-clause-sight
returns-clause-sight c =
    c.loop-synonym.invariant.0
    ∙ ap (λ (l : List (Bor Synonym)). and_synonyms (sight_of c.args.sight.now) (map (λ (d : Bor Synonym). synonym_of d.now) l))
    (take_all c.loop-synonym.synonym-index c.args.synonyms.now c.loop-synonym-test.false)

pub returns-clause-strays : goal.returns-clause-strays
returns-clause-strays c =
    subst (λ (l : List (Bor Synonym)). AreOf (synonyms_places (sight_of c.args.sight.now) (map (λ (d : Bor Synonym). synonym_of d.now) l)) c.loop-synonym.found)
    (take_all c.loop-synonym.synonym-index c.args.synonyms.now c.loop-synonym-test.false) c.loop-synonym.invariant.1
