use Rattle.std.proofs.Common.{List, map, ap, ◌∙◌, subst}
use Rattle.std.specs.List.{flat_map}
use Rattle.std.proofs.lemmas.Result.{on_ok_weaker, IfOk-weaker}
use denote.Ref.{Bor}
use Rattle.sdl_ast.specs.declared.tree.Synonym.{Synonym}
use Rattle.sdl_ast.specs.declared.tree.Declaration.{Declaration}
use Rattle.sdl_ast.specs.Plain.{PlainSynonym}
use Rattle.sdl_ast.specs.Views.{declaration_of, synonym_of}
use Rattle.sdl_rules.specs.Synonyms.{and_synonyms}
use Rattle.sdl_rules.specs.Expansion.{own_synonyms_in}
use Rattle.sdl_rules.specs.Faults.{AreOf, synonyms_places}
use Rattle.sdl_rules.specs.Views.{sight_of}
use Rattle.sdl_rules.proofs.expansion.declare_own.Goals as goal

pub returns-clause-sight : goal.returns-clause-sight
returns-clause-sight c =
    let same = ap (map (λ (d : Bor Synonym). synonym_of d.now)) c.deref-2.ensures.value
    ∙ (c.in_ok-synonyms.ensures ∙ ap (λ (l : List Declaration). flat_map own_synonyms_in (map declaration_of l)) c.deref.ensures.value) in
    on_ok_weaker c.declare_all.result (λ h. h ∙ ap (and_synonyms (sight_of c.args.sight.now)) same) c.declare_all.ensures.sight

pub returns-clause-strays : goal.returns-clause-strays
returns-clause-strays c =
    let same = ap (map (λ (d : Bor Synonym). synonym_of d.now)) c.deref-2.ensures.value
    ∙ (c.in_ok-synonyms.ensures ∙ ap (λ (l : List Declaration). flat_map own_synonyms_in (map declaration_of l)) c.deref.ensures.value) in
    IfOk-weaker c.declare_all.result _ _
    (λ found h. subst (λ (l : List PlainSynonym). AreOf (synonyms_places (sight_of c.args.sight.now) l) found) same h) c.declare_all.ensures.strays
