use Rattle.std.proofs.Common.{[], List, map, ap, ◌∙◌, subst}
use Rattle.std.specs.List.{flat_map}
use denote.Ref.{Bor}
use Rattle.sdl_ast.specs.declared.expression.Identifier.{Identifier}
use Rattle.sdl_ast.specs.declared.tree.Synonym.{Synonym}
use Rattle.sdl_ast.specs.Plain.{PlainSynonym}
use Rattle.sdl_ast.specs.Views.{entity_of, synonym_of}
use Rattle.sdl_tables.specs.Scopes.{Marks, repeats}
use Rattle.sdl_rules.specs.Synonyms.{Sight, and_synonyms}
use Rattle.sdl_rules.specs.Expansion.{synonyms_in, synonym_names, first_sight}
use Rattle.sdl_rules.specs.Faults.{AreOf, synonyms_places}
use Rattle.sdl_rules.proofs.Beginnings.{sight_is}
use Rattle.sdl_rules.proofs.expansion.declare_block.Goals as goal

pub returns-clause-known : goal.returns-clause-known
returns-clause-known c =
    let first = sight_is _ _ _ _ _ _ c.nothing_known-own.ensures c.new-hidden.ensures c.nothing_known-nothing.ensures in
    let same = ap (map (λ (d : Bor Synonym). synonym_of d.now)) c.deref-3.ensures.value ∙ c.in_ok-synonyms.ensures in
    ap (λ (s : Sight). s.own)
    (c.in_ok-strays.ensures.sight
    ∙ (ap (λ (s : Sight). and_synonyms s (map (λ (d : Bor Synonym). synonym_of d.now) c.deref-3.result.now)) first ∙ ap (and_synonyms first_sight) same))

pub returns-clause-double : goal.returns-clause-double
returns-clause-double c =
    let same = ap (map (λ (d : Bor Synonym). synonym_of d.now)) c.deref.ensures.value ∙ c.in_ok-synonyms.ensures in
    let named = c.deref-2.ensures.value ∙ (c.in_ok-names.ensures ∙ ap synonym_names same) in
    subst (λ (ids : List Identifier). Marks c.in_ok-double.field-0.double (repeats [] ids)) named c.in_ok-double.ensures.double

pub returns-clause-strays : goal.returns-clause-strays
returns-clause-strays c =
    let first = sight_is _ _ _ _ _ _ c.nothing_known-own.ensures c.new-hidden.ensures c.nothing_known-nothing.ensures in
    let same = ap (map (λ (d : Bor Synonym). synonym_of d.now)) c.deref-3.ensures.value ∙ c.in_ok-synonyms.ensures in
    subst (λ (l : List PlainSynonym). AreOf (synonyms_places first_sight l) c.in_ok-strays.strays) same
    (subst (λ (s : Sight). AreOf (synonyms_places s (map (λ (d : Bor Synonym). synonym_of d.now) c.deref-3.result.now)) c.in_ok-strays.strays) first c.in_ok-strays.ensures.strays)
