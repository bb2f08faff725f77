use Rattle.std.proofs.Common.{◌≡◌, [], List, map, ap, ◌∙◌, subst}
use Rattle.std.specs.List.{flat_map}
use Rattle.sdl_ast.specs.declared.tree.Entity.{Entity}
use Rattle.sdl_ast.specs.Plain.{PlainEntity, PlainBlock}
use Rattle.sdl_ast.specs.Views.{entity_of, block_of}
use Rattle.sdl_tables.specs.Names.{processes_in}
use Rattle.sdl_tables.specs.Scopes.{Marks, repeats}
use Rattle.sdl_rules.specs.Synonyms.{Known, and_synonyms}
use Rattle.sdl_rules.specs.Expansion.{synonyms_in, synonym_names, first_sight, block_known, expanded_entity}
use Rattle.sdl_rules.specs.Faults.{AreOf, synonyms_places, all_places, process_doubles, process_places}
use Rattle.sdl_rules.specs.Views.{known_of}
use Rattle.sdl_rules.proofs.expansion.expand.Goals as goal

pub returns : goal.returns
returns c =
    let b = block_of c.args.block.now in
    let first = c.in_ok-known.field-0 in
    let second = c.in_ok-entities.field-0 in
    let known : known_of first.known ≡ block_known b =
    c.in_ok-known.ensures.known ∙ ap (λ (l : List Entity). (and_synonyms first_sight (flat_map synonyms_in (map entity_of l))).own) c.deref.ensures.value in
    let entities : map entity_of second.entities.items ≡ map (expanded_entity (block_known b)) (map entity_of c.args.block.now.entities.items) =
    c.in_ok-entities.ensures.entities
    ∙ (ap (λ (k : Known). map (expanded_entity k) (map entity_of c.deref-2.result.now)) known
    ∙ ap (λ (l : List Entity). map (expanded_entity (block_known b)) (map entity_of l)) c.deref-2.ensures.value) in
    let own_doubles = subst (λ (l : List Entity). Marks first.declared.double (repeats [] (synonym_names (flat_map synonyms_in (map entity_of l)))))
    c.deref.ensures.value c.in_ok-known.ensures.double in
    let inner_doubles = subst (λ (l : List Entity). Marks second.declared.double (flat_map process_doubles (flat_map processes_in (map entity_of l))))
    c.deref-2.ensures.value c.in_ok-entities.ensures.double in
    let own_faults = subst (λ (l : List Entity). AreOf (synonyms_places first_sight (flat_map synonyms_in (map entity_of l))) first.declared.strays)
    c.deref.ensures.value c.in_ok-known.ensures.strays in
    let inner_there = subst (λ (k : Known). AreOf (all_places (process_places k) (flat_map processes_in (map entity_of c.deref-2.result.now))) second.declared.strays)
    known c.in_ok-entities.ensures.strays in
    let inner_faults = subst (λ (l : List Entity). AreOf (all_places (process_places (block_known b)) (flat_map processes_in (map entity_of l))) second.declared.strays)
    c.deref-2.ensures.value inner_there in
    record {
      block = ap (λ (l : List PlainEntity). let x : PlainBlock = record { name = c.args.block.now.name; entities = l } in x) entities;
      known = known;
      declared = record {
        double = c.both-declared.ensures.double _ _ own_doubles inner_doubles;
        strays = c.both-declared.ensures.strays _ _ own_faults inner_faults;
      };
    }
