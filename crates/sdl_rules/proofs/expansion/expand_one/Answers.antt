use Rattle.std.proofs.Common.{refl, ap, ◌∙◌, subst}
use Rattle.sdl_ast.specs.Views.{process_of}
use Rattle.sdl_rules.specs.Synonyms.{Sight, and_synonyms}
use Rattle.sdl_rules.specs.Expansion.{own_synonyms_of, expanded_in}
use Rattle.sdl_rules.specs.Faults.{AreOf, synonyms_places, constants_places, process_constants}
use Rattle.sdl_rules.specs.Views.{known_of}
use Rattle.sdl_rules.proofs.Beginnings.{sight_is}
use Rattle.sdl_rules.proofs.expansion.expand_one.Goals as goal

pub returns-clause-process : goal.returns-clause-process
returns-clause-process c =
    let p = process_of c.args.process.now in
    let first = sight_is _ _ _ _ (known_of c.args.outer.now) (known_of c.args.outer.now) c.nothing_known-empty.ensures c.in_ok-hidden.ensures.names refl in
    let seen = c.in_ok-own.ensures.sight ∙ ap (λ (s : Sight). and_synonyms s (own_synonyms_of p)) first in
    c.in_ok-copy.ensures ∙ ap (λ (s : Sight). expanded_in s p) seen

pub returns-clause-strays : goal.returns-clause-strays
returns-clause-strays c =
    let p = process_of c.args.process.now in
    let first = sight_is _ _ _ _ (known_of c.args.outer.now) (known_of c.args.outer.now) c.nothing_known-empty.ensures c.in_ok-hidden.ensures.names refl in
    let seen = c.in_ok-own.ensures.sight ∙ ap (λ (s : Sight). and_synonyms s (own_synonyms_of p)) first in
    c.first_of-strays.ensures _ _
    (subst (λ (s : Sight). AreOf (synonyms_places s (own_synonyms_of p)) c.in_ok-own.own) first c.in_ok-own.ensures.strays)
    (subst (λ (s : Sight). AreOf (constants_places s (process_constants p)) c.strays_in_process-used.result) seen c.strays_in_process-used.ensures)
