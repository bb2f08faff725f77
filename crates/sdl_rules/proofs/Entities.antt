-- The entities of a block with values in place of synonyms, and the faults of its processes.
use Rattle.std.proofs.Common.{◌≡◌, ℕ, ◌+◌, ◌<◌, List, [], ◌∷◌, ◌++◌, length, take, map, get_or, Option, sym, ap, ◌∙◌, subst}
use Rattle.std.specs.List.{flat_map}
use Rattle.plain_laws.proofs.Lists.{mapped_more}
use Rattle.std.proofs.lemmas.Grind.{flat_map-append}
use Rattle.sdl_ast.specs.declared.tree.Entity.{Entity}
use Rattle.sdl_ast.specs.Plain.{PlainProcess, PlainEntity}
use Rattle.sdl_ast.specs.Views.{entity_of}
use Rattle.sdl_tables.specs.Names.{processes_in}
use Rattle.sdl_tables.specs.Scopes.{Marks}
use Rattle.sdl_tables.proofs.Numbers.{joined_push}
use Rattle.sdl_rules.specs.Synonyms.{Known}
use Rattle.sdl_rules.specs.Expansion.{expanded_entity}
use Rattle.sdl_rules.specs.Faults.{Places, both, all_places, AreOf, process_doubles, process_places}
use Rattle.sdl_rules.specs.declared.strays.Strays.{Strays}
use Rattle.sdl_rules.proofs.Copying.{one_more}
use Rattle.sdl_rules.proofs.FaultPlaces.{all_places-append}

-- the processes of one more entity
pub processes_more : (es : List Entity) (i : ℕ) (e : Entity) → i < length es → e ≡ get_or es i e
    → flat_map processes_in (map entity_of (take (i + 1) es)) ≡ flat_map processes_in (map entity_of (take i es)) ++ processes_in (entity_of e)
processes_more es i e within is =
    ap (flat_map processes_in) (mapped_more entity_of es i e within is) ∙ joined_push processes_in (map entity_of (take i es)) (entity_of e)

pub entities_next : (k : Known) (es copies new : List Entity) (i : ℕ) (e copy : Entity) → i < length es → e ≡ get_or es i e
    → map entity_of copies ≡ map (expanded_entity k) (map entity_of (take i es)) → new ≡ copies ++ copy ∷ [] → entity_of copy ≡ expanded_entity k (entity_of e)
    → map entity_of new ≡ map (expanded_entity k) (map entity_of (take (i + 1) es))
entities_next k es copies new i e copy within is before more one = one_more entity_of (expanded_entity k) es copies new i e copy within is before more one

pub doubles_next : (es : List Entity) (i : ℕ) (e : Entity) (found here next : Option ℕ) → i < length es → e ≡ get_or es i e
    → Marks found (flat_map process_doubles (flat_map processes_in (map entity_of (take i es)))) → Marks here (flat_map process_doubles (processes_in (entity_of e)))
    → ((xs ys : List ℕ) → Marks found xs → Marks here ys → Marks next (xs ++ ys))
    → Marks next (flat_map process_doubles (flat_map processes_in (map entity_of (take (i + 1) es))))
doubles_next es i e found here next within is so_far one joins =
    subst (Marks next)
    (sym (ap (flat_map process_doubles) (processes_more es i e within is)
    ∙ flat_map-append process_doubles (flat_map processes_in (map entity_of (take i es))) (processes_in (entity_of e))))
    (joins _ _ so_far one)

pub faults_next : (k : Known) (es : List Entity) (i : ℕ) (e : Entity) (found here next : Strays) → i < length es → e ≡ get_or es i e
    → AreOf (all_places (process_places k) (flat_map processes_in (map entity_of (take i es)))) found → AreOf (all_places (process_places k) (processes_in (entity_of e))) here
    → ((p q : Places) → AreOf p found → AreOf q here → AreOf (both p q) next)
    → AreOf (all_places (process_places k) (flat_map processes_in (map entity_of (take (i + 1) es)))) next
faults_next k es i e found here next within is so_far one joins =
    subst (λ (p : Places). AreOf p next)
    (sym (ap (all_places (process_places k)) (processes_more es i e within is)
    ∙ all_places-append (process_places k) (flat_map processes_in (map entity_of (take i es))) (processes_in (entity_of e))))
    (joins (all_places (process_places k) (flat_map processes_in (map entity_of (take i es)))) (all_places (process_places k) (processes_in (entity_of e))) so_far one)
