-- A text without synonyms is accepted and refused by the rules on what is written.
use Rattle.std.proofs.Common.{◌≡◌, ℕ, List, [], ◌∷◌, ◌++◌, map, drop, None, refl, sym, ap, subst, ◌∙◌, ⊎_elim}
use Rattle.std.specs.Prelude.{Contains}
use Rattle.std.specs.List.{flat_map}
use Rattle.std.proofs.lemmas.List.{append-nil, map-append}
use Rattle.std.proofs.lemmas.List.Elements.{Contains-append_left, Contains-append_right, Contains-append_cases, Contains-push}
use Rattle.std.proofs.lemmas.Grind.{flat_map-append}
use Rattle.plain_laws.proofs.Lists.{append-nil_left, append-nil_right, not_empty}
use Rattle.sdl_ast.specs.declared.expression.Identifier.{Identifier}
use Rattle.sdl_ast.specs.declared.tree.Constant.{Constant}
use Rattle.sdl_ast.specs.Plain.{PlainGroup, PlainSynonym, PlainDeclaration, variables, timers, own_synonyms, PlainProcess, PlainBlock}
use Rattle.sdl_tables.specs.Names.{Variable, group_variables, declared_variables, variable_names, processes_of, signal_names, route_names, process_names}
use Rattle.sdl_tables.specs.Scopes.{repeats, process_scopes, scopes, signal_timers, double_names}
use Rattle.sdl_sound.specs.Names.{unknown_names}
use Rattle.sdl_sound.specs.Sorts.{wrong_sorts}
use Rattle.sdl_sound.specs.Divisors.{bad_divisors}
use Rattle.sdl_sound.specs.Sound.{Sound}
use Rattle.sdl_sound.specs.Refusals.{IsDistinct, IsKnown, IsSorted, IsDivided, Refuses}
use Rattle.sdl_sound.specs.declared.fault.RuleFault.{RuleFault}
use Rattle.sdl_sound.specs.declared.fault.RuleFault.TheVariants.{DoubleName, UnknownName, WrongSort, NoState, NoReceiver, TwoReceivers, JoinCycle, NoAnswer, BadDivisor, Limit, Unset, NoMemory}
use Rattle.sdl_rules.specs.Synonyms.{Known, Sight}
use Rattle.sdl_rules.specs.Expansion.{own_synonyms_in, names_declared, synonym_names, synonyms_of, first_sight, block_known, outer_sight, process_sight, expanded}
use Rattle.sdl_rules.specs.Faults.{Places, no_places, both, all_places, use_places, constant_places, constants_places, synonyms_places, process_constants, process_places, process_doubles, double_synonyms, block_places}
use Rattle.sdl_rules.specs.Texts.{SoundText, RefusesText, AreDistinct, AreKnown, AreSorted, AreDivided}
use Rattle.sdl_rules.specs.Laws.{MeansItself}
use Rattle.sdl_rules.proofs.Literals.{AreLiteral, IsPlainProcess, ArePlain, IsPlain}
use Rattle.sdl_rules.proofs.Refusing.{sorted_of_answered}
use Rattle.sdl_rules.proofs.Unnamed.{plain_is_same}

-- ---- no fault of a synonym

constant_none : (s : Sight) (c : Constant) → c.synonym ≡ None → constant_places s c ≡ no_places
constant_none s c h = ap (use_places s c.is_negated) h

constants_none : (s : Sight) (cs : List Constant) → AreLiteral cs → constants_places s cs ≡ no_places
constants_none s [] h = refl
constants_none s (c ∷ cs) h = ap (λ (p : Places). both p (constants_places s cs)) (constant_none s c h.0) ∙ constants_none s cs h.1

process_none : (k : Known) (p : PlainProcess) → IsPlainProcess p → process_places k p ≡ no_places
process_none k p h =
    ap (λ (ds : List PlainSynonym). both (synonyms_places (outer_sight k p) ds) (constants_places (process_sight k p) (process_constants p))) h.synonyms
    ∙ constants_none (process_sight k p) (process_constants p) h.constants

processes_none : (k : Known) (ps : List PlainProcess) → ArePlain ps → all_places (process_places k) ps ≡ no_places
processes_none k [] h = refl
processes_none k (p ∷ ps) h = ap (λ (x : Places). both x (all_places (process_places k) ps)) (process_none k p h.0) ∙ processes_none k ps h.1

block_none : (b : PlainBlock) → IsPlain b → block_places b ≡ no_places
block_none b h =
    ap (λ (ds : List PlainSynonym). both (synonyms_places first_sight ds) (all_places (process_places (block_known b)) (processes_of b))) h.synonyms
    ∙ processes_none (block_known b) (processes_of b) h.processes

-- ---- the variables of a process, if it has no synonyms

named : (g : PlainGroup) (ids : List Identifier)
    → ids ≡ map (λ v. v.name) (map (λ id. let v : Variable = record { name = id; sort = g.sort; initial = g.initial } in v) ids)
named g [] = refl
named g (id ∷ ids) = ap (λ l. id ∷ l) (named g ids)

group_names : (gs : List PlainGroup) → flat_map (λ g. g.names) gs ≡ map (λ v. v.name) (flat_map group_variables gs)
group_names [] = refl
group_names (g ∷ gs) =
    ap (λ l. l ++ flat_map (λ (x : PlainGroup). x.names) gs) (named g g.names)
    ∙ (ap (λ l. map (λ (v : Variable). v.name) (group_variables g) ++ l) (group_names gs)
    ∙ sym (map-append (λ (v : Variable). v.name) (group_variables g) (flat_map group_variables gs)))

declared_names : (ds : List PlainDeclaration) → flat_map own_synonyms_in ds ≡ [] → flat_map names_declared ds ≡ map (λ v. v.name) (flat_map declared_variables ds)
declared_names [] h = refl
declared_names (variables groups ∷ ds) h =
    ap (λ l. l ++ flat_map names_declared ds) (group_names groups)
    ∙ (ap (λ l. map (λ (v : Variable). v.name) (flat_map group_variables groups) ++ l) (declared_names ds h)
    ∙ sym (map-append (λ (v : Variable). v.name) (flat_map group_variables groups) (flat_map declared_variables ds)))
declared_names (timers names ∷ ds) h = declared_names ds h
declared_names (own_synonyms list ∷ ds) h =
    ap (λ (l : List PlainSynonym). synonym_names l ++ flat_map names_declared ds) (append-nil_left list (flat_map own_synonyms_in ds) h)
    ∙ declared_names ds (append-nil_right list (flat_map own_synonyms_in ds) h)

-- two of one name are two variables of one name
process_repeats : (p : PlainProcess) → IsPlainProcess p → process_doubles p ≡ repeats [] (variable_names p)
process_repeats p h = ap (repeats []) (declared_names p.declarations h.synonyms)

doubles_among : (ps : List PlainProcess) → ArePlain ps → (at : ℕ) → Contains (flat_map process_doubles ps) at → Contains (flat_map (repeats []) (flat_map process_scopes ps)) at
doubles_among [] h at there = there
doubles_among (p ∷ ps) h at there =
    let here : List ℕ = flat_map (repeats []) (process_scopes p) in
    let rest : List ℕ = flat_map (repeats []) (flat_map process_scopes ps) in
    let own : List ℕ = repeats [] (variable_names p) in
    let others : List ℕ = flat_map (repeats []) (drop 1 (process_scopes p)) in
    let first : Contains (process_doubles p) at → Contains (here ++ rest) at =
    λ x. Contains-append_left here rest at (Contains-append_left own others at (subst (λ (l : List ℕ). Contains l at) (process_repeats p h.0) x)) in
    let later : Contains (flat_map process_doubles ps) at → Contains (here ++ rest) at = λ x. Contains-append_right here rest at (doubles_among ps h.1 at x) in
    subst (λ (l : List ℕ). Contains l at) (sym (flat_map-append (repeats []) (process_scopes p) (flat_map process_scopes ps)))
    (⊎_elim first later (Contains-append_cases (process_doubles p) (flat_map process_doubles ps) at there))

doubles_there : (b : PlainBlock) → IsPlain b → (at : ℕ) → Contains (double_synonyms b) at → Contains (double_names b) at
doubles_there b h at there =
    let shorter = subst (λ (ds : List PlainSynonym). Contains (repeats [] (synonym_names ds) ++ flat_map process_doubles (processes_of b)) at) h.synonyms there in
    let among = doubles_among (processes_of b) h.processes at shorter in
    let signals : List ℕ = repeats [] (signal_names b) in
    let routes : List ℕ = repeats [] (route_names b) in
    let processes : List ℕ = repeats [] (process_names b) in
    let all : List ℕ = flat_map (repeats []) (flat_map process_scopes (processes_of b)) in
    Contains-append_left (flat_map (repeats []) (scopes b)) (signal_timers b) at
    (Contains-append_right signals (routes ++ (processes ++ all)) at (Contains-append_right routes (processes ++ all) at (Contains-append_right processes all at among)))

-- ---- refusals

empty_from : (xs ys : List ℕ) → ((x : ℕ) → Contains xs x → Contains ys x) → ys ≡ [] → xs ≡ []
empty_from [] ys goes empty = refl
empty_from (x ∷ xs) ys goes empty = absurd (not_empty ys x (goes x (Contains-append_left (x ∷ []) xs x (Contains-push [] x))) empty)

in_first : (xs ys : List ℕ) (at : ℕ) → ys ≡ [] → Contains (xs ++ ys) at → Contains xs at
in_first xs ys at empty there = subst (λ (l : List ℕ). Contains l at) (ap (λ l. xs ++ l) empty ∙ append-nil xs) there

module _ (b : PlainBlock) (h : IsPlain b) where
  same : expanded b ≡ b
  same = plain_is_same b h

  among : (at : ℕ) → Contains (double_synonyms b) at → Contains (double_names (expanded b)) at
  among at there = subst (λ (x : PlainBlock). Contains (double_names x) at) (sym same) (doubles_there b h at there)

  unknown : (block_places b).unknown ≡ []
  unknown = ap (λ (p : Places). p.unknown) (block_none b h)

  wrong : (block_places b).wrong ≡ []
  wrong = ap (λ (p : Places). p.wrong) (block_none b h)

  divisors : (block_places b).divisors ≡ []
  divisors = ap (λ (p : Places). p.divisors) (block_none b h)

  distinct : IsDistinct (expanded b) → AreDistinct b
  distinct k = (k, empty_from (double_synonyms b) (double_names (expanded b)) among k)

  known : IsKnown (expanded b) → AreKnown b
  known k = (distinct k.0, k, unknown)

  sorted : IsSorted (expanded b) → AreSorted b
  sorted k = (known k.0, k, wrong)

  divided : IsDivided (expanded b) → AreDivided b
  divided k = (sorted (sorted_of_answered (expanded b) k.0), k, divisors)

  text_refuses : (f : RuleFault) → Refuses (expanded b) f → RefusesText b f
  text_refuses (DoubleName at) k = Contains-append_left (double_names (expanded b)) (double_synonyms b) at k
  text_refuses (UnknownName at) k = (distinct k.0, Contains-append_left (unknown_names (expanded b)) (block_places b).unknown at k.1)
  text_refuses (WrongSort at) k = (known k.0, Contains-append_left (wrong_sorts (expanded b)) (block_places b).wrong at k.1)
  text_refuses (NoState at) k = (sorted k.0, k)
  text_refuses (NoReceiver at) k = (sorted k.0.0, k)
  text_refuses (TwoReceivers at) k = (sorted k.0.0.0, k)
  text_refuses (JoinCycle at) k = (sorted k.0.0.0.0, k)
  text_refuses (NoAnswer at) k = (sorted k.0.0.0.0.0, k)
  text_refuses (BadDivisor at) k =
      (sorted (sorted_of_answered (expanded b) k.0), k.0, Contains-append_left (bad_divisors (expanded b)) (block_places b).divisors at k.1)
  text_refuses (Limit which) k = (divided k.0, k)
  text_refuses (Unset x path) k = (divided k.0.0, k)
  text_refuses NoMemory k = tt

  refuses_text : (f : RuleFault) → RefusesText b f → Refuses (expanded b) f
  refuses_text (DoubleName at) k =
      ⊎_elim (λ (x : Contains (double_names (expanded b)) at). x) (among at) (Contains-append_cases (double_names (expanded b)) (double_synonyms b) at k)
  refuses_text (UnknownName at) k = (k.0.0, in_first (unknown_names (expanded b)) (block_places b).unknown at unknown k.1)
  refuses_text (WrongSort at) k = (k.0.1, in_first (wrong_sorts (expanded b)) (block_places b).wrong at wrong k.1)
  refuses_text (NoState at) k = k.1
  refuses_text (NoReceiver at) k = k.1
  refuses_text (TwoReceivers at) k = k.1
  refuses_text (JoinCycle at) k = k.1
  refuses_text (NoAnswer at) k = k.1
  refuses_text (BadDivisor at) k = (k.1, in_first (bad_divisors (expanded b)) (block_places b).divisors at divisors k.2)
  refuses_text (Limit which) k = k.1
  refuses_text (Unset x path) k = k.1
  refuses_text NoMemory k = tt

  sound_text : Sound b → SoundText b
  sound_text s = record {
    sound = subst (λ (x : PlainBlock). Sound x) (sym same) s;
    declared = record {
      distinct = empty_from (double_synonyms b) (double_names b) (doubles_there b h) s.distinct;
      known = unknown;
      sorted = wrong;
      divided = divisors;
    };
  }

  pub means_itself : MeansItself b
  means_itself = record {
    meaning = same;
    accepted = sound_text;
    refused = λ f. (λ k. subst (λ (x : PlainBlock). Refuses x f) same (refuses_text f k), λ k. text_refuses f (subst (λ (x : PlainBlock). Refuses x f) (sym same) k));
  }
