-- The tables of a block agree with the block.
use Rattle.std.proofs.Common.{◌≡◌, ℕ, ◌<◌, ◌≤◌, nat_lt, List, [], ◌∷◌, ◌++◌, map, length, Option, None, Some, Contains, slice_get, if◌then◌else◌, refl, sym, ap, ◌∙◌, subst, get_or}
use Rattle.std.specs.List.{flat_map, position_or_len}
use Rattle.std.specs.Option.{option_map, option_and_then}
use Rattle.std.proofs.lemmas.List.{append-nil}
use Rattle.std.proofs.lemmas.Option.{slice_get_past, slice_get-get_or, slice_get-map}
use denote.Ref.{Bor}
use Rattle.sdl_ast.specs.declared.tree.SignalDeclaration.{SignalDeclaration}
use Rattle.sdl_ast.specs.Views.{signal_of, route_of, process_of}
use Rattle.sdl_ast.specs.declared.tree.Process as the_process
use Rattle.sdl_ast.specs.declared.tree.Route as the_route
use Rattle.sdl_tables.proofs.States.{map-map}
use Rattle.std.proofs.lemmas.Grind.{flat_map-append}
use Rattle.sdl_ast.specs.declared.expression.Identifier.{Identifier}
use Rattle.sdl_ast.specs.Plain.{PlainSignal, PlainProcess, PlainBlock}
use Rattle.sdl_tables.specs.Names.{same_name, is_in, names_once, number_of, signal_names, route_names, process_names, signals_of, routes_of, processes_of, signal_named, timers_of}
use Rattle.sdl_tables.specs.Scopes.{Marks, repeats, process_scopes, shared, signal_timers}
use Rattle.sdl_tables.proofs.Repeats.{is_in-names_once}
use Rattle.plain_laws.proofs.Lists.{append-nil_right, not_empty}
use Rattle.plain_laws.proofs.Searches.{position-map, find-at}

pub flat_map-push : {X : Type 0} (f : X → List ℕ) (xs : List X) (x : X) → flat_map f (xs ++ x ∷ []) ≡ flat_map f xs ++ f x
flat_map-push f xs x = flat_map-append f xs (x ∷ []) ∙ ap (λ r. flat_map f xs ++ r) (append-nil (f x))

-- Appends an element that has no place.
pub Marks-nothing : {X : Type 0} (f : X → List ℕ) (xs : List X) (x : X) (place : Option ℕ)
    → Marks place (flat_map f xs) → f x ≡ [] → Marks place (flat_map f (xs ++ x ∷ []))
Marks-nothing f xs x place m none =
    subst (Marks place)
    (sym (append-nil (flat_map f xs)) ∙ (ap (λ r. flat_map f xs ++ r) (sym none) ∙ sym (flat_map-push f xs x))) m

-- Appends an element that has a place.
pub Marks-one : {X : Type 0} (f : X → List ℕ) (xs : List X) (x : X) (one both : Option ℕ) (at : ℕ)
    → Marks one (flat_map f xs) → Contains (f x) at
    → ((us vs : List ℕ) → Marks one us → Marks (Some at) vs → Marks both (us ++ vs)) → Marks both (flat_map f (xs ++ x ∷ []))
Marks-one f xs x one both at m there join = subst (Marks both) (sym (flat_map-push f xs x)) (join (flat_map f xs) (f x) m there)

pub Marks-some : {X : Type 0} (f : X → List ℕ) (xs : List X) (x : X) (both : Option ℕ) (at : ℕ)
    → Marks both (flat_map f (xs ++ x ∷ [])) → Contains (f x) at → both ≡ None → ⊥
Marks-some f xs x both at m there e =
    let empty : flat_map f (xs ++ x ∷ []) ≡ [] = subst (λ (o : Option ℕ). Marks o (flat_map f (xs ++ x ∷ []))) e m in
    not_empty (f x) at there (append-nil_right (flat_map f xs) (f x) (sym (flat_map-push f xs x) ∙ empty))

-- The signal with a name is the one at the number of that name.
pub signal-by_number : (b : PlainBlock) (x : List ℕ) → signal_named b x ≡ option_and_then (slice_get (signals_of b)) (number_of (signal_names b) x)
signal-by_number b x =
    let p = λ (s : PlainSignal). same_name x s.name.name in
    find-at p (signals_of b) (nat_lt (position_or_len p (signals_of b)) (length (signals_of b))) refl
    ∙ ap (option_and_then (slice_get (signals_of b))) (sym (position-map (λ (id : Identifier). same_name x id.name) (λ s. s.name) (signals_of b)))

pub signal-none : (b : PlainBlock) (x : List ℕ) (ids : List Identifier) → ids ≡ signal_names b → None ≡ number_of ids x → None ≡ signal_named b x
signal-none b x ids e n =
    sym
    (signal-by_number b x
    ∙ ap (option_and_then (slice_get (signals_of b))) (ap (λ l. number_of l x) (sym e) ∙ sym n))

by_place : (b : PlainBlock) (x : List ℕ) (ids : List Identifier) (n : ℕ) → ids ≡ signal_names b → Some n ≡ number_of ids x
    → signal_named b x ≡ slice_get (signals_of b) n
by_place b x ids n e h =
    signal-by_number b x ∙ ap (option_and_then (slice_get (signals_of b))) (ap (λ l. number_of l x) (sym e) ∙ sym h)

pub signal-some : (b : PlainBlock) (x : List ℕ) (ids : List Identifier) (n : ℕ) (rows : List (Bor SignalDeclaration)) (row : Bor SignalDeclaration)
    → ids ≡ signal_names b → Some n ≡ number_of ids x → map (λ s. signal_of s.now) rows ≡ signals_of b → n < length rows
    → row ≡ get_or rows n row → Some (signal_of row.now) ≡ signal_named b x
signal-some b x ids n rows row e h same lt read =
    sym
    (by_place b x ids n e h
    ∙ (ap (λ l. slice_get l n) (sym same)
    ∙ (slice_get-map (λ s. signal_of s.now) rows n
    ∙ ap (option_map (λ s. signal_of s.now)) (slice_get-get_or rows n row lt ∙ ap Some (sym read)))))

pub signal-past : (b : PlainBlock) (x : List ℕ) (ids : List Identifier) (n : ℕ) (rows : List (Bor SignalDeclaration))
    → ids ≡ signal_names b → Some n ≡ number_of ids x → map (λ s. signal_of s.now) rows ≡ signals_of b → length rows ≤ n
    → None ≡ signal_named b x
signal-past b x ids n rows e h same past =
    sym
    (by_place b x ids n e h
    ∙ (ap (λ l. slice_get l n) (sym same)
    ∙ (slice_get-map (λ s. signal_of s.now) rows n ∙ ap (option_map (λ s. signal_of s.now)) (slice_get_past rows n past))))

flat_map-flat_map : {A B C : Type 0} (g : B → List C) (f : A → List B) (xs : List A) → flat_map g (flat_map f xs) ≡ flat_map (λ x. flat_map g (f x)) xs
flat_map-flat_map g f [] = refl
flat_map-flat_map g f (x ∷ xs) = flat_map-append g (f x) (flat_map f xs) ∙ ap (λ r. flat_map g (f x) ++ r) (flat_map-flat_map g f xs)

flat_map-map : {A B C : Type 0} (g : B → List C) (f : A → B) (xs : List A) → flat_map g (map f xs) ≡ flat_map (λ x. g (f x)) xs
flat_map-map g f [] = refl
flat_map-map g f (x ∷ xs) = ap (λ r. g (f x) ++ r) (flat_map-map g f xs)

-- The duplicate names inside processes, in the order in which the code collects them.
pub inside-processes : {A : Type 0} (f : A → PlainProcess) (xs : List A) (ps : List PlainProcess) → map f xs ≡ ps
    → flat_map (λ x. flat_map (repeats []) (process_scopes (f x))) xs ≡ flat_map (repeats []) (flat_map process_scopes ps)
inside-processes f xs ps e =
    sym (flat_map-map (λ p. flat_map (repeats []) (process_scopes p)) f xs)
    ∙ (ap (flat_map (λ p. flat_map (repeats []) (process_scopes p))) e ∙ sym (flat_map-flat_map (repeats []) process_scopes ps))

-- Removing duplicates from the table doesn't change which names are shared with it.
shared-once : (ids xs : List Identifier) → shared (names_once ids) xs ≡ shared ids xs
shared-once ids [] = refl
shared-once ids (x ∷ xs) =
    let here : (if is_in (names_once ids) x.name then x.at ∷ [] else []) ≡ (if is_in ids x.name then x.at ∷ [] else []) =
    ap (λ b. if b then x.at ∷ [] else []) (is_in-names_once ids x.name) in
    let there : shared (names_once ids) xs ≡ shared ids xs = shared-once ids xs in
    cc

shared-inside : {A : Type 0} (f : A → PlainProcess) (ids : List Identifier) (xs : List A)
    → flat_map (λ x. shared (names_once ids) (timers_of (f x))) xs ≡ flat_map (λ x. shared ids (timers_of (f x))) xs
shared-inside f ids [] = refl
shared-inside f ids (x ∷ xs) =
    let here : shared (names_once ids) (timers_of (f x)) ≡ shared ids (timers_of (f x)) = shared-once ids (timers_of (f x)) in
    let there : flat_map (λ x. shared (names_once ids) (timers_of (f x))) xs ≡ flat_map (λ x. shared ids (timers_of (f x))) xs = shared-inside f ids xs in
    cc

-- The timers that have the name of a signal, in the order in which the code collects them.
pub timers-inside : {A : Type 0} (f : A → PlainProcess) (b : PlainBlock) (table ids : List Identifier) (xs : List A) → map f xs ≡ processes_of b
    → ids ≡ signal_names b → table ≡ names_once ids → flat_map (λ x. shared table (timers_of (f x))) xs ≡ signal_timers b
timers-inside f b table ids xs e same once =
    ap (λ t. flat_map (λ x. shared t (timers_of (f x))) xs) (once ∙ ap names_once same)
    ∙ (shared-inside f (signal_names b) xs
    ∙ (sym (flat_map-map (λ p. shared (signal_names b) (timers_of p)) f xs)
    ∙ ap (flat_map (λ p. shared (signal_names b) (timers_of p))) e))

pub Marks-none : (o : Option ℕ) (places : List ℕ) → Marks o places → places ≡ [] → o ≡ None
Marks-none None places m e = refl
Marks-none (Some at) places m e = absurd (not_empty places at m e)

pub signal_ids-of_rows : (b : PlainBlock) (rows : List (Bor SignalDeclaration)) (ids : List Identifier)
    → map (λ s. signal_of s.now) rows ≡ signals_of b → ids ≡ map (λ s. s.now.name) rows → ids ≡ signal_names b
signal_ids-of_rows b rows ids same h =
    h ∙ (sym (map-map (λ s. s.name) (λ s. signal_of s.now) rows) ∙ ap (map (λ s. s.name)) same)

pub process_ids-of_rows : (b : PlainBlock) (rows : List (Bor the_process.Process)) (ids : List Identifier)
    → map (λ p. process_of p.now) rows ≡ processes_of b → ids ≡ map (λ p. p.now.name) rows → ids ≡ process_names b
process_ids-of_rows b rows ids same h =
    h ∙ (sym (map-map (λ p. p.name) (λ p. process_of p.now) rows) ∙ ap (map (λ p. p.name)) same)

pub route_ids-of_rows : (b : PlainBlock) (rows : List (Bor the_route.Route)) (ids : List Identifier)
    → map (λ r. route_of r.now) rows ≡ routes_of b → ids ≡ map (λ r. r.now.name) rows → ids ≡ route_names b
route_ids-of_rows b rows ids same h =
    h ∙ (sym (map-map (λ r. r.name) (λ r. route_of r.now) rows) ∙ ap (map (λ r. r.name)) same)
