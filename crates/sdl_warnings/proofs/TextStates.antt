-- The states in which a transition may end, one connection further on.
use Rattle.std.proofs.Common.{◌≡◌, ℕ, ◌+◌, ◌<◌, Bool, true, false, if◌then◌else◌, List, [], ◌∷◌, ◌++◌, length, map, take, get_or, refl, sym, ap, ◌∙◌, arith, append_assoc, length-take}
use Rattle.std.specs.List.{flat_map}
use Rattle.std.proofs.lemmas.List.{append-nil, length-map}
use Rattle.std.proofs.lemmas.Grind.{flat_map-append}
use Rattle.plain_laws.proofs.Lists.{mapped_more}
use Rattle.sdl_ast.specs.declared.expression.Identifier.{Identifier}
use Rattle.sdl_ast.specs.declared.tree.Connection.{Connection}
use Rattle.sdl_ast.specs.Plain.{Text, PlainConnection, PlainProcess}
use Rattle.sdl_ast.specs.Views.{connection_of}
use Rattle.sdl_sound.specs.Joins.{reaches}
use Rattle.sdl_warnings.specs.Marked.{is_marked, marked_only}
use Rattle.sdl_warnings.specs.Ways.{text_states, exits}
use Rattle.sdl_warnings.proofs.Marking.{only_push, only_passing}

flat_if : {A B : Type 0} (f : A → List B) (b : Bool) (x : A) → flat_map f (if b then x ∷ [] else []) ≡ (if b then f x else [])
flat_if f true x = append-nil (f x)
flat_if f false x = refl

none_there : {A : Type 0} (marks : List Bool) → marked_only {X = A} marks [] ≡ []
none_there [] = refl
none_there (b ∷ marks) = refl

pub none_marked : (marks : List Bool) (ids : List Identifier) → ids ≡ ids ++ flat_map (λ (c : PlainConnection). text_states c.text) (marked_only marks [])
none_marked marks ids = sym (ap (λ l. ids ++ flat_map (λ (c : PlainConnection). text_states c.text) l) (none_there marks) ∙ append-nil ids)

pub states_on : (marks : List Bool) (xs : List Connection) (i : ℕ) (x : Connection) (start now new : List Identifier) → i < length xs → x ≡ get_or xs i x
    → now ≡ start ++ flat_map (λ (c : PlainConnection). text_states c.text) (marked_only marks (map connection_of (take i xs)))
    → new ≡ now ++ (if is_marked marks i then text_states (connection_of x).text else [])
    → new ≡ start ++ flat_map (λ (c : PlainConnection). text_states c.text) (marked_only marks (map connection_of (take (i + 1) xs)))
states_on marks xs i x start now new lt is before grows =
    let f : PlainConnection → List Identifier = λ c. text_states c.text in
    let ys = map connection_of (take i xs) in
    let y = connection_of x in
    let done = marked_only marks ys in
    let piece : List Identifier = if is_marked marks i then f y else [] in
    let one : List PlainConnection = if is_marked marks i then y ∷ [] else [] in
    let count : length ys ≡ i = length-map (take i xs) connection_of ∙ omega (arith, length-take i xs, lt) in
    let marked : marked_only marks (map connection_of (take (i + 1) xs)) ≡ done ++ one =
    ap (marked_only marks) (mapped_more connection_of xs i x lt is)
    ∙ (only_push marks ys y ∙ ap (λ k. done ++ (if is_marked marks k then y ∷ [] else [])) count) in
    let flat : flat_map f (marked_only marks (map connection_of (take (i + 1) xs))) ≡ flat_map f done ++ piece =
    ap (flat_map f) marked ∙ (flat_map-append f done one ∙ ap (λ l. flat_map f done ++ l) (flat_if f (is_marked marks i) y)) in
    grows ∙ (ap (λ l. l ++ piece) before ∙ (append_assoc start (flat_map f done) piece ∙ ap (λ l. start ++ l) (sym flat)))

pub exits_are : (p : PlainProcess) (t : Text) (first all : List Identifier) (marks : List Bool) (cs : List PlainConnection) → first ≡ text_states t → cs ≡ p.connections
    → marks ≡ map (λ (c : PlainConnection). reaches p t c.name.name) p.connections
    → all ≡ first ++ flat_map (λ (c : PlainConnection). text_states c.text) (marked_only marks cs) → all ≡ exits p t
exits_are p t first all marks cs is same made told =
    let f : PlainConnection → List Identifier = λ c. text_states c.text in
    told
    ∙ (ap (λ l. l ++ flat_map f (marked_only marks cs)) is
    ∙ ap (λ l. text_states t ++ flat_map f l)
    (ap (marked_only marks) same ∙ (ap (λ m. marked_only m p.connections) made ∙ only_passing (λ (c : PlainConnection). reaches p t c.name.name) p.connections)))
