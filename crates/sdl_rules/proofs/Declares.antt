-- One more synonym: its value, and its faults.
use Rattle.std.proofs.Common.{◌≡◌, ℕ, Bool, true, false, cond, List, [], ◌∷◌, ◌++◌, Option, refl, sym, ap, ◌∙◌, subst}
use Rattle.sdl_ast.specs.declared.expression.Identifier.{Identifier}
use Rattle.sdl_ast.specs.Plain.{Tree, PlainSynonym}
use Rattle.sdl_tables.specs.Names.{is_in, add_name}
use Rattle.sdl_tables.specs.Scopes.{Marks}
use Rattle.turn_code.specs.declared.value.Value.{Value}
use Rattle.sdl_rules.specs.Synonyms.{Known, and_known, Sight, expanded_tree, value_of_tree, and_synonym, and_synonyms}
use Rattle.sdl_rules.specs.Faults.{Places, both, AreOf, synonym_places, synonyms_places}
use Rattle.sdl_rules.specs.declared.strays.Strays.{Strays}
use Rattle.sdl_rules.proofs.FaultPlaces.{beside_nothing, all_three}

pub known_stays : (k : Known) (id : Identifier) (v : Value) → is_in k.names id.name ≡ true → k ≡ and_known k id v
known_stays k id v here =
    let P : Bool → Known = λ b. cond b k (record { names = k.names ++ id ∷ []; values = k.values ++ v ∷ [] }) in
    sym (ap P here)

pub known_grows : (k : Known) (ids : List Identifier) (vs : List Value) (id : Identifier) (v : Value) → is_in k.names id.name ≡ false → ids ≡ add_name k.names id → vs ≡ k.values ++ v ∷ []
    → (let n : Known = record { names = ids; values = vs } in n) ≡ and_known k id v
known_grows k ids vs id v absent named grown =
    let made : List Identifier → List Value → Known = λ xs ys. record { names = xs; values = ys } in
    let P : Bool → Known = λ b. cond b k (made (k.names ++ id ∷ []) (k.values ++ v ∷ [])) in
    let Q : Bool → List Identifier = λ b. cond b k.names (k.names ++ id ∷ []) in
    ap (λ xs. made xs vs) (named ∙ ap Q absent) ∙ (ap (made (k.names ++ id ∷ [])) grown ∙ sym (ap P absent))

pub declared_one : (s : Sight) (own : Known) (d : PlainSynonym) (t : Tree) (v : Value) → own ≡ and_known s.own d.name v → v ≡ value_of_tree d.sort t → t ≡ expanded_tree s d.value
    → (let n : Sight = record { own = own; hidden = s.hidden; outer = s.outer } in n) ≡ and_synonym s d
declared_one s own d t v grown valued expanded =
    let made : Known → Sight = λ k. record { own = k; hidden = s.hidden; outer = s.outer } in
    ap made (grown ∙ ap (and_known s.own d.name) (valued ∙ ap (value_of_tree d.sort) expanded))

-- places in an equal tree
pub in_same : (places : Tree → List ℕ) (found : Option ℕ) (one other : Tree) → one ≡ other → Marks found (places one) → Marks found (places other)
in_same places found one other is marks = subst (λ (t : Tree). Marks found (places t)) is marks

pub places_more : (s : Sight) (ds : List PlainSynonym) (d : PlainSynonym) → synonyms_places s (ds ++ d ∷ []) ≡ both (synonyms_places s ds) (synonym_places (and_synonyms s ds) d)
places_more s [] d = beside_nothing (synonym_places s d)
places_more s (e ∷ ds) d =
    ap (both (synonym_places s e)) (places_more (and_synonym s e) ds d)
    ∙ sym (all_three (synonym_places s e) (synonyms_places (and_synonym s e) ds) (synonym_places (and_synonyms (and_synonym s e) ds) d))

seen_more : (s : Sight) (ds : List PlainSynonym) (d : PlainSynonym) → and_synonyms s (ds ++ d ∷ []) ≡ and_synonym (and_synonyms s ds) d
seen_more s [] d = refl
seen_more s (e ∷ ds) d = seen_more (and_synonym s e) ds d

pub declared_next : (s now next : Sight) (ds more : List PlainSynonym) (d : PlainSynonym) → more ≡ ds ++ d ∷ [] → now ≡ and_synonyms s ds → next ≡ and_synonym now d
    → next ≡ and_synonyms s more
declared_next s now next ds more d last before step =
    step ∙ (ap (λ x. and_synonym x d) before ∙ (sym (seen_more s ds d) ∙ ap (and_synonyms s) (sym last)))

pub strays_next : (s now : Sight) (ds more : List PlainSynonym) (d : PlainSynonym) (found here next : Strays) → more ≡ ds ++ d ∷ [] → now ≡ and_synonyms s ds
    → AreOf (synonyms_places s ds) found → AreOf (synonym_places now d) here
    → ((p q : Places) → AreOf p found → AreOf q here → AreOf (both p q) next) → AreOf (synonyms_places s more) next
strays_next s now ds more d found here next last before so_far one joins =
    let there = subst (λ (x : Sight). AreOf (synonym_places x d) here) before one in
    subst (λ (p : Places). AreOf p next) (sym (ap (synonyms_places s) last ∙ places_more s ds d))
    (joins (synonyms_places s ds) (synonym_places (and_synonyms s ds) d) so_far there)
