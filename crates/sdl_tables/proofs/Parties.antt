-- The keys and values of a table of parties.
use Rattle.std.proofs.Common.{◌≡◌, false, ◌||◌, List, [], ◌∷◌, ◌++◌, map, None, is_some, refl, sym, ap, ◌∙◌}
use Rattle.std.proofs.lemmas.List.{map-append}
use Rattle.std.specs.List.{list_any}
use Rattle.std.specs.Map.{lookup, keys_of, values_of}
use Rattle.sdl_ast.specs.declared.tree.Party.{Party}
use Rattle.sdl_tables.specs.Routes.{same_party}
use Rattle.sdl_tables.specs.declared.route_index.Side.{Side}
use Rattle.sdl_tables.specs.RouteIndexes.{same_side, side_of}
use Rattle.sdl_tables.proofs.RouteKeys.{party_side}
use Rattle.sdl_tables.proofs.Tables.{is_some-lookup, is_none, list_any-map}

-- Each key is that of its value.
abbrev pub Sided : List (Side × Party) → Type 0
Sided es = keys_of es ≡ map side_of (values_of es)

any_side : (ps : List Party) (q : Party) → list_any (λ p. same_side (side_of q) (side_of p)) ps ≡ list_any (same_party q) ps
any_side [] q = refl
any_side (p ∷ ps) q = λ i. sym (party_side q p) i || any_side ps q i

pub holds_party : (es : List (Side × Party)) (q : Party) → Sided es → is_some (lookup (same_side (side_of q)) es) ≡ list_any (same_party q) (values_of es)
holds_party es q h =
    is_some-lookup (same_side (side_of q)) es
    ∙ (ap (list_any (same_side (side_of q))) h
    ∙ (list_any-map (same_side (side_of q)) side_of (values_of es) ∙ any_side (values_of es) q))

pub lacks_party : (es : List (Side × Party)) (q : Party) → Sided es → list_any (same_party q) (values_of es) ≡ false → lookup (same_side (side_of q)) es ≡ None
lacks_party es q h absent = is_none (lookup (same_side (side_of q)) es) (holds_party es q h ∙ absent)

pub parties-push : (es : List (Side × Party)) (k : Side) (q : Party) → values_of (es ++ (k, q) ∷ []) ≡ values_of es ++ q ∷ []
parties-push es k q = map-append (λ e. e.1) es ((k, q) ∷ [])

pub Sided-push : (es : List (Side × Party)) (q : Party) → Sided es → Sided (es ++ (side_of q, q) ∷ [])
Sided-push es q h =
    map-append (λ e. e.0) es ((side_of q, q) ∷ [])
    ∙ (ap (λ ks. ks ++ side_of q ∷ []) h
    ∙ (sym (map-append side_of (values_of es) (q ∷ [])) ∙ ap (map side_of) (sym (parties-push es (side_of q) q))))
