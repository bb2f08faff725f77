-- Keys of the tables, and parties compared by their keys.
use Rattle.std.proofs.Common.{◌≡◌, Bool, true, false, cond, ◌&&◌, [], ◌∷◌, ◌++◌, Option, None, Some, if◌then◌else◌, bytes_eq, refl, sym, ap, ◌∙◌, subst, true≢false}
use Rattle.std.specs.Option.{option_map_or}
use Rattle.std.specs.Global.{Vec}
use Rattle.std.proofs.lemmas.Bool.{and_parts}
use Rattle.std.proofs.lemmas.Slice.Eq.{bytes_eq-Decides}
use Rattle.std.proofs.lemmas.List.{append-nil}
use Rattle.sdl_ast.specs.declared.tree.Party.{Party}
use Rattle.sdl_ast.specs.declared.tree.Party.TheVariants.{Environment, Process}
use Rattle.sdl_tables.specs.Routes.{same_party}
use Rattle.sdl_tables.specs.declared.route_index.Side.{Side}
use Rattle.sdl_tables.specs.declared.route_index.Side.TheVariants as sides
use Rattle.sdl_tables.specs.declared.route_index.End.{End}
use Rattle.sdl_tables.specs.RouteIndexes.{same_side, same_end, side_of}

pub side_same : (x y : Side) → same_side x y ≡ true → x ≡ y
side_same sides.Environment sides.Environment h = refl
side_same sides.Environment (sides.Process y) h = absurd (true≢false (sym h))
side_same (sides.Process x) sides.Environment h = absurd (true≢false (sym h))
side_same (sides.Process x) (sides.Process y) h = ap sides.Process ((bytes_eq-Decides x y).0 h)

pub end_parts : (x y : End) → same_end x y ≡ (same_side x.side y.side && bytes_eq x.signal y.signal)
end_parts x y = refl

pub end_same : (x y : End) → same_end x y ≡ true → x ≡ y
end_same x y h =
    let parts = and_parts (same_side x.side y.side) (bytes_eq x.signal y.signal) h in
    let a = side_same x.side y.side parts.0 in
    let b = (bytes_eq-Decides x.signal y.signal).0 parts.1 in
    λ i. record { side = a i; signal = b i }

-- Two parties are the same exactly if their keys are equal.
pub party_side : (p q : Party) → same_party p q ≡ same_side (side_of p) (side_of q)
party_side Environment Environment = refl
party_side Environment (Process y) = refl
party_side (Process x) Environment = refl
party_side (Process x) (Process y) = refl

-- The list of a new key.
pub first_held : (f : End → Option (Vec Party)) (key k : End) (list : Vec Party) (other : Party) (new : Option (Vec Party)) → f key ≡ None
    → list.items ≡ other ∷ [] → (b : Bool) → same_end key k ≡ b → new ≡ cond b (Some list) (f k)
    → option_map_or (λ v. v.items) new [] ≡ option_map_or (λ v. v.items) (f k) [] ++ (if b then other ∷ [] else [])
first_held f key k list other new none only true e h =
    let there : f k ≡ None = subst (λ x. f x ≡ None) (end_same key k e) none in
    ap (λ o. option_map_or (λ v. v.items) o []) h ∙ (only ∙ sym (ap (λ o. option_map_or (λ v. v.items) o [] ++ other ∷ []) there))
first_held f key k list other new none only false e h =
    ap (λ o. option_map_or (λ v. v.items) o []) h ∙ sym (append-nil (option_map_or (λ v. v.items) (f k) []))
