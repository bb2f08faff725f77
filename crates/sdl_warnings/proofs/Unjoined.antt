-- The warnings of connections, one connection further on.
use Rattle.std.proofs.Common.{◌≡◌, ℕ, zero, suc, ◌+◌, ◌<◌, Bool, List, [], ◌∷◌, ◌++◌, Some, length, map, take, get_or, sym, ap, ◌∙◌, arith}
use Rattle.std.specs.Prelude.{slice_get}
use Rattle.std.specs.List.{flat_map}
use Rattle.plain_laws.proofs.Lists.{mapped_more}
use Rattle.sdl_tables.proofs.Growing.{join_on}
use Rattle.sdl_ast.specs.declared.tree.Connection.{Connection}
use Rattle.sdl_ast.specs.Plain.{PlainProcess}
use Rattle.sdl_ast.specs.Views.{connection_of}
use Rattle.sdl_warnings.specs.Marked.{is_marked}
use Rattle.sdl_warnings.specs.Warned.{unless, warned, is_joined, unreached_connection}
use Rattle.sdl_warnings.specs.declared.warning.Warning.{Warning}
use Rattle.sdl_warnings.specs.declared.warning.Kind.TheVariants.{UnreachedConnection}
use Rattle.sdl_warnings.proofs.Marking.{marked_map}

mapped_get : {A B : Type 0} (g : A → B) (xs : List A) (i : ℕ) (x : A) → i < length xs → x ≡ get_or xs i x → slice_get (map g xs) i ≡ Some (g x)
mapped_get g [] i x lt is = absurd (omega (arith, lt))
mapped_get g (y ∷ xs) zero x lt is = ap (λ z. Some (g z)) (sym is)
mapped_get g (y ∷ xs) (suc i) x lt is = mapped_get g xs i x (omega (arith, lt)) is

pub unmarked_on : (p : PlainProcess) (marks : List Bool) (xs : List Connection) (i : ℕ) (x : Connection) (start now new : List Warning) → i < length xs → x ≡ get_or xs i x
    → marks ≡ map (is_joined p) p.connections → p.connections ≡ map connection_of xs → now ≡ start ++ flat_map (unreached_connection p) (map connection_of (take i xs))
    → new ≡ now ++ unless (is_marked marks i) (warned x.at (UnreachedConnection x.name.name))
    → new ≡ start ++ flat_map (unreached_connection p) (map connection_of (take (i + 1) xs))
unmarked_on p marks xs i x start now new lt is made same before grows =
    let there : slice_get p.connections i ≡ Some (connection_of x) = ap (λ l. slice_get l i) same ∙ mapped_get connection_of xs i x lt is in
    let marked : is_marked marks i ≡ is_joined p (connection_of x) =
    ap (λ l. is_marked l i) made ∙ marked_map (is_joined p) p.connections i (connection_of x) there in
    join_on (unreached_connection p) _ _ _ _ _ _ (mapped_more connection_of xs i x lt is) before
    (grows ∙ ap (λ b. now ++ unless b (warned x.at (UnreachedConnection x.name.name))) marked)
