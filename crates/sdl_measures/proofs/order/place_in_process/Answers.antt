use Rattle.std.proofs.Common.{◌≡◌, ℕ, [], List, Option, Some, map, length, refl, ap, sym, ◌∙◌, subst}
use Rattle.std.specs.Prelude.{slice_get, Contains}
use Rattle.std.specs.List.{flat_map}
use Rattle.std.specs.Option.{option_map}
use Rattle.std.proofs.lemmas.Option.{slice_get_read, slice_get-map}
use Rattle.sdl_ast.specs.declared.tree.Join.{Join}
use Rattle.sdl_ast.specs.Plain.{PlainConnection}
use Rattle.sdl_ast.specs.Views.{process_of, connection_of}
use Rattle.sdl_tables.specs.Scopes.{Marks}
use Rattle.sdl_sound.specs.Joins.{comes_back, connection_cycles}
use Rattle.sdl_sound.proofs.Places.{none-more, place-among}
use Rattle.sdl_measures.proofs.Connectors.{own_number, distinct_connectors}
use Rattle.sdl_measures.proofs.order.place_in_process.Goals as goal

pub loop-own-preserved : goal.loop-own-preserved
loop-own-preserved c =
    let p = process_of c.args.process.now in
    let items = c.deref-connection-items.result.now in
    let a = c.connection-item.result in
    let there : slice_get items c.loop-own.own ≡ Some a = slice_get_read items (length items) c.loop-own.own a refl c.loop-own-test.true c.connection-item.is in
    let all : map connection_of items ≡ p.connections = ap (map connection_of) (c.deref-connection-items.ensures.value ∙ ap (λ x. x.connections.items) c.process.ensures.process) in
    let at : slice_get p.connections c.loop-own.own ≡ Some (connection_of a) =
    ap (λ (l : List PlainConnection). slice_get l c.loop-own.own) (sym all) ∙ slice_get-map connection_of items c.loop-own.own ∙ ap (option_map connection_of) there in
    let own = own_number p c.loop-own.own (connection_of a) (distinct_connectors p c.process.ensures.distinct) at in
    let joins = c.deref.ensures.value ∙ c.in_ok-joins.ensures in
    let none : connection_cycles p (connection_of a) ≡ [] =
    subst (λ (o : Option ℕ). Marks o (connection_cycles p (connection_of a))) c.in-None.is
    (subst (λ (l : List Join). Marks c.in_ok-place.place (flat_map (comes_back p (connection_of a)) l)) joins (c.in_ok-place.ensures (connection_of a) own)) in
    none-more (connection_cycles p) connection_of items c.loop-own.own a c.loop-own-test.true c.connection-item.is c.loop-own.invariant none

pub returns-in-Some : goal.returns-in-Some
returns-in-Some c =
    let p = process_of c.args.process.now in
    let items = c.deref-connection-items.result.now in
    let a = c.connection-item.result in
    let there : slice_get items c.loop-own.own ≡ Some a = slice_get_read items (length items) c.loop-own.own a refl c.loop-own-test.true c.connection-item.is in
    let all : map connection_of items ≡ p.connections = ap (map connection_of) (c.deref-connection-items.ensures.value ∙ ap (λ x. x.connections.items) c.process.ensures.process) in
    let at : slice_get p.connections c.loop-own.own ≡ Some (connection_of a) =
    ap (λ (l : List PlainConnection). slice_get l c.loop-own.own) (sym all) ∙ slice_get-map connection_of items c.loop-own.own ∙ ap (option_map connection_of) there in
    let own = own_number p c.loop-own.own (connection_of a) (distinct_connectors p c.process.ensures.distinct) at in
    let joins = c.deref.ensures.value ∙ c.in_ok-joins.ensures in
    let here : Contains (connection_cycles p (connection_of a)) c.in-Some.at =
    subst (λ (o : Option ℕ). Marks o (connection_cycles p (connection_of a))) c.in-Some.is
    (subst (λ (l : List Join). Marks c.in_ok-place.place (flat_map (comes_back p (connection_of a)) l)) joins (c.in_ok-place.ensures (connection_of a) own)) in
    place-among (connection_cycles p) p.connections c.loop-own.own (connection_of a) c.in-Some.at at here
