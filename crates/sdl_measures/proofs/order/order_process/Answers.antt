use Rattle.std.proofs.Common.{◌≡◌, ℕ, List, Option, Vec, Global, ap, ◌∙◌, subst}
use Rattle.std.specs.Prelude.{IfSome, IfNone}
use Rattle.sdl_ast.specs.Views.{process_of}
use Rattle.sdl_measures.specs.Links.{graph_in, IsOrderOf, Returns}
use Rattle.sdl_sound.specs.Orders.{links_of}
use Rattle.sdl_sound.specs.Joins.{process_cycles}
use Rattle.sdl_measures.proofs.Connectors.{order_is, no_cycles, some_cycle}
use Rattle.sdl_measures.proofs.Returning.{some_place}
use Rattle.sdl_measures.proofs.order.order_process.Goals as goal

pub returns-in-Some : goal.returns-in-Some
returns-in-Some c =
    let p = process_of c.args.process.now in
    let links : graph_in c.deref.result.now ≡ links_of p = ap graph_in c.deref.ensures.value ∙ c.in_ok-links.ensures.links in
    let told : IsOrderOf (graph_in c.deref.result.now) c.in-Some.order.items =
    subst (λ (o : Option (Vec ℕ Global)). IfSome o (λ order. IsOrderOf (graph_in c.deref.result.now) order.items)) c.in-Some.is c.in_ok-order.ensures.order in
    let order : IsOrderOf (links_of p) c.in-Some.order.items = subst (λ (g : List (List ℕ)). IsOrderOf g c.in-Some.order.items) links told in
    (order_is p c.in-Some.order.items order, no_cycles p c.in-Some.order.items c.find_links.ensures.distinct order)

pub returns : goal.returns
returns c =
    let p = process_of c.args.process.now in
    let links : graph_in c.deref.result.now ≡ links_of p = ap graph_in c.deref.ensures.value ∙ c.in_ok-links.ensures.links in
    let told : (n : ℕ) × Returns (graph_in c.deref.result.now) n =
    subst (λ (o : Option (Vec ℕ Global)). IfNone o ((n : ℕ) × Returns (graph_in c.deref.result.now) n)) c.in-None.is c.in_ok-order.ensures.none in
    let back : Returns (links_of p) told.0 = subst (λ (g : List (List ℕ)). Returns g told.0) links told.1 in
    some_place c.in_ok-place_in_process-in-None.field-0 (process_cycles p) c.in_ok-place_in_process-in-None.ensures (some_cycle p told.0 c.find_links.ensures.distinct back)
