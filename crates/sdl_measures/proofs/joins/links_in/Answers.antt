use Rattle.std.proofs.Common.{◌≡◌, ◌<◌, ◌++◌, ◌∷◌, [], ℕ, length, map, take, sym, ap, ◌∙◌, subst}
use Rattle.std.specs.Global.{Vec}
use Rattle.std.specs.Prelude.{All}
use Rattle.std.proofs.lemmas.List.{map_push}
use Rattle.std.proofs.lemmas.List.Elements.{All-push}
use Rattle.sdl_ast.specs.Plain.{PlainConnection}
use Rattle.sdl_ast.specs.Views.{connection_of}
use Rattle.sdl_sound.specs.Statements.{joins_of}
use Rattle.sdl_sound.specs.Orders.{joins_in}
use Rattle.sdl_measures.specs.Links.{graph_in}
use Rattle.sdl_measures.proofs.joins.links_in.Goals as goal
use Rattle.plain_laws.proofs.Lists.{mapped_more}

pub loop-connection-preserved : goal.loop-connection-preserved
loop-connection-preserved c =
    let ids = c.args.connectors.now in
    let ds = c.args.connections.now in
    let i = c.loop-connection.connection-index in
    let d = c.connection-item.result in
    let old = c.loop-connection.links.items in
    let v = c.in_ok-find_targets.field-0 in
    let linked = λ (e : PlainConnection). joins_in ids (joins_of e.text) in
    let done = map connection_of (take i ds) in
    let told : v.items ≡ linked (connection_of d) = c.in_ok-find_targets.ensures.targets ∙ ap (joins_in ids) (c.deref.ensures.value ∙ c.in_ok-joins.ensures) in
    let new : graph_in c.push.new.self.items ≡ graph_in old ++ v.items ∷ [] = ap graph_in c.in_ok-push.ensures.items ∙ map_push (λ (u : Vec ℕ). u.items) old v in
    record {
      links =
          new ∙ (ap (λ l. l ++ v.items ∷ []) c.loop-connection.invariant.links ∙ (ap (λ l. map linked done ++ l ∷ []) told
          ∙ (sym (map_push linked done (connection_of d)) ∙ ap (map linked) (sym (mapped_more connection_of ds i d c.loop-connection-test.true c.connection-item.is)))));
      within =
          subst (All (λ ts. All (λ n. n < length ids) ts)) (sym new)
          (All-push (λ ts. All (λ n. n < length ids) ts) (graph_in old) v.items c.loop-connection.invariant.within c.in_ok-find_targets.ensures.within);
    }
