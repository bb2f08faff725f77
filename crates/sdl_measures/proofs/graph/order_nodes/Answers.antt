use Rattle.std.proofs.Common.{rules, arith, ◌≡◌, length, sym}
use Rattle.std.specs.Prelude.{replicate}
use Rattle.std.proofs.lemmas.List.{length-map}
use Rattle.std.proofs.lemmas.Option.{slice_get_within}
use Rattle.sdl_measures.specs.Links.{graph_in}
use Rattle.sdl_measures.specs.declared.graph.Mark.TheVariants.{New}
use Rattle.sdl_measures.proofs.Ordering.{search_none, search_as, is_order}
use Rattle.sdl_measures.proofs.graph.order_nodes.Goals as goal

pub loop-root-init : goal.loop-root-init
loop-root-init c =
    let g = graph_in c.args.graph.now in
    let blank : c.in_ok-marks.marks.items ≡ replicate (length c.args.graph.now) New = search rules in
    record {
      search = search_as g _ _ _ _ _ _ blank c.new-path.ensures.items c.new-order.ensures.items (search_none g (length c.args.graph.now) (sym (length-map c.args.graph.now (λ v. v.items))));
      done = c.new-path.ensures.items;
      visited = λ n no. absurd (omega (arith, no));
    }

pub returns-clause-order : goal.returns-clause-order
returns-clause-order c =
    let g = graph_in c.args.graph.now in
    let was = c.loop-root.invariant in
    is_order g c.loop-root.marks.items c.loop-root.path.items c.loop-root.order.items was.search was.done
    (λ n e. was.visited n (omega (arith, slice_get_within c.loop-root.marks.items n New e, was.search.count, length-map c.args.graph.now (λ v. v.items), c.loop-root-test.false)) e)
