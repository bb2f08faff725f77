use Rattle.std.proofs.Common.{rules, arith, ◌≡◌, ◌<◌, ℕ, List, Some, true, length, refl, sym, ◌∙◌, subst}
use Rattle.std.proofs.lemmas.List.{length-map}
use Rattle.std.specs.Prelude.{slice_get, All}
use Rattle.std.proofs.lemmas.Option.{slice_get_read, slice_get_within}
use Rattle.sdl_measures.specs.Links.{nexts, graph_in}
use Rattle.sdl_measures.specs.Searched.{Finds}
use Rattle.sdl_measures.proofs.Ways.{goes_itself}
use Rattle.sdl_measures.proofs.Marking.{followed_more, reached_more, follows_all, nexts_within, longer}
use Rattle.sdl_measures.proofs.graph.follow.Goals as goal
use Rattle.plain_laws.proofs.Places.{among_at}

pub loop-next-init : goal.loop-next-init
loop-next-init c = record {
  count = refl;
  stays = λ n h. h;
  found = c.requires.found;
  followed = λ k n no. absurd (omega (arith, no));
  reached = λ n h. (n, h, goes_itself _ n);
  within = omega arith;
}

pub links-requires : goal.links-requires
links-requires c =
    let found = c.loop-next.found.items in
    let node = c.index-node.result.now in
    let there : slice_get found c.loop-next.next ≡ Some node = slice_get_read found (length found) c.loop-next.next node refl (search rules) c.index-node.ensures in
    let marked = c.loop-next.invariant.found.marked node (among_at found c.loop-next.next node there) in
    omega (arith, slice_get_within c.loop-next.marks.items node true marked, c.loop-next.invariant.count, c.requires.count)

pub see_all-requires-clause-within : goal.see_all-requires-clause-within
see_all-requires-clause-within c =
    let g = graph_in c.args.graph.now in
    let node = c.index-node.result.now in
    let long : length g ≡ length c.loop-next.marks.items = length-map c.args.graph.now (λ v. v.items) ∙ sym c.requires.count ∙ sym c.loop-next.invariant.count in
    subst (λ (l : List ℕ). All (λ n. n < length c.loop-next.marks.items) l) (sym c.links.ensures)
    (subst (λ k. All (λ n. n < k) (nexts g node)) long (nexts_within g node c.requires.graph))

pub loop-next-preserved : goal.loop-next-preserved
loop-next-preserved c =
    let g = graph_in c.args.graph.now in
    let found = c.loop-next.found.items in
    let node = c.index-node.result.now in
    let there : slice_get found c.loop-next.next ≡ Some node = slice_get_read found (length found) c.loop-next.next node refl (search rules) c.index-node.ensures in
    let told : Finds (nexts g node) c.loop-next.marks.items found c.see_all.new.marks.items c.see_all.new.found.items =
    subst (λ (l : List ℕ). Finds l c.loop-next.marks.items found c.see_all.new.marks.items c.see_all.new.found.items) c.links.ensures c.in_ok-see_all.ensures in
    let was = c.loop-next.invariant in
    record {
      count = told.count ∙ was.count;
      stays = λ n h. told.stays n (was.stays n h);
      found = told.are;
      followed = followed_more g c.loop-next.next node _ found _ _ there was.followed told;
      reached = reached_more g c.args.found.now.items node _ found _ _ (nexts_within g node c.requires.graph) (among_at found c.loop-next.next node there) was.reached told;
      within = longer found told.added c.see_all.new.found.items c.loop-next.next told.all (slice_get_within found c.loop-next.next node there);
    }

pub returns : goal.returns
returns c =
    let was = c.loop-next.invariant in
    follows_all (graph_in c.args.graph.now) c.loop-next.next c.args.marks.now.items c.args.found.now.items c.loop-next.marks.items c.loop-next.found.items (search rules) was.count
    was.stays was.found was.followed was.reached
