use Rattle.std.proofs.Common.{rules, arith, ◌≡◌, ◌<◌, ◌≤◌, ◌-◌, ℕ, suc, List, Some, true, false, length, take, refl, ap, sym, ◌∙◌}
use Rattle.std.specs.Prelude.{slice_get, slice_index_or}
use Rattle.std.specs.Option.{option_map_or}
use Rattle.std.proofs.lemmas.List.{length-map}
use Rattle.std.proofs.lemmas.Option.{slice_get_read, slice_get_within, slice_get-get_or}
use Rattle.sdl_measures.specs.Links.{nexts, graph_in}
use Rattle.sdl_measures.specs.Searched.{is_new, is_done}
use Rattle.sdl_measures.specs.declared.graph.Mark.{Mark}
use Rattle.sdl_measures.specs.declared.graph.Mark.TheVariants.{Open}
use Rattle.sdl_measures.proofs.Marking.{nexts_within}
use Rattle.sdl_measures.proofs.Ordering.{passed_to, advances_done, advances_on, advances_as, comes_back, open_by_tests, new_at}
use Rattle.sdl_sound.proofs.Lists.{within_row}
use Rattle.sdl_measures.proofs.graph.advance.Goals as goal

pub links-nodes-requires : goal.links-nodes-requires
links-nodes-requires c =
    let path = c.args.path.now.items in
    let f = c.index-frame.result.now in
    let there : slice_get path (c.len-last.result - 1) ≡ Some f = slice_get_read path (length path) (c.len-last.result - 1) f refl (search rules) c.index-frame.ensures in
    omega (arith, slice_get_within c.args.marks.now.items f.node (Open (c.len-last.result - 1)) (c.requires.search.opened _ f there), c.requires.search.count, length-map c.args.graph.now (λ v. v.items))

pub skip-next-requires : goal.skip-next-requires
skip-next-requires c =
    within_row c.links-nodes.result.now (nexts (graph_in c.args.graph.now) c.index-frame.result.now.node) (length (graph_in c.args.graph.now)) (length c.deref.result.now)
    c.links-nodes.ensures (sym c.requires.search.count ∙ sym (ap length c.deref.ensures.value)) (nexts_within (graph_in c.args.graph.now) c.index-frame.result.now.node c.requires.graph)

pub finish-requires : goal.finish-requires
finish-requires c =
    let path = c.args.path.now.items in
    let f = c.index-frame.result.now in
    let there : slice_get path (c.len-last.result - 1) ≡ Some f = slice_get_read path (length path) (c.len-last.result - 1) f refl (search rules) c.index-frame.ensures in
    slice_get_within c.args.marks.now.items f.node (Open (c.len-last.result - 1)) (c.requires.search.opened _ f there)

pub returns-then-next-nodes-clause-on : goal.returns-then-next-nodes-clause-on
returns-then-next-nodes-clause-on c = λ _.
    let g = graph_in c.args.graph.now in
    let marks = c.args.marks.now.items in
    let path = c.args.path.now.items in
    let order = c.args.order.now.items in
    let f = c.index-frame.result.now in
    let last = c.len-last.result - 1 in
    let long : suc last ≡ length path = omega (arith, c.len-last.ensures, c.requires.open) in
    let there : slice_get path last ≡ Some f = slice_get_read path (length path) last f refl (omega (arith, long)) c.index-frame.ensures in
    let seen : (k n : ℕ) → f.next ≤ k → k < c.skip-next.result → slice_get (nexts g f.node) k ≡ Some n → option_map_or is_done (slice_get marks n) false ≡ true =
    λ k n from less edge. ap (λ (l : List Mark). option_map_or is_done (slice_get l n) false) (sym c.deref.ensures.value)
    ∙ c.skip-next.ensures.passed k n from less (ap (λ (l : List ℕ). slice_get l k) c.links-nodes.ensures ∙ edge) in
    let all = λ (k t : ℕ) (edge : slice_get (nexts g f.node) k ≡ Some t).
    passed_to g marks path order last c.skip-next.result f c.requires.search there seen k t
    (omega (arith, slice_get_within (nexts g f.node) k t edge, ap length c.links-nodes.ensures, c.if-next-nodes.true)) edge in
    let path_is : c.finish.new.path.items ≡ take last path = c.in_ok-finish.ensures.path ∙ ap (λ k. take k path) (omega (arith, long)) in
    advances_as g marks path _ _ _ _ _ _ c.in_ok-finish.ensures.marks path_is c.in_ok-finish.ensures.order
    (advances_done g marks path order last f c.requires.search long there all)

pub is_new-requires : goal.is_new-requires
is_new-requires c =
    let nodes = c.links-nodes.result.now in
    within_row nodes (nexts (graph_in c.args.graph.now) c.index-frame.result.now.node) (length (graph_in c.args.graph.now)) (length c.deref-2.result.now)
    c.links-nodes.ensures (sym c.requires.search.count ∙ sym (ap length c.deref-2.ensures.value)) (nexts_within (graph_in c.args.graph.now) c.index-frame.result.now.node c.requires.graph)
    c.skip-next.result 0 c.if-next-nodes.false

pub returns-then-not-is_new-clause-back : goal.returns-then-not-is_new-clause-back
returns-then-not-is_new-clause-back c = λ _.
    let g = graph_in c.args.graph.now in
    let marks = c.args.marks.now.items in
    let path = c.args.path.now.items in
    let order = c.args.order.now.items in
    let nodes = c.links-nodes.result.now in
    let f = c.index-frame.result.now in
    let last = c.len-last.result - 1 in
    let next = c.skip-next.result in
    let t = slice_index_or nodes next 0 in
    let long : suc last ≡ length path = omega (arith, c.len-last.ensures, c.requires.open) in
    let there : slice_get path last ≡ Some f = slice_get_read path (length path) last f refl (omega (arith, long)) c.index-frame.ensures in
    let at : slice_get nodes next ≡ Some t = slice_get-get_or nodes next 0 c.if-next-nodes.false in
    let edge : slice_get (nexts g f.node) next ≡ Some t = ap (λ (l : List ℕ). slice_get l next) (sym c.links-nodes.ensures) ∙ at in
    let not_done : option_map_or is_done (slice_get marks t) false ≡ false =
    ap (λ (l : List Mark). option_map_or is_done (slice_get l t) false) (sym c.deref.ensures.value) ∙ c.skip-next.ensures.stop t at in
    let not_new : option_map_or is_new (slice_get marks t) false ≡ false =
    ap (λ (l : List Mark). option_map_or is_new (slice_get l t) false) (sym c.deref-2.ensures.value) ∙ sym c.is_new.ensures ∙ search rules in
    let within : t < length marks =
    within_row nodes (nexts g f.node) (length g) (length marks) c.links-nodes.ensures (sym c.requires.search.count) (nexts_within g f.node c.requires.graph) next 0 c.if-next-nodes.false in
    let open_there = open_by_tests marks t within not_new not_done in
    (t, comes_back g marks path order last open_there.0 next t f c.requires.search long there edge open_there.1)

pub enter-requires : goal.enter-requires
enter-requires c =
    let nodes = c.links-nodes.result.now in
    within_row nodes (nexts (graph_in c.args.graph.now) c.index-frame.result.now.node) (length (graph_in c.args.graph.now)) (length c.args.marks.now.items)
    c.links-nodes.ensures (sym c.requires.search.count) (nexts_within (graph_in c.args.graph.now) c.index-frame.result.now.node c.requires.graph)
    c.skip-next.result 0 c.if-next-nodes.false

pub returns-clause-on : goal.returns-clause-on
returns-clause-on c = λ _.
    let g = graph_in c.args.graph.now in
    let marks = c.args.marks.now.items in
    let path = c.args.path.now.items in
    let order = c.args.order.now.items in
    let nodes = c.links-nodes.result.now in
    let f = c.index-frame.result.now in
    let last = c.len-last.result - 1 in
    let next = c.skip-next.result in
    let t = slice_index_or nodes next 0 in
    let long : suc last ≡ length path = omega (arith, c.len-last.ensures, c.requires.open) in
    let there : slice_get path last ≡ Some f = slice_get_read path (length path) last f refl (omega (arith, long)) c.index-frame.ensures in
    let at : slice_get nodes next ≡ Some t = slice_get-get_or nodes next 0 c.if-next-nodes.false in
    let edge : slice_get (nexts g f.node) next ≡ Some t = ap (λ (l : List ℕ). slice_get l next) (sym c.links-nodes.ensures) ∙ at in
    let seen : (k n : ℕ) → f.next ≤ k → k < c.skip-next.result → slice_get (nexts g f.node) k ≡ Some n → option_map_or is_done (slice_get marks n) false ≡ true =
    λ k n from less edge. ap (λ (l : List Mark). option_map_or is_done (slice_get l n) false) (sym c.deref.ensures.value)
    ∙ c.skip-next.ensures.passed k n from less (ap (λ (l : List ℕ). slice_get l k) c.links-nodes.ensures ∙ edge) in
    let passed = passed_to g marks path order last next f c.requires.search there seen in
    let is : option_map_or is_new (slice_get marks t) false ≡ true =
    ap (λ (l : List Mark). option_map_or is_new (slice_get l t) false) (sym c.deref-2.ensures.value) ∙ sym c.is_new.ensures ∙ search rules in
    advances_as g marks path _ _ _ _ _ _ (search rules) (search rules) refl
    (advances_on g marks path order last next t f c.requires.search long there passed edge (new_at marks t is))
