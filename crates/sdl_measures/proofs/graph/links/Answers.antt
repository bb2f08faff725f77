use Rattle.std.proofs.Common.{◌≡◌, Some, length, refl, sym, ◌∙◌}
use Rattle.std.specs.Prelude.{slice_get}
use Rattle.std.proofs.lemmas.Option.{slice_get_read}
use Rattle.sdl_measures.proofs.Marking.{nexts_read}
use Rattle.sdl_measures.proofs.graph.links.Goals as goal

pub returns : goal.returns
returns c =
    let rows = c.args.graph.now in
    let row = c.index-graph-node.result in
    let there : slice_get rows c.args.node ≡ Some row = slice_get_read rows (length rows) c.args.node row refl c.requires c.index-graph-node.is in
    c.deref.ensures.value ∙ sym (nexts_read rows c.args.node row there)
