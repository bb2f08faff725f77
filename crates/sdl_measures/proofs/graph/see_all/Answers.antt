use Rattle.sdl_measures.proofs.Marking.{finds_more}
use Rattle.sdl_measures.proofs.graph.see_all.Goals as goal

pub loop-node-preserved : goal.loop-node-preserved
loop-node-preserved c =
    finds_more c.args.nodes.now c.loop-node.node-index 0 _ _ _ _ _ _ c.loop-node-test.true c.loop-node.invariant c.in_ok-see.ensures
