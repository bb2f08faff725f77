use Rattle.std.proofs.Common.{◌≡◌, ◌∙◌, sym, ap, ◌++◌, [], ◌∷◌, arith}
use Rattle.std.specs.List.{range_with_len}
use Rattle.tick_wheel.specs.Sizes.{NODES}
use Rattle.tick_wheel.proofs.Tables.{range-more}
use Rattle.tick_wheel.proofs.slots.each_itself.Goals as goal

pub loop-node-preserved : goal.loop-node-preserved
loop-node-preserved c = record {
  made = c.in_ok-push.ensures.items ∙ ap (λ xs. xs ++ c.loop-node.node ∷ []) c.loop-node.invariant.made ∙ sym (range-more c.loop-node.node);
  within = omega arith;
}

pub returns : goal.returns
returns c = let all : c.loop-node.node ≡ NODES = omega (arith, c.loop-node.invariant.within) in c.loop-node.invariant.made ∙ ap (range_with_len 0) all
