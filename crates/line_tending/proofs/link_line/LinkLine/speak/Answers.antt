use Rattle.std.proofs.Common.{refl, ◌∙◌, arith}
use Rattle.line_tending.proofs.Doing.{adds_nothing, adds_then}
use Rattle.line_tending.proofs.Speaking.{speaks_nothing, speaks_more, speaks_all}
use Rattle.line_tending.proofs.link_line.LinkLine.speak.Goals as goal

pub loop-octet-init : goal.loop-octet-init
loop-octet-init c = record { speaks = speaks_nothing _ _ _ _; adds = adds_nothing _; quiet = refl }

pub loop-octet-preserved : goal.loop-octet-preserved
loop-octet-preserved c = record {
  speaks = speaks_more _ _ _ _ _ _ _ _ _ _ _ _ c.loop-octet.invariant.speaks c.in_ok-octet.ensures.gives c.in_ok-push_octet.ensures;
  adds = adds_then _ _ _ c.loop-octet.invariant.adds c.in_ok-octet.ensures.adds;
  quiet = c.in_ok-octet.ensures.quiet ∙ c.loop-octet.invariant.quiet;
}

pub returns-clause-speaks : goal.returns-clause-speaks
returns-clause-speaks c = speaks_all _ _ c.loop-octet._octet _ _ _ _ _ _ c.loop-octet.invariant.speaks (omega arith) (omega arith)
