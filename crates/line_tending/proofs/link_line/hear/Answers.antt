use Rattle.line_tending.proofs.Speaking.{heard_none, heard_more, heard_all, is_none}
use Rattle.line_tending.proofs.link_line.hear.Goals as goal

pub loop-part-init : goal.loop-part-init
loop-part-init c = heard_none _ _ _

pub loop-part-preserved : goal.loop-part-preserved
loop-part-preserved c = heard_more _ _ _ _ _ _ _ c.loop-part.invariant c.in_ok-rest.ensures.heard

pub returns-then-is_empty-clause-heard : goal.returns-then-is_empty-clause-heard
returns-then-is_empty-clause-heard c = heard_all _ _ _ _ _ c.loop-part.invariant (is_none _ c.is_empty.result c.is_empty.ensures c.if-is_empty.true)

pub returns-then-is_empty-2-clause-heard : goal.returns-then-is_empty-2-clause-heard
returns-then-is_empty-2-clause-heard c = heard_all _ _ _ _ _ c.loop-part.invariant (is_none _ c.is_empty-2.result c.is_empty-2.ensures c.if-is_empty-2.true)
