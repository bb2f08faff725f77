use Rattle.std.proofs.Common.{refl, arith}
use Rattle.line_tending.proofs.Speaking.{passes_none, passes_back, passes_still, is_none, is_some_there}
use Rattle.line_tending.proofs.link_line.LinkLine.pass.Goals as goal

pub returns-then-is_empty-clause-passes : goal.returns-then-is_empty-clause-passes
returns-then-is_empty-clause-passes c =
    passes_none c.wait.result _ _ _ _ _ _ _ _ _ (is_none _ c.is_empty.result c.is_empty.ensures c.if-is_empty.true) c.wait.ensures.voice c.wait.ensures.waits

pub returns-then-quiet-ge-PATIENCE-clause-passes : goal.returns-then-quiet-ge-PATIENCE-clause-passes
returns-then-quiet-ge-PATIENCE-clause-passes c =
    passes_back _ _ _ _ _ _ _ _ _ _ _ (is_some_there _ c.is_empty.result c.is_empty.ensures c.if-is_empty.false) refl c.in_ok-hear.ensures.heard
    c.in_ok-speak.ensures.speaks c.speak.ensures.quiet (omega arith)

pub returns-else-quiet-ge-PATIENCE-clause-passes : goal.returns-else-quiet-ge-PATIENCE-clause-passes
returns-else-quiet-ge-PATIENCE-clause-passes c =
    passes_still _ _ _ _ _ _ _ _ _ _ _ (is_some_there _ c.is_empty.result c.is_empty.ensures c.if-is_empty.false) refl c.in_ok-hear.ensures.heard
    c.in_ok-speak.ensures.speaks c.speak.ensures.quiet (omega arith)
