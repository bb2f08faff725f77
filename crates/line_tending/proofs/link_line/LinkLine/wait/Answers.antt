use Rattle.std.proofs.Common.{arith}
use Rattle.line_tending.proofs.Speaking.{waits_on, waits_between, waits_first, waits_anew, silent_none, silent_more, silent_all}
use Rattle.line_tending.proofs.link_line.LinkLine.wait.Goals as goal

pub loop-octet-init : goal.loop-octet-init
loop-octet-init c = silent_none _

pub loop-octet-preserved : goal.loop-octet-preserved
loop-octet-preserved c = silent_more _ _ _ c.loop-octet._octet c.loop-octet.invariant c.in_ok-push_octet.ensures

pub returns-then-self-lt-PATIENCE-clause-waits : goal.returns-then-self-lt-PATIENCE-clause-waits
returns-then-self-lt-PATIENCE-clause-waits c = waits_on _ _ _ _ _ _ (omega arith) (omega arith)

pub returns-then-self-ne0-clause-waits : goal.returns-then-self-ne0-clause-waits
returns-then-self-ne0-clause-waits c =
    waits_between _ _ _ _ _ _ _ (omega arith) (omega arith) (λ whole. absurd (omega (arith, whole))) c.in_ok-hear.ensures.heard

pub returns-then-self-eq-PATIENCE-clause-waits : goal.returns-then-self-eq-PATIENCE-clause-waits
returns-then-self-eq-PATIENCE-clause-waits c =
    waits_first _ _ _ _ _ _ _ _ (omega arith) (omega arith) (silent_all _ _ _ c.loop-octet._octet c.loop-octet.invariant (omega arith) (omega arith)) c.in_ok-hear.ensures.heard

pub returns-else-self-eq-PATIENCE-clause-waits : goal.returns-else-self-eq-PATIENCE-clause-waits
returns-else-self-eq-PATIENCE-clause-waits c =
    waits_anew _ _ _ _ _ _ _ _ (omega arith) (omega arith) (omega arith) (λ first. absurd (omega (arith, first)))
    (silent_all _ _ _ c.loop-octet._octet c.loop-octet.invariant (omega arith) (omega arith)) c.in_ok-hear.ensures.heard
