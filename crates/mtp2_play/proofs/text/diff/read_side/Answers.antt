use Rattle.std.proofs.lemmas.Result.{IfErr-weaker, IfOk-weaker}
use Rattle.mtp2_play.proofs.Comparing.{of_some}
use Rattle.mtp2_play.proofs.text.diff.read_side.Goals as goal

pub returns-then-read-clause-set : goal.returns-then-read-clause-set
returns-then-read-clause-set g c = IfOk-weaker c.octets_side.result _ _ (λ side h. of_some _ _ h) c.octets_side.ensures.set

pub returns-then-read-clause-refused : goal.returns-then-read-clause-refused
returns-then-read-clause-refused g c = IfErr-weaker c.octets_side.result _ _ (λ s h two. of_some _ _ (h two)) c.octets_side.ensures.refused

pub returns-in-Ok-clause-set : goal.returns-in-Ok-clause-set
returns-in-Ok-clause-set g c = IfOk-weaker c.octets_side-else-read.result _ _ (λ side h. of_some _ _ h) c.octets_side-else-read.ensures.set

pub returns-in-Ok-clause-refused : goal.returns-in-Ok-clause-refused
returns-in-Ok-clause-refused g c =
    IfErr-weaker c.octets_side-else-read.result _ _ (λ s h two. of_some _ _ (h two)) c.octets_side-else-read.ensures.refused
