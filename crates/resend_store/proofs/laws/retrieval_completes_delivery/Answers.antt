use Rattle.resend_store.proofs.Completing.{retrieval_completes}
use Rattle.resend_store.proofs.laws.retrieval_completes_delivery.Goals as goal

pub returns : goal.returns
returns c = retrieval_completes
