-- The printed text of refusals: a code and its name.
use Rattle.std.specs.Prelude.{ℕ, List, codes}
use Rattle.resend_store.specs.declared.refusals.PutError.{PutError}
use Rattle.resend_store.specs.declared.refusals.PutError.TheVariants as put
use Rattle.resend_store.specs.declared.refusals.AckError.{AckError}
use Rattle.resend_store.specs.declared.refusals.AckError.TheVariants as ack
use Rattle.resend_store.specs.declared.refusals.RetrieveError.{RetrieveError}
use Rattle.resend_store.specs.declared.refusals.RetrieveError.TheVariants as retrieve
use Rattle.resend_store.specs.declared.refusals.UnitError.{UnitError}
use Rattle.resend_store.specs.declared.refusals.UnitError.TheVariants as unit

abbrev pub put_error_text : PutError → List ℕ
put_error_text put.Full = codes "E1 Full"

abbrev pub ack_error_text : AckError → List ℕ
ack_error_text ack.BadAck = codes "E2 BadAck"

abbrev pub retrieve_error_text : RetrieveError → List ℕ
retrieve_error_text retrieve.BadAck = codes "E2 BadAck"
retrieve_error_text retrieve.NoMemory = codes "NoMemory"

abbrev pub unit_error_text : UnitError → List ℕ
unit_error_text unit.BadIndicator = codes "E3 BadIndicator"
