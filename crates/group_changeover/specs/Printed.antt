-- The printed text of a link set's refusals.
use Rattle.std.specs.Prelude.{ℕ, List, ◌++◌, codes}
use Rattle.std.specs.Fmt.{decimal}
use Rattle.group_changeover.specs.declared.errors.SendError.{SendError}
use Rattle.group_changeover.specs.declared.errors.SendError.TheVariants as send
use Rattle.group_changeover.specs.declared.errors.BindError.{BindError}
use Rattle.group_changeover.specs.declared.errors.BindError.TheVariants as bind
use Rattle.group_changeover.specs.declared.errors.FailError.{FailError}
use Rattle.group_changeover.specs.declared.errors.FailError.TheVariants as fail
use Rattle.group_changeover.specs.declared.errors.RetrieveError.{RetrieveError}
use Rattle.group_changeover.specs.declared.errors.RetrieveError.TheVariants as retrieve
use Rattle.group_changeover.specs.declared.errors.AbandonError.{AbandonError}
use Rattle.group_changeover.specs.declared.errors.AbandonError.TheVariants as abandon
use Rattle.group_changeover.specs.declared.errors.DivertFault.{DivertFault}
use Rattle.group_changeover.specs.declared.errors.DivertFault.TheVariants as divert
use Rattle.group_changeover.specs.declared.errors.RebalanceError.{RebalanceError}
use Rattle.group_changeover.specs.declared.errors.RebalanceError.TheVariants as rebalance
use Rattle.group_changeover.specs.declared.errors.LinkError.{LinkError}
use Rattle.group_changeover.specs.declared.errors.LinkError.TheVariants as link
use Rattle.group_changeover.specs.declared.errors.LineError.{LineError}
use Rattle.group_changeover.specs.declared.errors.LineError.TheVariants as line

abbrev pub send_error_text : SendError → List ℕ
send_error_text send.Bound = codes "K5 Bound"
send_error_text send.NoLink = codes "K1 NoLink"
send_error_text send.Waiting = codes "K2 Waiting"
send_error_text send.Full = codes "E1 Full"

abbrev pub bind_error_text : BindError → List ℕ
bind_error_text bind.NoLink = codes "K1 NoLink"
bind_error_text bind.Full = codes "E1 Full"

abbrev pub fail_error_text : FailError → List ℕ
fail_error_text fail.NoLink = codes "K1 NoLink"
fail_error_text fail.Waiting = codes "K2 Waiting"

abbrev pub retrieve_error_text : RetrieveError → List ℕ
retrieve_error_text retrieve.NoLink = codes "K1 NoLink"
retrieve_error_text retrieve.Waiting = codes "K2 Waiting"
retrieve_error_text (retrieve.Unsure count) = codes "K4 Unsure " ++ decimal count
retrieve_error_text retrieve.NoMemory = codes "out of memory"

abbrev pub abandon_error_text : AbandonError → List ℕ
abandon_error_text abandon.NoLink = codes "K1 NoLink"
abandon_error_text abandon.Waiting = codes "K2 Waiting"
abandon_error_text abandon.NoMemory = codes "out of memory"

abbrev pub divert_fault_text : DivertFault → List ℕ
divert_fault_text divert.NoLink = codes "K1 NoLink"
divert_fault_text divert.Full = codes "E1 Full"

abbrev pub rebalance_error_text : RebalanceError → List ℕ
rebalance_error_text rebalance.Waiting = codes "K2 Waiting"
rebalance_error_text rebalance.NotEmpty = codes "K3 NotEmpty"

abbrev pub link_error_text : LinkError → List ℕ
link_error_text link.NoLink = codes "K1 NoLink"

abbrev pub line_error_text : LineError → List ℕ
line_error_text line.NoLink = codes "K1 NoLink"
line_error_text line.NoMemory = codes "out of memory"
