use Rattle.std.proofs.Common.{subst, []}
use Rattle.std.specs.Prelude.{IfSome}
use Rattle.script_lines.specs.LineFaults.{IsSo}
use Rattle.script_lines.proofs.FirstWords.{first_off}
use Rattle.pool_soak.specs.Faults.{is_no_step}
use Rattle.pool_soak.proofs.soak_faults.soak_line_fault.Goals as goal

pub returns-then-eq : goal.returns-then-eq
returns-then-eq c =
    subst (λ ws. IfSome c.count_fault.result (IsSo is_no_step ws))
    (first_off c.args.words.now (record { ref_ptr = (0, 0); now = [] }) c.in-len1-up.len_at_least)
    (c.count_fault.ensures is_no_step)

pub returns-then-eq-2 : goal.returns-then-eq-2
returns-then-eq-2 c =
    subst (λ ws. IfSome c.count_fault-then-eq-2.result (IsSo is_no_step ws))
    (first_off c.args.words.now (record { ref_ptr = (0, 0); now = [] }) c.in-len1-up.len_at_least)
    (c.count_fault-then-eq-2.ensures is_no_step)

pub returns-in-Some-Offer : goal.returns-in-Some-Offer
returns-in-Some-Offer c =
    subst (λ ws. IfSome c.verb_fault.result (IsSo is_no_step ws))
    (first_off c.args.words.now (record { ref_ptr = (0, 0); now = [] }) c.in-len1-up.len_at_least)
    (c.verb_fault.ensures is_no_step)

pub returns-in-Some-Tick : goal.returns-in-Some-Tick
returns-in-Some-Tick c =
    subst (λ ws. IfSome c.verb_fault-in-Some-Tick.result (IsSo is_no_step ws))
    (first_off c.args.words.now (record { ref_ptr = (0, 0); now = [] }) c.in-len1-up.len_at_least)
    (c.verb_fault-in-Some-Tick.ensures is_no_step)
