use Rattle.std.proofs.Common.{subst, List, [], ℕ}
use Rattle.std.specs.Prelude.{IfSome}
use Rattle.script_lines.specs.LineFaults.{IsSo, is_no_verb}
use Rattle.script_lines.proofs.FirstWords.{first_off}
use Rattle.script_lines.proofs.line_faults.book_line_fault.Goals as goal

pub returns-in-Some-Env : goal.returns-in-Some-Env
returns-in-Some-Env c =
    subst (λ ws. IfSome c.setting_fault.result (IsSo is_no_verb ws))
    (first_off c.args.words.now (record { ref_ptr = (0, 0); now = [] }) c.in-len1-up.len_at_least) (c.setting_fault.ensures is_no_verb)

pub returns-in-Some : goal.returns-in-Some
returns-in-Some c =
    subst (λ ws. IfSome c.verb_fault.result (IsSo is_no_verb ws))
    (first_off c.args.words.now (record { ref_ptr = (0, 0); now = [] }) c.in-len1-up.len_at_least) (c.verb_fault.ensures is_no_verb)

pub returns-in-Some-range_of : goal.returns-in-Some-range_of
returns-in-Some-range_of c =
    subst (λ ws. IfSome c.setting_fault-in-Some-range_of.result (IsSo is_no_verb ws))
    (first_off c.args.words.now (record { ref_ptr = (0, 0); now = [] }) c.in-len1-up.len_at_least)
    (c.setting_fault-in-Some-range_of.ensures is_no_verb)
