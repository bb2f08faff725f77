use Rattle.std.proofs.Common.{◌∙◌, Some, ap, refl}
use Rattle.script_links.specs.TermCommands.{plain_term_command}
use Rattle.script_links.specs.TermScripts.{plain_term_said}
use Rattle.script_ends.specs.TermRuns.{was_met, was_done}
use Rattle.script_ends.proofs.TermRuns.{run_held, run_printed, printed_one, obeys_one, obeys_out}
use Rattle.script_ends.proofs.terminals.TermPlayer.obey.Goals as goal

pub returns-then-has_printed-clause-goes : goal.returns-then-has_printed-clause-goes
returns-then-has_printed-clause-goes g c on t before first run =
    run_held c.args.keeps t before (plain_term_said c.args.said.now) c.in-Expect.text.items first _ _ _ (ap plain_term_command c.in-Expect.is)
    (c.has_printed.ensures.0 c.if-has_printed.true ∙ ap Some c.deref.ensures.value) run

pub returns-in_ok-print_units-in-Out-clause-goes : goal.returns-in_ok-print_units-in-Out-clause-goes
returns-in_ok-print_units-in-Out-clause-goes g c on t before first run =
    let given = c.in_ok-print_units-in-Out.ensures in
    run_printed c.args.keeps t before (plain_term_said c.args.said.now) given.lines first _ _ _ _ _ _
    (obeys_out c.args.keeps c.args.said.now.command _ _ _ given.lines c.in-Out.is given.out) given.printed run

pub returns-in_ok-print-in_default-clause-goes : goal.returns-in_ok-print-in_default-clause-goes
returns-in_ok-print-in_default-clause-goes g c on t before first run =
    run_printed c.args.keeps t before (plain_term_said c.args.said.now) _ first _ _ _ _ _ _
    (obeys_one c.args.keeps c.args.said.now.command _ _ c.in_ok-line-in_default.line.items c.in_default.not-Expect c.in_default.not-Out c.in_ok-line-in_default.ensures)
    (printed_one _ _ _ _ c.in_ok-line-in_default.line.items c.in_ok-print-in_default.ensures.last c.in_ok-print-in_default.ensures.written) run

pub returns-then-has_printed-clause-obeyed : goal.returns-then-has_printed-clause-obeyed
returns-then-has_printed-clause-obeyed g c on =
    was_met c.in-Expect.text.items (ap plain_term_command c.in-Expect.is) (c.has_printed.ensures.0 c.if-has_printed.true ∙ ap Some c.deref.ensures.value) refl refl refl

pub returns-in_ok-print_units-in-Out-clause-obeyed : goal.returns-in_ok-print_units-in-Out-clause-obeyed
returns-in_ok-print_units-in-Out-clause-obeyed g c on =
    let given = c.in_ok-print_units-in-Out.ensures in
    was_done given.lines (obeys_out c.args.keeps c.args.said.now.command _ _ _ given.lines c.in-Out.is given.out) given.printed

pub returns-in_ok-print-in_default-clause-obeyed : goal.returns-in_ok-print-in_default-clause-obeyed
returns-in_ok-print-in_default-clause-obeyed g c on =
    was_done _
    (obeys_one c.args.keeps c.args.said.now.command _ _ c.in_ok-line-in_default.line.items c.in_default.not-Expect c.in_default.not-Out c.in_ok-line-in_default.ensures)
    (printed_one _ _ _ _ c.in_ok-line-in_default.line.items c.in_ok-print-in_default.ensures.last c.in_ok-print-in_default.ensures.written)
