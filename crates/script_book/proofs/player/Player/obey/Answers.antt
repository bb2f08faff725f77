use Rattle.std.proofs.Common.{◌∙◌, Some, ap}
use Rattle.script_lines.specs.Commands.{plain_command}
use Rattle.script_lines.specs.Scripts.{plain_said}
use Rattle.script_book.proofs.Runs.{run_held, run_printed, no_expectation}
use Rattle.script_book.proofs.player.Player.obey.Goals as goal

pub returns-then-has_printed-clause-goes : goal.returns-then-has_printed-clause-goes
returns-then-has_printed-clause-goes g c on b before first run =
    run_held b before (plain_said c.args.said.now) c.in-Expect.text.items first _ _ _ (ap plain_command c.in-Expect.is)
    (c.has_printed.ensures.0 c.if-has_printed.true ∙ ap Some c.deref.ensures.value) run

pub returns-in_ok-print-in_default-clause-goes : goal.returns-in_ok-print-in_default-clause-goes
returns-in_ok-print-in_default-clause-goes g c on b before first run =
    run_printed b before (plain_said c.args.said.now) c.in_ok-line-in_default.line.items first _ _ _ _ _ _
    (no_expectation c.args.said.now.command c.in_default.not-Expect) c.in_ok-line-in_default.ensures.line c.in_ok-line-in_default.ensures.book c.in_ok-print-in_default.ensures.written c.in_ok-print-in_default.ensures.last run
