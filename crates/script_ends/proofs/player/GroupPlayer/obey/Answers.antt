use Rattle.std.proofs.Common.{◌∙◌, Some, ap, refl}
use Rattle.script_links.specs.GroupCommands.{plain_group_command}
use Rattle.script_links.specs.GroupScripts.{plain_group_said}
use Rattle.script_ends.proofs.TermRuns.{printed_one, printed_none}
use Rattle.script_ends.specs.GroupRuns.{was_met, was_done}
use Rattle.script_ends.proofs.GroupRuns.{run_held, run_printed, obeys_one, obeys_out, obeys_on}
use Rattle.script_ends.proofs.player.GroupPlayer.obey.Goals as goal

pub returns-then-has_printed-clause-goes : goal.returns-then-has_printed-clause-goes
returns-then-has_printed-clause-goes g c on p before first run =
    run_held p before (plain_group_said c.args.said.now) c.in-Expect.text.items first _ _ _ (ap plain_group_command c.in-Expect.is)
    (c.has_printed.ensures.0 c.if-has_printed.true ∙ ap Some c.deref.ensures.value) run

pub returns-in-On-clause-goes : goal.returns-in-On-clause-goes
returns-in-On-clause-goes g c on p before first run =
    run_printed p before (plain_group_said c.args.said.now) _ first _ _ _ _ _ _ (obeys_on c.args.said.now.command _ _ _ c.in-On.is refl)
    (printed_none _ _) run

pub returns-in_ok-give_out-in-Out-clause-goes : goal.returns-in_ok-give_out-in-Out-clause-goes
returns-in_ok-give_out-in-Out-clause-goes g c on p before first run =
    let given = c.in_ok-give_out-in-Out.ensures in
    run_printed p before (plain_group_said c.args.said.now) given.lines first _ _ _ _ _ _
    (obeys_out c.args.said.now.command _ _ _ given.lines c.in-Out.is (record { goes = given.out; on = refl })) given.printed run

pub returns-in_ok-print-in_default-clause-goes : goal.returns-in_ok-print-in_default-clause-goes
returns-in_ok-print-in_default-clause-goes g c on p before first run =
    run_printed p before (plain_group_said c.args.said.now) _ first _ _ _ _ _ _
    (obeys_one c.args.said.now.command _ _ c.in_ok-line-in_default.line.items c.in_default.not-Expect c.in_default.not-On c.in_default.not-Out
    c.in_ok-line-in_default.ensures)
    (printed_one _ _ _ _ c.in_ok-line-in_default.line.items c.in_ok-print-in_default.ensures.last c.in_ok-print-in_default.ensures.written) run

pub returns-then-has_printed-clause-obeyed : goal.returns-then-has_printed-clause-obeyed
returns-then-has_printed-clause-obeyed g c on =
    was_met c.in-Expect.text.items (ap plain_group_command c.in-Expect.is) (c.has_printed.ensures.0 c.if-has_printed.true ∙ ap Some c.deref.ensures.value) refl refl refl

pub returns-in-On-clause-obeyed : goal.returns-in-On-clause-obeyed
returns-in-On-clause-obeyed g c on = was_done _ (obeys_on c.args.said.now.command _ _ _ c.in-On.is refl) (printed_none _ _)

pub returns-in_ok-give_out-in-Out-clause-obeyed : goal.returns-in_ok-give_out-in-Out-clause-obeyed
returns-in_ok-give_out-in-Out-clause-obeyed g c on =
    let given = c.in_ok-give_out-in-Out.ensures in
    was_done given.lines (obeys_out c.args.said.now.command _ _ _ given.lines c.in-Out.is (record { goes = given.out; on = refl })) given.printed

pub returns-in_ok-print-in_default-clause-obeyed : goal.returns-in_ok-print-in_default-clause-obeyed
returns-in_ok-print-in_default-clause-obeyed g c on =
    was_done _
    (obeys_one c.args.said.now.command _ _ c.in_ok-line-in_default.line.items c.in_default.not-Expect c.in_default.not-On c.in_default.not-Out
    c.in_ok-line-in_default.ensures)
    (printed_one _ _ _ _ c.in_ok-line-in_default.line.items c.in_ok-print-in_default.ensures.last c.in_ok-print-in_default.ensures.written)
