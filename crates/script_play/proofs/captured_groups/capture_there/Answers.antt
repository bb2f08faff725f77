use Rattle.std.proofs.Common.{◌≡◌, ◌∙◌, ◌*◌, ℕ, ap, arith}
use Rattle.std.proofs.lemmas.Result.{IfOk-weaker}
use Rattle.script_links.specs.GroupCommands.{plain_group_command}
use Rattle.script_links.specs.GroupScripts.{plain_group_said}
use Rattle.script_seen.specs.GroupRuns.{playing_of}
use Rattle.script_play.specs.Captured.{TICK}
use Rattle.script_play.specs.CapturedSets.{set_time}
use Rattle.script_play.proofs.SetCommands.{set_gone_out, there_out, there_come, there_met, no_expectation}
use Rattle.script_play.proofs.captured_groups.capture_there.Goals as goal

pub returns-in_ok-give_out-in-Out-clause-goes : goal.returns-in_ok-give_out-in-Out-clause-goes
returns-in_ok-give_out-in-Out-clause-goes g c on p before first run =
    let given = c.in_ok-give_out-in-Out.ensures in
    set_gone_out p before (plain_group_said c.args.said.now) _ first _ _ _ _ _ _ (ap plain_group_command c.in-Out.is) given.given given.on run

pub returns-in_ok-give_out-in-Out-clause-captured : goal.returns-in_ok-give_out-in-Out-clause-captured
returns-in_ok-give_out-in-Out-clause-captured g c on every p before all came seen begun goes there known =
    let given = c.in_ok-give_out-in-Out.ensures in
    let time : c.in_ok-at.at ≡ set_time (playing_of c.args.player.now) = c.in_ok-at.ensures ∙ ap (λ (n : ℕ). TICK * n) c.clock_of.ensures in
    there_out every p before (plain_group_said c.args.said.now) _ begun _ _ _ _ _ _ _ _ all came seen c.in_ok-at.at _ _ (ap plain_group_command c.in-Out.is) time given.given
    given.on (λ now. given.captured every came seen begun now) goes there known

pub returns-in-Expect-clause-captured : goal.returns-in-Expect-clause-captured
returns-in-Expect-clause-captured g c =
    IfOk-weaker c.obey.result _ _ (λ on obeyed is every p before all came seen begun goes there known. there_met every p before (plain_group_said c.args.said.now) _ begun
    _ _ _ _ _ _ _ all came seen _ (ap plain_group_command c.in-Expect.is) (obeyed is) goes there known) c.obey.ensures.obeyed

pub returns-in_ok-note-in_default-clause-captured : goal.returns-in_ok-note-in_default-clause-captured
returns-in_ok-note-in_default-clause-captured g c =
    let noted = c.in_ok-note-in_default.ensures in
    let time : c.in_ok-at.at ≡ set_time (playing_of c.args.player.now) = c.in_ok-at.ensures ∙ ap (λ (n : ℕ). TICK * n) c.clock_of.ensures in
    IfOk-weaker c.obey-in_default.result _ _ (λ on obeyed is every p before all came seen begun goes there known. there_come every p before
    (plain_group_said c.args.said.now) noted.heard.0 begun _ _ _ _ _ _ _ _ all came seen c.in_ok-at.at _ _ _ noted.noted (omega (arith, c.requires.few)) time noted.heard.1 (obeyed is)
    (λ now. noted.heard.2 every came seen begun now) goes there known) c.obey-in_default.ensures.obeyed

pub returns-in_ok-note-in_default-clause-uncaptured : goal.returns-in_ok-note-in_default-clause-uncaptured
returns-in_ok-note-in_default-clause-uncaptured g c =
    IfOk-weaker c.obey-in_default.result _ _ (λ on missed off. absurd (no_expectation (plain_group_command c.args.said.now.command) (missed off).text
    c.in_ok-note-in_default.ensures.noted (missed off).expects)) c.obey-in_default.ensures.missed
