use Rattle.std.proofs.Common.{◌≡◌, ◌∙◌, ◌*◌, ℕ, ap}
use Rattle.std.proofs.lemmas.Result.{IfOk-weaker}
use Rattle.actor_machine.specs.Ledger.{Ledger, state_of}
use Rattle.script_links.specs.TermCommands.{plain_term_command}
use Rattle.script_links.specs.TermScripts.{plain_term_said}
use Rattle.script_play.specs.Captured.{TICK, time_of}
use Rattle.script_play.proofs.TermCaptures.{gone_out, out_captured, come_captured, met_captured, no_expectation}
use Rattle.script_play.proofs.captured_terminals.capture_next.Goals as goal

pub returns-in_ok-give_out-in-Out-clause-goes : goal.returns-in_ok-give_out-in-Out-clause-goes
returns-in_ok-give_out-in-Out-clause-goes g c on t before first run =
    gone_out c.args.keeps t before (plain_term_said c.args.said.now) _ first _ _ _ _ _ _ (ap plain_term_command c.in-Out.is) run c.in_ok-give_out-in-Out.ensures.given

pub returns-in_ok-give_out-in-Out-clause-captured : goal.returns-in_ok-give_out-in-Out-clause-captured
returns-in_ok-give_out-in-Out-clause-captured g c on every t before begun so_far =
    let time : c.in_ok-at.at ≡ time_of c.args.player.now.terminal =
    c.in_ok-at.ensures ∙ ap (λ (n : ℕ). TICK * n) (c.clock.ensures ∙ ap (λ (b : Ledger). (state_of b).timers.clock) c.book.ensures) in
    out_captured every c.args.keeps t before (plain_term_said c.args.said.now) _ begun _ _ _ _ _ _ _ _ c.in_ok-at.at _ _ (ap plain_term_command c.in-Out.is) time
    c.in_ok-give_out-in-Out.ensures.given (λ came ss now. c.in_ok-give_out-in-Out.ensures.captured every came ss begun now) so_far

pub returns-in-Expect-clause-captured : goal.returns-in-Expect-clause-captured
returns-in-Expect-clause-captured g c =
    IfOk-weaker c.obey.result _ _ (λ on obeyed is every t before begun so_far. met_captured every c.args.keeps t before (plain_term_said c.args.said.now) _ begun
    _ _ _ _ _ _ _ _ (ap plain_term_command c.in-Expect.is) (obeyed is) so_far) c.obey.ensures.obeyed

pub returns-in_ok-note-in_default-clause-captured : goal.returns-in_ok-note-in_default-clause-captured
returns-in_ok-note-in_default-clause-captured g c =
    let time : c.in_ok-at.at ≡ time_of c.args.player.now.terminal =
    c.in_ok-at.ensures ∙ ap (λ (n : ℕ). TICK * n) (c.clock.ensures ∙ ap (λ (b : Ledger). (state_of b).timers.clock) c.book.ensures) in
    let noted = c.in_ok-note-in_default.ensures in
    IfOk-weaker c.obey-in_default.result _ _ (λ on obeyed is every t before begun so_far. come_captured every c.args.keeps t before (plain_term_said c.args.said.now)
    noted.heard.0 begun _ _ _ _ _ _ _ _ c.in_ok-at.at _ _ noted.noted time noted.heard.1 (obeyed is)
    (λ came ss now. noted.heard.2 every came ss begun now) so_far) c.obey-in_default.ensures.obeyed

pub returns-in_ok-note-in_default-clause-uncaptured : goal.returns-in_ok-note-in_default-clause-uncaptured
returns-in_ok-note-in_default-clause-uncaptured g c =
    IfOk-weaker c.obey-in_default.result _ _ (λ on missed off. absurd (no_expectation (plain_term_command c.args.said.now.command) (missed off).text
    c.in_ok-note-in_default.ensures.noted (missed off).expects)) c.obey-in_default.ensures.missed
