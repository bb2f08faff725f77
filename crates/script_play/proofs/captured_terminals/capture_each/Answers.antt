use Rattle.std.proofs.Common.{map}
use Rattle.script_links.specs.TermScripts.{plain_term_said}
use Rattle.script_seen.specs.TermRuns.{last_of}
use Rattle.script_play.proofs.TermCaptures.{term_begins, term_goes_on, term_gone, term_missed_at, term_captured_all, term_captured_part}
use Rattle.script_play.proofs.captured_terminals.capture_each.Goals as goal

pub loop-said-init : goal.loop-said-init
loop-said-init g c =
    term_begins c.args.keeps c.args.player.now.terminal (last_of c.args.player.now) (g.W.Write.contents c.args.writer.now) (g.T.Write.contents c.args.out.now) c.args.link.now

pub loop-said-preserved : goal.loop-said-preserved
loop-said-preserved g c =
    let so_far = c.loop-said.invariant in
    let next = c.in_ok-capture_next.ensures in
    let on = c.if-not-branch.false in
    let t = c.args.player.now.terminal in
    term_goes_on c.args.keeps t c.args.commands.now c.loop-said.said-index c.said-item.result (last_of c.args.player.now) _ _ _ _ _ _ _ _ c.loop-said-test.true c.said-item.is
    (record {
      run = λ none. next.goes on t _ _ (so_far.run none);
      captured = λ none every start heard. next.captured on every t _ _ (so_far.captured none every start heard);
    })

pub returns-then-not-branch-clause-missed : goal.returns-then-not-branch-clause-missed
returns-then-not-branch-clause-missed g c one none =
    term_missed_at c.args.keeps c.args.player.now.terminal c.args.commands.now c.loop-said.said-index c.said-item.result _ _ _ _ _ c.loop-said-test.true c.said-item.is
    (c.loop-said.invariant.run none) (c.in_ok-capture_next.ensures.missed c.if-not-branch.true)

pub returns-then-not-branch-clause-in_part : goal.returns-then-not-branch-clause-in_part
returns-then-not-branch-clause-in_part g c one none every begun heard =
    term_captured_part every c.args.keeps c.args.player.now.terminal c.args.commands.now c.loop-said.said-index c.said-item.result _ _ _ _ _ _ _ _ c.loop-said-test.true
    c.said-item.is (c.in_ok-capture_next.ensures.uncaptured c.if-not-branch.true) (c.in_ok-capture_next.ensures.missed c.if-not-branch.true)
    (c.loop-said.invariant.captured none every begun heard)

pub returns-clause-held : goal.returns-clause-held
returns-clause-held g c zero none =
    let gone = term_gone c.args.keeps c.args.player.now.terminal c.args.commands.now c.loop-said.said-index (last_of c.args.player.now) _ _ _ _ _ _ _ _ c.loop-said-test.false
    c.loop-said.invariant in
    (_, _, gone.run none)

pub returns-clause-captured : goal.returns-clause-captured
returns-clause-captured g c zero none every begun heard =
    let gone = term_gone c.args.keeps c.args.player.now.terminal c.args.commands.now c.loop-said.said-index (last_of c.args.player.now) _ _ _ _ _ _ _ _ c.loop-said-test.false
    c.loop-said.invariant in
    term_captured_all every c.args.keeps c.args.player.now.terminal (map plain_term_said c.args.commands.now) _ _ _ _ _ (gone.captured none every begun heard)
