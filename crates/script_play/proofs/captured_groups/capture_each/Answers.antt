use Rattle.std.proofs.Common.{map}
use Rattle.script_links.specs.GroupScripts.{plain_group_said}
use Rattle.script_seen.specs.GroupRuns.{playing_of, last_of}
use Rattle.script_play.proofs.SetCaptures.{set_begins, set_goes_on, set_gone, set_captured_all, set_captured_part, set_written, set_missed_at}
use Rattle.script_play.proofs.captured_groups.capture_each.Goals as goal

pub loop-said-init : goal.loop-said-init
loop-said-init g c =
    set_begins (playing_of c.args.player.now) (last_of c.args.player.now) (g.W.Write.contents c.args.writer.now) (g.T.Write.contents c.args.out.now) c.args.links.now

pub loop-said-preserved : goal.loop-said-preserved
loop-said-preserved g c =
    let so_far = c.loop-said.invariant in
    let next = c.in_ok-capture_next.ensures in
    let on = c.if-not-branch.false in
    let p = playing_of c.args.player.now in
    set_goes_on p c.args.commands.now c.loop-said.said-index c.said-item.result (last_of c.args.player.now) _ _ _ _ _ _ _ _ c.loop-said-test.true c.said-item.is
    (record {
      run = λ none. next.goes on p _ _ (so_far.run none);
      captured = λ none every start heard header. next.captured on every p _ _ (so_far.captured none every start heard header);
    })

pub returns-then-not-branch-clause-missed : goal.returns-then-not-branch-clause-missed
returns-then-not-branch-clause-missed g c one none =
    set_missed_at (playing_of c.args.player.now) c.args.commands.now c.loop-said.said-index c.said-item.result _ _ _ _ _ c.loop-said-test.true c.said-item.is
    (c.loop-said.invariant.run none) (c.in_ok-capture_next.ensures.missed c.if-not-branch.true)

pub returns-then-not-branch-clause-in_part : goal.returns-then-not-branch-clause-in_part
returns-then-not-branch-clause-in_part g c one none every begun heard header =
    set_captured_part every (playing_of c.args.player.now) c.args.commands.now c.loop-said.said-index c.said-item.result _ _ _ _ _ _ _ _ c.loop-said-test.true c.said-item.is
    (c.in_ok-capture_next.ensures.uncaptured c.if-not-branch.true) (c.in_ok-capture_next.ensures.missed c.if-not-branch.true)
    (c.loop-said.invariant.captured none every begun heard header)

pub returns-clause-held : goal.returns-clause-held
returns-clause-held g c zero none =
    let gone = set_gone (playing_of c.args.player.now) c.args.commands.now c.loop-said.said-index (last_of c.args.player.now) _ _ _ _ _ _ _ _ c.loop-said-test.false
    c.loop-said.invariant in
    set_written (playing_of c.args.player.now) _ _ _ _ _ (gone.run none)

pub returns-clause-captured : goal.returns-clause-captured
returns-clause-captured g c zero none every begun heard header =
    let gone = set_gone (playing_of c.args.player.now) c.args.commands.now c.loop-said.said-index (last_of c.args.player.now) _ _ _ _ _ _ _ _ c.loop-said-test.false
    c.loop-said.invariant in
    set_captured_all every (playing_of c.args.player.now) (map plain_group_said c.args.commands.now) _ _ _ _ _ (gone.captured none every begun heard header)
