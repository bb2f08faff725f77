use Rattle.std.proofs.Common.{map}
use Rattle.script_lines.specs.Lines.{plain_line}
use Rattle.script_links.specs.GroupScripts.{plain_group_said}
use Rattle.script_ends.specs.GroupRuns.{playing_of, last_of}
use Rattle.script_seen.proofs.SetTraces.{set_begins, set_goes_on, set_gone, set_written, set_traced_all, set_missed_at, set_traced_part}
use Rattle.script_seen.proofs.traced_groups.trace_each.Goals as goal

pub loop-said-init : goal.loop-said-init
loop-said-init g c =
    set_begins (map plain_line c.args.lines.now) (playing_of c.args.player.now) (last_of c.args.player.now) (g.W.Write.contents c.args.writer.now)
    (g.T.Write.contents c.args.trace.now) c.args.tracers.now

pub loop-said-preserved : goal.loop-said-preserved
loop-said-preserved g c =
    let so_far = c.loop-said.invariant in
    let next = c.in_ok-trace_next.ensures in
    let on = c.if-not-branch.false in
    let p = playing_of c.args.player.now in
    set_goes_on (map plain_line c.args.lines.now) p c.args.commands.now c.loop-said.said-index c.said-item.result (last_of c.args.player.now) _ _ _ _ _ _ _ _
    c.loop-said-test.true c.said-item.is
    (record {
      run = λ none. next.goes on p _ _ (so_far.run none);
      traced = λ none every d at. next.traced on every d p _ _ (so_far.traced none every d at);
    })

pub returns-then-not-branch-clause-missed : goal.returns-then-not-branch-clause-missed
returns-then-not-branch-clause-missed g c one none =
    set_missed_at (playing_of c.args.player.now) c.args.commands.now c.loop-said.said-index c.said-item.result _ _ _ _ _ c.loop-said-test.true c.said-item.is
    (c.loop-said.invariant.run none) (c.in_ok-trace_next.ensures.missed c.if-not-branch.true)

pub returns-then-not-branch-clause-in_part : goal.returns-then-not-branch-clause-in_part
returns-then-not-branch-clause-in_part g c one none every d at =
    set_traced_part every (map plain_line c.args.lines.now) d (playing_of c.args.player.now) c.args.commands.now c.loop-said.said-index c.said-item.result _ _ _ _ _ _ _ _
    c.loop-said-test.true c.said-item.is (c.in_ok-trace_next.ensures.untraced c.if-not-branch.true) (c.in_ok-trace_next.ensures.missed c.if-not-branch.true)
    (c.loop-said.invariant.traced none every d at)

pub returns-clause-held : goal.returns-clause-held
returns-clause-held g c zero none =
    let gone = set_gone (map plain_line c.args.lines.now) (playing_of c.args.player.now) c.args.commands.now c.loop-said.said-index (last_of c.args.player.now) _ _ _ _ _ _ _ _
    c.loop-said-test.false c.loop-said.invariant in
    set_written (playing_of c.args.player.now) _ _ _ _ _ (gone.run none)

pub returns-clause-traced : goal.returns-clause-traced
returns-clause-traced g c zero none every d at =
    let gone = set_gone (map plain_line c.args.lines.now) (playing_of c.args.player.now) c.args.commands.now c.loop-said.said-index (last_of c.args.player.now) _ _ _ _ _ _ _ _
    c.loop-said-test.false c.loop-said.invariant in
    set_traced_all every (map plain_line c.args.lines.now) d (playing_of c.args.player.now) (map plain_group_said c.args.commands.now) _ _ _ _ _ (gone.traced none every d at)
