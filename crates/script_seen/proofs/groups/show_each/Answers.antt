use Rattle.std.proofs.Common.{map}
use Rattle.script_lines.specs.Lines.{plain_line}
use Rattle.script_links.specs.GroupScripts.{plain_group_said}
use Rattle.script_ends.specs.GroupRuns.{playing_of}
use Rattle.script_seen.proofs.ShownRuns.{group_starts, group_one_more, group_shown, group_missed}
use Rattle.script_seen.proofs.groups.show_each.Goals as goal

pub loop-said-init : goal.loop-said-init
loop-said-init g c none = group_starts (map plain_line c.args.lines.now) (playing_of c.args.player.now) (g.W.Write.contents c.args.writer.now) _ _ c.no_octets-printed.ensures none

pub loop-said-preserved : goal.loop-said-preserved
loop-said-preserved g c none =
    group_one_more (map plain_line c.args.lines.now) (playing_of c.args.player.now) c.args.commands.now c.loop-said.said-index c.said-item.result _ _ _ _ _
    c.loop-said-test.true c.said-item.is
    (c.in_ok-show_next.ensures.goes c.if-not-branch.false (playing_of c.args.player.now) _ _ (c.loop-said.invariant none))

pub returns-then-not-branch-clause-missed : goal.returns-then-not-branch-clause-missed
returns-then-not-branch-clause-missed g c one none =
    group_missed (map plain_line c.args.lines.now) (playing_of c.args.player.now) c.args.commands.now c.loop-said.said-index c.said-item.result _ _
    c.loop-said-test.true c.said-item.is
    (c.in_ok-show_next.ensures.missed c.if-not-branch.true (playing_of c.args.player.now) _ _ (c.loop-said.invariant none))

pub returns-clause-held : goal.returns-clause-held
returns-clause-held g c zero none =
    group_shown (map plain_line c.args.lines.now) (playing_of c.args.player.now) c.args.commands.now c.loop-said.said-index _ _ _ _ _ c.loop-said-test.false
    (c.loop-said.invariant none)
