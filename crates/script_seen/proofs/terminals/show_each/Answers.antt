use Rattle.std.proofs.Common.{map}
use Rattle.script_lines.specs.Lines.{plain_line}
use Rattle.script_links.specs.TermScripts.{plain_term_said}
use Rattle.script_seen.proofs.ShownRuns.{term_starts, term_one_more, term_shown, term_missed}
use Rattle.script_seen.proofs.terminals.show_each.Goals as goal

pub loop-said-init : goal.loop-said-init
loop-said-init g c none = term_starts c.args.keeps (map plain_line c.args.lines.now) c.args.player.now.terminal (g.W.Write.contents c.args.writer.now) _ _ c.no_octets-printed.ensures none

pub loop-said-preserved : goal.loop-said-preserved
loop-said-preserved g c none =
    term_one_more c.args.keeps (map plain_line c.args.lines.now) c.args.player.now.terminal c.args.commands.now c.loop-said.said-index c.said-item.result _ _ _ _ _
    c.loop-said-test.true c.said-item.is
    (c.in_ok-show_next.ensures.goes c.if-not-branch.false c.args.player.now.terminal _ _ (c.loop-said.invariant none))

pub returns-then-not-branch-clause-missed : goal.returns-then-not-branch-clause-missed
returns-then-not-branch-clause-missed g c one none =
    term_missed c.args.keeps (map plain_line c.args.lines.now) c.args.player.now.terminal c.args.commands.now c.loop-said.said-index c.said-item.result _ _
    c.loop-said-test.true c.said-item.is
    (c.in_ok-show_next.ensures.missed c.if-not-branch.true c.args.player.now.terminal _ _ (c.loop-said.invariant none))

pub returns-clause-held : goal.returns-clause-held
returns-clause-held g c zero none =
    term_shown c.args.keeps (map plain_line c.args.lines.now) c.args.player.now.terminal c.args.commands.now c.loop-said.said-index _ _ _ _ _ c.loop-said-test.false
    (c.loop-said.invariant none)
