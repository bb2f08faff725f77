use Rattle.std.proofs.Common.{map, sym, ◌∙◌}
use Rattle.script_lines.specs.Lines.{plain_line}
use Rattle.script_links.specs.GroupScripts.{plain_group_said}
use Rattle.script_seen.proofs.SetTraces.{set_traced, set_met}
use Rattle.script_seen.proofs.traced_groups.trace_next.Goals as goal

pub returns-then-not-branch-clause-missed : goal.returns-then-not-branch-clause-missed
returns-then-not-branch-clause-missed g c off = c.in_ok-obey.ensures.missed c.if-not-branch.true

pub returns-then-is_expectation-clause-goes : goal.returns-then-is_expectation-clause-goes
returns-then-is_expectation-clause-goes g c on p before first run = c.in_ok-obey.ensures.goes c.if-not-branch.false p before first run

pub returns-then-is_expectation-clause-traced : goal.returns-then-is_expectation-clause-traced
returns-then-is_expectation-clause-traced g c on every d p before begun s =
    set_met every (map plain_line c.args.lines.now) d p before (plain_group_said c.args.said.now) begun _ _ _ _ _ _ _ _ (sym c.is_expectation.ensures ∙ c.if-is_expectation.true)
    (c.in_ok-obey.ensures.obeyed c.if-not-branch.false) s

pub returns-clause-goes : goal.returns-clause-goes
returns-clause-goes g c on p before first run = c.in_ok-obey.ensures.goes c.if-not-branch.false p before first run

pub returns-clause-traced : goal.returns-clause-traced
returns-clause-traced g c on every d p before begun s =
    set_traced every (map plain_line c.args.lines.now) d p before (plain_group_said c.args.said.now) begun _ _ _ _ _ _ _ _ _ _ (sym c.is_expectation.ensures ∙ c.if-is_expectation.false)
    (c.in_ok-obey.ensures.obeyed c.if-not-branch.false) s (λ rs at. c.in_ok-trace_behind.ensures every d rs at)
