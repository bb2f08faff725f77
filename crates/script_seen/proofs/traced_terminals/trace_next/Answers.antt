use Rattle.std.proofs.Common.{map}
use Rattle.script_lines.specs.Lines.{plain_line}
use Rattle.script_links.specs.TermScripts.{plain_term_said}
use Rattle.script_seen.proofs.Tracings.{has_front_of}
use Rattle.script_seen.proofs.TracedRuns.{term_behind, term_traced}
use Rattle.script_seen.proofs.traced_terminals.trace_next.Goals as goal

pub returns-clause-traced : goal.returns-clause-traced
returns-clause-traced g c on b before first begun run s =
    term_traced c.args.keeps (map plain_line c.args.lines.now) b before (plain_term_said c.args.said.now) begun _ _ _ _ _ _ s (has_front_of _ _ _ _ _ c.in_ok-show_front.ensures)
    (term_behind c.args.keeps b _ first _ _ _ _ c.book.ensures (c.in_ok-obey.ensures.goes c.if-not-branch.false b before first run)) c.in_ok-follow.ensures.first c.in_ok-follow.ensures.followed c.in_ok-follow.ensures.in_step

pub returns-clause-goes : goal.returns-clause-goes
returns-clause-goes g c on b before first run = c.in_ok-obey.ensures.goes c.if-not-branch.false b before first run

pub returns-then-not-branch-clause-missed : goal.returns-then-not-branch-clause-missed
returns-then-not-branch-clause-missed g c off = c.in_ok-obey.ensures.missed c.if-not-branch.true

pub returns-clause-every : goal.returns-clause-every
returns-clause-every g c = c.in_ok-follow.ensures.followed.every
