-- The links so far are traced.
use Rattle.std.proofs.Common.{Bool, List}
use Rattle.turn_code.specs.declared.draft.Draft.{Draft}
use Rattle.script_ends.specs.GroupRuns.{playing_of}
use Rattle.script_seen.specs.TracedGroups.{Reached, books_of}
use Rattle.script_seen.specs.TracingGroups.{AreAtLinks}
use Rattle.script_seen.proofs.LinkTraces.{LinksTraced}
use Rattle.script_seen.proofs.traced_groups.trace_links.Given as goal

abbrev pub invariant-loop-link : goal.invariant-loop-link
invariant-loop-link g l =
    (every : Bool) (d : Draft) (rs : List Reached) → AreAtLinks every d rs l.initial.tracers
    → LinksTraced every d rs (books_of (playing_of l.player)) l.link l.tracers (g.T.Write.contents l.initial.trace) (g.T.Write.contents l.trace)
