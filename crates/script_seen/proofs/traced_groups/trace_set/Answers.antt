use Rattle.std.proofs.Common.{List, map, ap, sym, subst, ◌∙◌}
use Rattle.script_lines.specs.Lines.{PlainLine, plain_line, lines_of}
use Rattle.script_links.specs.GroupScripts.{plain_group_said}
use Rattle.script_links.specs.declared.group_script.GroupSaid.{GroupSaid}
use Rattle.script_ends.specs.GroupRuns.{playing_of, IsGroupWritten, IsGroupMissed}
use Rattle.script_seen.specs.TracedGroups.{reached_at, books_of, IsGroupTraced, IsGroupTracedInPart}
use Rattle.script_seen.specs.TracingGroups.{AreAtLinks}
use Rattle.script_seen.specs.declared.tracing.Tracer.{Tracer}
use Rattle.script_seen.proofs.traced_groups.trace_set.Goals as goal

pub returns-clause-held : goal.returns-clause-held
returns-clause-held g c zero none =
    let C : List GroupSaid → Type 0 =
    λ cs. IsGroupWritten (map plain_group_said cs) (g.W.Write.contents c.args.writer.now) (g.W.Write.contents c.trace_each.new.writer) (playing_of c.args.player.now) in
    subst C c.deref.ensures.value (c.in_ok-status.ensures.held zero none)

pub returns-clause-missed : goal.returns-clause-missed
returns-clause-missed g c one none =
    let C : List GroupSaid → Type 0 =
    λ cs. IsGroupMissed (map plain_group_said cs) (g.W.Write.contents c.args.writer.now) (g.W.Write.contents c.trace_each.new.writer) (playing_of c.args.player.now) in
    subst C c.deref.ensures.value (c.in_ok-status.ensures.missed one none)

pub returns-clause-traced : goal.returns-clause-traced
returns-clause-traced g c zero none new =
    let p = playing_of c.args.player.now in
    let A : List Tracer → Type 0 = λ ts. AreAtLinks c.args.every c.args.set.now (map reached_at (books_of p)) ts in
    let L : List PlainLine → Type 0 =
    λ ls. IsGroupTraced c.args.every ls c.args.set.now (map plain_group_said c.deref.result.now) (g.T.Write.contents c.args.trace.now) (g.T.Write.contents c.trace_each.new.trace) p in
    let C : List GroupSaid → Type 0 =
    λ cs. IsGroupTraced c.args.every (lines_of c.args.text.now) c.args.set.now (map plain_group_said cs) (g.T.Write.contents c.args.trace.now) (g.T.Write.contents c.trace_each.new.trace) p in
    subst C c.deref.ensures.value
    (subst L (ap (map plain_line) c.deref-2.ensures.value ∙ c.in_ok-lines.ensures)
    (c.in_ok-status.ensures.traced zero none c.args.every c.args.set.now
    (subst A (sym c.deref_mut.ensures.value) (c.in_ok-tracers.ensures (books_of p) new.number new.new))))

pub returns-clause-in_part : goal.returns-clause-in_part
returns-clause-in_part g c one none new =
    let p = playing_of c.args.player.now in
    let A : List Tracer → Type 0 = λ ts. AreAtLinks c.args.every c.args.set.now (map reached_at (books_of p)) ts in
    let L : List PlainLine → Type 0 =
    λ ls. IsGroupTracedInPart c.args.every ls c.args.set.now (map plain_group_said c.deref.result.now) (g.T.Write.contents c.args.trace.now) (g.T.Write.contents c.trace_each.new.trace) p in
    let C : List GroupSaid → Type 0 =
    λ cs. IsGroupTracedInPart c.args.every (lines_of c.args.text.now) c.args.set.now (map plain_group_said cs) (g.T.Write.contents c.args.trace.now) (g.T.Write.contents c.trace_each.new.trace) p in
    subst C c.deref.ensures.value
    (subst L (ap (map plain_line) c.deref-2.ensures.value ∙ c.in_ok-lines.ensures)
    (c.in_ok-status.ensures.in_part one none c.args.every c.args.set.now
    (subst A (sym c.deref_mut.ensures.value) (c.in_ok-tracers.ensures (books_of p) new.number new.new))))
