use Rattle.std.proofs.Common.{map, ap, subst, sym, ◌∙◌}
use Rattle.script_lines.specs.Lines.{lines_of}
use Rattle.script_links.specs.GroupScripts.{plain_group_said}
use Rattle.script_ends.specs.GroupAnswers.{Playing}
use Rattle.script_ends.specs.GroupRuns.{begun, IsGroupWritten, IsGroupMissed}
use Rattle.script_seen.specs.TracedGroups.{AreNewLinks, IsGroupTraced, IsGroupTracedInPart}
use Rattle.script_seen.proofs.SetTraces.{new_links}
use Rattle.script_seen.proofs.traced_groups.trace_group.Goals as goal

pub returns-in-Ok-clause-held : goal.returns-in-Ok-clause-held
returns-in-Ok-clause-held g c zero =
    let made = c.in-Ok.ensures.ok in
    let P : Playing → Type 0 = λ p. IsGroupWritten (map plain_group_said c.args.script.now.commands.items) (g.W.Write.contents c.args.writer.now) (g.W.Write.contents c.trace_all.new.writer) p in
    record {
      terminals = made.1.terminals;
      new = made.1.new;
      holds = subst P (made.2 ∙ ap begun made.1.set) (c.trace_all.ensures.held zero c.in-Ok.ensures.last);
    }

pub returns-in-Ok-clause-missed : goal.returns-in-Ok-clause-missed
returns-in-Ok-clause-missed g c one =
    let made = c.in-Ok.ensures.ok in
    let P : Playing → Type 0 = λ p. IsGroupMissed (map plain_group_said c.args.script.now.commands.items) (g.W.Write.contents c.args.writer.now) (g.W.Write.contents c.trace_all.new.writer) p in
    record {
      terminals = made.1.terminals;
      new = made.1.new;
      holds = subst P (made.2 ∙ ap begun made.1.set) (c.trace_all.ensures.missed one c.in-Ok.ensures.last);
    }

pub returns-in-Ok-clause-traced : goal.returns-in-Ok-clause-traced
returns-in-Ok-clause-traced g c zero =
    let made = c.in-Ok.ensures.ok in
    let head = c.args.script.now.head in
    let is = made.2 ∙ ap begun made.1.set in
    let N : Playing → Type 0 = λ p. AreNewLinks c.args.set.now head p in
    let P : Playing → Type 0 =
    λ p. IsGroupTraced c.args.every (lines_of c.args.text.now) c.args.set.now (map plain_group_said c.args.script.now.commands.items) (g.T.Write.contents c.args.trace.now) (g.T.Write.contents c.trace_all.new.trace) p in
    record {
      terminals = made.1.terminals;
      new = made.1.new;
      holds = subst P is
          (c.trace_all.ensures.traced zero c.in-Ok.ensures.last (subst N (sym is) (new_links c.args.set.now c.args.limits head made.1.terminals made.1.new)));
    }

pub returns-in-Ok-clause-in_part : goal.returns-in-Ok-clause-in_part
returns-in-Ok-clause-in_part g c one =
    let made = c.in-Ok.ensures.ok in
    let head = c.args.script.now.head in
    let is = made.2 ∙ ap begun made.1.set in
    let N : Playing → Type 0 = λ p. AreNewLinks c.args.set.now head p in
    let P : Playing → Type 0 =
    λ p. IsGroupTracedInPart c.args.every (lines_of c.args.text.now) c.args.set.now (map plain_group_said c.args.script.now.commands.items) (g.T.Write.contents c.args.trace.now) (g.T.Write.contents c.trace_all.new.trace) p in
    record {
      terminals = made.1.terminals;
      new = made.1.new;
      holds = subst P is
          (c.trace_all.ensures.in_part one c.in-Ok.ensures.last (subst N (sym is) (new_links c.args.set.now c.args.limits head made.1.terminals made.1.new)));
    }
