use Rattle.std.proofs.Common.{List, map, ap, subst, ◌∙◌}
use Rattle.script_lines.specs.Lines.{lines_of}
use Rattle.script_links.specs.GroupScripts.{plain_group_said}
use Rattle.script_links.specs.declared.group_script.GroupSaid.{GroupSaid}
use Rattle.script_ends.specs.GroupAnswers.{Playing}
use Rattle.script_ends.specs.GroupRuns.{begun, playing_of}
use Rattle.script_seen.specs.Kinds.{IsGroupShown, IsGroupShownMissed}
use Rattle.script_seen.proofs.groups.show_group.Goals as goal

pub returns-in-Ok-clause-held : goal.returns-in-Ok-clause-held
returns-in-Ok-clause-held g c zero =
    let made = c.in-Ok.ensures.ok in
    let C : List GroupSaid → Type 0 = λ cs. IsGroupShown (lines_of c.args.text.now) (map plain_group_said cs) (g.W.Write.contents c.args.writer.now)
    (g.W.Write.contents c.show_all.new.writer) (playing_of c.in-Ok.player) in
    let P : Playing → Type 0 = λ p. IsGroupShown (lines_of c.args.text.now) (map plain_group_said c.args.script.now.commands.items) (g.W.Write.contents c.args.writer.now)
    (g.W.Write.contents c.show_all.new.writer) p in
    record {
      terminals = made.1.terminals;
      new = made.1.new;
      holds = subst P (made.2 ∙ ap begun made.1.set) (subst C c.deref.ensures.value (c.show_all.ensures.held zero c.in-Ok.ensures.last));
    }

pub returns-in-Ok-clause-missed : goal.returns-in-Ok-clause-missed
returns-in-Ok-clause-missed g c one =
    let made = c.in-Ok.ensures.ok in
    let C : List GroupSaid → Type 0 = λ cs. IsGroupShownMissed (lines_of c.args.text.now) (map plain_group_said cs) (g.W.Write.contents c.args.writer.now)
    (g.W.Write.contents c.show_all.new.writer) (playing_of c.in-Ok.player) in
    let P : Playing → Type 0 = λ p. IsGroupShownMissed (lines_of c.args.text.now) (map plain_group_said c.args.script.now.commands.items) (g.W.Write.contents c.args.writer.now)
    (g.W.Write.contents c.show_all.new.writer) p in
    record {
      terminals = made.1.terminals;
      new = made.1.new;
      holds = subst P (made.2 ∙ ap begun made.1.set) (subst C c.deref.ensures.value (c.show_all.ensures.missed one c.in-Ok.ensures.last));
    }
