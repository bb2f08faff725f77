use Rattle.std.proofs.Common.{List, map, ap, subst, ◌∙◌}
use Rattle.script_lines.specs.Lines.{PlainLine, plain_line}
use Rattle.script_links.specs.GroupScripts.{plain_group_said}
use Rattle.script_ends.specs.GroupRuns.{playing_of}
use Rattle.script_seen.specs.Kinds.{IsGroupShown, IsGroupShownMissed}
use Rattle.script_seen.proofs.groups.show_all.Goals as goal

pub returns-in-Ok-clause-held : goal.returns-in-Ok-clause-held
returns-in-Ok-clause-held g c zero none =
    let P : List PlainLine → Type 0 = λ ls. IsGroupShown ls (map plain_group_said c.args.commands.now) (g.W.Write.contents c.args.writer.now)
    (g.W.Write.contents c.show_lines.new.writer) (playing_of c.args.player.now) in
    subst P (ap (map plain_line) c.deref.ensures.value ∙ c.in-Ok.ensures) (c.show_lines.ensures.held zero none)

pub returns-in-Ok-clause-missed : goal.returns-in-Ok-clause-missed
returns-in-Ok-clause-missed g c one none =
    let P : List PlainLine → Type 0 = λ ls. IsGroupShownMissed ls (map plain_group_said c.args.commands.now) (g.W.Write.contents c.args.writer.now)
    (g.W.Write.contents c.show_lines.new.writer) (playing_of c.args.player.now) in
    subst P (ap (map plain_line) c.deref.ensures.value ∙ c.in-Ok.ensures) (c.show_lines.ensures.missed one none)
