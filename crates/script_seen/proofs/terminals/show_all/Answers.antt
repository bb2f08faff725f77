use Rattle.std.proofs.Common.{List, map, ap, subst, ◌∙◌}
use Rattle.script_lines.specs.Lines.{PlainLine, plain_line}
use Rattle.script_links.specs.TermScripts.{plain_term_said}
use Rattle.script_seen.specs.Kinds.{IsTermShown, IsTermShownMissed}
use Rattle.script_seen.proofs.terminals.show_all.Goals as goal

pub returns-in-Ok-clause-held : goal.returns-in-Ok-clause-held
returns-in-Ok-clause-held g c zero none =
    let P : List PlainLine → Type 0 = λ ls. IsTermShown ls (map plain_term_said c.args.commands.now) (g.W.Write.contents c.args.writer.now)
    (g.W.Write.contents c.show_lines.new.writer) c.args.player.now.terminal in
    subst P (ap (map plain_line) c.deref.ensures.value ∙ c.in-Ok.ensures) (c.show_lines.ensures.held zero none)

pub returns-in-Ok-clause-missed : goal.returns-in-Ok-clause-missed
returns-in-Ok-clause-missed g c one none =
    let P : List PlainLine → Type 0 = λ ls. IsTermShownMissed ls (map plain_term_said c.args.commands.now) (g.W.Write.contents c.args.writer.now)
    (g.W.Write.contents c.show_lines.new.writer) c.args.player.now.terminal in
    subst P (ap (map plain_line) c.deref.ensures.value ∙ c.in-Ok.ensures) (c.show_lines.ensures.missed one none)
