use Rattle.std.proofs.Common.{List, map, subst}
use Rattle.script_ends.specs.Term.{Term}
use Rattle.script_lines.specs.Lines.{lines_of}
use Rattle.script_links.specs.TermScripts.{plain_term_said}
use Rattle.script_links.specs.declared.script.TermSaid.{TermSaid}
use Rattle.script_seen.specs.Kinds.{IsTermShown, IsTermShownMissed}
use Rattle.script_seen.proofs.terminals.show_on.Goals as goal

pub returns-clause-held : goal.returns-clause-held
returns-clause-held g c zero =
    let C : List TermSaid → Type 0 = λ cs. IsTermShown (lines_of c.args.text.now) (map plain_term_said cs) (g.W.Write.contents c.args.writer.now)
    (g.W.Write.contents c.show_all.new.writer) c.new_player-player.result.terminal in
    let T : Term → Type 0 = λ t. IsTermShown (lines_of c.args.text.now) (map plain_term_said c.args.script.now.commands.items) (g.W.Write.contents c.args.writer.now)
    (g.W.Write.contents c.show_all.new.writer) t in
    subst T c.new_player-player.ensures.terminal (subst C c.deref.ensures.value (c.show_all.ensures.held zero c.new_player-player.ensures.last))

pub returns-clause-missed : goal.returns-clause-missed
returns-clause-missed g c one =
    let C : List TermSaid → Type 0 = λ cs. IsTermShownMissed (lines_of c.args.text.now) (map plain_term_said cs) (g.W.Write.contents c.args.writer.now)
    (g.W.Write.contents c.show_all.new.writer) c.new_player-player.result.terminal in
    let T : Term → Type 0 = λ t. IsTermShownMissed (lines_of c.args.text.now) (map plain_term_said c.args.script.now.commands.items) (g.W.Write.contents c.args.writer.now)
    (g.W.Write.contents c.show_all.new.writer) t in
    subst T c.new_player-player.ensures.terminal (subst C c.deref.ensures.value (c.show_all.ensures.missed one c.new_player-player.ensures.last))
