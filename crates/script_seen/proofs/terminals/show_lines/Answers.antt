use Rattle.std.proofs.Common.{Bool, map, subst}
use Rattle.script_lines.specs.Lines.{plain_line}
use Rattle.script_links.specs.TermScripts.{plain_term_said}
use Rattle.script_seen.specs.Kinds.{IsTermShownBy, IsTermShownMissedBy}
use Rattle.script_seen.proofs.terminals.show_lines.Goals as goal

pub returns-in-Ok-clause-held : goal.returns-in-Ok-clause-held
returns-in-Ok-clause-held g c zero none =
    let K : Bool → Type 0 = λ k. IsTermShownBy k (map plain_line c.args.lines.now) (map plain_term_said c.args.commands.now) (g.W.Write.contents c.args.writer.now)
    (g.W.Write.contents c.show_each.new.writer) c.args.player.now.terminal in
    subst K c.asks_told-keeps.ensures (c.in-Ok.ensures.held zero none)

pub returns-in-Ok-clause-missed : goal.returns-in-Ok-clause-missed
returns-in-Ok-clause-missed g c one none =
    let K : Bool → Type 0 = λ k. IsTermShownMissedBy k (map plain_line c.args.lines.now) (map plain_term_said c.args.commands.now) (g.W.Write.contents c.args.writer.now)
    (g.W.Write.contents c.show_each.new.writer) c.args.player.now.terminal in
    subst K c.asks_told-keeps.ensures (c.in-Ok.ensures.missed one none)
