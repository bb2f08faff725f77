use Rattle.std.proofs.Common.{List, map, subst}
use Rattle.actor_machine.specs.Ledger.{Ledger}
use Rattle.script_lines.specs.Lines.{lines_of}
use Rattle.script_lines.specs.Scripts.{plain_said}
use Rattle.script_lines.specs.declared.script.Said.{Said}
use Rattle.script_seen.specs.Kinds.{IsBookShown, IsBookShownMissed}
use Rattle.script_seen.proofs.books.show_book.Goals as goal

pub returns-clause-held : goal.returns-clause-held
returns-clause-held g c zero =
    let C : List Said → Type 0 = λ cs. IsBookShown (lines_of c.args.text.now) c.in-Ok.player.book (map plain_said cs) (g.W.Write.contents c.args.writer.now)
    (g.W.Write.contents c.show_all.new.writer) in
    let B : Ledger → Type 0 = λ b. IsBookShown (lines_of c.args.text.now) b (map plain_said c.args.script.now.commands.items) (g.W.Write.contents c.args.writer.now)
    (g.W.Write.contents c.show_all.new.writer) in
    subst B c.in-Ok.ensures.book (subst C c.deref.ensures.value (c.show_all.ensures.held zero c.in-Ok.ensures.last))

pub returns-clause-missed : goal.returns-clause-missed
returns-clause-missed g c one =
    let C : List Said → Type 0 = λ cs. IsBookShownMissed (lines_of c.args.text.now) c.in-Ok.player.book (map plain_said cs) (g.W.Write.contents c.args.writer.now)
    (g.W.Write.contents c.show_all.new.writer) in
    let B : Ledger → Type 0 = λ b. IsBookShownMissed (lines_of c.args.text.now) b (map plain_said c.args.script.now.commands.items) (g.W.Write.contents c.args.writer.now)
    (g.W.Write.contents c.show_all.new.writer) in
    subst B c.in-Ok.ensures.book (subst C c.deref.ensures.value (c.show_all.ensures.missed one c.in-Ok.ensures.last))
