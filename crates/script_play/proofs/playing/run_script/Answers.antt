use Rattle.std.proofs.Common.{Bool, sym, subst}
use Rattle.script_lines.specs.Lines.{lines_of}
use Rattle.script_links.specs.GroupScripts.{plain_play_script}
use Rattle.script_play.specs.Played.{IsObeyedAs, IsMissedAs}
use Rattle.script_play.proofs.playing.run_script.Goals as goal

pub returns-then-echo-clause-held : goal.returns-then-echo-clause-held
returns-then-echo-clause-held g c zero =
    let P : Bool → Type 0 = λ e. IsObeyedAs c.args.usual e (lines_of c.args.text.now) c.args.set.now (plain_play_script c.args.script.now) (g.W.Write.contents c.args.writer.now)
    (g.W.Write.contents c.show_script.new.writer) in
    subst P (sym c.if-echo.true) (c.show_script.ensures.held zero)

pub returns-then-echo-clause-missed : goal.returns-then-echo-clause-missed
returns-then-echo-clause-missed g c one =
    let P : Bool → Type 0 = λ e. IsMissedAs c.args.usual e (lines_of c.args.text.now) c.args.set.now (plain_play_script c.args.script.now) (g.W.Write.contents c.args.writer.now)
    (g.W.Write.contents c.show_script.new.writer) in
    subst P (sym c.if-echo.true) (c.show_script.ensures.missed one)

pub returns-else-echo-clause-held : goal.returns-else-echo-clause-held
returns-else-echo-clause-held g c zero =
    let P : Bool → Type 0 = λ e. IsObeyedAs c.args.usual e (lines_of c.args.text.now) c.args.set.now (plain_play_script c.args.script.now) (g.W.Write.contents c.args.writer.now)
    (g.W.Write.contents c.play_script.new.writer) in
    subst P (sym c.if-echo.false) (c.play_script.ensures.held zero)

pub returns-else-echo-clause-missed : goal.returns-else-echo-clause-missed
returns-else-echo-clause-missed g c one =
    let P : Bool → Type 0 = λ e. IsMissedAs c.args.usual e (lines_of c.args.text.now) c.args.set.now (plain_play_script c.args.script.now) (g.W.Write.contents c.args.writer.now)
    (g.W.Write.contents c.play_script.new.writer) in
    subst P (sym c.if-echo.false) (c.play_script.ensures.missed one)
