use Rattle.std.proofs.Common.{[], List, map, ap, subst, ◌∙◌}
use Rattle.actor_machine.specs.Kept.{opened_book}
use Rattle.actor_machine.specs.Ledger.{Ledger}
use Rattle.script_lines.specs.Scripts.{plain_said}
use Rattle.script_lines.specs.declared.script.Said.{Said}
use Rattle.script_book.specs.Played.{last_of, IsRun, IsMissed}
use Rattle.script_book.proofs.Texts.{run_begins}
use Rattle.script_book.proofs.playing.play_book.Goals as goal

pub returns-clause-held : goal.returns-clause-held
returns-clause-held g c held =
    let old = g.W.Write.contents c.args.writer.now in
    let new = g.W.Write.contents c.run_all.new.writer in
    let now = c.run_all.new.player.book in
    let last = last_of c.run_all.new.player in
    let P : List Said → Type 0 = λ commands. IsRun c.in-Ok.book (map plain_said commands) old new now last in
    let B : Ledger → Type 0 = λ b. IsRun b (map plain_said c.args.script.now.commands.items) old new now last in
    record {
      now = now;
      last = last;
      run =
          subst B (c.in-Ok.ensures ∙ ap (λ l. opened_book c.args.set.now l.port l.env l.journal) c.limits_of-limits.ensures)
          (subst P c.deref.ensures.value (c.run_all.ensures.held held c.in-Ok.book [] old (run_begins c.in-Ok.book old)));
    }

pub returns-clause-missed : goal.returns-clause-missed
returns-clause-missed g c missed =
    let old = g.W.Write.contents c.args.writer.now in
    let new = g.W.Write.contents c.run_all.new.writer in
    let P : List Said → Type 0 = λ commands. IsMissed c.in-Ok.book (map plain_said commands) old new in
    let B : Ledger → Type 0 = λ b. IsMissed b (map plain_said c.args.script.now.commands.items) old new in
    subst B (c.in-Ok.ensures ∙ ap (λ l. opened_book c.args.set.now l.port l.env l.journal) c.limits_of-limits.ensures)
    (subst P c.deref.ensures.value (c.run_all.ensures.missed missed c.in-Ok.book [] old (run_begins c.in-Ok.book old)))
