use Rattle.std.proofs.Common.{Bool, List, map, sym, ap, subst, ◌∙◌}
use Rattle.actor_machine.specs.Ledger.{Ledger}
use Rattle.script_lines.specs.Lines.{PlainLine, plain_line, lines_of}
use Rattle.script_lines.specs.Scripts.{plain_said}
use Rattle.script_lines.specs.declared.script.Said.{Said}
use Rattle.script_ends.specs.Played.{first_book, IsWritten, IsMissed}
use Rattle.script_seen.specs.TracedKinds.{IsAtStart, IsBookTraced, IsBookTracedInPart}
use Rattle.script_seen.proofs.traced_books.trace_link.Goals as goal

pub returns-clause-held : goal.returns-clause-held
returns-clause-held g c zero =
    let C : List Said → Type 0 = λ cs. IsWritten c.in_ok-player.player.book (map plain_said cs) (g.W.Write.contents c.args.writer.now) (g.W.Write.contents c.trace_each.new.writer) in
    let B : Ledger → Type 0 =
    λ b. IsWritten b (map plain_said c.args.script.now.commands.items) (g.W.Write.contents c.args.writer.now) (g.W.Write.contents c.trace_each.new.writer) in
    subst B c.in_ok-player.ensures.book (subst C c.deref.ensures.value (c.in_ok-status.ensures.held zero c.in_ok-player.ensures.last))

pub returns-clause-missed : goal.returns-clause-missed
returns-clause-missed g c one =
    let C : List Said → Type 0 = λ cs. IsMissed c.in_ok-player.player.book (map plain_said cs) (g.W.Write.contents c.args.writer.now) (g.W.Write.contents c.trace_each.new.writer) in
    let B : Ledger → Type 0 =
    λ b. IsMissed b (map plain_said c.args.script.now.commands.items) (g.W.Write.contents c.args.writer.now) (g.W.Write.contents c.trace_each.new.writer) in
    subst B c.in_ok-player.ensures.book (subst C c.deref.ensures.value (c.in_ok-status.ensures.missed one c.in_ok-player.ensures.last))

pub returns-clause-traced : goal.returns-clause-traced
returns-clause-traced g c zero =
    let A : Ledger → Type 0 = λ b. IsAtStart b c.in_ok-tracer.tracer in
    let E : Bool → Type 0 =
    λ e. IsBookTraced e (map plain_line c.deref-2.result.now) c.in_ok-player.player.book (map plain_said c.deref.result.now) (g.T.Write.contents c.args.trace.now)
    (g.T.Write.contents c.trace_each.new.trace) in
    let L : List PlainLine → Type 0 =
    λ ls. IsBookTraced c.args.every ls c.in_ok-player.player.book (map plain_said c.deref.result.now) (g.T.Write.contents c.args.trace.now)
    (g.T.Write.contents c.trace_each.new.trace) in
    let C : List Said → Type 0 =
    λ cs. IsBookTraced c.args.every (lines_of c.args.text.now) c.in_ok-player.player.book (map plain_said cs) (g.T.Write.contents c.args.trace.now)
    (g.T.Write.contents c.trace_each.new.trace) in
    let B : Ledger → Type 0 =
    λ b. IsBookTraced c.args.every (lines_of c.args.text.now) b (map plain_said c.args.script.now.commands.items) (g.T.Write.contents c.args.trace.now)
    (g.T.Write.contents c.trace_each.new.trace) in
    subst B c.in_ok-player.ensures.book
    (subst C c.deref.ensures.value
    (subst L (ap (map plain_line) c.deref-2.ensures.value ∙ c.in_ok-lines.ensures)
    (subst E c.in_ok-tracer.ensures.every
    (c.in_ok-status.ensures.traced zero c.in_ok-player.ensures.last (subst A (sym c.in_ok-player.ensures.book) c.in_ok-tracer.ensures.start)))))

pub returns-clause-in_part : goal.returns-clause-in_part
returns-clause-in_part g c one =
    let A : Ledger → Type 0 = λ b. IsAtStart b c.in_ok-tracer.tracer in
    let E : Bool → Type 0 =
    λ e. IsBookTracedInPart e (map plain_line c.deref-2.result.now) c.in_ok-player.player.book (map plain_said c.deref.result.now) (g.T.Write.contents c.args.trace.now)
    (g.T.Write.contents c.trace_each.new.trace) in
    let L : List PlainLine → Type 0 =
    λ ls. IsBookTracedInPart c.args.every ls c.in_ok-player.player.book (map plain_said c.deref.result.now) (g.T.Write.contents c.args.trace.now)
    (g.T.Write.contents c.trace_each.new.trace) in
    let C : List Said → Type 0 =
    λ cs. IsBookTracedInPart c.args.every (lines_of c.args.text.now) c.in_ok-player.player.book (map plain_said cs) (g.T.Write.contents c.args.trace.now)
    (g.T.Write.contents c.trace_each.new.trace) in
    let B : Ledger → Type 0 =
    λ b. IsBookTracedInPart c.args.every (lines_of c.args.text.now) b (map plain_said c.args.script.now.commands.items) (g.T.Write.contents c.args.trace.now)
    (g.T.Write.contents c.trace_each.new.trace) in
    subst B c.in_ok-player.ensures.book
    (subst C c.deref.ensures.value
    (subst L (ap (map plain_line) c.deref-2.ensures.value ∙ c.in_ok-lines.ensures)
    (subst E c.in_ok-tracer.ensures.every
    (c.in_ok-status.ensures.in_part one c.in_ok-player.ensures.last (subst A (sym c.in_ok-player.ensures.book) c.in_ok-tracer.ensures.start)))))
