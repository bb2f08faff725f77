use Rattle.std.proofs.Common.{Bool, List, map, sym, ap, subst, ◌∙◌}
use Rattle.actor_machine.specs.Ledger.{Ledger}
use Rattle.script_ends.specs.Term.{Term}
use Rattle.script_lines.specs.Lines.{PlainLine, plain_line, lines_of}
use Rattle.script_links.specs.TermScripts.{plain_term_said, asks_told}
use Rattle.script_links.specs.declared.script.TermSaid.{TermSaid}
use Rattle.script_ends.specs.TermRuns.{IsTermWritten, IsTermFailed}
use Rattle.script_seen.specs.TracedKinds.{book_in, IsAtStart, IsTermTraced, IsTermTracedInPart}
use Rattle.script_seen.proofs.TracedRuns.{term_written, term_failed}
use Rattle.script_seen.proofs.traced_terminals.trace_on.Goals as goal

pub returns-clause-held : goal.returns-clause-held
returns-clause-held g c zero =
    let cs = c.as_slice-commands.result.now in
    let X : Term → Type 0 = λ x. IsTermWritten (map plain_term_said cs) (g.W.Write.contents c.args.writer.now) (g.W.Write.contents c.trace_each.new.writer) x in
    let C : List TermSaid → Type 0 =
    λ xs. IsTermWritten (map plain_term_said xs) (g.W.Write.contents c.args.writer.now) (g.W.Write.contents c.trace_each.new.writer) c.args.terminal in
    subst C c.as_slice-commands.ensures.value
    (subst X c.new_player-player.ensures.terminal
    (term_written _ _ (map plain_term_said cs) _ _ c.asks_told-keeps.ensures (c.in_ok-status.ensures.held zero c.new_player-player.ensures.last)))

pub returns-clause-missed : goal.returns-clause-missed
returns-clause-missed g c one =
    let cs = c.as_slice-commands.result.now in
    let X : Term → Type 0 = λ x. IsTermFailed (map plain_term_said cs) (g.W.Write.contents c.args.writer.now) (g.W.Write.contents c.trace_each.new.writer) x in
    let C : List TermSaid → Type 0 =
    λ xs. IsTermFailed (map plain_term_said xs) (g.W.Write.contents c.args.writer.now) (g.W.Write.contents c.trace_each.new.writer) c.args.terminal in
    subst C c.as_slice-commands.ensures.value
    (subst X c.new_player-player.ensures.terminal
    (term_failed _ _ (map plain_term_said cs) _ _ c.asks_told-keeps.ensures (c.in_ok-status.ensures.missed one c.new_player-player.ensures.last)))

pub returns-clause-traced : goal.returns-clause-traced
returns-clause-traced g c zero new =
    let cs = c.as_slice-commands.result.now in
    let t : Term = c.new_player-player.result.terminal in
    let S : Ledger → Type 0 = λ b. IsAtStart b c.in_ok-tracer.tracer in
    let A : Term → Type 0 = λ x. IsAtStart (book_in x) c.in_ok-tracer.tracer in
    let E : Bool → Type 0 = λ e. IsTermTraced e c.asks_told-keeps.result (map plain_line c.deref.result.now) t (map plain_term_said cs) (g.T.Write.contents c.args.trace.now) (g.T.Write.contents c.trace_each.new.trace) in
    let K : Bool → Type 0 =
    λ k. IsTermTraced c.args.every k (map plain_line c.deref.result.now) t (map plain_term_said cs) (g.T.Write.contents c.args.trace.now) (g.T.Write.contents c.trace_each.new.trace) in
    let L : List PlainLine → Type 0 =
    λ ls. IsTermTraced c.args.every (asks_told (map plain_term_said cs)) ls t (map plain_term_said cs) (g.T.Write.contents c.args.trace.now) (g.T.Write.contents c.trace_each.new.trace) in
    let X : Term → Type 0 =
    λ x. IsTermTraced c.args.every (asks_told (map plain_term_said cs)) (lines_of c.args.text.now) x (map plain_term_said cs) (g.T.Write.contents c.args.trace.now)
    (g.T.Write.contents c.trace_each.new.trace) in
    let C : List TermSaid → Type 0 =
    λ xs. IsTermTraced c.args.every (asks_told (map plain_term_said xs)) (lines_of c.args.text.now) c.args.terminal (map plain_term_said xs) (g.T.Write.contents c.args.trace.now)
    (g.T.Write.contents c.trace_each.new.trace) in
    let at = subst A (sym c.new_player-player.ensures.terminal) (subst S (sym new) c.in_ok-tracer.ensures.start) in
    subst C c.as_slice-commands.ensures.value
    (subst X c.new_player-player.ensures.terminal
    (subst L (ap (map plain_line) c.deref.ensures.value ∙ c.in_ok-lines.ensures)
    (subst K c.asks_told-keeps.ensures (subst E c.in_ok-tracer.ensures.every (c.in_ok-status.ensures.traced zero c.new_player-player.ensures.last at)))))

pub returns-clause-in_part : goal.returns-clause-in_part
returns-clause-in_part g c one new =
    let cs = c.as_slice-commands.result.now in
    let t : Term = c.new_player-player.result.terminal in
    let S : Ledger → Type 0 = λ b. IsAtStart b c.in_ok-tracer.tracer in
    let A : Term → Type 0 = λ x. IsAtStart (book_in x) c.in_ok-tracer.tracer in
    let E : Bool → Type 0 = λ e. IsTermTracedInPart e c.asks_told-keeps.result (map plain_line c.deref.result.now) t (map plain_term_said cs) (g.T.Write.contents c.args.trace.now) (g.T.Write.contents c.trace_each.new.trace) in
    let K : Bool → Type 0 =
    λ k. IsTermTracedInPart c.args.every k (map plain_line c.deref.result.now) t (map plain_term_said cs) (g.T.Write.contents c.args.trace.now) (g.T.Write.contents c.trace_each.new.trace) in
    let L : List PlainLine → Type 0 =
    λ ls. IsTermTracedInPart c.args.every (asks_told (map plain_term_said cs)) ls t (map plain_term_said cs) (g.T.Write.contents c.args.trace.now) (g.T.Write.contents c.trace_each.new.trace) in
    let X : Term → Type 0 =
    λ x. IsTermTracedInPart c.args.every (asks_told (map plain_term_said cs)) (lines_of c.args.text.now) x (map plain_term_said cs) (g.T.Write.contents c.args.trace.now)
    (g.T.Write.contents c.trace_each.new.trace) in
    let C : List TermSaid → Type 0 =
    λ xs. IsTermTracedInPart c.args.every (asks_told (map plain_term_said xs)) (lines_of c.args.text.now) c.args.terminal (map plain_term_said xs) (g.T.Write.contents c.args.trace.now)
    (g.T.Write.contents c.trace_each.new.trace) in
    let at = subst A (sym c.new_player-player.ensures.terminal) (subst S (sym new) c.in_ok-tracer.ensures.start) in
    subst C c.as_slice-commands.ensures.value
    (subst X c.new_player-player.ensures.terminal
    (subst L (ap (map plain_line) c.deref.ensures.value ∙ c.in_ok-lines.ensures)
    (subst K c.asks_told-keeps.ensures (subst E c.in_ok-tracer.ensures.every (c.in_ok-status.ensures.in_part one c.new_player-player.ensures.last at)))))
