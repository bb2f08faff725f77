use Rattle.std.proofs.Common.{Option, sym, ap, ◌∙◌}
use Rattle.link_transceiver.specs.declared.signals.Report.{Report}
use Rattle.line_play.specs.InTurn.{in_turn}
use Rattle.line_play.proofs.link.end.next_report.Goals as goal

pub returns-in-Some : goal.returns-in-Some
returns-in-Some c = record {
  first = ap (λ (o : Option Report). in_turn o c.args.end.now.terminal.processes.transceiver) (sym c.take-held.ensures.value) ∙ c.in-Some.ensures.turn;
  same = c.next_turn.ensures.same;
}

pub returns-in-None : goal.returns-in-None
returns-in-None c = record {
  first = (
    ap (λ (o : Option Report). in_turn o c.args.end.now.terminal.processes.transceiver) (sym c.take-held.ensures.value) ∙ c.in-None.ensures.turn.0,
    ap (λ (o : Option Report). in_turn o c.next_turn.new.terminal.processes.transceiver) c.take-held.ensures.after ∙ c.in-None.ensures.turn.1,
  );
  same = c.next_turn.ensures.same;
}
