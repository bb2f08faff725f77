use Rattle.std.proofs.Common.{◌∷◌, sym, ap, ◌∙◌}
use Rattle.line_play.specs.InTurn.{in_turn}
use Rattle.line_play.specs.declared.link.turns.Turn.{Turn}
use Rattle.line_play.proofs.Turning.{same_rest, next_behind_held, none_behind_held}
use Rattle.line_play.proofs.link.turns.with_held.Goals as goal

pub returns-in-Some-clause-turn : goal.returns-in-Some-clause-turn
returns-in-Some-clause-turn c =
    next_behind_held c.args.terminal.now c.report.new.self c.args.held c.in-Some.next c.in-Some.ensures.report c.report.ensures.transceiver
    ∙ ap (λ (t : Turn). t.told ∷ in_turn t.held c.report.new.self.processes.transceiver) (sym c.turn_of.ensures)

pub returns-in-Some-clause-same : goal.returns-in-Some-clause-same
returns-in-Some-clause-same c = same_rest c.args.terminal.now c.report.new.self c.report.ensures.transceiver

pub returns-in-None-clause-turn : goal.returns-in-None-clause-turn
returns-in-None-clause-turn c =
    none_behind_held c.args.terminal.now c.report.new.self c.args.held c.in-None.ensures.report c.report.ensures.transceiver

pub returns-in-None-clause-same : goal.returns-in-None-clause-same
returns-in-None-clause-same c = same_rest c.args.terminal.now c.report.new.self c.report.ensures.transceiver
