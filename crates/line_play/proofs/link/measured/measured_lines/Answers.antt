use Rattle.std.proofs.Common.{map, ap, ◌∙◌}
use Rattle.std.specs.Prelude.{string_bytes}
use Rattle.link_transceiver.specs.declared.measures.Measures.{Measures}
use Rattle.line_play.specs.Measured.{measured_line}
use Rattle.line_play.proofs.Measures.{with_last}
use Rattle.line_play.proofs.link.measured.measured_lines.Goals as goal

pub returns : goal.returns
returns c =
    ap (map string_bytes) c.in_ok-push.ensures.items
    ∙ with_last _ _ _ _
    (c.in_ok-lines.ensures
    ∙ (ap (λ (ms : Measures). map (measured_line ms) c.all_measures-all.result) c.measures-measures.ensures
    ∙ ap (map (measured_line c.args.terminal.now.processes.measures)) c.all_measures-all.ensures)) c.in_ok-last.ensures
