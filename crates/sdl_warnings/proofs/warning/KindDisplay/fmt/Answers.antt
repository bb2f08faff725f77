use Rattle.std.proofs.Common.{codes, append_assoc, sym, ap, ◌∙◌, ◌++◌}
use Rattle.std.proofs.Output.{has_written_of_eq}
use Rattle.sdl_warnings.specs.Printed.{kind_text}
use Rattle.sdl_warnings.proofs.warning.KindDisplay.fmt.Goals as goal

pub returns-in-UntakenSignal-clause-writes : goal.returns-in-UntakenSignal-clause-writes
returns-in-UntakenSignal-clause-writes g c = λ plain ok.
    has_written_of_eq _ _ _ _ _
    (sym (append_assoc c.in-UntakenSignal.process (codes " neither takes nor saves ") c.in-UntakenSignal.signal) ∙ ap kind_text (sym c.in-UntakenSignal.is))
    (c.write-in-UntakenSignal.ensures.writes plain ok)

pub returns-in-VainSave-clause-writes : goal.returns-in-VainSave-clause-writes
returns-in-VainSave-clause-writes g c = λ plain ok.
    has_written_of_eq _ _ _ _ _
    (ap (λ l. codes "no way from " ++ l) (sym (append_assoc c.in-VainSave.state (codes " leads to a state that takes ") c.in-VainSave.signal))
    ∙ ap kind_text (sym c.in-VainSave.is))
    (c.write-in-VainSave.ensures.writes plain ok)
