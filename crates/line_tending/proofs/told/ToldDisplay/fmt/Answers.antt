use Rattle.std.proofs.Common.{codes, decimal, append_assoc, sym, ap, ◌∙◌}
use Rattle.std.proofs.Output.{has_written_of_eq}
use Rattle.line_tending.specs.Texts.{told_text, message_text}
use Rattle.line_tending.proofs.told.ToldDisplay.fmt.Goals as goal

pub returns-in-Message-clause-writes : goal.returns-in-Message-clause-writes
returns-in-Message-clause-writes g c = λ plain ok.
    has_written_of_eq _ _ _ _ _
    (sym (append_assoc (decimal c.in-Message.link) (codes " message ") (message_text c.in-Message.msu)) ∙ ap told_text (sym c.in-Message.is))
    (c.write-in-Message.ensures.writes plain ok)
