use Rattle.std.proofs.Common.{refl, ap, subst, append-nil, ◌∙◌, List, ℕ}
use Rattle.script_links.specs.TermCommands.{plain_term_command}
use Rattle.script_seen.specs.UnitLines.{IsLineOf}
use Rattle.script_play.specs.Captured.{repeated}
use Rattle.script_play.proofs.TermCaptures.{comes_as}
use Rattle.script_play.proofs.captured_terminals.come_by.Goals as goal

pub returns-in_ok-octets-in-Unit-clause-coming : goal.returns-in_ok-octets-in-Unit-clause-coming
returns-in_ok-octets-in-Unit-clause-coming c =
    let I : List ℕ → Type 0 = λ xs. IsLineOf xs c.in_ok-octets-in-Unit.octets.items in
    comes_as _ _ _ (ap plain_term_command c.in-Unit.is)
    (record { once = c.in_ok-octets-in-Unit.octets.items; is_line = subst I c.deref.ensures.value c.in_ok-octets-in-Unit.ensures; are = refl })

pub returns-in_ok-octets-in-Units-clause-coming : goal.returns-in_ok-octets-in-Units-clause-coming
returns-in_ok-octets-in-Units-clause-coming c =
    let I : List ℕ → Type 0 = λ xs. IsLineOf xs c.in_ok-octets-in-Units.octets.items in
    comes_as _ _ _ (ap plain_term_command c.in-Units.is)
    (record { once = c.in_ok-octets-in-Units.octets.items; is_line = subst I c.deref-in-Units.ensures.value c.in_ok-octets-in-Units.ensures; are = refl })

pub returns-in_ok-octets-in-Errors-clause-coming : goal.returns-in_ok-octets-in-Errors-clause-coming
returns-in_ok-octets-in-Errors-clause-coming c =
    comes_as _ _ _ (ap plain_term_command c.in-Errors.is) (ap (repeated _) c.in_ok-octets-in-Errors.ensures.items)

pub returns-in_ok-octets-in-Line-clause-coming : goal.returns-in_ok-octets-in-Line-clause-coming
returns-in_ok-octets-in-Line-clause-coming c =
    comes_as _ _ _ (ap plain_term_command c.in-Line.is) (append-nil c.in_ok-octets-in-Line.octets.items ∙ (c.in_ok-octets-in-Line.ensures.items ∙ c.deref-in-Line.ensures.value))
