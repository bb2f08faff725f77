use Rattle.std.proofs.Common.{refl, ap, subst, append-nil, ◌∙◌, List, ℕ}
use Rattle.script_links.specs.GroupCommands.{plain_group_command}
use Rattle.script_seen.specs.UnitLines.{IsLineOf}
use Rattle.script_play.proofs.SetCommands.{set_comes_as}
use Rattle.script_play.proofs.captured_groups.come_on.Goals as goal

pub returns-in_ok-octets-in-Unit-clause-coming : goal.returns-in_ok-octets-in-Unit-clause-coming
returns-in_ok-octets-in-Unit-clause-coming c =
    let I : List ℕ → Type 0 = λ xs. IsLineOf xs c.in_ok-octets-in-Unit.octets.items in
    set_comes_as _ _ _ (ap plain_group_command c.in-Unit.is)
    (record { once = c.in_ok-octets-in-Unit.octets.items; is_line = subst I c.deref.ensures.value c.in_ok-octets-in-Unit.ensures; are = refl })

pub returns-in_ok-octets-in-Line-clause-coming : goal.returns-in_ok-octets-in-Line-clause-coming
returns-in_ok-octets-in-Line-clause-coming c =
    set_comes_as _ _ _ (ap plain_group_command c.in-Line.is) (append-nil c.in_ok-octets-in-Line.octets.items ∙ (c.in_ok-octets-in-Line.ensures.items ∙ c.deref-in-Line.ensures.value))
