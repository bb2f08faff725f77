use Rattle.std.proofs.Common.{List, ℕ, sym, subst}
use Rattle.script_links.specs.GroupCommands.{plain_group_command}
use Rattle.script_play.specs.Captured.{repeated}
use Rattle.script_play.specs.CapturedSets.{IsComing}
use Rattle.script_play.proofs.captured_groups.note.Goals as goal

pub returns-clause-heard : goal.returns-clause-heard
returns-clause-heard g c =
    let C : List ℕ → Type 0 = λ xs. IsComing (plain_group_command c.args.command.now) (repeated c.in_ok-coming.coming.times xs) in
    (repeated c.in_ok-coming.coming.times c.deref.result.now, subst C (sym c.deref.ensures.value) c.in_ok-coming.ensures.coming, c.in_ok-hear_times.ensures)
