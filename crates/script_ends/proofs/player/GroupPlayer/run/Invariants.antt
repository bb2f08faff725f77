-- The commands so far were obeyed.
use Rattle.std.proofs.Common.{◌++◌, ℕ, List, Option, map, take}
use Rattle.script_links.specs.GroupScripts.{PlainGroupSaid, plain_group_said}
use Rattle.script_ends.specs.GroupAnswers.{Playing}
use Rattle.script_ends.specs.GroupRuns.{playing_of, last_of, IsGroupRun}
use Rattle.script_ends.proofs.player.GroupPlayer.run.Given as goal

abbrev pub invariant-loop-said : goal.invariant-loop-said
invariant-loop-said g l =
    (p : Playing) (before : List PlainGroupSaid) (first : Option (List ℕ))
    → IsGroupRun p before first (g.W.Write.contents l.initial.writer) (playing_of l.initial.self) (last_of l.initial.self)
    → IsGroupRun p (before ++ map plain_group_said (take l.said-index l.commands)) first (g.W.Write.contents l.writer) (playing_of l.self) (last_of l.self)
