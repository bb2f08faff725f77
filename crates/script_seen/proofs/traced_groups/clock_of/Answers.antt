use Rattle.script_ends.specs.GroupRuns.{playing_of}
use Rattle.script_seen.proofs.SetTraces.{clock_first, clock_nowhere}
use Rattle.script_seen.proofs.traced_groups.clock_of.Goals as goal

pub returns-in-Some : goal.returns-in-Some
returns-in-Some c = clock_first (playing_of c.args.player.now) c.in-Some.book.now _ c.in-Some.ensures c.clock.ensures

pub returns-in-None : goal.returns-in-None
returns-in-None c = clock_nowhere (playing_of c.args.player.now) c.in-None.ensures
