use Rattle.std.proofs.Common.{List, ℕ, map, subst}
use Rattle.std.specs.Io.KnownBytes.{Appends}
use Rattle.script_lines.specs.Lines.{plain_line}
use Rattle.script_links.specs.GroupScripts.{plain_group_said}
use Rattle.script_ends.specs.GroupRuns.{playing_of, last_of}
use Rattle.script_seen.proofs.SetTraces.{told_behind}
use Rattle.script_seen.proofs.traced_groups.trace_behind.Goals as goal

pub returns : goal.returns
returns g c every d rs at =
    let T : List ℕ → Type 0 = λ bs. Appends (g.T.Write.contents c.show_front.new.trace) (g.T.Write.contents c.write_all.new.self) bs in
    told_behind every (map plain_line c.args.lines.now) d (plain_group_said c.args.said.now) (playing_of c.args.player.now) (last_of c.args.player.now) rs _ _ _ _ _
    c.clock_of-clock.result c.in_ok-told.told.items c.clock_of-clock.ensures c.in_ok-show_front.ensures c.in_ok-told.ensures
    (subst T c.deref.ensures.value c.in_ok-write_all.ensures.bytes) (c.in_ok-trace_links.ensures every d rs at)
