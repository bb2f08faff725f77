use Rattle.std.proofs.Common.{List, map, subst}
use Rattle.link_group.specs.Set.{LinkSet}
use Rattle.script_links.specs.GroupScripts.{plain_group_said}
use Rattle.script_links.specs.declared.group_script.GroupSaid.{GroupSaid}
use Rattle.script_ends.specs.GroupRuns.{begun, IsGroupWritten, IsGroupMissed}
use Rattle.script_ends.proofs.Openings.{lacks_name}
use Rattle.script_ends.proofs.playing.play_group.Goals as goal

pub returns-in-Ok-clause-held : goal.returns-in-Ok-clause-held
returns-in-Ok-clause-held g c zero =
    let new = c.in-Ok.ensures.ok in
    let P : List GroupSaid → Type 0 =
    λ commands. IsGroupWritten (map plain_group_said commands) (g.W.Write.contents c.args.writer.now) (g.W.Write.contents c.play_set.new.writer)
    (begun c.in-Ok.group) in
    let Q : LinkSet → Type 0 =
    λ s. IsGroupWritten (map plain_group_said c.args.script.now.commands.items) (g.W.Write.contents c.args.writer.now)
    (g.W.Write.contents c.play_set.new.writer) (begun s) in
    record { terminals = new.terminals; new = new.new; holds = subst Q new.set (subst P c.deref.ensures.value (c.play_set.ensures.held zero)) }

pub returns-in-Ok-clause-missed : goal.returns-in-Ok-clause-missed
returns-in-Ok-clause-missed g c one =
    let new = c.in-Ok.ensures.ok in
    let P : List GroupSaid → Type 0 =
    λ commands. IsGroupMissed (map plain_group_said commands) (g.W.Write.contents c.args.writer.now) (g.W.Write.contents c.play_set.new.writer)
    (begun c.in-Ok.group) in
    let Q : LinkSet → Type 0 =
    λ s. IsGroupMissed (map plain_group_said c.args.script.now.commands.items) (g.W.Write.contents c.args.writer.now)
    (g.W.Write.contents c.play_set.new.writer) (begun s) in
    record { terminals = new.terminals; new = new.new; holds = subst Q new.set (subst P c.deref.ensures.value (c.play_set.ensures.missed one)) }

pub returns-in-Err-clause-refused : goal.returns-in-Err-clause-refused
returns-in-Err-clause-refused g c two =
    lacks_name c.args.set.now _ _ c.in-Err.error (c.refuse_set.ensures.printed two) c.in-Err.ensures.err
