use Rattle.std.proofs.Common.{List, [], ℕ, map, sym, subst}
use Rattle.script_links.specs.GroupScripts.{plain_group_said}
use Rattle.script_links.specs.declared.group_script.GroupSaid.{GroupSaid}
use Rattle.script_seen.specs.GroupRuns.{playing_of, IsGroupWritten, IsGroupMissed}
use Rattle.script_play.specs.declared.capturing.LinkSeen.{LinkSeen}
use Rattle.script_seen.specs.TracedGroups.{books_of}
use Rattle.script_play.specs.CapturedSets.{AreHeard, IsSetCaptured, IsSetCapturedInPart}
use Rattle.script_play.proofs.captured_groups.capture_set.Goals as goal

pub returns-clause-held : goal.returns-clause-held
returns-clause-held g c zero none =
    let C : List GroupSaid → Type 0 =
    λ xs. IsGroupWritten (map plain_group_said xs) (g.W.Write.contents c.args.writer.now) (g.W.Write.contents c.capture_each.new.writer) (playing_of c.args.player.now) in
    subst C c.deref.ensures.value (c.in_ok-status.ensures.held zero none)

pub returns-clause-missed : goal.returns-clause-missed
returns-clause-missed g c one none =
    let C : List GroupSaid → Type 0 =
    λ xs. IsGroupMissed (map plain_group_said xs) (g.W.Write.contents c.args.writer.now) (g.W.Write.contents c.capture_each.new.writer) (playing_of c.args.player.now) in
    subst C c.deref.ensures.value (c.in_ok-status.ensures.missed one none)

pub returns-clause-captured : goal.returns-clause-captured
returns-clause-captured g c zero none many =
    let C : List GroupSaid → Type 0 =
    λ xs. IsSetCaptured c.args.every (map plain_group_said xs) (g.T.Write.contents c.args.out.now) (g.T.Write.contents c.capture_each.new.out) (playing_of c.args.player.now) in
    let H : List LinkSeen → Type 0 = λ ks. AreHeard c.args.every [] 0 (map {B = List ℕ} (λ b. []) (books_of (playing_of c.args.player.now))) ks in
    let heard = c.in_ok-links.ensures (books_of (playing_of c.args.player.now)) many in
    subst C c.deref.ensures.value (c.in_ok-status.ensures.captured zero none c.args.every _ (subst H (sym c.deref_mut.ensures.value) heard) c.in_ok-begin.ensures)

pub returns-clause-in_part : goal.returns-clause-in_part
returns-clause-in_part g c one none many =
    let C : List GroupSaid → Type 0 =
    λ xs. IsSetCapturedInPart c.args.every (map plain_group_said xs) (g.T.Write.contents c.args.out.now) (g.T.Write.contents c.capture_each.new.out) (playing_of c.args.player.now) in
    let H : List LinkSeen → Type 0 = λ ks. AreHeard c.args.every [] 0 (map {B = List ℕ} (λ b. []) (books_of (playing_of c.args.player.now))) ks in
    let heard = c.in_ok-links.ensures (books_of (playing_of c.args.player.now)) many in
    subst C c.deref.ensures.value (c.in_ok-status.ensures.in_part one none c.args.every _ (subst H (sym c.deref_mut.ensures.value) heard) c.in_ok-begin.ensures)
