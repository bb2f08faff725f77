use Rattle.std.proofs.Common.{◌≡◌, ◌∙◌, length, map, ap, subst, sym}
use Rattle.script_links.specs.GroupScripts.{plain_group_said}
use Rattle.script_seen.specs.GroupAnswers.{Playing}
use Rattle.script_seen.specs.GroupRuns.{begun, IsGroupWritten, IsGroupMissed}
use Rattle.script_seen.specs.TracedGroups.{books_of}
use Rattle.script_play.specs.CapturedSets.{IsSetCaptured, IsSetCapturedInPart}
use Rattle.script_play.proofs.SetClocks.{links_made}
use Rattle.script_play.proofs.captured_groups.capture_group.Goals as goal

pub returns-in-Ok-clause-held : goal.returns-in-Ok-clause-held
returns-in-Ok-clause-held g c zero =
    let made = c.in-Ok.ensures.ok in
    let P : Playing → Type 0 =
    λ p. IsGroupWritten (map plain_group_said c.args.script.now.commands.items) (g.W.Write.contents c.args.writer.now) (g.W.Write.contents c.capture_all.new.writer) p in
    record {
      terminals = made.1.terminals;
      new = made.1.new;
      holds = subst P (made.2 ∙ ap begun made.1.set) (c.capture_all.ensures.held zero c.in-Ok.ensures.last);
    }

pub returns-in-Ok-clause-missed : goal.returns-in-Ok-clause-missed
returns-in-Ok-clause-missed g c one =
    let made = c.in-Ok.ensures.ok in
    let P : Playing → Type 0 =
    λ p. IsGroupMissed (map plain_group_said c.args.script.now.commands.items) (g.W.Write.contents c.args.writer.now) (g.W.Write.contents c.capture_all.new.writer) p in
    record {
      terminals = made.1.terminals;
      new = made.1.new;
      holds = subst P (made.2 ∙ ap begun made.1.set) (c.capture_all.ensures.missed one c.in-Ok.ensures.last);
    }

pub returns-in-Ok-clause-captured : goal.returns-in-Ok-clause-captured
returns-in-Ok-clause-captured g c zero =
    let made = c.in-Ok.ensures.ok in
    let head = c.args.script.now.head in
    let is = made.2 ∙ ap begun made.1.set in
    let N : Playing → Type 0 = λ p. length (books_of p) ≡ head.links in
    let P : Playing → Type 0 =
    λ p. IsSetCaptured c.args.every (map plain_group_said c.args.script.now.commands.items) (g.T.Write.contents c.args.out.now) (g.T.Write.contents c.capture_all.new.out) p in
    record {
      terminals = made.1.terminals;
      new = made.1.new;
      holds = subst P is
          (c.capture_all.ensures.captured zero c.in-Ok.ensures.last (subst N (sym is) (links_made c.args.set.now c.args.limits head made.1.terminals made.1.new)));
    }

pub returns-in-Ok-clause-in_part : goal.returns-in-Ok-clause-in_part
returns-in-Ok-clause-in_part g c one =
    let made = c.in-Ok.ensures.ok in
    let head = c.args.script.now.head in
    let is = made.2 ∙ ap begun made.1.set in
    let N : Playing → Type 0 = λ p. length (books_of p) ≡ head.links in
    let P : Playing → Type 0 =
    λ p. IsSetCapturedInPart c.args.every (map plain_group_said c.args.script.now.commands.items) (g.T.Write.contents c.args.out.now) (g.T.Write.contents c.capture_all.new.out) p in
    record {
      terminals = made.1.terminals;
      new = made.1.new;
      holds = subst P is
          (c.capture_all.ensures.in_part one c.in-Ok.ensures.last (subst N (sym is) (links_made c.args.set.now c.args.limits head made.1.terminals made.1.new)));
    }
