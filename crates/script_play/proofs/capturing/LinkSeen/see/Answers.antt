use Rattle.std.proofs.Common.{refl, ◌∙◌}
use Rattle.script_play.proofs.Capturings.{saw_news, saw_repeat}
use Rattle.script_play.proofs.capturing.LinkSeen.see.Goals as goal

pub returns-then-not-keeps : goal.returns-then-not-keeps
returns-then-not-keeps g c every came ss begun so_far =
    saw_repeat every c.keeps.result c.args.seen.now came ss begun _ _ _ c.if-not-keeps.true refl c.keeps.ensures.every c.keeps.ensures.kept c.keeps.ensures.stands so_far

pub returns : goal.returns
returns g c every came ss begun so_far =
    saw_news every c.keeps.result c.args.seen.now came ss begun _ _ _ _ _ c.if-not-keeps.false refl c.keeps.ensures.every c.keeps.ensures.kept c.keeps.ensures.stands
    (c.as_slice.ensures.value ∙ c.record.ensures) c.in_ok-write_all.ensures.bytes so_far
