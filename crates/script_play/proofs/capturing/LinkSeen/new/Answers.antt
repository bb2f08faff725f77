use Rattle.std.proofs.Common.{rules}
use Rattle.script_play.proofs.Capturings.{none_came}
use Rattle.script_play.proofs.capturing.LinkSeen.new.Goals as goal

pub returns : goal.returns
returns c = λ link. none_came link c.args.every _ c.new-2.ensures.every (search rules) (c.new-2.ensures.first link)
