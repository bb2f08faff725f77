use Rattle.std.proofs.Common.{refl}
use Rattle.line_play.specs.SetDoing.{stood}
use Rattle.line_play.proofs.SetQueues.{first_some, first_none}
use Rattle.line_play.proofs.set.attending.retry_first.Goals as goal

pub returns-in-Some : goal.returns-in-Some
returns-in-Some g c =
    first_some c.retry_one.result _ _ (stood c.args.state.now) (stood c.retry_one.new.state) _ _ _ _ _ _ c.in-Some.ensures.some c.retry_one.ensures

pub returns-in-None : goal.returns-in-None
returns-in-None g c = first_none _ (stood c.args.state.now) _ _ _ (c.in-None.ensures.nobody refl) (c.in-None.ensures.none refl)
