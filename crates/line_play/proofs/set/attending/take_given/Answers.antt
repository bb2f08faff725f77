use Rattle.std.proofs.Common.{None, Some, refl, sym, ap, option_map, string_bytes}
use Rattle.line_play.specs.SetDoing.{stood}
use Rattle.line_play.specs.SetGiven.{plain_said}
use Rattle.line_play.specs.SetQueues.{waiting_in}
use Rattle.line_play.proofs.SetQueues.{takes_as}
use Rattle.line_play.proofs.set.attending.take_given.Goals as goal

pub returns-in-Some : goal.returns-in-Some
returns-in-Some g c =
    takes_as c.take_said.result _ _ (Some (plain_said c.in-Some.said)) _ (stood c.args.state.now) _ (stood c.take_said.new.state) _ _ _ _ refl
    (ap (option_map plain_said) (sym c.in-Some.is)) refl c.take_said.ensures

pub returns : goal.returns
returns g c =
    takes_as c.take_other.result _ _ None _ (stood c.args.state.now) _ (stood c.take_other.new.state) _ _ _ _ c.as_str.ensures.value (ap (option_map plain_said) (sym c.in-None.is)) refl
    (c.take_other.ensures (waiting_in c.args.queue.now))
