use Rattle.std.proofs.Common.{sym, ap, ◌∙◌}
use Rattle.line_play.specs.SetDoing.{stood}
use Rattle.line_play.specs.SetQueues.{plain_sent}
use Rattle.line_play.proofs.SetSending.{left_so, took_so, refused_so, held_so}
use Rattle.line_play.proofs.set.state.SetState.try_send.Goals as goal

pub returns-then-not-stays : goal.returns-then-not-stays
returns-then-not-stays g c = left_so _ _ _ (stood c.args.self.now) _ _ (sym c.stays.ensures ∙ c.if-not-stays.true) c.in_ok-refuse.ensures

pub returns-in_ok-agree-in-Taken : goal.returns-in_ok-agree-in-Taken
returns-in_ok-agree-in-Taken g c =
    took_so _ _ _ (stood c.args.self.now) c.ask.new.tender _ _ _ (sym c.stays.ensures ∙ c.if-not-stays.false) (ap plain_sent c.in-Taken.is) c.in_ok-ask.ensures c.in_ok-agree-in-Taken.ensures

pub returns-in_ok-refuse-in-Refused : goal.returns-in_ok-refuse-in-Refused
returns-in_ok-refuse-in-Refused g c =
    refused_so _ _ _ _ _ (stood c.args.self.now) c.ask.new.tender _ _ _ (sym c.stays.ensures ∙ c.if-not-stays.false) (ap plain_sent c.in-Refused.is) c.as_str.ensures.value c.in_ok-ask.ensures
    c.in_ok-refuse-in-Refused.ensures

pub returns-in-Held : goal.returns-in-Held
returns-in-Held g c =
    held_so _ _ _ (stood c.args.self.now) c.ask.new.tender _ _ (sym c.stays.ensures ∙ c.if-not-stays.false) (ap plain_sent c.in-Held.is) c.in_ok-ask.ensures
