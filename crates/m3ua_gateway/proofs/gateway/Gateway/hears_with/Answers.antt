use Rattle.std.proofs.Common.{true, false, sym, ap, ◌∙◌}
use Rattle.m3ua_gateway.specs.Life.{account_after}
use Rattle.m3ua_gateway.proofs.AskingLaws.{deed_data}
use Rattle.m3ua_gateway.proofs.gateway.Gateway.hears_with.Goals as goal

pub comes-requires : goal.comes-requires
comes-requires c = record { room = c.requires.room (sym c.is_data.ensures ∙ c.if-is_data.true) }

pub happens-requires : goal.happens-requires
happens-requires c = sym c.is_data.ensures ∙ c.if-is_data.false

pub returns-then-is_data : goal.returns-then-is_data
returns-then-is_data c = c.comes.ensures ∙ ap (account_after c.args.self.now) (deed_data c.args.happening c.args.msu true (sym c.is_data.ensures ∙ c.if-is_data.true))

pub returns-else-is_data : goal.returns-else-is_data
returns-else-is_data c = c.happens.ensures ∙ ap (account_after c.args.self.now) (deed_data c.args.happening c.args.msu false (sym c.is_data.ensures ∙ c.if-is_data.false))
