use Rattle.std.proofs.Common.{Option, sym, ap, ◌∙◌}
use Rattle.resend_store.specs.declared.messages.Msu.{Msu}
use Rattle.m3ua_gateway.specs.Life.{account_after}
use Rattle.m3ua_gateway.specs.Asking.{deed_of}
use Rattle.m3ua_gateway.proofs.AskingLaws.{no_data}
use Rattle.m3ua_gateway.proofs.gateway.Gateway.hears.Goals as goal

pub happens-requires : goal.happens-requires
happens-requires c = no_data c.args.happening c.args.message c.in-None.is c.requires.carried

pub returns-in-None : goal.returns-in-None
returns-in-None c = c.happens.ensures ∙ ap (λ (m : Option Msu). account_after c.args.self.now (deed_of c.args.happening m)) (sym c.in-None.is)

pub returns-in-Some : goal.returns-in-Some
returns-in-Some c = c.hears_with.ensures ∙ ap (λ (m : Option Msu). account_after c.args.self.now (deed_of c.args.happening m)) (sym c.in-Some.is)
