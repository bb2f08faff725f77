use Rattle.std.proofs.Common.{List, ℕ, subst}
use Rattle.script_seen.specs.TracingGroups.{IsMessageTold}
use Rattle.std.proofs.Common.{codes}
use Rattle.script_seen.proofs.changeovers.said_text.Goals as goal

pub returns : goal.returns
returns c =
    let M : List ℕ → Type 0 = λ octets. IsMessageTold c.args.clock (codes " said ") octets c.in_ok-text.text.items in
    record { octets = c.in_ok-octets.octets.items; are_said = c.in_ok-octets.ensures; told = subst M c.deref.ensures.value c.in_ok-text.ensures }
