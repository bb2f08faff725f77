use Rattle.std.proofs.Common.{subst}
use Rattle.script_links.specs.resend_store_types.messages.RoundLimits.{RoundLimits}
use Rattle.script_ends.specs.TermRuns.{IsNewWithin}
use Rattle.script_seen.proofs.terminals.show_terminal.Goals as goal

pub returns-in-Ok-clause-held : goal.returns-in-Ok-clause-held
returns-in-Ok-clause-held g c zero =
    let P : RoundLimits → Type 0 = λ l. IsNewWithin c.args.set.now c.args.script.now.head.mode c.in-Ok.terminal l in
    record { terminal = c.in-Ok.terminal; is_new = subst P c.limits_over-limits.ensures c.in-Ok.ensures.ok; holds = c.show_on.ensures.held zero }

pub returns-in-Ok-clause-missed : goal.returns-in-Ok-clause-missed
returns-in-Ok-clause-missed g c one =
    let P : RoundLimits → Type 0 = λ l. IsNewWithin c.args.set.now c.args.script.now.head.mode c.in-Ok.terminal l in
    record { terminal = c.in-Ok.terminal; is_new = subst P c.limits_over-limits.ensures c.in-Ok.ensures.ok; holds = c.show_on.ensures.missed one }
