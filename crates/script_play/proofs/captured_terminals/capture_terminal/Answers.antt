use Rattle.std.proofs.Common.{subst}
use Rattle.resend_store.specs.declared.messages.RoundLimits.{RoundLimits}
use Rattle.script_seen.specs.TermRuns.{IsNewWithin}
use Rattle.script_play.proofs.captured_terminals.capture_terminal.Goals as goal

pub returns-in-Ok-clause-held : goal.returns-in-Ok-clause-held
returns-in-Ok-clause-held g c zero =
    let P : RoundLimits → Type 0 = λ l. IsNewWithin c.args.set.now c.args.script.now.head.mode c.in-Ok.terminal l in
    record { terminal = c.in-Ok.terminal; is_new = subst P c.limits_over-limits.ensures c.in-Ok.ensures.ok; holds = c.capture_new.ensures.held zero }

pub returns-in-Ok-clause-missed : goal.returns-in-Ok-clause-missed
returns-in-Ok-clause-missed g c one =
    let P : RoundLimits → Type 0 = λ l. IsNewWithin c.args.set.now c.args.script.now.head.mode c.in-Ok.terminal l in
    record { terminal = c.in-Ok.terminal; is_new = subst P c.limits_over-limits.ensures c.in-Ok.ensures.ok; holds = c.capture_new.ensures.missed one }

pub returns-in-Ok-clause-captured : goal.returns-in-Ok-clause-captured
returns-in-Ok-clause-captured g c zero =
    let P : RoundLimits → Type 0 = λ l. IsNewWithin c.args.set.now c.args.script.now.head.mode c.in-Ok.terminal l in
    record { terminal = c.in-Ok.terminal; is_new = subst P c.limits_over-limits.ensures c.in-Ok.ensures.ok; holds = c.capture_new.ensures.captured zero }

pub returns-in-Ok-clause-in_part : goal.returns-in-Ok-clause-in_part
returns-in-Ok-clause-in_part g c one =
    let P : RoundLimits → Type 0 = λ l. IsNewWithin c.args.set.now c.args.script.now.head.mode c.in-Ok.terminal l in
    record { terminal = c.in-Ok.terminal; is_new = subst P c.limits_over-limits.ensures c.in-Ok.ensures.ok; holds = c.capture_new.ensures.in_part one }
