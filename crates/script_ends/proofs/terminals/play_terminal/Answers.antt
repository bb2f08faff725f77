use Rattle.std.proofs.Common.{subst}
use Rattle.resend_store.specs.declared.messages.RoundLimits.{RoundLimits}
use Rattle.script_ends.specs.TermRuns.{IsNewWithin}
use Rattle.script_ends.proofs.terminals.play_terminal.Goals as goal

pub returns-in-Ok-clause-held : goal.returns-in-Ok-clause-held
returns-in-Ok-clause-held g c held =
    let P : RoundLimits → Type 0 = λ l. IsNewWithin c.args.set.now c.args.script.now.head.mode c.in-Ok.terminal l in
    record {
      terminal = c.in-Ok.terminal;
      is_new = subst P c.limits_over-limits.ensures c.in-Ok.ensures.ok;
      holds = c.play_on.ensures.held held;
    }

pub returns-in-Ok-clause-missed : goal.returns-in-Ok-clause-missed
returns-in-Ok-clause-missed g c missed =
    let P : RoundLimits → Type 0 = λ l. IsNewWithin c.args.set.now c.args.script.now.head.mode c.in-Ok.terminal l in
    record {
      terminal = c.in-Ok.terminal;
      is_new = subst P c.limits_over-limits.ensures c.in-Ok.ensures.ok;
      holds = c.play_on.ensures.missed missed;
    }
