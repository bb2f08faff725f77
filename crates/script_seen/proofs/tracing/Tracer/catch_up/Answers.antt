use Rattle.std.proofs.Common.{◌≡◌, arith}
use Rattle.actor_machine.specs.Ledger.{next}
use Rattle.script_seen.proofs.Steps.{caught}
use Rattle.script_seen.proofs.tracing.Tracer.catch_up.Goals as goal

pub returns : goal.returns
returns c =
    let same : c.args.book.now.first ≡ next c.args.self.now.again = omega (arith, c.if-first-next.false, c.first-3.ensures, c.next.ensures.value) in
    caught c.args.book.now c.args.self.now c.rebase.new.self c.in_ok-rebase.ensures.ok same
