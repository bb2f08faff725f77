use Rattle.std.proofs.lemmas.Result.{on_ok_weaker}
use Rattle.actor_machine.specs.Ledger.{state_of}
use Rattle.script_seen.proofs.Noticing.{knows_none, none_noticed}
use Rattle.script_seen.proofs.tracing.Tracer.happen_watched.Goals as goal

pub returns-in_default : goal.returns-in_default
returns-in_default g c = record {
  step = c.happen_unwatched.ensures;
  knows =
      on_ok_weaker c.happen_unwatched.result (λ step ns k.
      knows_none (λ d ms. g.N.Watcher.knows d ms c.args.watcher.now) c.args.self.now.again.set _ ns
      (none_noticed c.args.self.now.again.set (state_of c.args.self.now.again) c.args.event.now c.in_default.not-Skip c.in_default.not-Finish) k)
      c.happen_unwatched.ensures;
}
