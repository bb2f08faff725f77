use Rattle.std.proofs.Common.{◌∙◌}
use Rattle.script_seen.proofs.Noticing.{knows_finish}
use Rattle.script_seen.proofs.tracing.Tracer.finish_watched.Goals as goal

pub returns-clause-knows : goal.returns-clause-knows
returns-clause-knows g c ns k =
    knows_finish (λ d ms. g.N.Watcher.knows d ms c.args.watcher.now) (λ d ms. g.N.Watcher.knows d ms c.end-2.new.self) c.args.self.now.again c.args.actor _ _
    (c.set.ensures ∙ c.in_ok-ended.ensures.step.set) (c.fits_law.ensures c.args.self.now.again c.keeps.ensures) c.in_ok-ended.ensures.ended c.in_ok-end.ensures ns k
