use Rattle.std.proofs.Common.{None}
use Rattle.mtp2_play.specs.Served.{is_run}
use Rattle.mtp2_play.proofs.scripts.soak.serve_links.Goals as goal

pub returns-clause-served : goal.returns-clause-served
returns-clause-served g c words asks =
    is_run _ (record { read = None; written = _ }) (record { read = None; written = _ }) asks.taken asks.asked c.run_soak.ensures.printed c.run_soak.ensures.status
