use Rattle.std.proofs.Common.{sym, ap, option_map}
use Rattle.line_play.specs.SetExposing.{head_of}
use Rattle.line_play.proofs.SetExposing.{appended, unchanged}
use Rattle.line_play.proofs.set.exposition.put_head_of.Goals as goal

pub returns-in-Some : goal.returns-in-Some
returns-in-Some c =
    appended c.put_head.result _ _ _ _ (ap (λ o. head_of c.args.series.name.now (option_map (λ h. (h.0.now, h.1.now)) o)) (sym c.in-Some.is)) c.put_head.ensures

pub returns-in-None : goal.returns-in-None
returns-in-None c = unchanged _ _ (ap (λ o. head_of c.args.series.name.now (option_map (λ h. (h.0.now, h.1.now)) o)) (sym c.in-None.is))
