use Rattle.m3ua_gateway.proofs.LifeLaws as lemmas
use Rattle.m3ua_gateway.proofs.OrderLaws.{in_order_down}
use Rattle.m3ua_gateway.proofs.laws.accounted.Goals as goal

pub returns : goal.returns
returns c = λ ds. (lemmas.upward ds, lemmas.in_order ds, lemmas.labelled ds, lemmas.downward ds, in_order_down ds, lemmas.each_data ds, lemmas.kept ds)
