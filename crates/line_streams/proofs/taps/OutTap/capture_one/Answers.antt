use Rattle.std.proofs.Common.{refl}
use Rattle.std.proofs.lemmas.Result.{on_ok_weaker}
use Rattle.line_streams.proofs.Tapped.{tapped_one}
use Rattle.line_streams.proofs.taps.OutTap.capture_one.Goals as goal

pub returns-clause-tapped : goal.returns-clause-tapped
returns-clause-tapped g c =
    on_ok_weaker c.put-2.result (λ last before gone seen has.
    tapped_one g.S.Write.contents before gone c.args.octet c.in-Ok.came c.turned-gone.result c.turned-come.result seen c.args.self.now _
    (g.S.Write.contents c.put.new.sink) c.in_ok-kept.kept.went c.in_ok-kept.kept.came has refl c.turned-gone.ensures c.turned-come.ensures c.in-Ok.ensures.ok.0
    c.in_ok-kept.ensures.every c.in_ok-kept.ensures.kept c.in_ok-put.ensures last) c.put-2.ensures
