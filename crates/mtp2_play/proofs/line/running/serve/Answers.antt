use Rattle.std.proofs.Common.{◌≡◌, ℕ, min, subst}
use Rattle.line_filter.specs.Filters.{MOST_AHEAD}
use Rattle.mtp2_play.specs.Spoken.{SpokeBy, Begun}
use Rattle.mtp2_play.proofs.Speaking.{spoke, begun}
use Rattle.mtp2_play.proofs.line.running.serve.Goals as goal

pub returns-clause-spoke : goal.returns-clause-spoke
returns-clause-spoke g c octets ordered zero =
    let few : c.min-ahead.result ≡ min c.args.end.now.ahead MOST_AHEAD = c.min-ahead.ensures in
    let P : ℕ → Type 0 = λ n. SpokeBy octets c.args.desk.now.terminal.terminal c.args.end.now.bits n
    (record { read = g.R.Read.remaining c.args.reader.now; written = g.W.Write.contents c.args.writer.now; told = g.P.Reports.stand c.args.desk.now.reports })
    (record { read = g.R.Read.remaining c.run_link.new.reader; written = g.W.Write.contents c.run_link.new.writer; told = g.P.Reports.stand c.run_link.new.desk.reports }) in
    subst P few
    (spoke octets g.O.Orders.left _ _ _ c.args.desk.now c.run_link.new.desk _ _ c.requires.none_held c.requires.silent ordered c.requires.new
    (c.run_link.ensures.over zero))

pub returns-clause-begun : goal.returns-clause-begun
returns-clause-begun g c octets given ordered =
    let few : c.min-ahead.result ≡ min c.args.end.now.ahead MOST_AHEAD = c.min-ahead.ensures in
    let P : ℕ → Type 0 = λ n. Begun c.args.end.now.orders c.args.desk.now.terminal.terminal c.args.end.now.bits n
    (record { read = g.R.Read.remaining c.args.reader.now; written = g.W.Write.contents c.args.writer.now })
    (record { read = g.R.Read.remaining c.run_link.new.reader; written = g.W.Write.contents c.run_link.new.writer }) in
    subst P few
    (begun c.args.end.now.orders octets g.O.Orders.left _ _ c.args.desk.now _ _ given c.requires.none_held c.requires.silent ordered
    c.requires.new c.run_link.ensures.begun)
