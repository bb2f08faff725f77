use Rattle.std.proofs.Common.{sym}
use Rattle.std.proofs.lemmas.List.{take_all}
use Rattle.m3ua_gateway.proofs.sending.beginning.Goals as goal

pub returns-then-octets-le40-clause-value : goal.returns-then-octets-le40-clause-value
returns-then-octets-le40-clause-value c = sym (take_all 40 c.args.octets.now c.if-octets-le40.true)
