use Rattle.link_group.proofs.Terminals.{terminals_fare}
use Rattle.link_group.proofs.laws.terminals_fare_so.Goals as goal

pub returns : goal.returns
returns c = terminals_fare
