use Rattle.turn_rules.proofs.RouteTables.{no_sets}
use Rattle.turn_rules.proofs.route_table.Row.new.Goals as goal

pub returns : goal.returns
returns c = λ n b. no_sets n b
