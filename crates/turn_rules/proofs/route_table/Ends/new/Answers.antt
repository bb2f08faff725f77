use Rattle.turn_rules.proofs.RouteTables.{no_rows}
use Rattle.turn_rules.proofs.route_table.Ends.new.Goals as goal

pub returns : goal.returns
returns c = λ p n b low. no_rows c.new.result c.new.ensures p n b low
