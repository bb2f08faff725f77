use Rattle.turn_check.proofs.Whole.{start_small}
use Rattle.turn_check.proofs.verified.Verified.start.Goals as goal

pub start_transition-requires : goal.start_transition-requires
start_transition-requires c = start_small c.args.self.now c.args.number.0 c.args.process.now c.keeps.ensures c.requires
