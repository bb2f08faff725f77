use Rattle.bit_line.proofs.GateLaws.{unseen-inside, waiting-inside}
use Rattle.bit_line.proofs.PassLaws.{room_none}
use Rattle.bit_line.proofs.gate.Gate.has_room.Goals as goal

pub returns-then-not-self : goal.returns-then-not-self
returns-then-not-self c is h lets = room_none h (unseen-inside h c.args.self.now lets c.if-not-self.true)

pub returns-else-self-eq0 : goal.returns-else-self-eq0
returns-else-self-eq0 c is h lets = room_none h (waiting-inside h c.args.self.now lets c.if-not-self.false c.if-self-eq0.false)
