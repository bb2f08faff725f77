use Rattle.bit_line.proofs.ContentLaws.{empty_when, not_empty-over, not_empty-octets}
use Rattle.bit_line.proofs.data.Data.is_empty.Goals as goal

pub returns-then-self : goal.returns-then-self
returns-then-self c h gathers = not_empty-over h c.args.self.now gathers c.if-self.true

pub returns-then-is_empty : goal.returns-then-is_empty
returns-then-is_empty c h gathers = empty_when h c.args.self.now c.is_empty.result gathers c.if-self.false c.if-is_empty.true c.is_empty.ensures

pub returns-else-is_empty : goal.returns-else-is_empty
returns-else-is_empty c h gathers = not_empty-octets h c.args.self.now c.is_empty.result gathers c.if-is_empty.false c.is_empty.ensures
