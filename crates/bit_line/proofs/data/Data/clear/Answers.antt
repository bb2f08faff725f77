use Rattle.std.proofs.Common.{refl}
use Rattle.bit_line.proofs.ContentLaws.{gathers-none}
use Rattle.bit_line.proofs.data.Data.clear.Goals as goal

pub returns : goal.returns
returns c = gathers-none _ c.clear.ensures c.new-self.ensures.len refl
