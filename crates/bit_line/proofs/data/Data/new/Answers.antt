use Rattle.std.proofs.Common.{refl}
use Rattle.bit_line.proofs.ContentLaws.{gathers-none}
use Rattle.bit_line.proofs.data.Data.new.Goals as goal

pub returns : goal.returns
returns c = gathers-none _ c.new.ensures c.new-2.ensures.len refl
