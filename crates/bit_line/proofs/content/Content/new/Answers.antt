use Rattle.std.proofs.Common.{refl}
use Rattle.bit_line.proofs.ContentLaws.{holds-none}
use Rattle.bit_line.proofs.content.Content.new.Goals as goal

pub returns : goal.returns
returns c = holds-none _ refl refl c.new.ensures
