use Rattle.std.proofs.Common.{true, false}
use Rattle.sdl_scopes.proofs.Knowing.{alike_none}
use Rattle.sdl_scopes.proofs.known.KnownSenders.new.Goals as goal

pub returns : goal.returns
returns c = λ b p os h. record {
  senders = h;
  back = alike_none b p os true c.new.result c.new.ensures;
  lost = alike_none b p os false c.new-2.result c.new-2.ensures;
}
