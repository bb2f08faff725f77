use Rattle.std.proofs.Common.{refl}
use Rattle.bit_line.proofs.GateLaws as laws
use Rattle.bit_line.proofs.gate.Gate.new.Goals as goal

pub returns : goal.returns
returns c = laws.lets-none _ refl refl
