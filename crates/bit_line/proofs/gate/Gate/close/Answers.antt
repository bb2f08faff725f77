use Rattle.std.proofs.Common.{refl}
use Rattle.bit_line.proofs.GateLaws as laws
use Rattle.bit_line.proofs.gate.Gate.close.Goals as goal

pub returns-clause-closed : goal.returns-clause-closed
returns-clause-closed c h ends = laws.closes-gate h _ ends refl refl
