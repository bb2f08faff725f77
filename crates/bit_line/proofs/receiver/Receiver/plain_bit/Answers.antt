use Rattle.std.proofs.Common.{refl}
use Rattle.bit_line.proofs.StandLaws as laws
use Rattle.bit_line.proofs.receiver.Receiver.plain_bit.Goals as goal

pub returns-clause-stands : goal.returns-clause-stands
returns-clause-stands c h events stands =
    laws.plain-stands c.args.bit _ c.is_over-over.result c.tick.result h events c.pass.new.self.content c.args.self.now _ c.requires c.newer-self.ensures refl
    (λ h2 b2. c.pass.ensures.passed h2 b2) (λ h2. c.is_over-over.ensures h2) (λ mode. c.tick.ensures.counts mode) (λ mode. c.tick.ensures.full mode) stands
