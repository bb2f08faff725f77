use Rattle.std.proofs.Common.{refl}
use Rattle.bit_line.proofs.StandLaws as laws
use Rattle.bit_line.proofs.receiver.Receiver.end_flag.Goals as goal

pub returns-clause-stands : goal.returns-clause-stands
returns-clause-stands c h events stands =
    laws.flag-stands c.close-closed.result c.close.result h events c.close-closed.new.self.content c.args.self.now _ c.requires refl
    (λ h2. c.close-closed.ensures.judged h2) (λ h2. c.close-closed.ensures.closed h2) (λ mode content. c.close.ensures.counts mode content)
    (λ mode content. c.close.ensures.given mode content) stands
