use Rattle.std.proofs.Common.{◌≡◌, ◌+◌, ◌*◌, ◌/◌, ◌%◌, ◌^◌, refl, ap, ◌∙◌}
use Rattle.bit_line.proofs.PlainLaws as laws
use Rattle.bit_line.proofs.receiver.Receiver.take_plain.Goals as goal

pub returns-clause-stands : goal.returns-clause-stands
returns-clause-stands c h events stands =
    let all : c.from.result + c.from-2.result * 128 ≡ c.args.self.now.recent + c.args.bits * 128 = rw (c.from.ensures, c.from-2.ensures) refl in
    laws.plain_stands 8 c.args.bits c.args.len _ h events c.args.self.now _ c.requires.few c.requires.normal c.requires.normal (λ l. c.requires.room l) (λ i. c.requires.plain i)
    (laws.low_value _ c.args.len c.requires.few ∙ ap (λ w. w % 2 ^ c.args.len) all) (ap (λ w. w / 2 ^ c.args.len % 128) all) (λ l k. c.pass_few.ensures.passed l k) stands
