use Rattle.std.proofs.Common.{ℕ, ◌≡◌, ◌<◌, ◌+◌, ◌*◌, ◌/◌, ◌%◌, ◌^◌, take, ap, subst, arith}
use Rattle.su_octets.specs.Bits.{low_bits, bits_of}
use Rattle.bit_line.proofs.PlainLaws as laws
use Rattle.bit_line.proofs.PassLaws.{room_forty}
use Rattle.bit_line.proofs.GateLaws.{waiting-inside}
use Rattle.bit_line.proofs.RunLaws.{nothing_run, same_run}
use Rattle.bit_line.proofs.receiver.Receiver.take_front.Goals as goal

pub returns-then-octets-lt5-clause-stands : goal.returns-then-octets-lt5-clause-stands
returns-then-octets-lt5-clause-stands c h events stands = nothing_run h events c.args.self.now stands

pub returns-then-not-is_long_plain-clause-stands : goal.returns-then-not-is_long_plain-clause-stands
returns-then-not-is_long_plain-clause-stands c h events stands = nothing_run h events c.args.self.now stands

pub returns-clause-stands : goal.returns-clause-stands
returns-clause-stands c h events stands =
    let all : c.from.result + c.word_of.result * 128 ≡ c.args.self.now.recent + c.word_of.result * 128 = ap (λ n. n + c.word_of.result * 128) c.from.ensures in
    let normal = c.is_waiting.ensures.normal c.if-not-is_waiting.false in
    let seen = c.is_waiting.ensures.seen c.if-not-is_waiting.false in
    let waits = c.is_waiting.ensures.waits c.if-not-is_waiting.false in
    let Plain : ℕ → Type 0 = λ w. (m : ℕ) → m < 40 → w / 2 ^ m % 128 ≡ 126 → ⊥ in
    same_run (low_bits 40 c.word_of.result) (bits_of (take 5 c.args.octets.now)) h events _ c.word_of.ensures.bits
    (laws.plain_stands 40 c.word_of.result 40 _ h events c.args.self.now _ (omega arith) normal normal (λ l lets. room_forty l (waiting-inside l c.args.self.now.gate lets seen waits))
    (subst Plain all (c.is_long_plain.ensures c.if-not-is_long_plain.false)) (ap (λ w. w % 1099511627776) all)
    (omega (arith, all, c.args.self.now.recent_fits, c.word_of.ensures.fits)) (λ l k. c.pass_forty.ensures l k) stands)
