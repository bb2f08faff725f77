use Rattle.std.proofs.Common.{ℕ, ◌≡◌, ◌<◌, ◌+◌, ◌*◌, ◌/◌, ◌%◌, ◌^◌, refl, ap, subst, arith}
use Rattle.bit_line.proofs.PlainLaws as laws
use Rattle.bit_line.proofs.receiver.Receiver.take_whole.Goals as goal

pub returns-clause-taken : goal.returns-clause-taken
returns-clause-taken c is h events stands =
    let all : c.from.result + c.from-2.result * 128 ≡ c.args.self.now.recent + c.args.octet * 128 = rw (c.from.ensures, c.from-2.ensures) refl in
    let calm = c.is_calm.ensures c.if-not-is_calm.false in
    let Plain : ℕ → Type 0 = λ w. (m : ℕ) → m < 8 → w / 2 ^ m % 128 ≡ 126 → ⊥ in
    laws.plain_stands 8 c.args.octet 8 _ h events c.args.self.now _ (omega arith) calm.0 calm.0 (λ l. calm.1 l) (subst Plain all (c.is_plain.ensures c.if-not-is_plain.false))
    (ap (λ w. w % 256) all) (omega (arith, all, c.args.self.now.recent_fits, c.ranges.octet.fits)) (λ l k. c.pass_eight.ensures l k) stands
