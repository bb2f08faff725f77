-- The number that the digits read so far stand for is no greater than the whole number.
use Rattle.std.proofs.Common.{ℕ, ◌+◌, ◌-◌, ◌*◌, arith}
use Rattle.std.proofs.lemmas.List.Sums.{fold_more}
use Rattle.sdl_lex.proofs.SliceLemmas.{decimal-take}
use Rattle.sdl_lex.proofs.scan.number_of.Goals as goal

pub returns-then-longer-from-clause-none : goal.returns-then-longer-from-clause-none
returns-then-longer-from-clause-none c =
    let all = decimal-take (c.loop-digit.digit-index + 1) c.args.digits.now in
    let more = fold_more (λ (n digit : ℕ). 10 * n + (digit - 48)) 0 c.args.digits.now c.loop-digit.digit-index 0 c.loop-digit-test.true in
    let so_far = c.loop-digit.invariant.0 in
    omega arith
