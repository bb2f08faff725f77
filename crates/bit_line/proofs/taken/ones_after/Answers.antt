use Rattle.std.proofs.Common.{◌≡◌, ℕ, subst, ◌∙◌, arith}
use Rattle.bit_line.proofs.OctetLaws.{fives_of, window_of}
use Rattle.bit_line.proofs.TakenLaws as laws
use Rattle.bit_line.proofs.taken.ones_after.Goals as goal

pub returns-then-fives-eq0-clause-bits : goal.returns-then-fives-eq0-clause-bits
returns-then-fives-eq0-clause-bits c h count =
    let Zero : ℕ → Type 0 = λ n. fives_of (window_of n c.args.ones) ≡ 0 in
    laws.gives_data c.args.ones 8 c.args.octet _ _ h
    (laws.plain c.args.ones 8 c.args.octet c.requires.no_six (omega arith) c.ranges.octet.fits (subst Zero c.from.ensures c.if-fives-eq0.true)) count

pub returns-then-fives-eq0-clause-ones : goal.returns-then-fives-eq0-clause-ones
returns-then-fives-eq0-clause-ones c h count =
    let Zero : ℕ → Type 0 = λ n. fives_of (window_of n c.args.ones) ≡ 0 in
    let none : fives_of (window_of c.args.octet c.args.ones) ≡ 0 = subst Zero c.from.ensures c.if-fives-eq0.true in
    c.leading_ones.ensures ∙ laws.eight_ones c.args.ones c.args.octet c.requires.no_six c.ranges.octet.fits none
    ∙ laws.gives_ones c.args.ones 8 c.args.octet _ _ h (laws.plain c.args.ones 8 c.args.octet c.requires.no_six (omega arith) c.ranges.octet.fits none) count

pub returns-then-fives-eq0-clause-six : goal.returns-then-fives-eq0-clause-six
returns-then-fives-eq0-clause-six c h count =
    let Zero : ℕ → Type 0 = λ n. fives_of (window_of n c.args.ones) ≡ 0 in
    laws.gives_six c.args.ones 8 c.args.octet _ _ h
    (laws.plain c.args.ones 8 c.args.octet c.requires.no_six (omega arith) c.ranges.octet.fits (subst Zero c.from.ensures c.if-fives-eq0.true)) count

pub returns-then-fives-eq0-clause-no_six : goal.returns-then-fives-eq0-clause-no_six
returns-then-fives-eq0-clause-no_six c =
    let Zero : ℕ → Type 0 = λ n. fives_of (window_of n c.args.ones) ≡ 0 in
    let none : fives_of (window_of c.args.octet c.args.ones) ≡ 0 = subst Zero c.from.ensures c.if-fives-eq0.true in
    omega (
      arith,
      c.leading_ones.ensures,
      laws.eight_ones c.args.ones c.args.octet c.requires.no_six c.ranges.octet.fits none,
      (laws.plain c.args.ones 8 c.args.octet c.requires.no_six (omega arith) c.ranges.octet.fits none).few,
    )
