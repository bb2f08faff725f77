use Rattle.std.proofs.Common.{◌≡◌, ◌/◌, ◌^◌, ℕ, subst, ◌∙◌, arith}
use Rattle.bit_line.proofs.OctetLaws.{fives_of, window_of, first_of, cut_of}
use Rattle.bit_line.proofs.TakenLaws as laws
use Rattle.bit_line.proofs.taken.taken_from.Goals as goal

pub returns-then-fives-eq0-clause-bits : goal.returns-then-fives-eq0-clause-bits
returns-then-fives-eq0-clause-bits c h count =
    let Zero : ℕ → Type 0 = λ n. fives_of (window_of n c.args.ones) ≡ 0 in
    let is : laws.Gives c.args.ones c.args.len c.args.bits c.args.len c.args.bits = laws.plain c.args.ones c.args.len c.args.bits c.requires.no_six c.requires.few c.requires.fits (subst Zero c.from.ensures c.if-fives-eq0.true) in
    laws.gives_data c.args.ones c.args.len c.args.bits _ _ h is count

pub returns-then-fives-eq0-clause-ones : goal.returns-then-fives-eq0-clause-ones
returns-then-fives-eq0-clause-ones c h count =
    let Zero : ℕ → Type 0 = λ n. fives_of (window_of n c.args.ones) ≡ 0 in
    let is : laws.Gives c.args.ones c.args.len c.args.bits c.args.len c.args.bits = laws.plain c.args.ones c.args.len c.args.bits c.requires.no_six c.requires.few c.requires.fits (subst Zero c.from.ensures c.if-fives-eq0.true) in
    let after : c.leading_ones-after.result ≡ laws.after_of c.args.ones c.args.len c.args.bits = rw c.from.ensures at c.leading_ones-after.ensures in
    after ∙ laws.gives_ones c.args.ones c.args.len c.args.bits _ _ h is count

pub returns-then-fives-eq0-clause-six : goal.returns-then-fives-eq0-clause-six
returns-then-fives-eq0-clause-six c h count =
    let Zero : ℕ → Type 0 = λ n. fives_of (window_of n c.args.ones) ≡ 0 in
    let is : laws.Gives c.args.ones c.args.len c.args.bits c.args.len c.args.bits = laws.plain c.args.ones c.args.len c.args.bits c.requires.no_six c.requires.few c.requires.fits (subst Zero c.from.ensures c.if-fives-eq0.true) in
    laws.gives_six c.args.ones c.args.len c.args.bits _ _ h is count

pub returns-then-fives-eq0-clause-no_six : goal.returns-then-fives-eq0-clause-no_six
returns-then-fives-eq0-clause-no_six c =
    let Zero : ℕ → Type 0 = λ n. fives_of (window_of n c.args.ones) ≡ 0 in
    let is : laws.Gives c.args.ones c.args.len c.args.bits c.args.len c.args.bits = laws.plain c.args.ones c.args.len c.args.bits c.requires.no_six c.requires.few c.requires.fits (subst Zero c.from.ensures c.if-fives-eq0.true) in
    let after : c.leading_ones-after.result ≡ laws.after_of c.args.ones c.args.len c.args.bits = rw c.from.ensures at c.leading_ones-after.ensures in
    omega (arith, after, is.few)

pub returns-then-cut-len-clause-bits : goal.returns-then-cut-len-clause-bits
returns-then-cut-len-clause-bits c h count =
    let Some_five : ℕ → Type 0 = λ n. fives_of (window_of n c.args.ones) ≡ 0 → ⊥ in
    let Once : ℕ → Type 0 = λ n. fives_of (window_of n c.args.ones) / 2 ^ first_of n c.args.ones ≡ 1 in
    let Last : ℕ → Type 0 = λ n. cut_of n c.args.ones ≡ c.args.len in
    let is : laws.Gives c.args.ones c.args.len c.args.bits c.args.len c.args.bits =
    laws.at_end c.args.ones c.args.len c.args.bits c.requires.no_six c.requires.few c.requires.fits (subst Some_five c.from.ensures c.if-fives-eq0.false) (subst Once c.from.ensures c.if-fives-first-ne1.false) (subst Last c.from.ensures c.if-cut-len.true) in
    laws.gives_data c.args.ones c.args.len c.args.bits _ _ h is count

pub returns-then-cut-len-clause-ones : goal.returns-then-cut-len-clause-ones
returns-then-cut-len-clause-ones c h count =
    let Some_five : ℕ → Type 0 = λ n. fives_of (window_of n c.args.ones) ≡ 0 → ⊥ in
    let Once : ℕ → Type 0 = λ n. fives_of (window_of n c.args.ones) / 2 ^ first_of n c.args.ones ≡ 1 in
    let Last : ℕ → Type 0 = λ n. cut_of n c.args.ones ≡ c.args.len in
    let is : laws.Gives c.args.ones c.args.len c.args.bits c.args.len c.args.bits =
    laws.at_end c.args.ones c.args.len c.args.bits c.requires.no_six c.requires.few c.requires.fits (subst Some_five c.from.ensures c.if-fives-eq0.false) (subst Once c.from.ensures c.if-fives-first-ne1.false) (subst Last c.from.ensures c.if-cut-len.true) in
    let after : c.leading_ones-after.result ≡ laws.after_of c.args.ones c.args.len c.args.bits = rw c.from.ensures at c.leading_ones-after.ensures in
    after ∙ laws.gives_ones c.args.ones c.args.len c.args.bits _ _ h is count

pub returns-then-cut-len-clause-six : goal.returns-then-cut-len-clause-six
returns-then-cut-len-clause-six c h count =
    let Some_five : ℕ → Type 0 = λ n. fives_of (window_of n c.args.ones) ≡ 0 → ⊥ in
    let Once : ℕ → Type 0 = λ n. fives_of (window_of n c.args.ones) / 2 ^ first_of n c.args.ones ≡ 1 in
    let Last : ℕ → Type 0 = λ n. cut_of n c.args.ones ≡ c.args.len in
    let is : laws.Gives c.args.ones c.args.len c.args.bits c.args.len c.args.bits =
    laws.at_end c.args.ones c.args.len c.args.bits c.requires.no_six c.requires.few c.requires.fits (subst Some_five c.from.ensures c.if-fives-eq0.false) (subst Once c.from.ensures c.if-fives-first-ne1.false) (subst Last c.from.ensures c.if-cut-len.true) in
    laws.gives_six c.args.ones c.args.len c.args.bits _ _ h is count

pub returns-then-cut-len-clause-no_six : goal.returns-then-cut-len-clause-no_six
returns-then-cut-len-clause-no_six c =
    let Some_five : ℕ → Type 0 = λ n. fives_of (window_of n c.args.ones) ≡ 0 → ⊥ in
    let Once : ℕ → Type 0 = λ n. fives_of (window_of n c.args.ones) / 2 ^ first_of n c.args.ones ≡ 1 in
    let Last : ℕ → Type 0 = λ n. cut_of n c.args.ones ≡ c.args.len in
    let is : laws.Gives c.args.ones c.args.len c.args.bits c.args.len c.args.bits =
    laws.at_end c.args.ones c.args.len c.args.bits c.requires.no_six c.requires.few c.requires.fits (subst Some_five c.from.ensures c.if-fives-eq0.false) (subst Once c.from.ensures c.if-fives-first-ne1.false) (subst Last c.from.ensures c.if-cut-len.true) in
    let after : c.leading_ones-after.result ≡ laws.after_of c.args.ones c.args.len c.args.bits = rw c.from.ensures at c.leading_ones-after.ensures in
    omega (arith, after, is.few)

pub overflow_shl-below : goal.overflow_shl-below
overflow_shl-below c =
    let Some_five : ℕ → Type 0 = λ n. fives_of (window_of n c.args.ones) ≡ 0 → ⊥ in
    let Once : ℕ → Type 0 = λ n. fives_of (window_of n c.args.ones) / 2 ^ first_of n c.args.ones ≡ 1 in
    let Other : ℕ → Type 0 = λ n. cut_of n c.args.ones ≡ c.args.len → ⊥ in
    let is : laws.Cut c.args.ones c.args.len c.args.bits =
    laws.cut c.args.ones c.args.len c.args.bits c.requires.no_six c.requires.few c.requires.fits (subst Some_five c.from.ensures c.if-fives-eq0.false) (subst Once c.from.ensures c.if-fives-first-ne1.false) (subst Other c.from.ensures c.if-cut-len.false) in
    rw c.from.ensures is.cut

pub nonzero_rem-below : goal.nonzero_rem-below
nonzero_rem-below c =
    let Some_five : ℕ → Type 0 = λ n. fives_of (window_of n c.args.ones) ≡ 0 → ⊥ in
    let Once : ℕ → Type 0 = λ n. fives_of (window_of n c.args.ones) / 2 ^ first_of n c.args.ones ≡ 1 in
    let Other : ℕ → Type 0 = λ n. cut_of n c.args.ones ≡ c.args.len → ⊥ in
    let is : laws.Cut c.args.ones c.args.len c.args.bits =
    laws.cut c.args.ones c.args.len c.args.bits c.requires.no_six c.requires.few c.requires.fits (subst Some_five c.from.ensures c.if-fives-eq0.false) (subst Once c.from.ensures c.if-fives-first-ne1.false) (subst Other c.from.ensures c.if-cut-len.false) in
    rw c.from.ensures is.divides

pub overflow_sub-result-2 : goal.overflow_sub-result-2
overflow_sub-result-2 c =
    let Some_five : ℕ → Type 0 = λ n. fives_of (window_of n c.args.ones) ≡ 0 → ⊥ in
    let Once : ℕ → Type 0 = λ n. fives_of (window_of n c.args.ones) / 2 ^ first_of n c.args.ones ≡ 1 in
    let Other : ℕ → Type 0 = λ n. cut_of n c.args.ones ≡ c.args.len → ⊥ in
    let is : laws.Cut c.args.ones c.args.len c.args.bits =
    laws.cut c.args.ones c.args.len c.args.bits c.requires.no_six c.requires.few c.requires.fits (subst Some_five c.from.ensures c.if-fives-eq0.false) (subst Once c.from.ensures c.if-fives-first-ne1.false) (subst Other c.from.ensures c.if-cut-len.false) in
    is.some

pub returns-clause-bits : goal.returns-clause-bits
returns-clause-bits c h count =
    let Some_five : ℕ → Type 0 = λ n. fives_of (window_of n c.args.ones) ≡ 0 → ⊥ in
    let Once : ℕ → Type 0 = λ n. fives_of (window_of n c.args.ones) / 2 ^ first_of n c.args.ones ≡ 1 in
    let Other : ℕ → Type 0 = λ n. cut_of n c.args.ones ≡ c.args.len → ⊥ in
    let is : laws.Cut c.args.ones c.args.len c.args.bits =
    laws.cut c.args.ones c.args.len c.args.bits c.requires.no_six c.requires.few c.requires.fits (subst Some_five c.from.ensures c.if-fives-eq0.false) (subst Once c.from.ensures c.if-fives-first-ne1.false) (subst Other c.from.ensures c.if-cut-len.false) in
    rw c.from.ensures (laws.gives_data c.args.ones c.args.len c.args.bits _ _ h is.gives count)

pub returns-clause-ones : goal.returns-clause-ones
returns-clause-ones c h count =
    let Some_five : ℕ → Type 0 = λ n. fives_of (window_of n c.args.ones) ≡ 0 → ⊥ in
    let Once : ℕ → Type 0 = λ n. fives_of (window_of n c.args.ones) / 2 ^ first_of n c.args.ones ≡ 1 in
    let Other : ℕ → Type 0 = λ n. cut_of n c.args.ones ≡ c.args.len → ⊥ in
    let is : laws.Cut c.args.ones c.args.len c.args.bits =
    laws.cut c.args.ones c.args.len c.args.bits c.requires.no_six c.requires.few c.requires.fits (subst Some_five c.from.ensures c.if-fives-eq0.false) (subst Once c.from.ensures c.if-fives-first-ne1.false) (subst Other c.from.ensures c.if-cut-len.false) in
    let after : c.leading_ones-after.result ≡ laws.after_of c.args.ones c.args.len c.args.bits = rw c.from.ensures at c.leading_ones-after.ensures in
    after ∙ laws.gives_ones c.args.ones c.args.len c.args.bits _ _ h is.gives count

pub returns-clause-six : goal.returns-clause-six
returns-clause-six c h count =
    let Some_five : ℕ → Type 0 = λ n. fives_of (window_of n c.args.ones) ≡ 0 → ⊥ in
    let Once : ℕ → Type 0 = λ n. fives_of (window_of n c.args.ones) / 2 ^ first_of n c.args.ones ≡ 1 in
    let Other : ℕ → Type 0 = λ n. cut_of n c.args.ones ≡ c.args.len → ⊥ in
    let is : laws.Cut c.args.ones c.args.len c.args.bits =
    laws.cut c.args.ones c.args.len c.args.bits c.requires.no_six c.requires.few c.requires.fits (subst Some_five c.from.ensures c.if-fives-eq0.false) (subst Once c.from.ensures c.if-fives-first-ne1.false) (subst Other c.from.ensures c.if-cut-len.false) in
    laws.gives_six c.args.ones c.args.len c.args.bits _ _ h is.gives count

pub returns-clause-no_six : goal.returns-clause-no_six
returns-clause-no_six c =
    let Some_five : ℕ → Type 0 = λ n. fives_of (window_of n c.args.ones) ≡ 0 → ⊥ in
    let Once : ℕ → Type 0 = λ n. fives_of (window_of n c.args.ones) / 2 ^ first_of n c.args.ones ≡ 1 in
    let Other : ℕ → Type 0 = λ n. cut_of n c.args.ones ≡ c.args.len → ⊥ in
    let is : laws.Cut c.args.ones c.args.len c.args.bits =
    laws.cut c.args.ones c.args.len c.args.bits c.requires.no_six c.requires.few c.requires.fits (subst Some_five c.from.ensures c.if-fives-eq0.false) (subst Once c.from.ensures c.if-fives-first-ne1.false) (subst Other c.from.ensures c.if-cut-len.false) in
    let after : c.leading_ones-after.result ≡ laws.after_of c.args.ones c.args.len c.args.bits = rw c.from.ensures at c.leading_ones-after.ensures in
    omega (arith, after, is.gives.few)

pub returns-clause-fits : goal.returns-clause-fits
returns-clause-fits c =
    let Some_five : ℕ → Type 0 = λ n. fives_of (window_of n c.args.ones) ≡ 0 → ⊥ in
    let Once : ℕ → Type 0 = λ n. fives_of (window_of n c.args.ones) / 2 ^ first_of n c.args.ones ≡ 1 in
    let Other : ℕ → Type 0 = λ n. cut_of n c.args.ones ≡ c.args.len → ⊥ in
    let is : laws.Cut c.args.ones c.args.len c.args.bits =
    laws.cut c.args.ones c.args.len c.args.bits c.requires.no_six c.requires.few c.requires.fits (subst Some_five c.from.ensures c.if-fives-eq0.false) (subst Once c.from.ensures c.if-fives-first-ne1.false) (subst Other c.from.ensures c.if-cut-len.false) in
    rw c.from.ensures is.gives.fits
