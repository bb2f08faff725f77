use Rattle.std.proofs.Common.{ℕ, List, ◌∷◌, drop, sym, ap, ◌∙◌}
use Rattle.m3ua_frames.specs.Numbers.{number_4, numbers_in}
use Rattle.m3ua_frames.proofs.NumberLaws.{numbers_few, numbers_more, taken_4}
use Rattle.m3ua_frames.proofs.numbers.next_number.Goals as goal

pub returns-then-octets-lt4-clause-value : goal.returns-then-octets-lt4-clause-value
returns-then-octets-lt4-clause-value c = numbers_few c.args.octets.now c.if-octets-lt4.true

pub returns-clause-value : goal.returns-clause-value
returns-clause-value c =
    let octets : List ℕ = c.args.octets.now in
    numbers_more octets c.if-octets-lt4.false
    ∙ ap (λ (n : ℕ). n ∷ numbers_in (drop 4 octets)) (taken_4 octets c.if-octets-lt4.false ∙ ap (λ (xs : List ℕ). number_4 xs 0) (sym c.split_at.ensures.front) ∙ sym c.number_4.ensures)
    ∙ ap (λ (xs : List ℕ). c.number_4.result ∷ numbers_in xs) (sym c.split_at.ensures.back)
