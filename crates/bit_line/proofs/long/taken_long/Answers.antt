use Rattle.std.proofs.Common.{[], reverse, sym, ap, ◌∙◌, arith}
use Rattle.std.proofs.lemmas.List.{append-nil}
use Rattle.su_octets.specs.Bits.{low_bits}
use Rattle.bit_line.specs.Stuffing.{trailing}
use Rattle.bit_line.proofs.StuffLaws.{trailing-none}
use Rattle.bit_line.proofs.TakenLaws.{comes}
use Rattle.bit_line.proofs.long.taken_long.Goals as goal

pub returns-clause-ones : goal.returns-clause-ones
returns-clause-ones c h count =
    let b = low_bits c.args.len c.args.bits in
    c.last_ones.ensures ∙ ap trailing (sym (append-nil (reverse b))) ∙ sym (comes b [] 0 (sym trailing-none)).ones ∙ (comes b h 0 count).ones

pub returns-clause-no_six : goal.returns-clause-no_six
returns-clause-no_six c = omega (arith, c.last_ones.ensures, c.in-Some.ensures.ones)
