use Rattle.std.proofs.Common.{[], refl, sym}
use Rattle.bit_line.proofs.StuffLaws.{trailing-none}
use Rattle.bit_line.proofs.FrontLaws as laws
use Rattle.bit_line.proofs.content.Content.restart.Goals as goal

pub returns-in-Some : goal.returns-in-Some
returns-in-Some c =
    laws.restarted _ c.args.len c.args.bits c.in-Some.taken.len c.in-Some.taken.bits c.in-Some.ensures.no_six (c.in-Some.ensures.ones [] (sym trailing-none)) refl
    (c.in-Some.ensures.six [] (sym trailing-none)) (c.in-Some.ensures.bits [] (sym trailing-none)) c.refill.ensures

pub returns-in_default : goal.returns-in_default
returns-in_default c = c.push_long.ensures [] c.clear.ensures
