use Rattle.std.proofs.Common.{rules, ◌≡◌, ◌<◌, length, subst, sym}
use Rattle.std.proofs.lemmas.Option.{slice_get_within}
use Rattle.turn_check.proofs.verified.bits_of_variables.Goals as goal

pub returns : goal.returns
returns c =
    λ n s e.
    let within = slice_get_within c.args.processes.now n s e in
    let over : c.loop-number.number ≡ length c.args.processes.now = search rules in
    c.loop-number.invariant.1 n s (subst (λ u. n < u) (sym over) within) e
