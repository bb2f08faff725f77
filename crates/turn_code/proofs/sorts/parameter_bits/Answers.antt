use Rattle.std.proofs.Common.{rules, ◌≡◌, ◌<◌, length, sym, subst}
use Rattle.std.proofs.lemmas.Option.{slice_get_within}
use Rattle.turn_code.proofs.sorts.parameter_bits.Goals as goal

pub returns : goal.returns
returns c =
    λ n s e.
    let within = slice_get_within c.args.signals.now n s e in
    let over : c.loop-number.number ≡ length c.args.signals.now = search rules in
    c.loop-number.invariant.1 n s (subst (λ u. n < u) (sym over) within) e
