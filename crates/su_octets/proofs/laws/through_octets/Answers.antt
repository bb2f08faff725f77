use Rattle.std.proofs.Common.{List, ℕ, sym, subst}
use Rattle.su_octets.specs.Frame.{Frame}
use Rattle.su_octets.proofs.laws.through_octets.Goals as goal

pub returns : goal.returns
returns c =
    let P : List ℕ → Type 0 = λ octets. Frame octets c.args.unit.now in
    (c.decode.ensures.found c.args.unit.now).1 (subst P (sym c.as_slice.ensures.value) c.encode.ensures.frame)
