use Rattle.std.proofs.Common.{◌∙◌, ap, take, drop, arith}
use Rattle.su_octets.proofs.FrameLaws.{found_by, not_found_by, unit_at}
use Rattle.su_octets.proofs.frames.decode.Goals as goal

pub returns-in-Some-clause-found : goal.returns-in-Some-clause-found
returns-in-Some-clause-found c = not_found_by c.args.octets.now c.in-Some.fault c.in-Some.ensures.fault

pub returns-in-None-clause-found : goal.returns-in-None-clause-found
returns-in-None-clause-found c =
    found_by c.args.octets.now c.unit_of.result
    (unit_at c.args.octets.now c.head_at.result c.unit_of.result c.in-None.ensures.none.0 c.in-None.ensures.none.1 c.in-None.ensures.none.2 c.head_at.ensures.first c.head_at.ensures.second
    (c.type_inv.octets 2).fits (c.unit_of.ensures.body ∙ ap (λ n. take n (drop 3 c.args.octets.now)) (omega arith)) c.unit_of.ensures.whole c.unit_of.ensures.head)
