use Rattle.std.proofs.Common.{◌∙◌, ap}
use Rattle.su_octets.specs.Bits.{bits_of}
use Rattle.script_ends.proofs.UnitLaws.{bits_none, bits_more}
use Rattle.script_ends.proofs.unit_line.octets_of.Goals as goal

pub loop-place-init : goal.loop-place-init
loop-place-init c = ap bits_of c.new-octets.ensures.items ∙ bits_none

pub loop-place-preserved : goal.loop-place-preserved
loop-place-preserved c = bits_more _ _ _ c.loop-place.place _ c.in_ok-push.ensures.items c.loop-place.invariant c.octet_at.ensures
