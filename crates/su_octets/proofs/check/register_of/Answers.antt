use Rattle.std.proofs.Common.{arith}
use Rattle.su_octets.proofs.Registers.{register_empty, register_octet}
use Rattle.su_octets.proofs.check.register_of.Goals as goal

pub loop-octet-init : goal.loop-octet-init
loop-octet-init c = register_empty

pub loop-octet-preserved : goal.loop-octet-preserved
loop-octet-preserved c =
    register_octet c.loop-octet.octet-index c.shift_octet-register.result c.args.content.now (omega arith) (c.shift_octet-register.ensures _ c.loop-octet.invariant)
