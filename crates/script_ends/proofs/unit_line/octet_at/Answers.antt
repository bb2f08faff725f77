use Rattle.std.proofs.Common.{◌+◌, arith}
use Rattle.script_ends.proofs.UnitLaws.{bit_before}
use Rattle.script_ends.proofs.unit_line.octet_at.Goals as goal
use Rattle.su_octets.proofs.BitLists.{no_low_bits as no_bits}

pub returns : goal.returns
returns c =
    let xs = c.args.bits.now in
    let i = c.args.from in
    bit_before xs i (i + 1) 7 _ _ (omega (arith, c.requires)) (omega arith) (c.with_first.ensures.bits 7)
    (bit_before xs (i + 1) (i + 2) 6 _ _ (omega (arith, c.requires)) (omega arith) (c.with_first-second.ensures.bits 6)
    (bit_before xs (i + 2) (i + 3) 5 _ _ (omega (arith, c.requires)) (omega arith) (c.with_first-third.ensures.bits 5)
    (bit_before xs (i + 3) (i + 4) 4 _ _ (omega (arith, c.requires)) (omega arith) (c.with_first-fourth.ensures.bits 4)
    (bit_before xs (i + 4) (i + 5) 3 _ _ (omega (arith, c.requires)) (omega arith) (c.with_first-fifth.ensures.bits 3)
    (bit_before xs (i + 5) (i + 6) 2 _ _ (omega (arith, c.requires)) (omega arith) (c.with_first-sixth.ensures.bits 2)
    (bit_before xs (i + 6) (i + 7) 1 _ _ (omega (arith, c.requires)) (omega arith) (c.with_first-seventh.ensures.bits 1)
    (bit_before xs (i + 7) (i + 8) 0 _ _ (omega (arith, c.requires)) (omega arith) (c.with_first-eighth.ensures.bits 0) (no_bits 0))))))))
