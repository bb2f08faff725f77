use Rattle.std.proofs.Common.{sym}
use Rattle.line_filter.proofs.Beginning.{written_none, out_turned, part_none, part_some}
use Rattle.line_filter.proofs.desk.Desk.serve.Goals as goal

pub returns-in_err-goes_on-clause-part : goal.returns-in_err-goes_on-clause-part
returns-in_err-goes_on-clause-part g c = part_none _ _ 0 _ _ _ _ _ (written_none _ _)

pub returns-in_err-write_part-clause-part : goal.returns-in_err-write_part-clause-part
returns-in_err-write_part-clause-part g c =
    let made = c.in_ok-goes_on.ensures in
    part_some _ _ _ _ _ _ _ _ _ made.0 _ _ _ _ _ c.turn_all.ensures
    (out_turned _ _ _ _ _ _ _ _ c.as_slice.ensures.value c.as_mut_slice.ensures.value c.turn_all-2.ensures (sym c.as_mut_slice.ensures.len) made.1 c.clear.ensures.items)
    made.2 c.write_part.ensures.part

pub returns-clause-part : goal.returns-clause-part
returns-clause-part g c =
    let made = c.in_ok-goes_on.ensures in
    part_some _ _ _ _ _ _ _ _ _ made.0 _ _ _ _ _ c.turn_all.ensures
    (out_turned _ _ _ _ _ _ _ _ c.as_slice.ensures.value c.as_mut_slice.ensures.value c.turn_all-2.ensures (sym c.as_mut_slice.ensures.len) made.1 c.clear.ensures.items)
    made.2 c.write_part.ensures.part
