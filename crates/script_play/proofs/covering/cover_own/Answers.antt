use Rattle.std.proofs.Common.{Some, subst}
use Rattle.script_check.specs.Checked.{IsAccepted}
use Rattle.script_play.proofs.CoveredPlays.{covered_as, covered_in_part_as, refused_as}
use Rattle.script_play.proofs.covering.cover_own.Goals as goal

pub returns-clause-accepted : goal.returns-clause-accepted
returns-clause-accepted g c done = subst IsAccepted c.as_bytes-bytes.ensures.value (c.cover_bytes.ensures.accepted done)

pub returns-clause-held : goal.returns-clause-held
returns-clause-held g c zero =
    covered_as c.args.name.now (Some c.args.text.now) c.as_bytes-bytes.result.now _ _ _ _ _ c.as_bytes-bytes.ensures.value (c.cover_bytes.ensures.held zero)

pub returns-clause-missed : goal.returns-clause-missed
returns-clause-missed g c one =
    covered_in_part_as c.args.name.now (Some c.args.text.now) c.as_bytes-bytes.result.now _ _ _ _ _ c.as_bytes-bytes.ensures.value (c.cover_bytes.ensures.missed one)

pub returns-clause-refused : goal.returns-clause-refused
returns-clause-refused g c two = refused_as (Some c.args.text.now) c.as_bytes-bytes.result.now _ _ _ c.as_bytes-bytes.ensures.value (c.cover_bytes.ensures.refused two)
