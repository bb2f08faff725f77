use Rattle.std.proofs.Common.{arith, below_more}
use Rattle.turn_rules.specs.Seen.{seen}
use Rattle.turn_rules.proofs.Whole.{valid_below}
use Rattle.turn_rules.specs.Parts.{AllEntries, HasParts}
use Rattle.turn_rules.proofs.Order.{none_before_part}
use Rattle.turn_rules.proofs.check.check_transition.Goals as goal

pub returns-clause-ok : goal.returns-clause-ok
returns-clause-ok c =
    valid_below c.args.draft.now (seen c.args.transition.now) (rw c.plain.ensures at c.in_default.ensures.ok) c.loop-place.place (omega arith) c.loop-place.invariant

pub loop-place-preserved : goal.loop-place-preserved
loop-place-preserved c =
    below_more (λ n. HasParts c.args.draft.now (seen c.args.transition.now) n) c.loop-place.place c.loop-place.invariant c.in_default-check_at.ensures.ok

pub returns-in-Err-check_at-clause-first : goal.returns-in-Err-check_at-clause-first
returns-in-Err-check_at-clause-first c =
    let d = c.args.draft.now in
    let t = seen c.args.transition.now in
    let whole : AllEntries d t = rw c.plain.ensures at c.in_default.ensures.ok in
    none_before_part d t c.in-Err-check_at.rule c.loop-place.place whole c.loop-place.invariant (c.in-Err-check_at.ensures.first whole)
