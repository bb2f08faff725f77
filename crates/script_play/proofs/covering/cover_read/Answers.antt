use Rattle.std.proofs.Common.{◌≡◌, ◌∙◌, ℕ, inl, inr, arith, sym}
use Rattle.std.specs.Prelude.{◌⊎◌}
use Rattle.script_play.proofs.CoveredPlays.{is_kept, accepted_as, covered_as, covered_in_part_as, refused_as}
use Rattle.script_play.proofs.covering.cover_read.Goals as goal

no_end : (status : ℕ) → status ≡ 4 → (status ≡ 0) ⊎ (status ≡ 1) → ⊥
no_end status failed (inl zero) = omega (arith, failed, zero)
no_end status failed (inr one) = omega (arith, failed, one)

no_refusal : (status : ℕ) → status ≡ 4 → status ≡ 2 → ⊥
no_refusal status failed two = omega (arith, failed, two)

pub returns-then-is_too_long-clause-accepted : goal.returns-then-is_too_long-clause-accepted
returns-then-is_too_long-clause-accepted g c done known reading = absurd (no_end c.tell_too_long.result c.tell_too_long.ensures done)

pub returns-then-is_too_long-clause-held : goal.returns-then-is_too_long-clause-held
returns-then-is_too_long-clause-held g c zero known reading = absurd (no_end c.tell_too_long.result c.tell_too_long.ensures (inl zero))

pub returns-then-is_too_long-clause-missed : goal.returns-then-is_too_long-clause-missed
returns-then-is_too_long-clause-missed g c one known reading = absurd (no_end c.tell_too_long.result c.tell_too_long.ensures (inr one))

pub returns-then-is_too_long-clause-refused : goal.returns-then-is_too_long-clause-refused
returns-then-is_too_long-clause-refused g c two known reading = absurd (no_refusal c.tell_too_long.result c.tell_too_long.ensures two)

pub returns-clause-accepted : goal.returns-clause-accepted
returns-clause-accepted g c done known reading =
    accepted_as known c.deref.result.now (is_kept known c.args.of_set.now c.deref.result.now reading (sym c.is_too_long.ensures ∙ c.if-is_too_long.false) c.deref.ensures.value) (c.cover_bytes.ensures.accepted done)

pub returns-clause-held : goal.returns-clause-held
returns-clause-held g c zero known reading =
    covered_as c.args.name.now known c.deref.result.now _ _ _ _ _
    (is_kept known c.args.of_set.now c.deref.result.now reading (sym c.is_too_long.ensures ∙ c.if-is_too_long.false) c.deref.ensures.value) (c.cover_bytes.ensures.held zero)

pub returns-clause-missed : goal.returns-clause-missed
returns-clause-missed g c one known reading =
    covered_in_part_as c.args.name.now known c.deref.result.now _ _ _ _ _
    (is_kept known c.args.of_set.now c.deref.result.now reading (sym c.is_too_long.ensures ∙ c.if-is_too_long.false) c.deref.ensures.value) (c.cover_bytes.ensures.missed one)

pub returns-clause-refused : goal.returns-clause-refused
returns-clause-refused g c two known reading =
    refused_as known c.deref.result.now _ _ _
    (is_kept known c.args.of_set.now c.deref.result.now reading (sym c.is_too_long.ensures ∙ c.if-is_too_long.false) c.deref.ensures.value) (c.cover_bytes.ensures.refused two)
