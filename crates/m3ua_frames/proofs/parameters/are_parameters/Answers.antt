use Rattle.std.proofs.Common.{◌≡◌, ◌<◌, length, sym, ◌∙◌, arith}
use Rattle.std.proofs.lemmas.Bool.{eqb-false}
use Rattle.m3ua_frames.specs.Parameters.{Parameter}
use Rattle.m3ua_frames.proofs.ParameterLaws.{first_sound, first_shorter, good_up, good_down, none_good}
use Rattle.m3ua_frames.proofs.parameters.are_parameters.Goals as goal

pub returns-in-None : goal.returns-in-None
returns-in-None c =
    let some : length c.loop-rest.rest.now ≡ 0 → ⊥ = eqb-false (length c.loop-rest.rest.now) 0 (sym c.is_empty.ensures ∙ c.loop-rest-test.true) in
    let long : 0 < length c.loop-rest.rest.now = omega (arith, some) in
    (λ t. absurd cc, λ g. absurd (none_good c.loop-rest.rest.now c.args.octets.now long (sym c.in-None.ensures) c.loop-rest.invariant.1 g))

pub loop-rest-smaller : goal.loop-rest-smaller
loop-rest-smaller c =
    let p : Parameter = record { tag = c.in-Some.field-0-0; value = c.in-Some.field-0-1.now } in
    first_shorter c.loop-rest.rest.now p c.in-Some.after.now (first_sound c.loop-rest.rest.now p c.in-Some.after.now (sym c.in-Some.ensures))

pub loop-rest-preserved : goal.loop-rest-preserved
loop-rest-preserved c =
    let p : Parameter = record { tag = c.in-Some.field-0-0; value = c.in-Some.field-0-1.now } in (
      λ g. c.loop-rest.invariant.0 (good_up c.loop-rest.rest.now p c.in-Some.after.now (sym c.in-Some.ensures) g),
      λ g. good_down c.loop-rest.rest.now p c.in-Some.after.now (sym c.in-Some.ensures) (c.loop-rest.invariant.1 g),
    )
