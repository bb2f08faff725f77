use Rattle.std.proofs.Common.{◌<◌, length, sym, ◌∙◌, arith}
use Rattle.std.proofs.lemmas.Bool.{eqb-true, eq-eqb, ne_eqb}
use Rattle.m3ua_frames.specs.Parameters.{Parameter}
use Rattle.m3ua_frames.proofs.ParameterLaws.{first_sound, first_shorter, values_behind, values_there, values_nowhere, values_at_end}
use Rattle.m3ua_frames.proofs.parameters.find_next.Goals as goal

pub returns-then-found-tag-clause-found : goal.returns-then-found-tag-clause-found
returns-then-found-tag-clause-found c =
    let p : Parameter = record { tag = c.in-Some.found; value = c.in-Some.value.now } in
    values_there c.args.tag c.args.octets.now c.loop-rest.rest.now c.in-Some.after.now p (sym c.in-Some.ensures) (eq-eqb _ _ c.if-found-tag.true) c.loop-rest.invariant.0

pub returns-then-found-tag-clause-shorter : goal.returns-then-found-tag-clause-shorter
returns-then-found-tag-clause-shorter c =
    let p : Parameter = record { tag = c.in-Some.found; value = c.in-Some.value.now } in
    let less : length c.in-Some.after.now < length c.loop-rest.rest.now = first_shorter c.loop-rest.rest.now p c.in-Some.after.now (first_sound c.loop-rest.rest.now p c.in-Some.after.now (sym c.in-Some.ensures)) in
    omega (arith, less, c.loop-rest.invariant.1)

pub loop-rest-smaller : goal.loop-rest-smaller
loop-rest-smaller c =
    let p : Parameter = record { tag = c.in-Some.found; value = c.in-Some.value.now } in
    first_shorter c.loop-rest.rest.now p c.in-Some.after.now (first_sound c.loop-rest.rest.now p c.in-Some.after.now (sym c.in-Some.ensures))

pub loop-rest-preserved : goal.loop-rest-preserved
loop-rest-preserved c =
    let p : Parameter = record { tag = c.in-Some.found; value = c.in-Some.value.now } in
    let less : length c.in-Some.after.now < length c.loop-rest.rest.now = first_shorter c.loop-rest.rest.now p c.in-Some.after.now (first_sound c.loop-rest.rest.now p c.in-Some.after.now (sym c.in-Some.ensures)) in (
      values_behind c.args.tag c.args.octets.now c.loop-rest.rest.now c.in-Some.after.now p (sym c.in-Some.ensures) (ne_eqb _ _ c.if-found-tag.false) c.loop-rest.invariant.0,
      omega (arith, less, c.loop-rest.invariant.1),
    )

pub returns-in-None-clause-found : goal.returns-in-None-clause-found
returns-in-None-clause-found c = values_nowhere c.args.tag c.args.octets.now c.loop-rest.rest.now (sym c.in-None.ensures) c.loop-rest.invariant.0

pub returns-clause-found : goal.returns-clause-found
returns-clause-found c = values_at_end c.args.tag c.args.octets.now c.loop-rest.rest.now (eqb-true _ _ (sym c.is_empty.ensures ∙ c.loop-rest-test.false)) c.loop-rest.invariant.0
