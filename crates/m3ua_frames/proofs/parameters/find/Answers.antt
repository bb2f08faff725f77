use Rattle.std.proofs.Common.{sym, ◌∙◌}
use Rattle.std.proofs.lemmas.Bool.{eqb-true, eq-eqb, ne_eqb}
use Rattle.m3ua_frames.specs.Parameters.{Parameter}
use Rattle.m3ua_frames.proofs.ParameterLaws.{first_sound, first_shorter, value_behind, value_there, value_nowhere, value_at_end}
use Rattle.m3ua_frames.proofs.parameters.find.Goals as goal

pub returns-then-found-tag : goal.returns-then-found-tag
returns-then-found-tag c =
    let p : Parameter = record { tag = c.in-Some.found; value = c.in-Some.value.now } in
    value_there c.args.tag c.args.octets.now c.loop-rest.rest.now c.in-Some.after.now p (sym c.in-Some.ensures) (eq-eqb _ _ c.if-found-tag.true) c.loop-rest.invariant

pub loop-rest-smaller : goal.loop-rest-smaller
loop-rest-smaller c =
    let p : Parameter = record { tag = c.in-Some.found; value = c.in-Some.value.now } in
    first_shorter c.loop-rest.rest.now p c.in-Some.after.now (first_sound c.loop-rest.rest.now p c.in-Some.after.now (sym c.in-Some.ensures))

pub loop-rest-preserved : goal.loop-rest-preserved
loop-rest-preserved c =
    let p : Parameter = record { tag = c.in-Some.found; value = c.in-Some.value.now } in
    value_behind c.args.tag c.args.octets.now c.loop-rest.rest.now c.in-Some.after.now p (sym c.in-Some.ensures) (ne_eqb _ _ c.if-found-tag.false) c.loop-rest.invariant

pub returns-in-None : goal.returns-in-None
returns-in-None c = value_nowhere c.args.tag c.args.octets.now c.loop-rest.rest.now (sym c.in-None.ensures) c.loop-rest.invariant

pub returns : goal.returns
returns c = value_at_end c.args.tag c.args.octets.now c.loop-rest.rest.now (eqb-true _ _ (sym c.is_empty.ensures ∙ c.loop-rest-test.false)) c.loop-rest.invariant
