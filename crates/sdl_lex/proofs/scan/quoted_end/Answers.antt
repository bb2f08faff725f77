-- Each turn of the loop takes one character, which may be two quotes.
use Rattle.std.proofs.Common.{◌≡◌, ◌+◌, length, arith, sym, ◌∙◌}
use Rattle.std.proofs.lemmas.Bool.{ne_eqb}
use Rattle.sdl_lex.proofs.QuoteLemmas.{ended, Inside-other, Inside-twice, quoted_token, quoted_endless, quote_within}
use Rattle.sdl_lex.proofs.scan.quoted_end.Goals as goal

pub loop-place-init : goal.loop-place-init
loop-place-init c = (omega (arith, c.requires.inside), ended)

pub returns-in-39-default-clause-found : goal.returns-in-39-default-clause-found
returns-in-39-default-clause-found c =
    quoted_token c.args.bytes.now c.args.at c.loop-place.place c.requires.opens c.loop-place-test.true c.loop-place.invariant.1
    c.in-39-default.is-0 (rw (← c.byte_at.ensures) (ne_eqb c.byte_at.result 39 c.in-39-default.is-1.1))

pub loop-place-preserved-in-39-eq39 : goal.loop-place-preserved-in-39-eq39
loop-place-preserved-in-39-eq39 c =
    let next = sym c.byte_at.ensures ∙ c.in-39-eq39.is-1 in
    let within = quote_within c.args.bytes.now (c.loop-place.place + 1) next in
    (omega (arith, within), Inside-twice c.loop-place.invariant.1 c.in-39-eq39.is-0 next)

pub loop-place-preserved : goal.loop-place-preserved
loop-place-preserved c = (omega (arith, c.loop-place-test.true), Inside-other c.loop-place.invariant.1 (ne_eqb _ 39 c.in_default.is-0.1))

pub returns-clause-none : goal.returns-clause-none
returns-clause-none c =
    let all : c.loop-place.place ≡ length c.args.bytes.now = omega (arith, c.loop-place-test.false, c.loop-place.invariant.0) in
    quoted_endless c.args.bytes.now c.args.at c.requires.opens (rw all at c.loop-place.invariant.1)
