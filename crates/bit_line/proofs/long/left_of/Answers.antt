use Rattle.std.proofs.Common.{◌≡◌, ◌+◌, [], ◌++◌, reverse, refl, sym, ap, ◌∙◌, arith}
use Rattle.std.proofs.lemmas.List.{append-nil}
use Rattle.su_octets.specs.Bits.{low_bits}
use Rattle.bit_line.specs.Stuffing.{trailing, taken_out}
use Rattle.bit_line.proofs.StuffLaws.{trailing-none}
use Rattle.bit_line.proofs.FewLaws.{pow_small}
use Rattle.bit_line.proofs.PassLaws.{late_fits}
use Rattle.bit_line.proofs.TakenLaws.{ones_of, comes}
use Rattle.bit_line.proofs.LongLaws as laws
use Rattle.bit_line.proofs.long.left_of.Goals as goal

pub loop-fives-init : goal.loop-fives-init
loop-fives-init c = record {
  gone = laws.gone_none c.args.len c.args.bits;
  few = omega arith;
  taken_fits = omega arith;
  rest_fits = c.requires.fits;
  set = λ j five. c.fives_in-fives.ensures j five;
}

pub first_in-requires-clause-fits : goal.first_in-requires-clause-fits
first_in-requires-clause-fits c = omega (arith, c.loop-fives.invariant.rest_fits, pow_small c.loop-fives.left 48 (omega (arith, c.loop-fives.invariant.few, c.requires.few)))

pub overflow_add-taken-in-loop-fives : goal.overflow_add-taken-in-loop-fives
overflow_add-taken-in-loop-fives c =
    let joins = laws.joins_front c.loop-fives.count c.loop-fives.taken c.in-Some.first c.loop-fives.left c.loop-fives.rest c.loop-fives.invariant.taken_fits
    (omega (arith, c.loop-fives.invariant.few, c.requires.few)) c.in-Some.ensures.within in
    omega (arith, joins.small)

pub loop-fives-preserved : goal.loop-fives-preserved
loop-fives-preserved c =
    let joins = laws.joins_front c.loop-fives.count c.loop-fives.taken c.in-Some.first c.loop-fives.left c.loop-fives.rest c.loop-fives.invariant.taken_fits
    (omega (arith, c.loop-fives.invariant.few, c.requires.few)) c.in-Some.ensures.within in
    record {
      gone =
          laws.gone_more c.args.len c.args.bits c.loop-fives.count c.loop-fives.taken c.loop-fives.left c.loop-fives.rest c.in-Some.first _ _ c.in-Some.ensures.within
          (λ j less five. laws.none_below c.loop-fives.fives c.loop-fives.rest c.in-Some.first j c.in-Some.ensures.first less (λ f. c.loop-fives.invariant.set j f) five)
          c.in-Some.ensures.zeros joins.bits refl c.loop-fives.invariant.gone;
      few = omega (arith, c.loop-fives.invariant.few, c.in-Some.ensures.within);
      taken_fits = joins.fits;
      rest_fits = late_fits c.loop-fives.rest c.loop-fives.left (c.in-Some.first + 6) c.in-Some.ensures.within c.loop-fives.invariant.rest_fits;
      set = λ j five. c.fives_in-fives-in-loop-fives.ensures j five;
    }

pub overflow_add-result : goal.overflow_add-result
overflow_add-result c =
    let joins = laws.joins_rest c.loop-fives.count c.loop-fives.taken c.loop-fives.left c.loop-fives.rest c.loop-fives.invariant.taken_fits c.loop-fives.invariant.rest_fits
    (omega (arith, c.loop-fives.invariant.few, c.requires.few)) in
    omega (arith, joins.small)

pub returns-clause-bits : goal.returns-clause-bits
returns-clause-bits c h count =
    let joins = laws.joins_rest c.loop-fives.count c.loop-fives.taken c.loop-fives.left c.loop-fives.rest c.loop-fives.invariant.taken_fits c.loop-fives.invariant.rest_fits
    (omega (arith, c.loop-fives.invariant.few, c.requires.few)) in
    let none : c.loop-fives.fives ≡ 0 = omega (arith, c.loop-fives-test.false) in
    let all = laws.gone_all c.args.len c.args.bits c.loop-fives.count c.loop-fives.taken c.loop-fives.left c.loop-fives.rest _
    (λ j five. laws.none_at c.loop-fives.fives c.loop-fives.rest j none (λ f. c.loop-fives.invariant.set j f) five) joins.bits c.loop-fives.invariant.gone in
    (comes (low_bits c.args.len c.args.bits) h 0 count).data_bits ∙ ap (λ l. reverse l ++ taken_out h) all.data_bits

pub returns-clause-six : goal.returns-clause-six
returns-clause-six c h count =
    let joins = laws.joins_rest c.loop-fives.count c.loop-fives.taken c.loop-fives.left c.loop-fives.rest c.loop-fives.invariant.taken_fits c.loop-fives.invariant.rest_fits
    (omega (arith, c.loop-fives.invariant.few, c.requires.few)) in
    let none : c.loop-fives.fives ≡ 0 = omega (arith, c.loop-fives-test.false) in
    let all = laws.gone_all c.args.len c.args.bits c.loop-fives.count c.loop-fives.taken c.loop-fives.left c.loop-fives.rest _
    (λ j five. laws.none_at c.loop-fives.fives c.loop-fives.rest j none (λ f. c.loop-fives.invariant.set j f) five) joins.bits c.loop-fives.invariant.gone in
    (comes (low_bits c.args.len c.args.bits) h 0 count).six all.six

pub returns-clause-ones : goal.returns-clause-ones
returns-clause-ones c =
    let joins = laws.joins_rest c.loop-fives.count c.loop-fives.taken c.loop-fives.left c.loop-fives.rest c.loop-fives.invariant.taken_fits c.loop-fives.invariant.rest_fits
    (omega (arith, c.loop-fives.invariant.few, c.requires.few)) in
    let none : c.loop-fives.fives ≡ 0 = omega (arith, c.loop-fives-test.false) in
    let all = laws.gone_all c.args.len c.args.bits c.loop-fives.count c.loop-fives.taken c.loop-fives.left c.loop-fives.rest _
    (λ j five. laws.none_at c.loop-fives.fives c.loop-fives.rest j none (λ f. c.loop-fives.invariant.set j f) five) joins.bits c.loop-fives.invariant.gone in
    let b = low_bits c.args.len c.args.bits in
    let last : ones_of 0 b ≡ trailing (reverse b) = (comes b [] 0 (sym trailing-none)).ones ∙ ap trailing (append-nil (reverse b)) in
    omega (arith, last, all.few)

pub returns-clause-fits : goal.returns-clause-fits
returns-clause-fits c =
    (laws.joins_rest c.loop-fives.count c.loop-fives.taken c.loop-fives.left c.loop-fives.rest c.loop-fives.invariant.taken_fits c.loop-fives.invariant.rest_fits
    (omega (arith, c.loop-fives.invariant.few, c.requires.few))).fits
