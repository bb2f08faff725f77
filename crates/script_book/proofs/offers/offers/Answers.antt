use Rattle.std.proofs.Common.{arith}
use Rattle.script_lines.specs.Commands.{plain_offer}
use Rattle.script_book.specs.Answers.{floods}
use Rattle.script_book.proofs.Floods.{flood_starts, flood_goes_on, flood_ends, flood_over}
use Rattle.script_book.proofs.offers.offers.Goals as goal

pub loop-sent-init : goal.loop-sent-init
loop-sent-init c = flood_starts c.args.times (plain_offer c.args.given.now) c.args.book.now

pub loop-sent-preserved : goal.loop-sent-preserved
loop-sent-preserved c =
    flood_goes_on c.args.times c.loop-sent.sent (plain_offer c.args.given.now) c.loop-sent.book c.offer.new.book c.rest.new.book _ c.loop-sent-test.true
    c.loop-sent.invariant c.in-Ok.ensures.refusal c.in-Ok.ensures.book c.rest.ensures.book

pub returns-in-Err-clause-book : goal.returns-in-Err-clause-book
returns-in-Err-clause-book c =
    (flood_ends c.args.times c.loop-sent.sent (plain_offer c.args.given.now) c.loop-sent.book c.offer.new.book c.in-Err.refusal
    (floods c.args.times (plain_offer c.args.given.now) c.args.book.now) c.loop-sent-test.true c.loop-sent.invariant c.in-Err.ensures.refusal c.in-Err.ensures.book).0

pub returns-in-Err-clause-refusal : goal.returns-in-Err-clause-refusal
returns-in-Err-clause-refusal c =
    (flood_ends c.args.times c.loop-sent.sent (plain_offer c.args.given.now) c.loop-sent.book c.offer.new.book c.in-Err.refusal
    (floods c.args.times (plain_offer c.args.given.now) c.args.book.now) c.loop-sent-test.true c.loop-sent.invariant c.in-Err.ensures.refusal c.in-Err.ensures.book).1

pub returns-clause-book : goal.returns-clause-book
returns-clause-book c =
    (flood_over c.args.times c.loop-sent.sent (plain_offer c.args.given.now) c.loop-sent.book (floods c.args.times (plain_offer c.args.given.now) c.args.book.now)
    (omega (arith, c.loop-sent.auto.sent-end, c.loop-sent-test.false)) c.loop-sent.invariant).0

pub returns-clause-refusal : goal.returns-clause-refusal
returns-clause-refusal c =
    (flood_over c.args.times c.loop-sent.sent (plain_offer c.args.given.now) c.loop-sent.book (floods c.args.times (plain_offer c.args.given.now) c.args.book.now)
    (omega (arith, c.loop-sent.auto.sent-end, c.loop-sent-test.false)) c.loop-sent.invariant).1
