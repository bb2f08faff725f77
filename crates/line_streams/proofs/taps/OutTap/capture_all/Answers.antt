use Rattle.std.proofs.Common.{◌∙◌, arith}
use Rattle.line_streams.proofs.Tapped.{Went, went_none, went_more, went_all}
use Rattle.line_streams.proofs.taps.OutTap.capture_all.Goals as goal

pub loop-octet-init : goal.loop-octet-init
loop-octet-init g c = went_none g.S.Write.contents c.args.self.now

pub returns-in_err-capture_one-clause-writer : goal.returns-in_err-capture_one-clause-writer
returns-in_err-capture_one-clause-writer g c = c.in_err-capture_one.ensures.writer ∙ c.loop-octet.invariant.writer

pub returns-in_err-capture_one-clause-ahead : goal.returns-in_err-capture_one-clause-ahead
returns-in_err-capture_one-clause-ahead g c = c.in_err-capture_one.ensures.ahead ∙ c.loop-octet.invariant.ahead

pub loop-octet-preserved : goal.loop-octet-preserved
loop-octet-preserved g c =
    went_more g.S.Write.contents c.args.octets.now c.loop-octet.octet-index _ c.args.self.now c.loop-octet.self c.capture_one.new.self c.loop-octet-test.true
    c.loop-octet.invariant c.in_ok-capture_one.ensures.tapped c.in_ok-capture_one.ensures.writer c.in_ok-capture_one.ensures.ahead

all : (g : Rattle.line_streams.proofs.taps.OutTap.capture_all.Given.Over) (c : goal.After-loop-octet g) → Went g.S.Write.contents c.args.octets.now c.args.self.now c.loop-octet.self
all g c = went_all g.S.Write.contents c.args.octets.now c.loop-octet.octet-index c.args.self.now c.loop-octet.self (omega (arith, c.loop-octet-test.false)) c.loop-octet.invariant

pub returns-clause-tapped : goal.returns-clause-tapped
returns-clause-tapped g c = (all g c).tapped

pub returns-clause-writer : goal.returns-clause-writer
returns-clause-writer g c = c.loop-octet.invariant.writer

pub returns-clause-ahead : goal.returns-clause-ahead
returns-clause-ahead g c = c.loop-octet.invariant.ahead
