use Rattle.line_streams.proofs.Exchanging.{exchange_kept}
use Rattle.line_streams.proofs.capture.Capture.exchange.Goals as goal

pub returns-clause-kept : goal.returns-clause-kept
returns-clause-kept c = λ before after seen captures.
    exchange_kept before after seen c.args.gone c.args.come c.in-Some.at c.ended-sent.new.deframer c.ended-heard.new.deframer _ _ c.keep-went.result c.keep-came.result
    c.args.self.now c.keep-went.new.self c.keep-came.new.self captures
    (c.ended-sent.ensures.unit before captures.out) (c.ended-sent.ensures.stands before captures.out)
    (c.ended-heard.ensures.unit after captures.in_) (c.ended-heard.ensures.stands after captures.in_)
    c.in-Some.ensures.1 c.keep-went.ensures.same c.keep-went.ensures.every c.keep-came.ensures.same c.keep-came.ensures.every
    c.keep-went.ensures.kept c.keep-came.ensures.kept
