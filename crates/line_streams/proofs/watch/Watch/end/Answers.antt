use Rattle.std.proofs.Common.{sym, true≢false, arith}
use Rattle.line_streams.proofs.Ends.{is_none_so}
use Rattle.line_streams.proofs.watch.Watch.end.Goals as goal

pub returns-in_default-clause-none : goal.returns-in_default-clause-none
returns-in_default-clause-none c = λ none. c.due.ensures.none (is_none_so c.due.result c.in_default.not-Some)

pub returns-in-None-clause-none : goal.returns-in-None-clause-none
returns-in-None-clause-none c = λ none.
    absurd (true≢false (sym (c.in-None.ensures.variant.1 (omega (arith, c.in-Some.ensures.some, c.args.self.now.ends.ok.0)))))
