use Rattle.std.proofs.Common.{◌∙◌, sym, ap, true≢false, arith}
use Rattle.std.proofs.lemmas.List.{get_or_read}
use Rattle.line_streams.specs.Watching.{may_come}
use Rattle.line_streams.specs.declared.ending.End.{End}
use Rattle.line_streams.proofs.watch.Watch.may_come.Goals as goal

pub returns-in-Some : goal.returns-in-Some
returns-in-Some c = λ d within.
    c.is_due.ensures
    ∙ ap (λ (e : End). may_come c.args.now e) (get_or_read c.args.self.now.ends.items c.args.place c.in-Some.end.now within c.in-Some.ensures.lookup d)

pub returns-in-None : goal.returns-in-None
returns-in-None c = λ d within. absurd (true≢false (sym (c.in-None.ensures.variant.1 (omega (arith, within, c.args.self.now.ends.ok.0)))))
