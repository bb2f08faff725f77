use Rattle.std.proofs.Common.{refl, ap, subst, IfOk, ◌∙◌}
use Rattle.line_filter.specs.Speaking.{Voice, fixed}
use Rattle.line_tending.specs.LinkLines.{GivesNext}
use Rattle.line_tending.proofs.link_line.LinkLine.next.Goals as goal

pub begin-requires : goal.begin-requires
begin-requires c = let same = c.in-None.ensures.none refl in ap (λ (v : Voice). v.ready) same.1 ∙ same.0

pub returns-in-Some-clause-gives : goal.returns-in-Some-clause-gives
returns-in-Some-clause-gives c = fixed c.in-Some.ensures.some.0 c.in-Some.ensures.some.1 refl

pub returns-in-None-clause-gives : goal.returns-in-None-clause-gives
returns-in-None-clause-gives c =
    subst (λ (v : Voice). IfOk c.begin.result (λ octet. GivesNext c.args.link c.args.tender.now v octet c.begin.new.tender c.begin.new.self.voice)) (c.in-None.ensures.none refl).1
    c.begin.ensures.gives
