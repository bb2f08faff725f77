use Rattle.std.proofs.Common.{refl, ap, subst, IfOk, ◌∙◌}
use Rattle.line_filter.specs.Speaking.{Voice, Gives, fixed}
use Rattle.line_filter.proofs.voice.Voice.next.Goals as goal

pub ask-requires : goal.ask-requires
ask-requires g c = let same = c.in-None.ensures.none refl in ap (λ (v : Voice). v.ready) same.1 ∙ same.0

pub returns-in-Some : goal.returns-in-Some
returns-in-Some g c = fixed c.in-Some.ensures.some.0 c.in-Some.ensures.some.1 refl

pub returns-in-None : goal.returns-in-None
returns-in-None g c =
    subst (λ (v : Voice). IfOk c.ask.result (λ octet. Gives g.T.LineTerminal.acts c.args.terminal.now v octet c.ask.new.terminal c.ask.new.self)) (c.in-None.ensures.none refl).1
    c.ask.ensures
