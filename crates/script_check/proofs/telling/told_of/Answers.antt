use Rattle.std.proofs.Common.{◌≡◌, ◌∙◌, List, IfSome, sym, subst}
use Rattle.sdl_lex.specs.declared.lexemes.Token.{Token}
use Rattle.script_check.specs.Telling.{Fits}
use Rattle.script_check.proofs.telling.told_of.Goals as goal

pub returns : goal.returns
returns c = λ ts a.
    let same : c.deref.result.now ≡ ts = c.deref.ensures.value ∙ sym (c.in_ok-tokens.ensures ts a) in
    subst (λ (all : List Token). IfSome c.fitting-told.result (Fits all c.args.fault.now)) same c.fitting-told.ensures
