use Rattle.std.proofs.Common.{List, ap, ◌∙◌}
use Rattle.std.specs.Prelude.{slice_get, option_and_then}
use Rattle.turn_code.specs.declared.value.Value.{Value}
use Rattle.sdl_rules.specs.Views.{known_of}
use Rattle.sdl_rules.proofs.known_synonyms.Known.value.Goals as goal

pub returns-in-Some : goal.returns-in-Some
returns-in-Some c =
    let values = (known_of c.args.self.now).values in
    c.value_at.ensures ∙ (ap (λ (l : List Value). slice_get l c.in-Some.number) c.deref.ensures.value ∙ ap (option_and_then (slice_get values)) c.in-Some.ensures.number)

pub returns-in-None : goal.returns-in-None
returns-in-None c = ap (option_and_then (slice_get (known_of c.args.self.now).values)) c.in-None.ensures.number
