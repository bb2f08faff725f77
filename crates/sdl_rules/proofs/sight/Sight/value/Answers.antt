use Rattle.std.proofs.Common.{Option, ap, ◌∙◌}
use Rattle.turn_code.specs.declared.value.Value.{Value}
use Rattle.sdl_rules.specs.Synonyms.{around, or_around}
use Rattle.sdl_rules.specs.Views.{sight_of}
use Rattle.sdl_rules.proofs.sight.Sight.value.Goals as goal

pub returns-in-Some : goal.returns-in-Some
returns-in-Some c = ap (λ (o : Option Value). or_around o (around (sight_of c.args.self.now) c.args.name)) c.in-Some.ensures

pub returns-in-None : goal.returns-in-None
returns-in-None c = c.around.ensures ∙ ap (λ (o : Option Value). or_around o (around (sight_of c.args.self.now) c.args.name)) c.in-None.ensures
