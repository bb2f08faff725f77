use Rattle.std.proofs.Common.{sym, ◌∙◌}
use Rattle.sdl_rules.specs.Views.{known_of}
use Rattle.sdl_rules.proofs.Declares.{known_stays, known_grows}
use Rattle.sdl_rules.proofs.known_synonyms.Known.add.Goals as goal

pub returns-then-contains : goal.returns-then-contains
returns-then-contains c = known_stays (known_of c.args.self.now) c.args.name c.args.value (sym c.contains.ensures ∙ c.if-contains.true)

pub returns : goal.returns
returns c =
    known_grows (known_of c.args.self.now) _ _ c.args.name c.args.value (sym c.contains.ensures ∙ c.if-contains.false) c.in_ok-add.ensures.ids c.in_ok-push.ensures.items
