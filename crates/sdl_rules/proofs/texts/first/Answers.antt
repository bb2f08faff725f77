use Rattle.std.proofs.Common.{ℕ, Option, subst}
use Rattle.std.proofs.lemmas.List.Elements.{Contains-append_left, Contains-append_right}
use Rattle.sdl_tables.specs.Scopes.{Marks}
use Rattle.sdl_rules.proofs.texts.first.Goals as goal

pub returns-in-None : goal.returns-in-None
returns-in-None c = λ xs ys there marks. Contains-append_left xs ys c.args.at there

pub returns-then-other-at : goal.returns-then-other-at
returns-then-other-at c = λ xs ys there marks. Contains-append_right xs ys c.in-Some.other (subst (λ (o : Option ℕ). Marks o ys) c.in-Some.is marks)

pub returns-else-other-at : goal.returns-else-other-at
returns-else-other-at c = λ xs ys there marks. Contains-append_left xs ys c.args.at there
