use Rattle.std.proofs.Common.{subst, ℕ, Option}
use Rattle.std.proofs.lemmas.List.Elements.{Contains-append_right}
use Rattle.sdl_tables.specs.Scopes.{Marks}
use Rattle.sdl_tables.proofs.scope.earlier.Goals as goal

pub returns-else-a-b : goal.returns-else-a-b
returns-else-a-b c = λ xs ys _ marks.
    Contains-append_right xs ys c.in-Some-Some.b (subst (λ (o : Option ℕ). Marks o ys) c.in-Some-Some.is-1 marks)
