-- The JOINs of a text in the order of its code, and the numbers of the connections to which they
-- lead.
use Rattle.std.specs.Prelude.{◌≡◌, ◌<◌, ℕ, ◌++◌, Bool, List, length, map, if◌then◌else◌, All}
use Rattle.std.specs.Prelude.{IsSome, Some, slice_get}
use Rattle.sdl_ast.specs.declared.tree.Join.{Join}
use Rattle.sdl_ast.specs.declared.tree.Decision.{Decision, out-Decision}
use Rattle.sdl_ast.specs.Views.{choice_of, else_choice}
use Rattle.sdl_meaning.specs.Act.{is_truth}
use Rattle.sdl_meaning.specs.Outcomes.{Scope, connector_at}
use Rattle.sdl_meaning.specs.Code.{number_or_zero, else_joins, answers_joins}
use Rattle.sdl_emit.specs.Marks.{has}
use Rattle.sdl_emit.specs.Scopes.{question_in}

-- The JOINs of a DECISION. Those of ELSE come last in a Boolean one and first in an Integer one.
abbrev pub decision_joins : Scope → Decision → List Join
decision_joins c d =
    if is_truth c (question_in d)
    then answers_joins c (choice_of d) ++ else_joins c (else_choice (out-Decision d).otherwise)
    else else_joins c (else_choice (out-Decision d).otherwise) ++ answers_joins c (choice_of d)

abbrev pub numbers_of : Scope → List Join → List ℕ
numbers_of c js = map (λ j. number_or_zero (connector_at c j.connector)) js

-- Each JOIN leads to a connection that exists.
abbrev pub HaveNumbers : Scope → List Join → Type 0
HaveNumbers c js = All (λ (j : Join). IsSome (connector_at c j.connector)) js

-- Each connection has a mark that says whether its number is among these.
pub record AreMarked (c : Scope) (ns : List ℕ) (marks : List Bool) : Type 0 where
  pub count : length marks ≡ length c.process.connections
  pub each : (n : ℕ) → n < length marks → slice_get marks n ≡ Some (has ns n)
