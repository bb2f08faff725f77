use Rattle.std.proofs.Common.{ℕ, List, [], ◌∷◌, Option, None, Some, cond, refl, subst, arith}
use Rattle.std.specs.Prelude.{Contains, is_some}
use Rattle.sdl_tables.specs.Scopes.{Marks}
use Rattle.turn_code.specs.declared.value.Value.{Value}
use Rattle.sdl_rules.proofs.strays.unseen.Goals as goal

marked_at : ℕ → Option ℕ → Option Value → Type 0
marked_at at place o = Marks place (cond (is_some o) [] (at ∷ []))

pub returns-in-Some : goal.returns-in-Some
unfolding marked_at
returns-in-Some c = subst (marked_at c.args.id.now.at None) c.in-Some.ensures refl

pub returns-in-None : goal.returns-in-None
unfolding marked_at
returns-in-None c =
    let there : Contains (c.args.id.now.at ∷ []) c.args.id.now.at = (0, omega arith, refl) in
    subst (marked_at c.args.id.now.at (Some c.args.id.now.at)) c.in-None.ensures there
