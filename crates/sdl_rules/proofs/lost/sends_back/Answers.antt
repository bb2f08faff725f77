use Rattle.std.proofs.Common.{[], ℕ, Option, subst}
use Rattle.std.specs.List.{flat_map}
use Rattle.sdl_ast.specs.Views.{block_of, process_of, text_of}
use Rattle.sdl_tables.specs.Scopes.{Marks}
use Rattle.sdl_sound.specs.Statements.{statements_of}
use Rattle.sdl_rules.specs.Asked.{back_statement}
use Rattle.sdl_rules.proofs.lost.sends_back.Goals as goal

pub returns-in-None : goal.returns-in-None
returns-in-None c = λ e.
    subst (λ (o : Option ℕ). Marks o (flat_map back_statement (statements_of (text_of c.args.transition.now)))) c.in-None.is
    (c.in_transition.ensures [] (c.none-none.ensures (block_of c.args.block.now) (process_of c.args.process.now)))
