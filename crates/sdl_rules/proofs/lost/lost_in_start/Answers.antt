use Rattle.std.proofs.Common.{[], ◌∷◌, subst}
use Rattle.sdl_ast.specs.declared.tree.Process as the_process
use Rattle.sdl_ast.specs.Views.{block_of, process_of}
use Rattle.sdl_tables.specs.Scopes.{Marks}
use Rattle.sdl_sound.specs.Actions.{begins}
use Rattle.sdl_sound.specs.Statements.{statements_of}
use Rattle.sdl_rules.specs.Asked.{asked_all}
use Rattle.sdl_rules.specs.declared.statements.StatementRule.TheVariants.{Receivers}
use Rattle.sdl_rules.proofs.lost.lost_in_start.Goals as goal

pub returns-clause-place : goal.returns-clause-place
returns-clause-place c =
    let b = block_of c.args.block.now in
    let p = process_of c.args.process.now in
    subst (λ (x : the_process.Process). Marks c.in_ok-lost.lost (asked_all Receivers b p (begins ∷ []) (statements_of (process_of x).start.text))) c.process.ensures.process
    (c.in_ok-lost.ensures.place (begins ∷ []) (c.in_ok-senders.ensures b p))

pub returns-clause-backs : goal.returns-clause-backs
returns-clause-backs c =
    c.in_ok-lost.ensures.backs (begins ∷ []) (c.in_ok-senders.ensures (block_of c.args.block.now) (process_of c.args.process.now))
