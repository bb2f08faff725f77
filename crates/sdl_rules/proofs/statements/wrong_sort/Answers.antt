use Rattle.std.proofs.Common.{subst, List}
use Rattle.std.specs.List.{flat_map}
use Rattle.sdl_ast.specs.Plain.{PlainProcess}
use Rattle.sdl_ast.specs.Views.{block_of}
use Rattle.sdl_tables.specs.Scopes.{Marks}
use Rattle.sdl_sound.specs.Actions.{in_statements}
use Rattle.sdl_rules.specs.Asked.{asked}
use Rattle.sdl_sound.specs.Sorts.{wrong_declarations}
use Rattle.sdl_rules.specs.declared.statements.StatementRule.TheVariants.{Sorts}
use Rattle.sdl_rules.proofs.statements.wrong_sort.Goals as goal

pub returns : goal.returns
returns c =
    let b = block_of c.args.block.now in
    c.earlier.ensures _ _
    (subst (λ (ps : List PlainProcess). Marks c.wrong_declaration-declared.result (flat_map (wrong_declarations b) ps)) c.tables.ensures c.wrong_declaration-declared.ensures)
    (subst (λ (ps : List PlainProcess). Marks c.in_processes.result (flat_map (λ p. in_statements (asked Sorts b p) p) ps)) c.tables-2.ensures c.in_processes.ensures)
