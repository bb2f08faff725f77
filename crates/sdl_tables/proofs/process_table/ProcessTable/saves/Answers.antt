use Rattle.std.proofs.Common.{◌≡◌, map, subst}
use Rattle.std.specs.Prelude.{IfOk}
use Rattle.sdl_ast.specs.declared.tree.Process.{Process}
use Rattle.sdl_ast.specs.Views.{process_of}
use Rattle.sdl_tables.specs.Names.{saves_by_state}
use Rattle.sdl_tables.specs.Rows.{row_names}
use Rattle.sdl_tables.proofs.process_table.ProcessTable.saves.Goals as goal

pub returns : goal.returns
returns c =
    subst (λ (p : Process). IfOk c.collect_names.result (λ v. map row_names v.items ≡ saves_by_state (process_of p)))
    c.self.view_is c.collect_names.ensures
