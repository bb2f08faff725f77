use Rattle.std.proofs.Common.{◌∙◌, ap, is_some}
use Rattle.sdl_tables.specs.Names.{same_name}
use Rattle.sdl_tables.proofs.Tables.{is_some-position}
use Rattle.sdl_tables.proofs.name_table.NameTable.contains.Goals as goal

pub returns : goal.returns
returns c =
    c.is_some.ensures ∙ (ap is_some c.number.ensures.number ∙ is_some-position (λ id. same_name c.args.name id.name) c.args.self.now)
