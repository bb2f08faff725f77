use Rattle.std.proofs.Common.{false, refl}
use Rattle.std.specs.Option.{option_map_or}
use Rattle.sdl_ast.specs.Views.{block_of, process_of}
use Rattle.sdl_scopes.specs.Reaches.{is_marked}
use Rattle.sdl_rules.proofs.Gathering.{not_is}
use Rattle.sdl_rules.proofs.RowsAdded.{asks_new, asks_there}
use Rattle.sdl_rules.proofs.gathered.Gathered.add_row.Goals as goal

pub returns-in_ok-add_row : goal.returns-in_ok-add_row
returns-in_ok-add_row c = λ f g.
    asks_new (block_of c.args.block.now) (process_of c.args.process.now) c.args.table.now.names c.args.self.now _ f c.args.stimulus.now.name.name c.args.row
    c.requires.row c.mark.ensures.marks (c.in_ok-add_row.ensures f g.gathers) g

pub returns-else-mark : goal.returns-else-mark
returns-else-mark c = λ f g.
    asks_there (block_of c.args.block.now) (process_of c.args.process.now) c.args.table.now.names c.args.self.now _ f c.args.stimulus.now.name.name c.args.row
    c.requires.row c.mark.ensures.marks
    (not_is c.mark.result (option_map_or (is_marked c.args.self.now.asked.items) c.args.row false) c.mark.ensures.new c.if-mark.false) refl g
