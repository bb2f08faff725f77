use Rattle.std.proofs.Common.{rules, map}
use Rattle.sdl_ast.specs.Views.{block_of, process_of}
use Rattle.draw_text.proofs.Diagrams.{drawn}
use Rattle.draw_text.proofs.block_diagram.draw_block.Goals as goal

pub returns : goal.returns
returns c =
    drawn (block_of c.args.block.now) c.deref.result.now (map process_of c.tables.result.now) c.new-text.result.items c.push_head.new.text.items
    c.push_nodes.new.text.items c.push_edges.new.text.items c.push_bytes.new.text.items (search rules) (search rules) (search rules) (search rules)
    (search rules) (search rules) (search rules)
