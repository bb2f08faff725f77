use Rattle.std.proofs.Common.{rules}
use Rattle.draw_text.specs.Views.{block_of, process_of}
use Rattle.draw_sets.proofs.Drawings.{drawing}
use Rattle.draw_sets.proofs.svg.draw_flow.Goals as goal

pub returns : goal.returns
returns c =
    drawing (block_of c.args.names.now.block.now) (process_of c.args.names.now.process.now) c.in_ok-text.text.items c.in_ok-parts.parts.items
    c.in_ok-layout.layout.drawn.items c.in_ok-layout.layout.lines.items c.in_ok-layout.layout.across c.in_ok-layout.layout.along
    (search rules) (search rules) (search rules) (search rules)
