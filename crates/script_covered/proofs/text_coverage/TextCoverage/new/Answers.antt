use Rattle.std.proofs.Common.{map, ap, ◌∙◌}
use Rattle.sdl_ast.specs.Views.{block_of}
use Rattle.sdl_tables.specs.Names.{inputs_by_state}
use Rattle.script_covered.proofs.text_coverage.TextCoverage.new.Goals as goal

pub returns : goal.returns
returns c = record {
  is_text = c.requires;
  covers = c.in_ok-coverage.ensures (block_of c.args.block.now);
  inputs = c.in_ok-inputs.ensures ∙ ap (λ ps. map inputs_by_state ps) c.tables.ensures;
}
