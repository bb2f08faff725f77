use Rattle.std.proofs.Common.{◌≡◌, rules}
use Rattle.std.proofs.lemmas.Result.{IfOk-weaker}
use Rattle.sdl_ast.specs.Views.{block_of}
use Rattle.script_covered.proofs.TextCounts.{told_of_text}
use Rattle.script_covered.proofs.text_coverage.TextCoverage.report.Goals as goal

pub returns : goal.returns
returns c =
    IfOk-weaker c.lcov_text.result _ _ (λ v told ts known. told_of_text c.args.name.now c.args.text.now _ ts (block_of c.args.self.now.block.now) v.items (let same : c.args.self.now.text.now ≡ c.args.text.now = search rules in same) known.is_text (told ts known.covers))
    c.lcov_text.ensures
