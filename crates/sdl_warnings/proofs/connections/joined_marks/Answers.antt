use Rattle.std.proofs.Common.{ap, ◌∙◌}
use Rattle.sdl_ast.specs.Views.{process_of}
use Rattle.sdl_measures.specs.Links.{graph_in}
use Rattle.sdl_warnings.specs.Warned.{outer_joins}
use Rattle.sdl_warnings.proofs.connections.joined_marks.Goals as goal

pub returns : goal.returns
returns c =
    let p = process_of c.args.process.now in
    c.in_ok-marks.ensures p (outer_joins p) (ap graph_in c.deref.ensures.value ∙ c.in_ok-links.ensures.links) c.in_ok-links.ensures.distinct
    (c.deref-2.ensures.value ∙ c.in_ok-targets.ensures.targets)
