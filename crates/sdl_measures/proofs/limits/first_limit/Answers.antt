use Rattle.std.proofs.Common.{List, sym, ap, ◌∙◌, subst}
use Rattle.std.specs.List.{list_any}
use Rattle.sdl_ast.specs.Plain.{PlainProcess}
use Rattle.sdl_ast.specs.Views.{block_of}
use Rattle.sdl_sound.specs.Limits.{exceeds, wrong_instances, number_limits, later_limits}
use Rattle.sdl_measures.specs.Rows.{AllPassed}
use Rattle.sdl_measures.proofs.Texts.{find-left, find-right}
use Rattle.sdl_measures.proofs.limits.first_limit.Goals as goal

pub returns-in-Some : goal.returns-in-Some
returns-in-Some c = sym (find-left (exceeds (block_of c.args.block.now)) number_limits later_limits c.in-Some.which (sym c.in_ok-counted.ensures ∙ c.in-Some.is))

pub returns-in_ok-passed-in-None : goal.returns-in_ok-passed-in-None
returns-in_ok-passed-in-None c =
    let b = block_of c.args.block.now in
    find-right (exceeds b) number_limits later_limits c.first_passed.result (sym c.in_ok-counted.ensures ∙ c.in-None.is)
    (c.first_passed.ensures b (subst (λ (l : List PlainProcess). AllPassed l c.in_ok-passed-in-None.passed) c.tables-tables.ensures c.in_ok-passed-in-None.ensures)
    (c.has_wrong_instances.ensures ∙ ap (λ (l : List PlainProcess). list_any (λ p. wrong_instances p.instances) l) c.tables-tables.ensures))
