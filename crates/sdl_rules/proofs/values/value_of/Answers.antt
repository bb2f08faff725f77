use Rattle.std.proofs.Common.{[], ap, ◌∙◌}
use Rattle.sdl_ast.specs.declared.tree.Sort.{Sort}
use Rattle.sdl_ast.specs.Views.{tree_of}
use Rattle.sdl_rules.specs.Synonyms.{synonym_sort, value_for}
use Rattle.sdl_rules.proofs.values.value_of.Goals as goal

pub returns : goal.returns
returns c =
    c.value_for.ensures
    ∙ (ap (λ (want : Sort). value_for want c.evaluate_alone-value.result) c.synonym_sort.ensures
    ∙ ap (value_for (synonym_sort c.args.written (tree_of c.args.expression.now))) c.evaluate_alone-value.ensures)
