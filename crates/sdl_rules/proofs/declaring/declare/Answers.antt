use Rattle.sdl_ast.specs.Views.{tree_of, synonym_of}
use Rattle.sdl_rules.specs.Views.{sight_of}
use Rattle.sdl_rules.proofs.Declares.{declared_one}
use Rattle.sdl_rules.proofs.declaring.declare.Goals as goal

pub returns-clause-sight : goal.returns-clause-sight
returns-clause-sight c =
    declared_one (sight_of c.args.sight.now) _ (synonym_of c.args.synonym.now) (tree_of c.in_ok-expanded.expanded) c.value_of-value.result c.in_ok-add.ensures
    c.value_of-value.ensures c.in_ok-expanded.ensures
