use Rattle.std.proofs.Common.{Option, false, ap, ◌∙◌}
use Rattle.std.specs.Option.{option_map_or}
use Rattle.sdl_ast.specs.declared.tree.Sort.TheVariants.{Boolean}
use Rattle.turn_code.specs.declared.value.Value.{Value}
use Rattle.sdl_sound.specs.Sorts.{same_sort}
use Rattle.sdl_rules.specs.Synonyms.{sort_of_value}
use Rattle.sdl_rules.proofs.strays.is_boolean.Goals as goal

pub returns-in-Some : goal.returns-in-Some
returns-in-Some c = c.is_of_sort.ensures ∙ ap (λ (o : Option Value). option_map_or (λ v. same_sort Boolean (sort_of_value v)) o false) c.in-Some.ensures

pub returns-in-None : goal.returns-in-None
returns-in-None c = ap (λ (o : Option Value). option_map_or (λ v. same_sort Boolean (sort_of_value v)) o false) c.in-None.ensures
