use Rattle.std.proofs.Common.{rules, ◌≡◌, true, false, sym, ◌∙◌}
use Rattle.std.specs.List.{list_all}
use Rattle.sdl_ast.specs.declared.tree.Literal.TheVariants as literal
use Rattle.sdl_warnings.specs.Values.{is_left, LEAST}
use Rattle.sdl_warnings.specs.Bounds.{none_at_range}
use Rattle.sdl_warnings.proofs.Spending.{spent}
use Rattle.sdl_warnings.proofs.values.left_integer.Goals as goal

pub returns-in-None-clause-none : goal.returns-in-None-clause-none
returns-in-None-clause-none c = λ none.
    let earlier = c.args.earlier.now in
    let own = c.args.own.now in
    let owns : list_all (none_at_range (is_left earlier own)) own ≡ true = search rules in
    let first : is_left earlier own (literal.Integer LEAST) ≡ false = sym c.is_left.ensures ∙ c.if-is_left.false in
    spent earlier own owns (c.left_at_ranges-in-None.ensures.none none) first
