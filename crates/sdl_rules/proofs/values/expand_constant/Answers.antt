use Rattle.std.proofs.Common.{◌≡◌, false, None, sym, ap, ◌∙◌}
use Rattle.sdl_ast.specs.declared.tree.Literal.{Literal}
use Rattle.sdl_ast.specs.declared.tree.Constant.{Constant}
use Rattle.sdl_rules.specs.Synonyms.{literal_of, used, constant_by}
use Rattle.sdl_rules.specs.Views.{sight_of}
use Rattle.sdl_rules.proofs.values.expand_constant.Goals as goal

pub returns-in-None : goal.returns-in-None
returns-in-None c = sym (ap (constant_by (sight_of c.args.sight.now) c.args.constant) c.in-None.is)

pub returns-in-Some : goal.returns-in-Some
returns-in-Some c =
    let make : Literal → Constant = λ v. record { at = c.args.constant.at; value = v; is_negated = false; synonym = None } in
    let s = sight_of c.args.sight.now in
    let valued : c.literal.result ≡ literal_of (used s c.args.constant.is_negated c.in-Some.synonym) = cc in
    ap make valued ∙ sym (ap (constant_by s c.args.constant) c.in-Some.is)
