use Rattle.std.proofs.Common.{rules, refl, ap, ◌∙◌, Some, sym}
use Rattle.std.proofs.lemmas.Option.{slice_get_past, slice_get-get_or}
use Rattle.draw_diff.proofs.Moving.{none_moved, some_moved}
use Rattle.draw_diff.proofs.names.among.Goals as goal

pub returns-in-Some : goal.returns-in-Some
returns-in-Some g c =
    some_moved g.T.Called.name c.args.olds.now c.args.news.now c.args.number c.in-Some.old.now c.name.result.now c.place_of.result c.octet.result
    (slice_get-get_or c.args.olds.now c.args.number c.in-Some.old.now (search rules) ∙ ap Some (sym (search rules)))
    c.name.ensures c.place_of.ensures c.octet.ensures

pub returns-in-None : goal.returns-in-None
returns-in-None g c =
    none_moved g.T.Called.name c.args.olds.now c.args.news.now c.args.number _ (slice_get_past c.args.olds.now c.args.number (search rules)) refl
