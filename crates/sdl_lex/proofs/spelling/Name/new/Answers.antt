-- A spelling followed by zeros satisfies the invariant of `Name`.
use Rattle.std.proofs.Common.{refl, sym, ◌∙◌}
use Rattle.sdl_lex.proofs.NameLemmas.{IsRoom-new}
use Rattle.sdl_lex.proofs.spelling.Name.new.Goals as goal

pub invariant_of-result : goal.invariant_of-result
invariant_of-result c =
    IsRoom-new c.args.spelling.now c.copy_from_slice.new.self _ c.copy_from_slice.ensures.after refl c.if-spelling-gt-MAX_NAME.false
    (sym c.is_spelled_as_name.ensures ∙ c.if-not-is_spelled_as_name.false)
