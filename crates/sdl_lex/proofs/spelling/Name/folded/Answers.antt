-- Lowering the case keeps the invariant of `Name`.
use Rattle.sdl_lex.proofs.NameLemmas.{IsRoom-folded}
use Rattle.sdl_lex.proofs.spelling.Name.folded.Goals as goal

pub invariant_of-result : goal.invariant_of-result
invariant_of-result c = IsRoom-folded c.self.inside.used c.self.inside.bytes _ c.self.invariant c.make_ascii_lowercase.ensures.after
