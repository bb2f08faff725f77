-- A name is ASCII, so its bytes are UTF-8.
use Rattle.sdl_lex.proofs.NameLemmas.{name_utf8}
use Rattle.sdl_lex.proofs.spelling.Name.as_str.Goals as goal

pub unreachable-requires : goal.unreachable-requires
unreachable-requires c = c.in-Err.ensures.cases.0 (rw c.as_bytes.ensures.bytes (name_utf8 _ c.as_bytes.ensures.name))
