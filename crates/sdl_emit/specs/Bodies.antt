-- A transition with its copy.
use Rattle.std.specs.Prelude.{◌≡◌}
use Rattle.sdl_ast.specs.Views.{text_of}
use Rattle.sdl_emit.specs.Trimmed.{trimmed}
use Rattle.sdl_emit.specs.declared.bodies.Body.{Body}

-- The copy is the transition without the TASKs that hold only quoted text.
abbrev pub IsBody : Body → Type 0
IsBody b = text_of b.copy.now ≡ trimmed (text_of b.whole.now)
