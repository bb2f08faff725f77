-- Names that are spelled as they are declared.
use Rattle.std.specs.Prelude.{◌≡◌, ℕ, List, All, ⊤}
use Rattle.std.specs.List.{Any}
use Rattle.sdl_tables.specs.sdl_ast_types.expression.Identifier.{Identifier}
use Rattle.sdl_tables.specs.Plain.{PlainProcess, PlainBlock}
use Rattle.sdl_tables.specs.Names.{variable_names, states_of}
use Rattle.sdl_sound.specs.Names.{trigger_names}
use Rattle.sdl_sound.specs.declared.fault.Step.{Step}
use Rattle.sdl_sound.specs.declared.fault.Step.TheVariants.{Start, Input as Takes}

-- one of these identifiers has exactly this spelling
abbrev pub IsSpelling : List Identifier → List ℕ → Type 0
IsSpelling ids x = Any (λ (id : Identifier). id.name ≡ x) ids

-- a step spells its state as the first STATE that names it, and its signal or timer as in its
-- declaration
abbrev pub IsDeclaredStep : PlainBlock → PlainProcess → Step → Type 0
IsDeclaredStep b p Start = ⊤
IsDeclaredStep b p (Takes state signal) =
    IsSpelling (states_of p) state × IsSpelling (trigger_names b p) signal

-- a variable and the steps of a path are spelled as they are declared
abbrev pub AreDeclared : PlainBlock → PlainProcess → List ℕ → List Step → Type 0
AreDeclared b p x steps = IsSpelling (variable_names p) x × All (IsDeclaredStep b p) steps
