-- The arguments of the compiler, as definitions see them.
use Rattle.std.specs.Prelude.{ℕ, List, Option, None, Some, get_or}
use Rattle.sdl_ast.specs.declared.expression.Identifier.{Identifier}
use Rattle.sdl_ast.specs.declared.tree.Transition.{Transition}
use Rattle.sdl_ast.specs.declared.tree.Decision.{Decision, out-Decision}
use Rattle.sdl_ast.specs.declared.tree.InputPart.{InputPart}
use Rattle.sdl_ast.specs.declared.tree.Stimulus.{Stimulus}
use Rattle.sdl_ast.specs.Plain.{Tree}
use Rattle.sdl_ast.specs.Views.{tree_of, text_of, stimulus_of, block_of, process_of}
use Rattle.sdl_tables.specs.Names.{Input}
use Rattle.sdl_sound.specs.Longest.{Piece}
use Rattle.sdl_emit.specs.declared.names.Names.{Names}
use Rattle.sdl_meaning.specs.Act.{scope_of}
use Rattle.sdl_meaning.specs.Outcomes.{Scope}
use Rattle.sdl_meaning.specs.Named.{NamedText}

abbrev pub scope_in : Names → Scope
scope_in n = scope_of (block_of n.block.now) (process_of n.process.now)

-- A transition with the places of its INPUT.
abbrev pub piece_in : List (Option Identifier) → Transition → Piece
piece_in places t = record { places = places; text = text_of t }

-- The input of a state for one signal of an INPUT.
abbrev pub input_by : InputPart → Stimulus → Input
input_by i s = record { at = i.at; stimulus = stimulus_of s; text = text_of i.transition }

-- The places of connections by their numbers; 0 for a connection without a place.
abbrev pub places_by : List ℕ → ℕ → ℕ
places_by places n = get_or places n 0

abbrev pub question_in : Decision → Tree
question_in d = tree_of (out-Decision d).question

-- The body of ELSE, if there is one.
abbrev pub NamedElse : Scope → Option Transition → Type 0
NamedElse c None = Unit {0}
NamedElse c (Some body) = NamedText c (text_of body)
