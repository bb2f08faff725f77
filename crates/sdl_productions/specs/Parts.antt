-- The view of a slot before an operand.
use Rattle.std.specs.Prelude.{Option, None, Some}
use Rattle.sdl_ast.specs.declared.expression.BinaryOperator.{BinaryOperator}
use Rattle.sdl_productions.specs.declared.part.Part.{Part}
use Rattle.sdl_ast.specs.Plain.{Tree}
use Rattle.sdl_ast.specs.Views.{tree_of}

abbrev pub slot_view : Option (Part × BinaryOperator) → Option (Tree × BinaryOperator)
slot_view None = None
slot_view (Some s) = Some (tree_of s.0.tree.value, s.1)
