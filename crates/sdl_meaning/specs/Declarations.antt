-- What a draft has for the declarations of a text.
use Rattle.std.specs.Prelude.{ℕ, List, [], map, Option, None, Some, option_map, slice_get}
use Rattle.sdl_ast.specs.declared.expression.Identifier.{Identifier}
use Rattle.sdl_ast.specs.declared.tree.Constant.{Constant}
use Rattle.sdl_ast.specs.declared.tree.Literal as literal
use Rattle.sdl_ast.specs.declared.tree.Literal.TheVariants as literals
use Rattle.sdl_ast.specs.declared.tree.Sort as tree_sort
use Rattle.sdl_ast.specs.declared.tree.Sort.TheVariants as tree_sorts
use Rattle.sdl_ast.specs.Plain.{PlainSignal, PlainProcess, PlainBlock}
use Rattle.turn_code.specs.declared.value.Sort.{Sort}
use Rattle.turn_code.specs.declared.value.Sort.TheVariants.{Integer, Boolean}
use Rattle.turn_code.specs.declared.value.Value.{Value}
use Rattle.turn_code.specs.declared.value.Value.TheVariants.{Int, Bool}
use Rattle.turn_code.specs.declared.draft.DraftSignal.{DraftSignal}
use Rattle.turn_code.specs.declared.draft.DraftVariable.{DraftVariable}
use Rattle.turn_code.specs.declared.draft.Trigger.{Trigger}
use Rattle.turn_code.specs.declared.draft.Trigger.TheVariants.{Signal, Timer}
use Rattle.turn_code.specs.Transitions.{parameters_of}
use Rattle.sdl_tables.specs.Names.{Variable, number_of, variables_of, timers_of, signals_of}
use Rattle.sdl_tables.specs.Names.{signal_names}
use Rattle.sdl_sound.specs.Sorts.{parameter_sorts}
use Rattle.sdl_meaning.specs.Outcomes.{Scope}
use Rattle.sdl_meaning.specs.Code.{number_or_zero}

abbrev pub sort_of_tree : tree_sort.Sort → Sort
sort_of_tree tree_sorts.Integer = Integer
sort_of_tree tree_sorts.Boolean = Boolean

abbrev pub literal_value : literal.Literal → Value
literal_value (literals.Integer z) = Int z
literal_value (literals.Boolean b) = Bool b

abbrev pub constant_value : Constant → Value
constant_value k = literal_value k.value

-- A variable with its sort and its initial value.
abbrev pub drafted : Variable → DraftVariable
drafted v =
    record {
      name = v.name.name;
      sort = sort_of_tree v.sort;
      initial = option_map constant_value v.initial;
    }

-- A signal with the sorts of its parameters.
abbrev pub drafted_signal : PlainSignal → DraftSignal
drafted_signal s = record { name = s.name.name; parameters = map sort_of_tree s.parameters }

-- The variables of a process, and the signals of a block.
abbrev pub drafted_variables : PlainProcess → List DraftVariable
drafted_variables p = map drafted (variables_of p)

abbrev pub drafted_signals : PlainBlock → List DraftSignal
drafted_signals b = map drafted_signal (signals_of b)

-- The signal with the first number, or else the timer with the second.
abbrev pub trigger_with : Option ℕ → ℕ → Trigger
trigger_with None t = Timer (record { 0 = t })
trigger_with (Some n) t = Signal (record { 0 = n })

-- What a name in an INPUT or a SAVE stands for: a signal, or else a timer of the process.
abbrev pub trigger_of : Scope → Identifier → Trigger
trigger_of c id =
    trigger_with (number_of (signal_names c.block) id.name)
    (number_or_zero (number_of (timers_of c.process) id.name))

-- The sorts of the parameters of the signal with this number, if there is one.
abbrev pub parameters_by : List DraftSignal → Option ℕ → List Sort
parameters_by ss None = []
parameters_by ss (Some n) = parameters_of (slice_get ss n)

-- The sorts of the parameters of the signal with this name; a timer has none.
abbrev pub trigger_sorts : Scope → Identifier → List Sort
trigger_sorts c id = map sort_of_tree (parameter_sorts c.block id.name)
