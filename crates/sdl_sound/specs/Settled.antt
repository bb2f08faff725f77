-- The variables that are set whenever a process is in a state. A set of variables is a number: bit
-- v stands for variable v.
use Rattle.std.specs.Prelude.{◌≡◌, ℕ, ◌<◌, true, false, List, ◌++◌, Option, Some, length, All}
use Rattle.std.specs.Prelude.{slice_get}
use Rattle.std.specs.List.{AllZip}
use Rattle.std.specs.Int.{bit_at}
use Rattle.sdl_tables.specs.Plain.{PlainProcess}
use Rattle.sdl_tables.specs.sdl_ast_types.expression.Identifier.{Identifier}
use Rattle.sdl_tables.specs.Names.{number_of, variable_names, variables_of, states_of, Input}
use Rattle.sdl_tables.specs.Names.{inputs_by_state}
use Rattle.sdl_sound.specs.Paths.{Event, IsWalk, Transition, start_transition, input_transition}
use Rattle.sdl_sound.specs.Paths.{reads_first, sets_in}

-- A transition begins with the variables `before` set, and `sets` are those of the states. If a
-- walk reads a variable before setting it, the variable is in `before`. If a variable is in the set
-- of the state where a walk ends, it is in `before` or the walk sets it.
pub record IsSettled (p : PlainProcess) (sets : List ℕ) (before : ℕ) (t : Transition) : Type 0 where
  pub reads :
      (events : List Event) (end : Option (List ℕ)) (v : ℕ) (id : Identifier)
      → IsWalk p t.text events end
      → slice_get (variable_names p) v ≡ Some id → reads_first (t.first ++ events) id.name ≡ true
      → bit_at before v ≡ 1
  pub states :
      (events : List Event) (s : List ℕ) (q set v : ℕ) (id : Identifier)
      → IsWalk p t.text events (Some s)
      → number_of (states_of p) s ≡ Some q → slice_get sets q ≡ Some set
      → slice_get (variable_names p) v ≡ Some id
      → bit_at set v ≡ 1 → sets_in (t.first ++ events) id.name ≡ false → bit_at before v ≡ 1

-- For each state of a process, by number, the variables that are set whenever the process is in it.
-- Before START none is set; the initial values are set first in its transition.
pub record AreSettled (p : PlainProcess) (sets : List ℕ) : Type 0 where
  pub count : length sets ≡ length (states_of p)
  pub declared : All (λ set. (v : ℕ) → bit_at set v ≡ 1 → v < length (variables_of p)) sets
  pub start : IsSettled p sets 0 (start_transition p)
  pub inputs :
      AllZip (λ (set : ℕ) (is : List Input).
      All (λ i. IsSettled p sets set (input_transition i)) is) sets (inputs_by_state p)
