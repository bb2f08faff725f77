-- The graph of a process: which variables the walks of each transition read and leave unset, by
-- number.
use Rattle.std.specs.Prelude.{◌≡◌, ℕ, true, List, Some, slice_get, ◌↔◌}
use Rattle.std.specs.List.{AllZip}
use Rattle.std.specs.Global.{Vec}
use Rattle.sdl_unset.specs.declared.paths.Summary.{Summary}
use Rattle.sdl_unset.specs.declared.paths.Graph.{Graph}
use Rattle.sdl_unset.specs.Graph.{has, Passes}
use Rattle.sdl_unset.specs.Order.{AreSorted}
use Rattle.sdl_ast.specs.Plain.{PlainProcess}
use Rattle.sdl_ast.specs.declared.expression.Identifier.{Identifier}
use Rattle.sdl_tables.specs.Names.{variable_names, Input, inputs_by_state}
use Rattle.sdl_sound.specs.Paths.{Transition, start_transition, input_transition}
use Rattle.sdl_sound.specs.Laws.{Reads, Keeps}

-- The summary of a transition: the variables that its walks read unset, and the states in which
-- they leave each variable unset. Each variable is taken by itself: one passage to a state may
-- stand for many walks.
pub record IsSummaryOf (p : PlainProcess) (t : Transition) (summary : Summary) : Type 0 where
  pub reads : (v : ℕ) (id : Identifier) → slice_get (variable_names p) v ≡ Some id
      → (has summary.reads v ≡ true) ↔ Reads p t id.name
  pub passes : (v q : ℕ) (id : Identifier) → slice_get (variable_names p) v ≡ Some id
      → Passes summary v q ↔ Keeps p t id.name q
  pub sorted : AreSorted summary.passages.items

-- The graph of a process: the summaries of START and of each input, by state.
pub record IsGraphOf (p : PlainProcess) (g : Graph) : Type 0 where
  pub start : IsSummaryOf p (start_transition p) g.start
  pub states :
      AllZip (λ (is : List Input) (v : Vec Summary).
      AllZip (λ i s. IsSummaryOf p (input_transition i) s) is v.items) (inputs_by_state p)
      g.states.items
