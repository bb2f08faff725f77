-- The draft of a block: its contents, and that its transitions keep every rule.
use Rattle.std.specs.Prelude.{◌≡◌, ℕ, List, length, map, Some}
use Rattle.std.specs.List.{flat_map, AllZip}
use Rattle.sdl_ast.specs.Plain.{PlainBlock, PlainPath}
use Rattle.sdl_ast.specs.declared.expression.Identifier.{Identifier}
use Rattle.sdl_ast.specs.declared.tree.Party as tree_party
use Rattle.sdl_ast.specs.declared.tree.Party.TheVariants as tree_parties
use Rattle.turn_code.specs.declared.input.Party.{Party}
use Rattle.turn_code.specs.declared.input.Party.TheVariants.{Environment, Process}
use Rattle.turn_code.specs.declared.input.Place.{Place}
use Rattle.turn_code.specs.declared.draft.Draft.{Draft}
use Rattle.turn_code.specs.declared.draft.DraftRoute.{DraftRoute}
use Rattle.turn_code.specs.declared.draft.DraftProcess.{DraftProcess}
use Rattle.turn_code.specs.Transitions.{Transition, place_at}
use Rattle.turn_code.specs.Valid.{IsValidTransition}
use Rattle.sdl_tables.specs.Names.{number_of, routes_of, processes_of, signal_names, process_names}
use Rattle.sdl_meaning.specs.Code.{number_or_zero}
use Rattle.sdl_meaning.specs.Declarations.{drafted_signals}
use Rattle.sdl_compile.specs.Drafts.{MatchesProcess}

-- A sender or receiver: the environment, or a process by its number.
abbrev pub drafted_party : List Identifier → tree_party.Party → Party
drafted_party processes tree_parties.Environment = Environment
drafted_party processes (tree_parties.Process id) =
    Process (record { 0 = number_or_zero (number_of processes id.name) })

-- A path with the numbers of its signals.
abbrev pub drafted_path : PlainBlock → PlainPath → DraftRoute
drafted_path b path = record {
  from = drafted_party (process_names b) path.from;
  to = drafted_party (process_names b) path.to;
  signals = map (λ id. record { 0 = number_or_zero (number_of (signal_names b) id.name) })
      path.signals;
}

-- The paths of all routes.
abbrev pub drafted_routes : PlainBlock → List DraftRoute
drafted_routes b = map (drafted_path b) (flat_map (λ r. r.paths) (routes_of b))

-- The draft of a block: signals, paths and processes with their names and numbers in the order of
-- the text. The pieces of each process do what its transitions mean.
pub record MatchesBlock (b : PlainBlock) (d : Draft) : Type 0 where
  pub signals : d.signals ≡ drafted_signals b
  pub routes : d.routes ≡ drafted_routes b
  pub processes : AllZip (MatchesProcess b) (processes_of b) d.processes

-- A draft has the signals and the paths of a block, and as many processes.
pub record Declares (b : PlainBlock) (d : Draft) : Type 0 where
  pub signals : d.signals ≡ drafted_signals b
  pub routes : d.routes ≡ drafted_routes b
  pub processes : length d.processes ≡ length (processes_of b)

-- In each draft with the declarations of the block, the transitions of the process with this number
-- keep every rule.
abbrev pub IsValidProcess : PlainBlock → ℕ → DraftProcess → Type 0
IsValidProcess b n p =
    (d : Draft) (s : Place) (i : ℕ) (t : Transition) → Declares b d
    → place_at d.signals n p s i ≡ Some t → IsValidTransition d t
