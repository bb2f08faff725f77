-- The fates of the variables of a process, and the names of a path by numbers.
use Rattle.std.specs.Prelude.{◌≡◌, ℕ, ◌<◌, Bool, true, false, not, List, [], Option, Some, length}
use Rattle.std.specs.Prelude.{slice_get, if◌then◌else◌, ⊤}
use Rattle.std.specs.Option.{option_map_or, option_and_then}
use Rattle.std.specs.Global.{Vec}
use Rattle.sdl_unset.specs.declared.paths.Graph.{Graph}
use Rattle.sdl_unset.specs.declared.paths.Fate.{Fate}
use Rattle.sdl_unset.specs.declared.paths.Fate.TheVariants.{Unset, Set}
use Rattle.sdl_unset.specs.declared.paths.Step as number
use Rattle.sdl_unset.specs.declared.paths.Step.TheVariants.{Start as First, Input as By}
use Rattle.sdl_unset.specs.Graph.{IsClosedSet, ReadsUnset, IsShortest}
use Rattle.sdl_unset.specs.Order.{NotAfter, IsFirst}
use Rattle.sdl_ast.specs.Plain.{PlainProcess, PlainBlock}
use Rattle.sdl_ast.specs.declared.expression.Identifier.{Identifier}
use Rattle.sdl_tables.specs.Names.{same_name, number_of, variables_of, timers_of, states_of, Input}
use Rattle.sdl_tables.specs.Names.{inputs_of, signal_named, stimulus_of}
use Rattle.sdl_unset.specs.Graphs.{IsGraphOf}
use Rattle.sdl_sound.specs.declared.fault.Step.{Step}
use Rattle.sdl_sound.specs.declared.fault.Step.TheVariants.{Start, Input as Takes}

-- The fate of variable v is its path: the path reads it unset, and no path with fewer steps does,
-- nor one as long that comes first. Or it is marks: no path reads it unset, and they are closed.
abbrev pub IsFate : Graph → ℕ → Fate → Type 0
IsFate g v (Unset path) =
    ReadsUnset g v path.items × IsShortest g v path.items × IsFirst g v path.items
IsFate g v (Set marks) =
    ((path : List number.Step) → ReadsUnset g v path → ⊥) × IsClosedSet g v marks.items

-- the fate of each variable of a process
pub record AreFates (p : PlainProcess) (fates : List Fate) : Type 0 where
  pub graph : Graph
  pub is : IsGraphOf p graph
  pub count : length fates ≡ length (variables_of p)
  pub each : (v : ℕ) (f : Fate) → slice_get fates v ≡ Some f → IsFate graph v f

-- whether a variable is set in a state
abbrev pub is_set_in : Fate → ℕ → Bool
is_set_in (Unset path) q = false
is_set_in (Set marks) q = option_map_or not (slice_get marks.items q) false

-- the bit of a variable in the set of a state
abbrev pub set_bit : List Fate → ℕ → ℕ → ℕ
set_bit fates q v = option_map_or (λ f. if is_set_in f q then 1 else 0) (slice_get fates v) 0

-- The process has this step.
abbrev pub IsStep : PlainProcess → number.Step → Type 0
IsStep p First = ⊤
IsStep p (By q i) = (q < length (states_of p)) × (i < length (inputs_of p q))

-- The step by numbers has these names.
abbrev pub IsNamed : PlainProcess → number.Step → Step → Type 0
IsNamed p First n = n ≡ Start
IsNamed p (By q i) n =
    (id : Identifier) × (slice_get (states_of p) q ≡ Some id)
    × (inp : Input) × (slice_get (inputs_of p q) i ≡ Some inp)
    × (signal : List ℕ) × (same_name signal (stimulus_of inp).name ≡ true)
    × (n ≡ Takes id.name signal)

-- The timer with this name.
abbrev pub timer_named : PlainProcess → List ℕ → Option Identifier
timer_named p x = option_and_then (slice_get (timers_of p)) (number_of (timers_of p) x)

-- The name of a signal or timer as it is declared; if neither is declared, `x` itself.
abbrev pub declared_name : PlainBlock → PlainProcess → List ℕ → List ℕ
declared_name b p x =
    option_map_or (λ s. s.name.name) (signal_named b x)
    (option_map_or (λ id. id.name) (timer_named p x) x)

-- A step by names spells its signal or timer as that is declared.
abbrev pub IsSpelled : PlainBlock → PlainProcess → number.Step → Step → Type 0
IsSpelled b p First n = ⊤
IsSpelled b p (By q i) n =
    (inp : Input) → slice_get (inputs_of p q) i ≡ Some inp → (state signal : List ℕ)
    → n ≡ Takes state signal
    → signal ≡ declared_name b p (stimulus_of inp).name

-- a path reads this variable unset
abbrev pub IsUnsetAt : List Fate → ℕ → Type 0
IsUnsetAt fates v = (path : Vec number.Step) × (slice_get fates v ≡ Some (Unset path))

-- The path that reads a variable unset; empty if there is none.
abbrev pub path_of : Fate → List number.Step
path_of (Unset path) = path.items
path_of (Set marks) = []

abbrev pub fate_path : List Fate → ℕ → List number.Step
fate_path fates v = option_map_or path_of (slice_get fates v) []

-- No variable that is read unset has a path before the path of v.
abbrev pub HasFirst : List Fate → ℕ → Type 0
HasFirst fates v = (w : ℕ) → IsUnsetAt fates w → NotAfter (fate_path fates v) (fate_path fates w)

-- No path reads any of these variables unset.
abbrev pub AreSet : List Fate → Type 0
AreSet fates = (v : ℕ) (path : Vec number.Step) → slice_get fates v ≡ Some (Unset path) → ⊥
