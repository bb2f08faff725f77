-- The answers of the searches over all processes.
use Rattle.std.specs.Prelude.{ℕ, List, All, Contains, Result, Ok, Err}
use Rattle.std.specs.List.{AllZip}
use Rattle.std.specs.Global.{Vec}
use Rattle.sdl_ast.specs.Plain.{PlainProcess, PlainBlock}
use Rattle.sdl_tables.specs.Names.{processes_of}
use Rattle.sdl_sound.specs.Paths.{ReadsUnset, IsShortest, IsFirstWith, NeverReadsUnset}
use Rattle.sdl_sound.specs.PathOrder.{IsFirst}
use Rattle.sdl_sound.specs.Settled.{AreSettled}
use Rattle.sdl_sound.specs.Spellings.{AreDeclared}
use Rattle.sdl_unset.specs.declared.settled.Unset.{Unset}

-- A path reads the variable unset, with the names as they are declared.
abbrev pub IsUnset : PlainBlock → PlainProcess → Unset → Type 0
IsUnset b p u =
    ReadsUnset p u.path.steps.items u.variable × AreDeclared b p u.variable u.path.steps.items

-- The sets of the states of a process, if no path of it reads a variable unset; or else the first
-- of the shortest paths that do so.
abbrev pub IsSurvey : PlainBlock → PlainProcess → Result (Vec ℕ) Unset → Type 0
IsSurvey b p (Ok sets) = AreSettled p sets.items × NeverReadsUnset p
IsSurvey b p (Err u) =
    IsUnset b p u × IsShortest p u.path.steps.items × IsFirst p u.path.steps.items

-- For each process, the sets of its states.
abbrev pub AllSettled : List PlainProcess → List (Vec ℕ) → Type 0
AllSettled ps sets = AllZip (λ p (v : Vec ℕ). AreSettled p v.items) ps sets

-- As `IsSurvey`, for all processes.
abbrev pub AreSurveys : PlainBlock → Result (Vec (Vec ℕ)) Unset → Type 0
AreSurveys b (Ok sets) =
    AllSettled (processes_of b) sets.items × All NeverReadsUnset (processes_of b)
AreSurveys b (Err u) =
    (p : PlainProcess) × Contains (processes_of b) p × IsUnset b p u
    × All (λ q. IsShortest q u.path.steps.items) (processes_of b)
    × IsFirstWith (processes_of b) p u.path.steps.items × IsFirst p u.path.steps.items
