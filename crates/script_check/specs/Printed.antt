-- The lines that `check` prints, as bytes: names as they are declared, and numbers in decimal.
use Rattle.std.specs.Prelude.{ℕ, List, [], ◌++◌, codes, slice_get, option_map, unwrap_or}
use Rattle.std.specs.List.{flat_map}
use Rattle.std.specs.Fmt.{decimal}
use Rattle.turn_code.specs.declared.draft.Cert.{Cert}
use Rattle.turn_code.specs.declared.draft.Draft.{Draft}
use Rattle.turn_code.specs.declared.draft.DraftSignal.{DraftSignal}
use Rattle.turn_code.specs.declared.draft.DraftProcess.{DraftProcess}
use Rattle.turn_code.specs.declared.draft.DraftState.{DraftState}
use Rattle.turn_code.specs.declared.draft.DraftInput.{DraftInput}
use Rattle.turn_code.specs.declared.draft.Trigger.{Trigger}
use Rattle.turn_code.specs.declared.draft.Trigger.TheVariants.{Signal, Timer}
use Rattle.turn_verify.specs.Printed as loading
pub use Rattle.plain_text.specs.Lines.{line_of}
use Rattle.script_point.specs.TextLimits.{limit_text}
use Rattle.script_point.specs.mtp2_text_types.limits.LimitName.{LimitName}
use Rattle.script_check.specs.declared.sets.SetFault.{SetFault}
use Rattle.script_check.specs.declared.sets.SetFault.TheVariants.{NotRead, NotText, Load}

-- ---- refusals

-- The code and the name of a fault, its details, and its line if it has one.
abbrev pub fault_text : SetFault → List ℕ
fault_text NotRead = codes "not read"
fault_text NotText = codes "F1 NotText"
fault_text (Load fault) = loading.fault_text fault

abbrev pub refusal_line : SetFault → List ℕ
refusal_line fault = line_of (codes "refused " ++ fault_text fault)

-- ---- costs of transitions

abbrev pub costs_text : Cert → List ℕ
costs_text cert =
    codes "budget " ++ decimal cert.budget ++ codes " depth " ++ decimal cert.depth
    ++ codes " effects " ++ decimal cert.effects

-- `refused X2 NoName NAME`, about a limit of a text that is out of its range
abbrev pub limit_line : LimitName → List ℕ
limit_line name = line_of (codes "refused X2 NoName " ++ limit_text name)

-- The name of the signal, or of the timer of a process, that an input takes.
abbrev pub trigger_text : List DraftSignal → List (List ℕ) → Trigger → List ℕ
trigger_text signals timers (Signal n) =
    unwrap_or (option_map (λ (s : DraftSignal). s.name) (slice_get signals n.0)) []
trigger_text signals timers (Timer n) = unwrap_or (slice_get timers n.0) []

-- `PROCESS START budget B depth D effects E`
abbrev pub start_line : DraftProcess → List ℕ
start_line p = line_of (p.name ++ codes " START " ++ costs_text p.start.certificate)

-- `PROCESS STATE/INPUT budget B depth D effects E`
abbrev pub input_line : List DraftSignal → DraftProcess → DraftState → DraftInput → List ℕ
input_line signals p q i =
    line_of (p.name ++ codes " " ++ q.name ++ codes "/" ++ trigger_text signals p.timers i.trigger
    ++ codes " " ++ costs_text i.piece.certificate)

-- The lines of the inputs of a state, in text order.
abbrev pub state_lines : List DraftSignal → DraftProcess → DraftState → List ℕ
state_lines signals p q = flat_map (input_line signals p q) q.inputs

-- The line of START, and those of the states in text order.
abbrev pub process_lines : List DraftSignal → DraftProcess → List ℕ
process_lines signals p = start_line p ++ flat_map (state_lines signals p) p.states

-- The lines of the processes in text order, and the line `accepted`.
abbrev pub set_lines : Draft → List ℕ
set_lines d = flat_map (process_lines d.signals) d.processes ++ line_of (codes "accepted")
