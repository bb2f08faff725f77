-- The printed form of limits, control paths and broken rules.
use Rattle.std.specs.Prelude.{ℕ, List, ◌++◌, codes}
use Rattle.std.specs.List.{flat_map}
use Rattle.sdl_sound.specs.declared.fault.Limit.{Limit}
use Rattle.sdl_sound.specs.declared.fault.Limit.TheVariants as limits
use Rattle.sdl_sound.specs.declared.fault.Step.{Step}
use Rattle.sdl_sound.specs.declared.fault.Step.TheVariants.{Start, Input}
use Rattle.sdl_sound.specs.declared.fault.ControlPath.{ControlPath}
use Rattle.sdl_sound.specs.declared.fault.RuleFault.{RuleFault}
use Rattle.sdl_sound.specs.declared.fault.RuleFault.TheVariants.{DoubleName, UnknownName, WrongSort}
use Rattle.sdl_sound.specs.declared.fault.RuleFault.TheVariants.{NoState, NoReceiver, TwoReceivers}
use Rattle.sdl_sound.specs.declared.fault.RuleFault.TheVariants.{JoinCycle, NoAnswer, BadDivisor}
use Rattle.sdl_sound.specs.declared.fault.RuleFault.TheVariants.{Limit as Passed, Unset, NoMemory}

-- the name of the limit
abbrev pub limit_text : Limit → List ℕ
limit_text limits.Processes = codes "Processes"
limit_text limits.States = codes "States"
limit_text limits.Variables = codes "Variables"
limit_text limits.Timers = codes "Timers"
limit_text limits.Signals = codes "Signals"
limit_text limits.Params = codes "Params"
limit_text limits.Pieces = codes "Pieces"
limit_text limits.Piece = codes "Piece"
limit_text limits.Depth = codes "Depth"
limit_text limits.Effects = codes "Effects"
limit_text limits.Instances = codes "Instances"

-- START, or a state and an input separated by `/`
abbrev pub step_text : Step → List ℕ
step_text Start = codes "START"
step_text (Input state signal) = state ++ codes "/" ++ signal

-- a step with a space before it
abbrev pub step_part : Step → List ℕ
step_part step = codes " " ++ step_text step

-- the transitions of a path, with a space before each
abbrev pub path_text : ControlPath → List ℕ
path_text path = flat_map step_part path.steps.items

-- the code and the name of a fault, and the names it holds
abbrev pub fault_text : RuleFault → List ℕ
fault_text (DoubleName place) = codes "S1 DoubleName"
fault_text (UnknownName place) = codes "S2 UnknownName"
fault_text (WrongSort place) = codes "S3 WrongSort"
fault_text (NoState place) = codes "S4 NoState"
fault_text (NoReceiver place) = codes "S5 NoReceiver"
fault_text (TwoReceivers place) = codes "S6 TwoReceivers"
fault_text (JoinCycle place) = codes "S7 JoinCycle"
fault_text (NoAnswer place) = codes "S8 NoAnswer"
fault_text (BadDivisor place) = codes "S9 BadDivisor"
fault_text (Passed limit) = codes "S10 Limit " ++ limit_text limit
fault_text (Unset variable path) = codes "S11 Unset " ++ variable ++ path_text path
fault_text NoMemory = codes "out of memory"
