-- The printed form of warnings.
use Rattle.std.specs.Prelude.{ℕ, List, ◌++◌, codes}
use Rattle.sdl_warnings.specs.declared.warning.Kind.{Kind}
use Rattle.sdl_warnings.specs.declared.warning.Kind.TheVariants.{UnreachedState, UnsentInput}
use Rattle.sdl_warnings.specs.declared.warning.Kind.TheVariants.{UntakenTimer, UnsetTimer}
use Rattle.sdl_warnings.specs.declared.warning.Kind.TheVariants.{UnusedVariable, AssignedVariable}
use Rattle.sdl_warnings.specs.declared.warning.Kind.TheVariants.{UnroutedSignal, UntakenSignal}
use Rattle.sdl_warnings.specs.declared.warning.Kind.TheVariants.{VainSave, SpentAnswer}
use Rattle.sdl_warnings.specs.declared.warning.Kind.TheVariants.{FixedDecision, UnusedSynonym}
use Rattle.sdl_warnings.specs.declared.warning.Kind.TheVariants.{UnreachedConnection}

-- the code and the name of a kind
abbrev pub kind_name : Kind → List ℕ
kind_name (UnreachedState state) = codes "A1 UnreachedState"
kind_name (UnsentInput signal process) = codes "A2 UnsentInput"
kind_name (UntakenTimer timer) = codes "A3 IdleTimer"
kind_name (UnsetTimer timer) = codes "A3 IdleTimer"
kind_name (UnusedVariable variable) = codes "A4 UnreadVariable"
kind_name (AssignedVariable variable) = codes "A4 UnreadVariable"
kind_name (UnroutedSignal signal) = codes "A5 StraySignal"
kind_name (UntakenSignal signal process) = codes "A5 StraySignal"
kind_name (VainSave signal state) = codes "A6 VainSave"
kind_name SpentAnswer = codes "A7 SpentAnswer"
kind_name FixedDecision = codes "A8 FixedDecision"
kind_name (UnusedSynonym synonym) = codes "A9 UnusedSynonym"
kind_name (UnreachedConnection connection) = codes "A10 UnreachedConnection"

-- the sentence
abbrev pub kind_text : Kind → List ℕ
kind_text (UnreachedState state) = codes "no way from START leads to " ++ state
kind_text (UnsentInput signal process) = codes "nobody sends " ++ signal ++ codes " to " ++ process
kind_text (UntakenTimer timer) = timer ++ codes " is set, but no state takes it"
kind_text (UnsetTimer timer) = codes "a state takes " ++ timer ++ codes ", but nothing sets it"
kind_text (UnusedVariable variable) = variable ++ codes " is never read"
kind_text (AssignedVariable variable) = variable ++ codes " is assigned, but never read"
kind_text (UnroutedSignal signal) = codes "no route has " ++ signal
kind_text (UntakenSignal signal process) = process ++ codes " neither takes nor saves " ++ signal
kind_text (VainSave signal state) =
    codes "no way from " ++ state ++ codes " leads to a state that takes " ++ signal
kind_text SpentAnswer = codes "earlier answers take each of its values"
kind_text FixedDecision = codes "the question is a constant"
kind_text (UnusedSynonym synonym) = codes "nothing uses " ++ synonym
kind_text (UnreachedConnection connection) =
    codes "no JOIN of a transition leads to " ++ connection
