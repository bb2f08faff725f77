-- The refusal of a block.
use Rattle.std.specs.Prelude.{◌≡◌, [], None, Some, Contains, All, ⊤}
use Rattle.sdl_tables.specs.Plain.{PlainBlock, PlainProcess}
use Rattle.sdl_tables.specs.Names.{processes_of}
use Rattle.sdl_sound.specs.Names.{unknown_names}
use Rattle.sdl_sound.specs.Ends.{stray_ends}
use Rattle.sdl_sound.specs.Limits.{first_limit}
use Rattle.sdl_sound.specs.Sorts.{wrong_sorts}
use Rattle.sdl_sound.specs.Divisors.{bad_divisors}
use Rattle.sdl_sound.specs.Receivers.{without_receiver, with_two_receivers}
use Rattle.sdl_sound.specs.Joins.{join_cycles}
use Rattle.sdl_sound.specs.Decisions.{unanswered}
use Rattle.sdl_tables.specs.Scopes.{double_names}
use Rattle.sdl_sound.specs.Paths.{ReadsUnset, IsShortest, IsFirstWith}
use Rattle.sdl_sound.specs.PathOrder.{IsFirst}
use Rattle.sdl_sound.specs.Spellings.{AreDeclared}
use Rattle.sdl_sound.specs.declared.fault.RuleFault.{RuleFault}
use Rattle.sdl_sound.specs.declared.fault.RuleFault.TheVariants.{DoubleName, UnknownName, WrongSort}
use Rattle.sdl_sound.specs.declared.fault.RuleFault.TheVariants.{NoState, NoReceiver, TwoReceivers}
use Rattle.sdl_sound.specs.declared.fault.RuleFault.TheVariants.{JoinCycle, NoAnswer, BadDivisor}
use Rattle.sdl_sound.specs.declared.fault.RuleFault.TheVariants.{Limit, Unset, NoMemory}
use Rattle.sdl_tables.specs.declared.fault.TableFault.{TableFault}
use Rattle.sdl_tables.specs.declared.fault.TableFault.TheVariants.{DoubleName as NoTable}
use Rattle.sdl_tables.specs.declared.fault.TableFault.TheVariants.{NoMemory as NoRoom}

-- The rules by number. Each predicate states that neither its own rule nor one with a lesser number
-- is broken.

abbrev pub IsDistinct : PlainBlock → Type 0
IsDistinct b = double_names b ≡ []

abbrev pub IsKnown : PlainBlock → Type 0
IsKnown b = IsDistinct b × (unknown_names b ≡ [])

abbrev pub IsSorted : PlainBlock → Type 0
IsSorted b = IsKnown b × (wrong_sorts b ≡ [])

abbrev pub IsEnded : PlainBlock → Type 0
IsEnded b = IsSorted b × (stray_ends b ≡ [])

abbrev pub IsReceived : PlainBlock → Type 0
IsReceived b = IsEnded b × (without_receiver b ≡ [])

abbrev pub IsSingle : PlainBlock → Type 0
IsSingle b = IsReceived b × (with_two_receivers b ≡ [])

abbrev pub IsJoined : PlainBlock → Type 0
IsJoined b = IsSingle b × (join_cycles b ≡ [])

abbrev pub IsAnswered : PlainBlock → Type 0
IsAnswered b = IsJoined b × (unanswered b ≡ [])

abbrev pub IsDivided : PlainBlock → Type 0
IsDivided b = IsAnswered b × (bad_divisors b ≡ [])

abbrev pub IsWithin : PlainBlock → Type 0
IsWithin b = IsDivided b × (first_limit b ≡ None)

-- A refusal names a rule that is broken at its place. No rule with a lesser number is broken
-- anywhere. For S11 the variable and path are spelled as declared; no path of any process that
-- reads a variable unset has fewer transitions, no process before has one as short; no path of this
-- process that is as short comes first in the text.
abbrev pub Refuses : PlainBlock → RuleFault → Type 0
Refuses b (DoubleName at) = Contains (double_names b) at
Refuses b (UnknownName at) = IsDistinct b × Contains (unknown_names b) at
Refuses b (WrongSort at) = IsKnown b × Contains (wrong_sorts b) at
Refuses b (NoState at) = IsSorted b × Contains (stray_ends b) at
Refuses b (NoReceiver at) = IsEnded b × Contains (without_receiver b) at
Refuses b (TwoReceivers at) = IsReceived b × Contains (with_two_receivers b) at
Refuses b (JoinCycle at) = IsSingle b × Contains (join_cycles b) at
Refuses b (NoAnswer at) = IsJoined b × Contains (unanswered b) at
Refuses b (BadDivisor at) = IsAnswered b × Contains (bad_divisors b) at
Refuses b (Limit which) = IsDivided b × (first_limit b ≡ Some which)
Refuses b (Unset x path) =
    IsWithin b × (p : PlainProcess) × Contains (processes_of b) p × ReadsUnset p path.steps.items x
    × AreDeclared b p x path.steps.items
    × All (λ q. IsShortest q path.steps.items) (processes_of b)
    × IsFirstWith (processes_of b) p path.steps.items
    × IsFirst p path.steps.items
Refuses b NoMemory = ⊤

-- the refusal if the tables can't be built
abbrev pub rule_fault : TableFault → RuleFault
rule_fault (NoTable at) = DoubleName at
rule_fault NoRoom = NoMemory
