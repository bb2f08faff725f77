-- Code, effects, ends and inputs of one set, renamed to the numbers of another.
use Rattle.std.specs.Prelude.{
  ◌≡◌,
  ℕ,
  Bool,
  true,
  false,
  ◌&&◌,
  List,
  [],
  ◌∷◌,
  Option,
  Some,
  None,
  option_map,
}
use Rattle.turn_code.specs.declared.numbers.ProcessNumber.{ProcessNumber}
use Rattle.turn_code.specs.declared.numbers.SignalNumber.{SignalNumber}
use Rattle.turn_code.specs.declared.value.Value.{Value}
use Rattle.turn_code.specs.declared.input.Party.{Party}
use Rattle.turn_code.specs.declared.input.Party.TheVariants.{Environment, Process}
use Rattle.turn_code.specs.declared.input.Address.{Address}
use Rattle.turn_code.specs.declared.instruction.Receiver.{Receiver}
use Rattle.turn_code.specs.declared.instruction.Receiver.TheVariants.{Party as ToParty}
use Rattle.turn_code.specs.declared.instruction.Receiver.TheVariants.{Sender as ToSender}
use Rattle.turn_code.specs.declared.instruction.Instruction.{Instruction}
use Rattle.turn_code.specs.declared.instruction.Instruction.TheVariants.{Int as PutInt}
use Rattle.turn_code.specs.declared.instruction.Instruction.TheVariants.{Bool as PutBool, Load}
use Rattle.turn_code.specs.declared.instruction.Instruction.TheVariants.{Store, Param, Add, Sub}
use Rattle.turn_code.specs.declared.instruction.Instruction.TheVariants.{Mul, Div, Mod, Rem, Neg}
use Rattle.turn_code.specs.declared.instruction.Instruction.TheVariants.{Not, And, Or, Xor, Same}
use Rattle.turn_code.specs.declared.instruction.Instruction.TheVariants.{Compare, Case, CaseWithin}
use Rattle.turn_code.specs.declared.instruction.Instruction.TheVariants.{Pick, Drop, Jump, Output}
use Rattle.turn_code.specs.declared.instruction.Instruction.TheVariants.{Set, Reset, Next, Stop}
use Rattle.turn_code.specs.contracts.instruction.InstructionPartialEq.TheImpl as instruction_eq
use Rattle.draw_diff.specs.Names.{Sides, moved_signal, moved_process, moved_state, moved_timer}
use Rattle.draw_diff.specs.Names.{moved_variable}

-- ---- senders and receivers of signals

abbrev pub renamed_party : Sides → Party → Option Party
renamed_party s Environment = Some Environment
renamed_party s (Process n) =
    option_map (λ m. Process (record { 0 = m })) (moved_process s n.0)

abbrev pub renamed_receiver : Sides → Receiver → Option Receiver
renamed_receiver s (ToParty p) = option_map (λ q. ToParty q) (renamed_party s p)
renamed_receiver s ToSender = Some ToSender

-- ---- code

abbrev pub sent_to : ℕ → Option ℕ → Option Receiver → Option Instruction
sent_to count None r = None
sent_to count (Some n) None = None
sent_to count (Some n) (Some r) = Some (Output (record { 0 = n }) r count)

-- an instruction with the other side's numbers; none if a name is missing there
abbrev pub renamed : Sides → Instruction → Option Instruction
renamed s (PutInt z) = Some (PutInt z)
renamed s (PutBool b) = Some (PutBool b)
renamed s (Load v) = option_map (λ w. Load (record { 0 = w })) (moved_variable s v.0)
renamed s (Store v) = option_map (λ w. Store (record { 0 = w })) (moved_variable s v.0)
renamed s (Param j) = Some (Param j)
renamed s Add = Some Add
renamed s Sub = Some Sub
renamed s Mul = Some Mul
renamed s (Div z) = Some (Div z)
renamed s (Mod z) = Some (Mod z)
renamed s (Rem z) = Some (Rem z)
renamed s Neg = Some Neg
renamed s Not = Some Not
renamed s And = Some And
renamed s Or = Some Or
renamed s Xor = Some Xor
renamed s Same = Some Same
renamed s (Compare r) = Some (Compare r)
renamed s (Case r z p) = Some (Case r z p)
renamed s (CaseWithin p a b) = Some (CaseWithin p a b)
renamed s (Pick p q) = Some (Pick p q)
renamed s Drop = Some Drop
renamed s (Jump p) = Some (Jump p)
renamed s (Output n r c) = sent_to c (moved_signal s n.0) (renamed_receiver s r)
renamed s (Set t) = option_map (λ u. Set (record { 0 = u })) (moved_timer s t.0)
renamed s (Reset t) = option_map (λ u. Reset (record { 0 = u })) (moved_timer s t.0)
renamed s (Next q) = option_map (λ r. Next (record { 0 = r })) (moved_state s q.0)
renamed s Stop = Some Stop

-- ---- code that is the same after renaming

abbrev pub same_instruction : Instruction → Instruction → Bool
same_instruction i j = (instruction_eq.ghosts).eq i j

-- whether the renamed instruction exists and equals this one
abbrev pub is_there : Option Instruction → Instruction → Bool
is_there None j = false
is_there (Some i) j = same_instruction i j

abbrev pub is_renamed : Sides → Instruction → Instruction → Bool
is_renamed s i j = is_there (renamed s i) j

-- whether each instruction of the old code, renamed, equals that of the new code
abbrev pub are_renamed : Sides → List Instruction → List Instruction → Bool
are_renamed s [] [] = true
are_renamed s [] (j ∷ js) = false
are_renamed s (i ∷ is) [] = false
are_renamed s (i ∷ is) (j ∷ js) = is_renamed s i j && are_renamed s is js
