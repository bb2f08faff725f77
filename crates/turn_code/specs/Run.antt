-- What code does: one instruction on a list of values with their sorts, and a run of as many
-- instructions as a turn may take.
use Rattle.std.specs.Prelude.{◌≡◌, ℕ, zero, suc, ◌+◌, ℤ, pos, ◌+ℤ◌, ◌-ℤ◌, ◌*ℤ◌, neg_ℤ, int_lt}
use Rattle.std.specs.Prelude.{int_div, int_rem, Bool as Truth, not, ◌&&◌, ◌||◌, if◌then◌else◌}
use Rattle.std.specs.Prelude.{nat_le, List, [], ◌∷◌, ◌++◌, length, take, drop, reverse, Option}
use Rattle.std.specs.Prelude.{Some, None, slice_get, slice_set}
use Rattle.std.specs.Int.{int_rem_euclid}
use Rattle.plain_laws.specs.Limits.{MOST_INSTRUCTIONS}
use Rattle.turn_code.specs.Values.{wrap, holds, is_between, differ}
use Rattle.turn_code.specs.declared.value.Value.{Value}
use Rattle.turn_code.specs.declared.value.Value.TheVariants.{Int, Bool}
use Rattle.turn_code.specs.declared.numbers.SignalNumber.{SignalNumber}
use Rattle.turn_code.specs.declared.instruction.Receiver.{Receiver}
use Rattle.turn_code.specs.declared.instruction.Receiver.TheVariants.{Party as ToParty}
use Rattle.turn_code.specs.declared.instruction.Receiver.TheVariants.{Sender as ToSender}
use Rattle.turn_code.specs.declared.instruction.Instruction.{Instruction}
use Rattle.turn_code.specs.declared.instruction.Instruction.TheVariants.{Int as PutInt}
use Rattle.turn_code.specs.declared.instruction.Instruction.TheVariants.{Bool as PutBool, Load}
use Rattle.turn_code.specs.declared.instruction.Instruction.TheVariants.{Store, Param, Add, Sub}
use Rattle.turn_code.specs.declared.instruction.Instruction.TheVariants.{Mul, Div, Mod, Rem, Neg}
use Rattle.turn_code.specs.declared.instruction.Instruction.TheVariants.{Not, And, Or, Xor, Same}
use Rattle.turn_code.specs.declared.instruction.Instruction.TheVariants.{Compare, Case, CaseWithin}
use Rattle.turn_code.specs.declared.instruction.Instruction.TheVariants.{Pick, Drop, Jump, Output}
use Rattle.turn_code.specs.declared.instruction.Instruction.TheVariants.{Set, Reset, Next, Stop}
use Rattle.turn_code.specs.declared.input.Input.{Input}
use Rattle.turn_code.specs.declared.input.Party.{Party}
use Rattle.turn_code.specs.declared.input.Address.{Address}
use Rattle.turn_code.specs.declared.effect.Effect.{Effect}
use Rattle.turn_code.specs.declared.effect.Effect.TheVariants as effect
use Rattle.turn_code.specs.declared.machine.End.{End}
use Rattle.turn_code.specs.declared.machine.End.TheVariants as end
use Rattle.turn_code.specs.declared.trouble.Trouble.{Trouble}
use Rattle.turn_code.specs.declared.trouble.Trouble.TheVariants.{Unset, WrongSort, Underflow}
use Rattle.turn_code.specs.declared.trouble.Trouble.TheVariants.{NoReceiver, Outside}

-- the progress of a run so far: its variables, none for one that isn't set, its effects in order,
-- and the number of instructions that it took
pub record Progress : Type 0 where
  pub variables : List (Option Value)
  pub effects : List Effect
  pub count : ℕ

-- the outcome of one instruction: the next place with the operands, the topmost first; an end; or
-- trouble, if the code doesn't say how to go on
pub data After : Type 0 where
  goes : ℕ → List Value → Progress → After
  ends : End → Progress → After
  stuck : Trouble → After

abbrev pub tick : Progress → Progress
tick s = record { variables = s.variables; effects = s.effects; count = s.count + 1 }

abbrev pub with_variables : Progress → List (Option Value) → Progress
with_variables s vs = record { variables = vs; effects = s.effects; count = s.count }

abbrev pub with_effect : Progress → Effect → Progress
with_effect s e = record { variables = s.variables; effects = s.effects ++ e ∷ []; count = s.count }

-- a variable that isn't declared is never set
abbrev pub loaded : ℕ → List Value → Progress → Option (Option Value) → After
loaded k os s None = stuck Unset
loaded k os s (Some None) = stuck Unset
loaded k os s (Some (Some x)) = goes k (x ∷ os) s

abbrev pub stored : ℕ → List Value → Progress → ℕ → Value → Option (Option Value) → After
stored k os s v x None = stuck Unset
stored k os s v x (Some old) = goes k os (with_variables s (slice_set s.variables v (Some x)))

abbrev pub given : ℕ → List Value → Progress → Option Value → After
given k os s None = stuck Underflow
given k os s (Some x) = goes k (x ∷ os) s

-- ---- taking operands: `go` continues with those taken and with those below them

abbrev pub on_top : List Value → (Value → List Value → After) → After
on_top [] go = stuck Underflow
on_top (x ∷ os) go = go x os

abbrev pub on_integer : List Value → (ℤ → List Value → After) → After
on_integer [] go = stuck Underflow
on_integer (Int x ∷ os) go = go x os
on_integer (Bool x ∷ os) go = stuck WrongSort

abbrev pub on_boolean : List Value → (Truth → List Value → After) → After
on_boolean [] go = stuck Underflow
on_boolean (Bool x ∷ os) go = go x os
on_boolean (Int x ∷ os) go = stuck WrongSort

-- the topmost is the right operand
abbrev pub on_integers : List Value → (ℤ → ℤ → List Value → After) → After
on_integers [] go = stuck Underflow
on_integers (y ∷ []) go = stuck Underflow
on_integers (Int y ∷ Int x ∷ os) go = go x y os
on_integers (Int y ∷ Bool x ∷ os) go = stuck WrongSort
on_integers (Bool y ∷ x ∷ os) go = stuck WrongSort

abbrev pub on_booleans : List Value → (Truth → Truth → List Value → After) → After
on_booleans [] go = stuck Underflow
on_booleans (y ∷ []) go = stuck Underflow
on_booleans (Bool y ∷ Bool x ∷ os) go = go x y os
on_booleans (Bool y ∷ Int x ∷ os) go = stuck WrongSort
on_booleans (Int y ∷ x ∷ os) go = stuck WrongSort

-- n operands as a list, the topmost last
abbrev pub on_operands : ℕ → List Value → (List Value → List Value → After) → After
on_operands n os go =
    if nat_le n (length os) then go (reverse (take n os)) (drop n os) else stuck Underflow

-- ---- the kinds of instructions; k is the place after the instruction

-- an operation on two Integers; the result wraps to 32 bits
abbrev pub on_two : (ℤ → ℤ → ℤ) → ℕ → List Value → Progress → After
on_two f k os s = on_integers os (λ x y rest. goes k (Int (wrap (f x y)) ∷ rest) s)

-- an operation on an Integer and a divisor, which is 1 or more
abbrev pub divided : (ℤ → ℤ → ℤ) → ℤ → ℕ → List Value → Progress → After
divided f z k os s =
    on_integer os (λ x rest. if int_lt (pos 0) z then goes k (Int (f x z) ∷ rest) s
    else stuck WrongSort)

-- an operation on two Booleans
abbrev pub joined : (Truth → Truth → Truth) → ℕ → List Value → Progress → After
joined f k os s = on_booleans os (λ x y rest. goes k (Bool (f x y) ∷ rest) s)

-- an Integer that passes the test is taken and the code goes on at j; any other stays
abbrev pub tested : (ℤ → Truth) → ℕ → ℕ → List Value → Progress → After
tested f j k os s = on_integer os (λ x rest. if f x then goes j rest s else goes k (Int x ∷ rest) s)

-- the address of a party, without an instance
abbrev pub of_party : Party → Address
of_party p = record { party = p; instance = None }

-- the receiver of a signal: a party, or the sender; none if it goes to the sender and there is no
-- sender
abbrev pub address_of : Receiver → Option Address → Option Address
address_of (ToParty p) sender = Some (of_party p)
address_of ToSender sender = sender

abbrev pub sending : SignalNumber → Address → List Value → Effect
sending n p vs =
    effect.Output (record { signal = n; receiver = p; parameters = record { items = vs } })

abbrev pub sent : SignalNumber → Option Address → List Value → ℕ → List Value → Progress → After
sent n None vs k os s = stuck NoReceiver
sent n (Some p) vs k os s = goes k os (with_effect s (sending n p vs))

-- one instruction on an input; k is the place after it, and s counts the instruction already
abbrev pub act : Instruction → Input → ℕ → List Value → Progress → After
act (PutInt z) x k os s = goes k (Int z ∷ os) s
act (PutBool b) x k os s = goes k (Bool b ∷ os) s
act (Load v) x k os s = loaded k os s (slice_get s.variables v.0)
act (Store v) x k os s = on_top os (λ y rest. stored k rest s v.0 y (slice_get s.variables v.0))
act (Param j) x k os s = given k os s (slice_get x.parameters.items j)
act Add x k os s = on_two (λ x y. x +ℤ y) k os s
act Sub x k os s = on_two (λ x y. x -ℤ y) k os s
act Mul x k os s = on_two (λ x y. x *ℤ y) k os s
act (Div z) x k os s = divided int_div z k os s
act (Mod z) x k os s = divided int_rem_euclid z k os s
act (Rem z) x k os s = divided int_rem z k os s
act Neg x k os s = on_integer os (λ y rest. goes k (Int (wrap (neg_ℤ y)) ∷ rest) s)
act Not x k os s = on_boolean os (λ b rest. goes k (Bool (not b) ∷ rest) s)
act And x k os s = joined (λ a b. a && b) k os s
act Or x k os s = joined (λ a b. a || b) k os s
act Xor x k os s = joined differ k os s
act Same x k os s = joined (λ a b. not (differ a b)) k os s
act (Compare r) x k os s = on_integers os (λ a b rest. goes k (Bool (holds r a b) ∷ rest) s)
act (Case r z p) x k os s = tested (λ y. holds r y z) p.0 k os s
act (CaseWithin p a b) x k os s = tested (is_between a b) p.0 k os s
act (Pick p q) x k os s = on_boolean os (λ b rest. goes (if b then q.0 else p.0) rest s)
act Drop x k os s = on_integer os (λ y rest. goes k rest s)
act (Jump p) x k os s = goes p.0 os s
act (Output n r c) x k os s =
    on_operands c os (λ vs rest. sent n (address_of r x.sender) vs k rest s)
act (Set t) x k os s = on_integer os (λ y rest. goes k rest (with_effect s (effect.Set t y)))
act (Reset t) x k os s = goes k os (with_effect s (effect.Reset t))
act (Next q) x k os s = ends (end.State q) s
act Stop x k os s = ends end.Stop s

abbrev pub act_if : Option Instruction → Input → ℕ → List Value → Progress → After
act_if None x k os s = stuck Outside
act_if (Some i) x k os s = act i x k os s

-- the instruction at place k of the code, on an input
abbrev pub step : List Instruction → Input → ℕ → List Value → Progress → After
step code x k os s = act_if (slice_get code k) x (k + 1) os (tick s)

-- the count after an instruction, unless it is stuck
abbrev pub CountIs : ℕ → After → Type 0
CountIs c (goes k os s) = s.count ≡ c
CountIs c (ends e s) = s.count ≡ c
CountIs c (stuck x) = Unit {0}

-- how a run of at most some number of instructions ends
pub data Ran : Type 0 where
  ended : End → Progress → Ran
  got_stuck : Trouble → Ran
  unfinished : Ran

abbrev pub go_on : (ℕ → List Value → Progress → Ran) → After → Ran
go_on next (goes k os s) = next k os s
go_on next (ends e s) = ended e s
go_on next (stuck x) = got_stuck x

-- at most n instructions from place k on
abbrev pub exec : List Instruction → Input → ℕ → ℕ → List Value → Progress → Ran
exec code x zero k os s = unfinished
exec code x (suc n) k os s = go_on (exec code x n) (step code x k os s)

abbrev pub begun : Input → Progress
begun x = record { variables = x.variables.items; effects = []; count = 0 }

-- the run of a piece's code on an input: from the first place, with no operand, for at most as many
-- instructions as a turn may run
unfoldable pub run : List Instruction → Input → Ran
run code x = exec code x MOST_INSTRUCTIONS 0 [] (begun x)
