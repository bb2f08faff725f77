-- What an instruction does on bare words: a Boolean is 0 or 1, and no word carries its sort.
use Rattle.std.specs.Prelude.{ℕ, ◌+◌, ◌-◌, ◌^◌, ◌<◌, ◌≤◌, ℤ, pos, ◌≤ℤ◌, neg_ℤ, bit_or, ◌+ℤ◌, ◌-ℤ◌}
use Rattle.std.specs.Prelude.{◌*ℤ◌, int_div, int_rem, Bool as Truth, true, false, not, ◌&&◌, ◌||◌}
use Rattle.std.specs.Prelude.{if◌then◌else◌, List, ◌∷◌, ◌++◌, take, drop, reverse, replicate}
use Rattle.std.specs.Prelude.{Option, Some, None, slice_index_or, slice_set}
use Rattle.std.specs.Ordering.{int_eq}
use Rattle.std.specs.Int.{int_rem_euclid}
use Rattle.plain_laws.specs.Limits.{MOST_OPERANDS, MOST_PARAMETERS, MOST_VARIABLES}
use Rattle.turn_code.specs.Values.{wrap, holds, is_between, differ}
use Rattle.turn_code.specs.declared.numbers.SignalNumber.{SignalNumber}
use Rattle.turn_code.specs.declared.numbers.TimerNumber.{TimerNumber}
use Rattle.turn_code.specs.declared.numbers.VariableNumber.{VariableNumber}
use Rattle.turn_code.specs.declared.instruction.Receiver.{Receiver}
use Rattle.turn_code.specs.declared.instruction.Relation.{Relation}
use Rattle.turn_code.specs.declared.instruction.Instruction.{Instruction}
use Rattle.turn_code.specs.declared.instruction.Instruction.TheVariants.{Int as PutInt}
use Rattle.turn_code.specs.declared.instruction.Instruction.TheVariants.{Bool as PutBool, Load}
use Rattle.turn_code.specs.declared.instruction.Instruction.TheVariants.{Store, Param, Add, Sub}
use Rattle.turn_code.specs.declared.instruction.Instruction.TheVariants.{Mul, Div, Mod, Rem, Neg}
use Rattle.turn_code.specs.declared.instruction.Instruction.TheVariants.{Not, And, Or, Xor, Same}
use Rattle.turn_code.specs.declared.instruction.Instruction.TheVariants.{Compare, Case, CaseWithin}
use Rattle.turn_code.specs.declared.instruction.Instruction.TheVariants.{Pick, Drop, Jump, Output}
use Rattle.turn_code.specs.declared.instruction.Instruction.TheVariants.{Set, Reset, Next, Stop}
use Rattle.turn_code.specs.declared.machine.End.{End}
use Rattle.turn_code.specs.declared.machine.End.TheVariants as end
use Rattle.turn_code.specs.declared.words.Words.{Words}
use Rattle.turn_code.specs.declared.after.BareEffect.{BareEffect}
use Rattle.turn_code.specs.declared.after.BareEffect.TheVariants as gives
use Rattle.turn_code.specs.declared.after.BareAfter.{BareAfter}
use Rattle.turn_code.specs.declared.after.Next.{Next as Onward}
use Rattle.turn_code.specs.declared.after.Next.TheVariants.{Goes, Ends}

-- the words of a run: its operands, the topmost first, and their number; its variables, with a bit
-- for each that says whether it is set; its parameters
pub record Bare : Type 0 where
  pub stack : List ℤ
  pub depth : ℕ
  pub variables : List ℤ
  pub set : ℕ
  pub params : List ℤ

abbrev pub bare_of : Words → Bare
bare_of w =
    record {
      stack = reverse (take w.depth w.operands);
      depth = w.depth;
      variables = w.variables;
      set = w.set;
      params = w.params;
    }

-- the result of an instruction: the code goes on at a place, or is over, with an effect or none
pub data Did : Type 0 where
  went : ℕ → Option BareEffect → Bare → Did
  over : End → Option BareEffect → Bare → Did

abbrev pub did_next : Onward → Option BareEffect → Bare → Did
did_next (Goes k) given b = went k given b
did_next (Ends e) given b = over e given b

abbrev pub did : BareAfter → Words → Did
did a w = did_next a.next a.effect (bare_of w)

-- ---- words

-- the word of a truth value, and the truth value of a word
abbrev pub truth_word : Truth → ℤ
truth_word true = pos 1
truth_word false = pos 0

abbrev pub is_true : ℤ → Truth
is_true z = not (int_eq z (pos 0))

abbrev pub with_stack : Bare → List ℤ → ℕ → Bare
with_stack b zs n =
    record { stack = zs; depth = n; variables = b.variables; set = b.set; params = b.params }

abbrev pub pushed : Bare → ℤ → Bare
pushed b z = with_stack b (z ∷ b.stack) (b.depth + 1)

-- words that are taken: `go` continues with them and the rest; the topmost is the right operand
abbrev pub on_word : Bare → (ℤ → Bare → Did) → Did
on_word b go = go (slice_index_or b.stack 0 (pos 0)) (with_stack b (drop 1 b.stack) (b.depth - 1))

abbrev pub on_words : Bare → (ℤ → ℤ → Bare → Did) → Did
on_words b go =
    go (slice_index_or b.stack 1 (pos 0)) (slice_index_or b.stack 0 (pos 0))
    (with_stack b (drop 2 b.stack) (b.depth - 2))

-- the n topmost words, the topmost last, filled up with zeros to four words
abbrev pub words_taken : ℕ → Bare → List ℤ
words_taken n b = reverse (take n b.stack) ++ replicate (4 - n) (pos 0)

abbrev pub kept : Bare → ℕ → ℤ → Bare
kept b v z =
    record {
      stack = b.stack;
      depth = b.depth;
      variables = slice_set b.variables v z;
      set = bit_or b.set (2 ^ v);
      params = b.params;
    }

-- ---- the kinds of instructions; k is the place after the instruction

abbrev pub put : ℤ → ℕ → Bare → Did
put z k b = went k None (pushed b z)

abbrev pub loaded : VariableNumber → ℕ → Bare → Did
loaded v k b = put (slice_index_or b.variables v.0 (pos 0)) k b

abbrev pub stored : VariableNumber → ℕ → Bare → Did
stored v k b = on_word b (λ x rest. went k None (kept rest v.0 x))

abbrev pub given : ℕ → ℕ → Bare → Did
given j k b = put (slice_index_or b.params j (pos 0)) k b

abbrev pub combined : (ℤ → ℤ → ℤ) → ℕ → Bare → Did
combined f k b = on_words b (λ x y rest. put (wrap (f x y)) k rest)

abbrev pub divided : (ℤ → ℤ → ℤ) → ℤ → ℕ → Bare → Did
divided f z k b = on_word b (λ x rest. put (f x z) k rest)

abbrev pub negated_word : ℕ → Bare → Did
negated_word k b = on_word b (λ x rest. put (wrap (neg_ℤ x)) k rest)

abbrev pub inverted : ℕ → Bare → Did
inverted k b = on_word b (λ x rest. put (truth_word (not (is_true x))) k rest)

abbrev pub joined : (Truth → Truth → Truth) → ℕ → Bare → Did
joined f k b = on_words b (λ x y rest. put (truth_word (f (is_true x) (is_true y))) k rest)

abbrev pub compared : Relation → ℕ → Bare → Did
compared r k b = on_words b (λ x y rest. put (truth_word (holds r x y)) k rest)

abbrev pub tested : (ℤ → Truth) → ℕ → ℕ → Bare → Did
tested f j k b = on_word b (λ x rest. if f x then went j None rest else put x k rest)

abbrev pub picked : ℕ → ℕ → Bare → Did
picked p q b = on_word b (λ x rest. went (if is_true x then q else p) None rest)

abbrev pub dropped : ℕ → Bare → Did
dropped k b = on_word b (λ x rest. went k None rest)

abbrev pub sent : SignalNumber → Receiver → ℕ → ℕ → Bare → Did
sent n r c k b =
    went k (Some (gives.Output n r c (words_taken c b)))
    (with_stack b (drop c b.stack) (b.depth - c))

abbrev pub timed : TimerNumber → ℕ → Bare → Did
timed t k b = on_word b (λ x rest. went k (Some (gives.Set t x)) rest)

-- one instruction on words; k is the place after it
abbrev pub bare_act : Instruction → ℕ → Bare → Did
bare_act (PutInt z) k b = put z k b
bare_act (PutBool t) k b = put (truth_word t) k b
bare_act (Load v) k b = loaded v k b
bare_act (Store v) k b = stored v k b
bare_act (Param j) k b = given j k b
bare_act Add k b = combined (λ x y. x +ℤ y) k b
bare_act Sub k b = combined (λ x y. x -ℤ y) k b
bare_act Mul k b = combined (λ x y. x *ℤ y) k b
bare_act (Div z) k b = divided int_div z k b
bare_act (Mod z) k b = divided int_rem_euclid z k b
bare_act (Rem z) k b = divided int_rem z k b
bare_act Neg k b = negated_word k b
bare_act Not k b = inverted k b
bare_act And k b = joined (λ x y. x && y) k b
bare_act Or k b = joined (λ x y. x || y) k b
bare_act Xor k b = joined differ k b
bare_act Same k b = joined (λ x y. not (differ x y)) k b
bare_act (Compare r) k b = compared r k b
bare_act (Case r z p) k b = tested (λ x. holds r x z) p.0 k b
bare_act (CaseWithin p x y) k b = tested (is_between x y) p.0 k b
bare_act (Pick p q) k b = picked p.0 q.0 b
bare_act Drop k b = dropped k b
bare_act (Jump p) k b = went p.0 None b
bare_act (Output n r c) k b = sent n r c k b
bare_act (Set t) k b = timed t k b
bare_act (Reset t) k b = went k (Some (gives.Reset t)) b
bare_act (Next q) k b = over (end.State q) None b
bare_act Stop k b = over end.Stop None b

-- ---- the requirements of an instruction: room, words to take, and numbers that are declared
abbrev pub HasRoom : Bare → Type 0
HasRoom b = b.depth < MOST_OPERANDS

abbrev pub Takes : ℕ → Bare → Type 0
Takes n b = (n ≤ b.depth) × (b.depth ≤ MOST_OPERANDS)

abbrev pub HasWords : Instruction → Bare → Type 0
HasWords (PutInt z) b = HasRoom b
HasWords (PutBool t) b = HasRoom b
HasWords (Load v) b = HasRoom b × (v.0 < MOST_VARIABLES)
HasWords (Store v) b = Takes 1 b × (v.0 < MOST_VARIABLES)
HasWords (Param j) b = HasRoom b × (j < MOST_PARAMETERS)
HasWords Add b = Takes 2 b
HasWords Sub b = Takes 2 b
HasWords Mul b = Takes 2 b
HasWords (Div z) b = Takes 1 b × (pos 1 ≤ℤ z)
HasWords (Mod z) b = Takes 1 b × (pos 1 ≤ℤ z)
HasWords (Rem z) b = Takes 1 b × (pos 1 ≤ℤ z)
HasWords Neg b = Takes 1 b
HasWords Not b = Takes 1 b
HasWords And b = Takes 2 b
HasWords Or b = Takes 2 b
HasWords Xor b = Takes 2 b
HasWords Same b = Takes 2 b
HasWords (Compare r) b = Takes 2 b
HasWords (Case r z p) b = Takes 1 b
HasWords (CaseWithin p x y) b = Takes 1 b
HasWords (Pick p q) b = Takes 1 b
HasWords Drop b = Takes 1 b
HasWords (Jump p) b = Unit {0}
HasWords (Output n r c) b = (c ≤ MOST_PARAMETERS) × Takes c b
HasWords (Set t) b = Takes 1 b
HasWords (Reset t) b = Unit {0}
HasWords (Next q) b = Unit {0}
HasWords Stop b = Unit {0}

-- ---- the part of these that speaks of operands
abbrev pub HasOperandsFor : Instruction → Bare → Type 0
HasOperandsFor (PutInt z) b = HasRoom b
HasOperandsFor (PutBool t) b = HasRoom b
HasOperandsFor (Load v) b = HasRoom b
HasOperandsFor (Store v) b = Takes 1 b
HasOperandsFor (Param j) b = HasRoom b
HasOperandsFor Add b = Takes 2 b
HasOperandsFor Sub b = Takes 2 b
HasOperandsFor Mul b = Takes 2 b
HasOperandsFor (Div z) b = Takes 1 b
HasOperandsFor (Mod z) b = Takes 1 b
HasOperandsFor (Rem z) b = Takes 1 b
HasOperandsFor Neg b = Takes 1 b
HasOperandsFor Not b = Takes 1 b
HasOperandsFor And b = Takes 2 b
HasOperandsFor Or b = Takes 2 b
HasOperandsFor Xor b = Takes 2 b
HasOperandsFor Same b = Takes 2 b
HasOperandsFor (Compare r) b = Takes 2 b
HasOperandsFor (Case r z p) b = Takes 1 b
HasOperandsFor (CaseWithin p x y) b = Takes 1 b
HasOperandsFor (Pick p q) b = Takes 1 b
HasOperandsFor Drop b = Takes 1 b
HasOperandsFor (Jump p) b = Unit {0}
HasOperandsFor (Output n r c) b = Takes c b
HasOperandsFor (Set t) b = Takes 1 b
HasOperandsFor (Reset t) b = Unit {0}
HasOperandsFor (Next q) b = Unit {0}
HasOperandsFor Stop b = Unit {0}
