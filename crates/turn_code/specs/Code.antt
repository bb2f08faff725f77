-- The operands that each instruction takes, the values that it leaves, and what it names.
use Rattle.std.specs.Prelude.{ℕ, ◌+◌, ℤ, List, [], ◌∷◌, ◌++◌, length, drop, reverse, slice_get}
use Rattle.std.specs.Prelude.{option_map, option_to_list}
use Rattle.turn_code.specs.Sets.{with_variable}
use Rattle.turn_code.specs.Transitions.{parameters_of}
use Rattle.turn_code.specs.declared.value.Sort.{Sort}
use Rattle.turn_code.specs.declared.value.Sort.TheVariants.{Integer, Boolean}
use Rattle.turn_code.specs.declared.instruction.Instruction.{Instruction}
use Rattle.turn_code.specs.declared.instruction.Instruction.TheVariants.{Int, Bool, Load, Store}
use Rattle.turn_code.specs.declared.instruction.Instruction.TheVariants.{Param, Add, Sub, Mul, Div}
use Rattle.turn_code.specs.declared.instruction.Instruction.TheVariants.{Mod, Rem, Neg, Not, And}
use Rattle.turn_code.specs.declared.instruction.Instruction.TheVariants.{Or, Xor, Same, Compare}
use Rattle.turn_code.specs.declared.instruction.Instruction.TheVariants.{Case, CaseWithin, Pick}
use Rattle.turn_code.specs.declared.instruction.Instruction.TheVariants.{Drop, Jump, Output, Set}
use Rattle.turn_code.specs.declared.instruction.Instruction.TheVariants.{Reset, Next, Stop}
use Rattle.turn_code.specs.declared.variable_set.VariableSet.{VariableSet}
use Rattle.turn_code.specs.declared.draft.DraftSignal.{DraftSignal}
use Rattle.turn_code.specs.declared.draft.DraftVariable.{DraftVariable}

-- the sort of a variable; an empty list if there is no such variable
abbrev pub sort_at : List DraftVariable → ℕ → List Sort
sort_at xs v = option_to_list (option_map (λ (x : DraftVariable). x.sort) (slice_get xs v))

-- the sorts of the operands that an instruction takes, the topmost first; those of an output are
-- its signal's parameters
abbrev pub takes : List DraftSignal → List DraftVariable → Instruction → List Sort
takes ss xs (Int z) = []
takes ss xs (Bool b) = []
takes ss xs (Load v) = []
takes ss xs (Store v) = sort_at xs v.0
takes ss xs (Param j) = []
takes ss xs Add = Integer ∷ Integer ∷ []
takes ss xs Sub = Integer ∷ Integer ∷ []
takes ss xs Mul = Integer ∷ Integer ∷ []
takes ss xs (Div z) = Integer ∷ []
takes ss xs (Mod z) = Integer ∷ []
takes ss xs (Rem z) = Integer ∷ []
takes ss xs Neg = Integer ∷ []
takes ss xs Not = Boolean ∷ []
takes ss xs And = Boolean ∷ Boolean ∷ []
takes ss xs Or = Boolean ∷ Boolean ∷ []
takes ss xs Xor = Boolean ∷ Boolean ∷ []
takes ss xs Same = Boolean ∷ Boolean ∷ []
takes ss xs (Compare r) = Integer ∷ Integer ∷ []
takes ss xs (Case r z p) = Integer ∷ []
takes ss xs (CaseWithin p a b) = Integer ∷ []
takes ss xs (Pick p q) = Boolean ∷ []
takes ss xs Drop = Integer ∷ []
takes ss xs (Jump p) = []
takes ss xs (Output n r c) = reverse (parameters_of (slice_get ss n.0))
takes ss xs (Set t) = Integer ∷ []
takes ss xs (Reset t) = []
takes ss xs (Next q) = []
takes ss xs Stop = []

-- the sorts of the values that it puts there, if the code goes on at the next place
abbrev pub gives : List DraftVariable → List Sort → Instruction → List Sort
gives xs ps (Int z) = Integer ∷ []
gives xs ps (Bool b) = Boolean ∷ []
gives xs ps (Load v) = sort_at xs v.0
gives xs ps (Store v) = []
gives xs ps (Param j) = option_to_list (slice_get ps j)
gives xs ps Add = Integer ∷ []
gives xs ps Sub = Integer ∷ []
gives xs ps Mul = Integer ∷ []
gives xs ps (Div z) = Integer ∷ []
gives xs ps (Mod z) = Integer ∷ []
gives xs ps (Rem z) = Integer ∷ []
gives xs ps Neg = Integer ∷ []
gives xs ps Not = Boolean ∷ []
gives xs ps And = Boolean ∷ []
gives xs ps Or = Boolean ∷ []
gives xs ps Xor = Boolean ∷ []
gives xs ps Same = Boolean ∷ []
gives xs ps (Compare r) = Boolean ∷ []
gives xs ps (Case r z p) = Integer ∷ []
gives xs ps (CaseWithin p a b) = Integer ∷ []
gives xs ps (Pick p q) = []
gives xs ps Drop = []
gives xs ps (Jump p) = []
gives xs ps (Output n r c) = []
gives xs ps (Set t) = []
gives xs ps (Reset t) = []
gives xs ps (Next q) = []
gives xs ps Stop = []

-- the shape without the operands that it takes: the shape at a place where the code jumps to
abbrev pub shape_left : List DraftSignal → List DraftVariable → Instruction → List Sort → List Sort
shape_left ss xs i shape = drop (length (takes ss xs i)) shape

-- the shape at the next place
abbrev pub shape_after :
    List DraftSignal → List DraftVariable → List Sort → Instruction → List Sort → List Sort
shape_after ss xs ps i shape = gives xs ps i ++ shape_left ss xs i shape

-- the variables that it reads
abbrev pub reads : Instruction → List ℕ
reads (Load v) = v.0 ∷ []
reads _ = []

-- the variables that it sets
abbrev pub sets : Instruction → List ℕ
sets (Store v) = v.0 ∷ []
sets _ = []

-- the set of variables that are set after it, if those of the given set were set before
abbrev pub set_after : Instruction → VariableSet → VariableSet
set_after (Store v) s = with_variable s v.0
set_after _ s = s

-- the parameters that it names
abbrev pub parameters_in : Instruction → List ℕ
parameters_in (Param j) = j ∷ []
parameters_in _ = []

-- the timers that it names
abbrev pub timers_in : Instruction → List ℕ
timers_in (Set t) = t.0 ∷ []
timers_in (Reset t) = t.0 ∷ []
timers_in _ = []

-- the numbers that it divides by
abbrev pub divisors_in : Instruction → List ℤ
divisors_in (Div z) = z ∷ []
divisors_in (Mod z) = z ∷ []
divisors_in (Rem z) = z ∷ []
divisors_in _ = []

-- the states that it names
abbrev pub states_in : Instruction → List ℕ
states_in (Next q) = q.0 ∷ []
states_in _ = []

-- the places where it may jump to
abbrev pub jumps : Instruction → List ℕ
jumps (Case r z p) = p.0 ∷ []
jumps (CaseWithin p a b) = p.0 ∷ []
jumps (Pick p q) = p.0 ∷ q.0 ∷ []
jumps (Jump p) = p.0 ∷ []
jumps _ = []

-- the place after an instruction at k, if the code may go on there
abbrev pub behind : Instruction → ℕ → List ℕ
behind (Pick p q) k = []
behind (Jump p) k = []
behind (Next q) k = []
behind Stop k = []
behind _ k = (k + 1) ∷ []

-- the places where the code may go on after an instruction at k
abbrev pub successors : Instruction → ℕ → List ℕ
successors i k = jumps i ++ behind i k

-- the number of effects that it adds
abbrev pub effects_of : Instruction → ℕ
effects_of (Output n r c) = 1
effects_of (Set t) = 1
effects_of (Reset t) = 1
effects_of _ = 0

-- the number of parameters that it sends
abbrev pub sends : Instruction → ℕ
sends (Output n r c) = c
sends _ = 0
