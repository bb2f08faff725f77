-- `==` decides whether two instructions are equal.
use Rattle.std.proofs.Common.{◌≡◌, ℕ, ℤ, Bool as Truth, true, false, ◌&&◌, eqb, refl, sym, ap, subst, true≢false}
use Rattle.std.specs.Bool.{Decides}
use Rattle.std.specs.Ordering.{int_eq}
use Rattle.std.proofs.lemmas.Bool.{and_from, and_parts, eq-eqb, eqb-true}
use Rattle.std.proofs.lemmas.Bool.Decides.{Decides-int_eq}
use Rattle.turn_code.specs.declared.input.Party.{Party}
use Rattle.turn_code.specs.declared.input.Party.TheVariants.{Environment, Process}
use Rattle.turn_code.specs.declared.instruction.Receiver.{Receiver}
use Rattle.turn_code.specs.declared.instruction.Receiver.TheVariants.{Party as ToParty, Sender as ToSender}
use Rattle.turn_code.specs.declared.instruction.Relation.{Relation}
use Rattle.turn_code.specs.declared.instruction.Relation.TheVariants.{Equal, NotEqual, Less, LessEqual, Greater, GreaterEqual}
use Rattle.turn_code.specs.declared.instruction.Instruction.{Instruction}
use Rattle.turn_code.specs.declared.instruction.Instruction.TheVariants.{Int as PutInt, Bool as PutBool, Load, Store, Param, Add, Sub, Mul, Div, Mod, Rem, Neg, Not, And, Or, Xor, Same, Compare, Case, CaseWithin, Pick, Drop, Jump, Output, Set, Reset, Next, Stop}
use Rattle.turn_code.specs.contracts.input.PartyPartialEq.TheImpl as party_eq
use Rattle.turn_code.specs.contracts.instruction.ReceiverPartialEq.TheImpl as receiver_eq
use Rattle.turn_code.specs.contracts.instruction.RelationPartialEq.TheImpl as relation_eq
use Rattle.turn_code.specs.contracts.instruction.InstructionPartialEq.TheImpl as instruction_eq

abbrev pub same_instruction : Instruction → Instruction → Truth
same_instruction i j = (instruction_eq.ghosts).eq i j

truth_same : (a x : Truth) → same_instruction (PutBool a) (PutBool x) ≡ true → a ≡ x
truth_same true true h = refl
truth_same true false h = absurd (true≢false (sym h))
truth_same false true h = absurd (true≢false (sym h))
truth_same false false h = refl

relation_same : (a x : Relation) → (relation_eq.ghosts).eq a x ≡ true → a ≡ x
relation_same Equal Equal h = refl
relation_same NotEqual NotEqual h = refl
relation_same Less Less h = refl
relation_same LessEqual LessEqual h = refl
relation_same Greater Greater h = refl
relation_same GreaterEqual GreaterEqual h = refl
relation_same a x h = absurd (true≢false (sym h))

party_same : (p q : Party) → (party_eq.ghosts).eq p q ≡ true → p ≡ q
party_same Environment Environment h = refl
party_same Environment (Process q) h = absurd (true≢false (sym h))
party_same (Process p) Environment h = absurd (true≢false (sym h))
party_same (Process p) (Process q) h = ap (λ n. Process (record { 0 = n })) (eqb-true p.0 q.0 h)

receiver_same : (p q : Receiver) → (receiver_eq.ghosts).eq p q ≡ true → p ≡ q
receiver_same ToSender ToSender h = refl
receiver_same ToSender (ToParty q) h = absurd (true≢false (sym h))
receiver_same (ToParty p) ToSender h = absurd (true≢false (sym h))
receiver_same (ToParty p) (ToParty q) h = ap (λ r. ToParty r) (party_same p q h)

integers : (a x : ℤ) → int_eq a x ≡ true → a ≡ x
integers a x h = (Decides-int_eq a x).0 h

pub instruction_same : (i j : Instruction) → same_instruction i j ≡ true → i ≡ j
instruction_same (PutInt a) (PutInt x) h = ap (λ z. PutInt z) (integers a x h)
instruction_same (PutBool a) (PutBool x) h = ap (λ b. PutBool b) (truth_same a x h)
instruction_same (Load a) (Load x) h = ap (λ n. Load (record { 0 = n })) (eqb-true a.0 x.0 h)
instruction_same (Store a) (Store x) h = ap (λ n. Store (record { 0 = n })) (eqb-true a.0 x.0 h)
instruction_same (Param a) (Param x) h = ap (λ n. Param n) (eqb-true a x h)
instruction_same Add Add h = refl
instruction_same Sub Sub h = refl
instruction_same Mul Mul h = refl
instruction_same (Div a) (Div x) h = ap (λ z. Div z) (integers a x h)
instruction_same (Mod a) (Mod x) h = ap (λ z. Mod z) (integers a x h)
instruction_same (Rem a) (Rem x) h = ap (λ z. Rem z) (integers a x h)
instruction_same Neg Neg h = refl
instruction_same Not Not h = refl
instruction_same And And h = refl
instruction_same Or Or h = refl
instruction_same Xor Xor h = refl
instruction_same Same Same h = refl
instruction_same (Compare a) (Compare x) h = ap (λ r. Compare r) (relation_same a x h)
instruction_same (Case a b c) (Case x y z) h =
    let one = and_parts ((relation_eq.ghosts).eq a x) (int_eq b y && eqb c.0 z.0) h in
    let two = and_parts (int_eq b y) (eqb c.0 z.0) one.1 in
    let r = relation_same a x one.0 in
    let n = integers b y two.0 in
    let p = eqb-true c.0 z.0 two.1 in
    λ i. Case (r i) (n i) (record { 0 = p i })
instruction_same (CaseWithin a b c) (CaseWithin x y z) h =
    let one = and_parts (eqb a.0 x.0) (int_eq b y && int_eq c z) h in
    let two = and_parts (int_eq b y) (int_eq c z) one.1 in
    let p = eqb-true a.0 x.0 one.0 in
    let m = integers b y two.0 in
    let n = integers c z two.1 in
    λ i. CaseWithin (record { 0 = p i }) (m i) (n i)
instruction_same (Pick a b) (Pick x y) h =
    let both = and_parts (eqb a.0 x.0) (eqb b.0 y.0) h in
    let p = eqb-true a.0 x.0 both.0 in
    let q = eqb-true b.0 y.0 both.1 in
    λ i. Pick (record { 0 = p i }) (record { 0 = q i })
instruction_same Drop Drop h = refl
instruction_same (Jump a) (Jump x) h = ap (λ n. Jump (record { 0 = n })) (eqb-true a.0 x.0 h)
instruction_same (Output a b c) (Output x y z) h =
    let one = and_parts (eqb a.0 x.0) ((receiver_eq.ghosts).eq b y && eqb c z) h in
    let two = and_parts ((receiver_eq.ghosts).eq b y) (eqb c z) one.1 in
    let n = eqb-true a.0 x.0 one.0 in
    let r = receiver_same b y two.0 in
    let k = eqb-true c z two.1 in
    λ i. Output (record { 0 = n i }) (r i) (k i)
instruction_same (Set a) (Set x) h = ap (λ n. Set (record { 0 = n })) (eqb-true a.0 x.0 h)
instruction_same (Reset a) (Reset x) h = ap (λ n. Reset (record { 0 = n })) (eqb-true a.0 x.0 h)
instruction_same (Next a) (Next x) h = ap (λ n. Next (record { 0 = n })) (eqb-true a.0 x.0 h)
instruction_same Stop Stop h = refl
instruction_same i j h = absurd (true≢false (sym h))

-- ---- each is equal to itself

number_itself : (n : ℕ) → eqb n n ≡ true
number_itself n = eq-eqb n n refl

integer_itself : (z : ℤ) → int_eq z z ≡ true
integer_itself z = (Decides-int_eq z z).1 refl

relation_itself : (r : Relation) → (relation_eq.ghosts).eq r r ≡ true
relation_itself Equal = refl
relation_itself NotEqual = refl
relation_itself Less = refl
relation_itself LessEqual = refl
relation_itself Greater = refl
relation_itself GreaterEqual = refl

receiver_itself : (r : Receiver) → (receiver_eq.ghosts).eq r r ≡ true
receiver_itself ToSender = refl
receiver_itself (ToParty Environment) = refl
receiver_itself (ToParty (Process p)) = number_itself p.0

instruction_itself : (i : Instruction) → same_instruction i i ≡ true
instruction_itself (PutInt a) = integer_itself a
instruction_itself (PutBool true) = refl
instruction_itself (PutBool false) = refl
instruction_itself (Load a) = number_itself a.0
instruction_itself (Store a) = number_itself a.0
instruction_itself (Param a) = number_itself a
instruction_itself Add = refl
instruction_itself Sub = refl
instruction_itself Mul = refl
instruction_itself (Div a) = integer_itself a
instruction_itself (Mod a) = integer_itself a
instruction_itself (Rem a) = integer_itself a
instruction_itself Neg = refl
instruction_itself Not = refl
instruction_itself And = refl
instruction_itself Or = refl
instruction_itself Xor = refl
instruction_itself Same = refl
instruction_itself (Compare a) = relation_itself a
instruction_itself (Case a b c) =
    and_from ((relation_eq.ghosts).eq a a) (int_eq b b && eqb c.0 c.0) (relation_itself a)
    (and_from (int_eq b b) (eqb c.0 c.0) (integer_itself b) (number_itself c.0))
instruction_itself (CaseWithin a b c) =
    and_from (eqb a.0 a.0) (int_eq b b && int_eq c c) (number_itself a.0)
    (and_from (int_eq b b) (int_eq c c) (integer_itself b) (integer_itself c))
instruction_itself (Pick a b) = and_from (eqb a.0 a.0) (eqb b.0 b.0) (number_itself a.0) (number_itself b.0)
instruction_itself Drop = refl
instruction_itself (Jump a) = number_itself a.0
instruction_itself (Output a b c) =
    and_from (eqb a.0 a.0) ((receiver_eq.ghosts).eq b b && eqb c c) (number_itself a.0)
    (and_from ((receiver_eq.ghosts).eq b b) (eqb c c) (receiver_itself b) (number_itself c))
instruction_itself (Set a) = number_itself a.0
instruction_itself (Reset a) = number_itself a.0
instruction_itself (Next a) = number_itself a.0
instruction_itself Stop = refl

pub same_if_equal : (i j : Instruction) → Decides (same_instruction i j) (i ≡ j)
same_if_equal i j = (instruction_same i j, λ e. subst (λ k. same_instruction i k ≡ true) e (instruction_itself i))
