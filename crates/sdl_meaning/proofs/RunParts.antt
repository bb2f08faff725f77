-- Where instructions are in the code, how a run ends, and what holds of the value of a part.
use Rattle.std.proofs.Common.{◌≡◌, ℕ, suc, ◌+◌, ◌<◌, true, cond, List, [], ◌∷◌, ◌++◌, length, take, drop, reverse, Some, refl, sym, ap, ◌∙◌, subst, arith, append_assoc, length-append}
use Rattle.std.specs.Prelude.{slice_get, nat_le}
use Rattle.std.proofs.Math.Seq.{get_or-append_seam, take-append_seam, drop-append_seam}
use Rattle.std.proofs.lemmas.List.{reverse-reverse, length-reverse}
use Rattle.std.proofs.lemmas.Grind.{reverse_onto}
use Rattle.std.proofs.lemmas.Bool.Decides.{nat_tests}
use Rattle.std.proofs.lemmas.Option.{slice_get-get_or}
use Rattle.sdl_ast.specs.Plain.{Tree}
use Rattle.turn_code.specs.declared.value.Value.{Value}
use Rattle.turn_code.specs.declared.trouble.Trouble.TheVariants.{Underflow}
use Rattle.turn_code.specs.declared.instruction.Instruction.{Instruction}
use Rattle.turn_code.specs.Run.{Progress, on_operands, After, stuck, Ran, ended, got_stuck}
use Rattle.sdl_meaning.specs.Act.{value_of, values_of}
use Rattle.sdl_meaning.specs.Outcomes.{Scope, Ending, at_end, in_trouble, Outcome, goes_on, over, then_do}

-- The instructions are in the code from this place on.
abbrev pub HasAt : List Instruction → ℕ → List Instruction → Type 0
HasAt code pc [] = Unit {0}
HasAt code pc (x ∷ is) = (slice_get code pc ≡ Some x) × HasAt code (pc + 1) is

pub has_front : (code : List Instruction) (pc : ℕ) (a b : List Instruction) → HasAt code pc (a ++ b) → HasAt code pc a
has_front code pc [] b h = tt
has_front code pc (x ∷ a) b h = (h.0, has_front code (pc + 1) a b h.1)

pub has_back : (code : List Instruction) (pc : ℕ) (a b : List Instruction) (n : ℕ) → pc + length a ≡ n → HasAt code pc (a ++ b) → HasAt code n b
has_back code pc [] b n e h = let e' : pc ≡ n = omega arith in subst (λ n. HasAt code n b) e' h
has_back code pc (x ∷ a) b n e h = has_back code (pc + 1) a b n (omega arith) h.1

pub has_all : (is pre : List Instruction) → HasAt (pre ++ is) (length pre) is
has_all [] pre = tt
has_all (x ∷ is) pre =
    let within : length pre < length (pre ++ x ∷ is) = omega (arith, length-append pre (x ∷ is)) in
    let here = slice_get-get_or (pre ++ x ∷ is) (length pre) x within ∙ ap Some (get_or-append_seam pre x is x) in
    let n : length (pre ++ x ∷ []) ≡ length pre + 1 = omega (arith, length-append pre (x ∷ [])) in
    let rest = has_all is (pre ++ x ∷ []) in
    let rest' = subst (λ l. HasAt l (length (pre ++ x ∷ [])) is) (append_assoc pre (x ∷ []) is) rest in
    (here, subst (λ m. HasAt (pre ++ x ∷ is) m is) n rest')

-- The end of a run.
abbrev pub over_as : Ending → Progress → Ran
over_as (at_end e) s = ended e s
over_as (in_trouble t) s = got_stuck t

-- Values pushed on the operands one after another.
abbrev pub pushed : List Value → List Value → List Value
pushed [] os = os
pushed (x ∷ xs) os = pushed xs (x ∷ os)

-- P holds of the value of a part, if it goes on.
abbrev pub Gives : {A : Type 0} → (A → Type 0) → Outcome A → Type 0
Gives P (goes_on x s) = P x
Gives P (over e s) = Unit {0}

gives_bind : {A B : Type 0} (P : B → Type 0) (o : Outcome A) (f : A → Progress → Outcome B) → ((x : A) (v : Progress) → Gives P (f x v)) → Gives P (then_do o f)
gives_bind P (goes_on x v) f h = h x v
gives_bind P (over e v) f h = tt

gives_then : {A B : Type 0} (P : A → Type 0) (Q : B → Type 0) (o : Outcome A) (f : A → Progress → Outcome B) → Gives P o → ((x : A) (v : Progress) → P x → Gives Q (f x v)) → Gives Q (then_do o f)
gives_then P Q (goes_on x v) f g h = h x v g
gives_then P Q (over e v) f g h = tt

pub gives_nothing : {A : Type 0} (o : Outcome A) → Gives (λ _. Unit {0}) o
gives_nothing (goes_on x v) = tt
gives_nothing (over e v) = tt

-- There are as many values as expressions.
pub values_length : (c : Scope) (ts : List Tree) (s : Progress) → Gives (λ xs. length xs ≡ length ts) (values_of c ts s)
values_length c [] s = refl
values_length c (t ∷ ts) s =
    gives_bind (λ xs. length xs ≡ length (t ∷ ts)) (value_of c t s) (λ x s. then_do (values_of c ts s) (λ xs s. goes_on (x ∷ xs) s))
    (λ x v. gives_then (λ xs. length xs ≡ length ts) (λ xs. length xs ≡ length (t ∷ ts)) (values_of c ts v) (λ xs s. goes_on (x ∷ xs) s) (values_length c ts v)
    (λ xs w e. ap suc e))

pushed_is : (xs os : List Value) → pushed xs os ≡ reverse xs ++ os
pushed_is [] os = refl
pushed_is (x ∷ xs) os =
    pushed_is xs (x ∷ os) ∙ sym (append_assoc (reverse xs) (x ∷ []) os) ∙ ap (λ l. l ++ os) (sym (reverse_onto xs x []))

-- The operands are taken in the order in which they were pushed.
pub operands_are : (xs os : List Value) (n : ℕ) (go : List Value → List Value → After) → n ≡ length xs → on_operands n (pushed xs os) go ≡ go xs os
operands_are xs os n go e =
    let ys = reverse xs in
    let m : n ≡ length ys = e ∙ sym (length-reverse xs) in
    let enough : nat_le (length ys) (length (ys ++ os)) ≡ true = all_there ys os in
    ap (λ l. on_operands n l go) (pushed_is xs os)
    ∙ ap (λ k. on_operands k (ys ++ os) go) m
    ∙ ap (λ b. cond b (go (reverse (take (length ys) (ys ++ os))) (drop (length ys) (ys ++ os))) (stuck Underflow)) enough
    ∙ ap (λ l. go (reverse l) (drop (length ys) (ys ++ os))) (take-append_seam ys os)
    ∙ ap (λ l. go l (drop (length ys) (ys ++ os))) (reverse-reverse xs)
    ∙ ap (go xs) (drop-append_seam ys os)
  where
    all_there : (ys os : List Value) → nat_le (length ys) (length (ys ++ os)) ≡ true
    all_there ys os = let h = length-append ys os in grind (arith, nat_tests, h)
