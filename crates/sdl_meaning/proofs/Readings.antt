-- The value of an expression is the one that its meaning computes.
use Rattle.std.proofs.Common.{◌≡◌, ℕ, Bool, true, false, cond, List, Option, None, Some, unwrap_or, refl, sym, subst}
use Rattle.std.specs.Prelude.{pos, int_lt, slice_get, option_and_then}
use Rattle.sdl_ast.specs.declared.expression.Identifier.{Identifier}
use Rattle.sdl_ast.specs.declared.expression.UnaryOperator.{UnaryOperator}
use Rattle.sdl_ast.specs.declared.expression.UnaryOperator.TheVariants.{Negate, Not}
use Rattle.sdl_ast.specs.declared.expression.BinaryOperator.{BinaryOperator}
use Rattle.sdl_ast.specs.declared.expression.BinaryOperator.TheVariants.{Or, Xor, And, Equal, NotEqual, Less, LessEqual, Greater, GreaterEqual, Add, Subtract, Multiply, Divide, Modulo, Remainder}
use Rattle.sdl_ast.specs.Plain.{Tree, number, truth, variable, unary, binary}
use Rattle.sdl_tables.specs.Names.{variable_names}
use Rattle.sdl_sound.specs.Longest.{is_division}
use Rattle.turn_code.specs.declared.trouble.Trouble.TheVariants.{WrongSort}
use Rattle.turn_code.specs.declared.value.Value.{Value}
use Rattle.turn_code.specs.declared.value.Value.TheVariants.{Int, Bool as Truth}
use Rattle.turn_code.specs.Run.{Progress, tick}
use Rattle.sdl_meaning.specs.Act as meaning
use Rattle.sdl_meaning.specs.Act.{slot, read, Working, reckons, compares, joins, working, apply_one, apply_two, divisor_of, divide, value_of}
use Rattle.sdl_meaning.specs.Outcomes.{Scope, at_end, in_trouble, Outcome, goes_on, over, then_do, variable_at}
use Rattle.sdl_meaning.specs.Valued.{made_of_one, made_of_two, quotient_of, found, fresh, held, valued, Reads}

abbrev pub Values : Type 0
Values = List (Option Value)

then_reads : {A B : Type 0} (o : Outcome A) (p : Option A) (vs : Values) (f : A → Progress → Outcome B) (g : A → Option B) → Reads o p vs
    → ((x : A) (r : Progress) → r.variables ≡ vs → Reads (f x r) (g x) vs) → Reads (then_do o f) (option_and_then g p) vs
then_reads (goes_on x s) p vs f g h step = subst (λ q. Reads (f x s) (option_and_then g q) vs) (sym h.0) (step x s h.1)
then_reads (over (at_end e) s) p vs f g h step = h
then_reads (over (in_trouble t) s) p vs f g h step = tt

-- from variables that are these
reads_at : {A : Type 0} (o : Outcome A) (p : Values → Option A) (us vs : Values) → us ≡ vs → Reads o (p us) us → Reads o (p vs) vs
reads_at o p us vs is h = subst (λ ws. Reads o (p ws) ws) is h

read_is : (p : Option (Option Value)) (s : Progress) → Reads (read p (tick s)) (unwrap_or p None) s.variables
read_is None s = tt
read_is (Some None) s = tt
read_is (Some (Some x)) s = (refl, refl)

slot_is : (n : Option ℕ) (s : Progress) → Reads (read (slot n s) (tick s)) (held n s.variables) s.variables
slot_is None s = tt
slot_is (Some n) s = read_is (slice_get s.variables n) s

one_reads : (op : UnaryOperator) (x : Value) (r : Progress) (vs : Values) → r.variables ≡ vs → Reads (apply_one op x (tick r)) (made_of_one op x) vs
one_reads Negate (Int x) r vs is = (refl, is)
one_reads Negate (Truth b) r vs is = tt
one_reads Not (Int x) r vs is = tt
one_reads Not (Truth b) r vs is = (refl, is)

same_reads : (w : Working) (x y : Value) (r : Progress) (vs : Values) → r.variables ≡ vs → Reads (apply_two w x y (tick r)) (found (apply_two w x y fresh)) vs
same_reads (reckons f) (Int x) (Int y) r vs is = (refl, is)
same_reads (reckons f) (Int x) (Truth y) r vs is = tt
same_reads (reckons f) (Truth x) y r vs is = tt
same_reads (compares f) (Int x) (Int y) r vs is = (refl, is)
same_reads (compares f) (Int x) (Truth y) r vs is = tt
same_reads (compares f) (Truth x) y r vs is = tt
same_reads (joins f) (Truth x) (Truth y) r vs is = (refl, is)
same_reads (joins f) (Truth x) (Int y) r vs is = tt
same_reads (joins f) (Int x) y r vs is = tt

two_reads : (b : Bool) (op : BinaryOperator) (x y : Value) (r : Progress) (vs : Values) → r.variables ≡ vs → Reads (apply_two (working b op) x y (tick r)) (made_of_two op x y) vs
two_reads b Or x y r vs is = same_reads (working b Or) x y r vs is
two_reads b Xor x y r vs is = same_reads (working b Xor) x y r vs is
two_reads b And x y r vs is = same_reads (working b And) x y r vs is
two_reads true Equal (Truth x) y r vs is = same_reads (working true Equal) (Truth x) y r vs is
two_reads true Equal (Int x) y r vs is = tt
two_reads false Equal (Int x) y r vs is = same_reads (working false Equal) (Int x) y r vs is
two_reads false Equal (Truth x) y r vs is = tt
two_reads true NotEqual (Truth x) y r vs is = same_reads (working true NotEqual) (Truth x) y r vs is
two_reads true NotEqual (Int x) y r vs is = tt
two_reads false NotEqual (Int x) y r vs is = same_reads (working false NotEqual) (Int x) y r vs is
two_reads false NotEqual (Truth x) y r vs is = tt
two_reads b Less x y r vs is = same_reads (working b Less) x y r vs is
two_reads b LessEqual x y r vs is = same_reads (working b LessEqual) x y r vs is
two_reads b Greater x y r vs is = same_reads (working b Greater) x y r vs is
two_reads b GreaterEqual x y r vs is = same_reads (working b GreaterEqual) x y r vs is
two_reads b Add x y r vs is = same_reads (working b Add) x y r vs is
two_reads b Subtract x y r vs is = same_reads (working b Subtract) x y r vs is
two_reads b Multiply x y r vs is = same_reads (working b Multiply) x y r vs is
two_reads b Divide x y r vs is = same_reads (working b Divide) x y r vs is
two_reads b Modulo x y r vs is = same_reads (working b Modulo) x y r vs is
two_reads b Remainder x y r vs is = same_reads (working b Remainder) x y r vs is

divided_reads : (op : BinaryOperator) (t : Tree) (x : Value) (r : Progress) (vs : Values) → r.variables ≡ vs → Reads (divide op (divisor_of t) x (tick r)) (quotient_of op t x) vs
divided_reads op t (Truth b) r vs is = tt
divided_reads op t (Int x) r vs is = by_test (int_lt (pos 0) (divisor_of t))
  where
    by_test : (b : Bool) → Reads (cond b (goes_on (Int (meaning.quotient op x (divisor_of t))) (tick r)) (over (in_trouble WrongSort) (tick r)))
        (found (cond b (goes_on (Int (meaning.quotient op x (divisor_of t))) fresh) (over (in_trouble WrongSort) fresh))) vs
    by_test true = (refl, is)
    by_test false = tt

module _ (c : Scope) where
  abbrev pub ids : List Identifier
  ids = variable_names c.process

  pub value_reads : (t : Tree) (s : Progress) → Reads (value_of c t s) (valued ids t s.variables) s.variables
  value_reads (number k n) s = (refl, refl)
  value_reads (truth k b) s = (refl, refl)
  value_reads (variable k n) s = slot_is (variable_at c n) s
  value_reads (unary k op t) s =
      then_reads (value_of c t s) (valued ids t s.variables) s.variables (λ x r. apply_one op x (tick r)) (made_of_one op) (value_reads t s) (λ x r is. one_reads op x r s.variables is)
  value_reads (binary k op t u) s =
      then_reads (value_of c t s) (valued ids t s.variables) s.variables
      (λ x r. cond (is_division op) (divide op (divisor_of u) x (tick r)) (then_do (value_of c u r) (λ y r. apply_two (working (meaning.is_truth c t) op) x y (tick r))))
      (λ x. cond (is_division op) (quotient_of op u x) (option_and_then (made_of_two op x) (valued ids u s.variables)))
      (value_reads t s) (λ x r is. by_test x r is (is_division op) (value_reads u r))
    where
      by_test : (x : Value) (r : Progress) → r.variables ≡ s.variables → (b : Bool) → Reads (value_of c u r) (valued ids u r.variables) r.variables
          → Reads (cond b (divide op (divisor_of u) x (tick r)) (then_do (value_of c u r) (λ y r. apply_two (working (meaning.is_truth c t) op) x y (tick r))))
          (cond b (quotient_of op u x) (option_and_then (made_of_two op x) (valued ids u s.variables))) s.variables
      by_test x r is true other = divided_reads op u x r s.variables is
      by_test x r is false other =
          then_reads (value_of c u r) (valued ids u s.variables) s.variables (λ y r. apply_two (working (meaning.is_truth c t) op) x y (tick r)) (made_of_two op x)
          (reads_at (value_of c u r) (valued ids u) r.variables s.variables is other) (λ y q at. two_reads (meaning.is_truth c t) op x y q s.variables at)
