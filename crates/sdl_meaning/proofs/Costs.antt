-- The cost of each part of a transition.
use Rattle.std.proofs.Common.{ℕ, ◌+◌, ◌≤◌, Bool, true, false, cond, List, [], ◌∷◌, Option, Some, None, arith}
use Rattle.std.specs.Prelude.{slice_get, ℤ, pos, int_lt}
use Rattle.std.specs.List.{sum_by}
use Rattle.std.proofs.lemmas.List.Sums.{sum_by-cons}
use Rattle.sdl_ast.specs.declared.expression.Identifier.{Identifier}
use Rattle.sdl_ast.specs.declared.expression.UnaryOperator.{UnaryOperator}
use Rattle.sdl_ast.specs.declared.expression.UnaryOperator.TheVariants.{Negate, Not}
use Rattle.sdl_ast.specs.declared.expression.BinaryOperator.{BinaryOperator}
use Rattle.sdl_ast.specs.declared.tree.Destination.{Destination}
use Rattle.sdl_ast.specs.Plain.{Tree, number, truth, variable, unary, binary, PlainAssignment, PlainSending, PlainAction, task, output, set_timer, reset_timer}
use Rattle.turn_code.specs.declared.value.Value.{Value}
use Rattle.turn_code.specs.declared.value.Value.TheVariants.{Int, Bool as Truth}
use Rattle.turn_code.specs.declared.input.Address.{Address}
use Rattle.turn_code.specs.declared.trouble.Trouble.TheVariants.{WrongSort}
use Rattle.turn_code.specs.Run.{Progress, tick}
use Rattle.sdl_sound.specs.Longest.{is_division, cost_of, assignment_cost, assignments_cost, sending_cost, sendings_cost, action_cost, place_cost, places_cost}
use Rattle.sdl_meaning.specs.Act.{slot, read, written, write, Working, reckons, compares, joins, working, is_truth, apply_one, apply_two, divisor_of, quotient, divide, value_of, values_of, receiver_of, assign, put_out, send, send_all, start_timer, stop_timer, perform, pass, take_places}
use Rattle.sdl_meaning.specs.Outcomes.{Scope, variable_at, timer_at, signal_at, in_trouble, Outcome, goes_on, over, then_do}

-- The cost of the walk at the end of a part.
abbrev pub cost_by : {A : Type 0} → Outcome A → ℕ
cost_by (goes_on x v) = v.count
cost_by (over e v) = v.count

pub cost_bind : {A B : Type 0} (m n : ℕ) (o : Outcome A) (f : A → Progress → Outcome B) → m ≤ n → cost_by o ≤ m → ((x : A) (v : Progress) → v.count ≤ m → cost_by (f x v) ≤ n) → cost_by (then_do o f) ≤ n
cost_bind m n (goes_on x v) f le a b = b x v a
cost_bind m n (over e v) f le a b = omega (arith, a)

read_cost : (o : Option (Option Value)) (s : Progress) → cost_by (read o s) ≤ s.count
read_cost None s = omega arith
read_cost (Some None) s = omega arith
read_cost (Some (Some x)) s = omega arith

written_cost : (o : Option (Option Value)) (v : ℕ) (x : Value) (s : Progress) → cost_by (written o v x s) ≤ s.count
written_cost None v x s = omega arith
written_cost (Some old) v x s = omega arith

write_cost : (o : Option ℕ) (x : Value) (s : Progress) → cost_by (write o x s) ≤ s.count + 1
write_cost None x s = omega arith
write_cost (Some v) x s = written_cost (slice_get s.variables v) v x (tick s)

one_cost : (op : UnaryOperator) (x : Value) (s : Progress) → cost_by (apply_one op x s) ≤ s.count
one_cost Negate (Int x) s = omega arith
one_cost Negate (Truth x) s = omega arith
one_cost Not (Int x) s = omega arith
one_cost Not (Truth x) s = omega arith

two_cost : (w : Working) (x y : Value) (s : Progress) → cost_by (apply_two w x y s) ≤ s.count
two_cost (reckons f) (Int x) (Int y) s = omega arith
two_cost (reckons f) (Int x) (Truth y) s = omega arith
two_cost (reckons f) (Truth x) y s = omega arith
two_cost (compares r) (Int x) (Int y) s = omega arith
two_cost (compares r) (Int x) (Truth y) s = omega arith
two_cost (compares r) (Truth x) y s = omega arith
two_cost (joins f) (Truth x) (Truth y) s = omega arith
two_cost (joins f) (Truth x) (Int y) s = omega arith
two_cost (joins f) (Int x) y s = omega arith

if_cost : (b : Bool) (x : Value) (s : Progress) → cost_by (cond b (goes_on x s) (over (in_trouble WrongSort) s)) ≤ s.count
if_cost true x s = omega arith
if_cost false x s = omega arith

divide_cost : (op : BinaryOperator) (k : ℤ) (x : Value) (s : Progress) → cost_by (divide op k x s) ≤ s.count
divide_cost op k (Int x) s = if_cost (int_lt (pos 0) k) (Int (quotient op x k)) s
divide_cost op k (Truth x) s = omega arith

pub value_cost : (c : Scope) (t : Tree) (s : Progress) → cost_by (value_of c t s) ≤ s.count + cost_of t
value_cost c (number at k) s = omega arith
value_cost c (truth at b) s = omega arith
value_cost c (variable at n) s = read_cost (slot (variable_at c n) s) (tick s)
value_cost c (unary at op t) s =
    cost_bind (s.count + cost_of t) (s.count + cost_of (unary at op t)) (value_of c t s) (λ x s. apply_one op x (tick s)) (omega arith) (value_cost c t s)
    (λ x v le. let h = one_cost op x (tick v) in omega (arith, h, le))
value_cost c (binary at op t u) s = by_division (is_division op) (value_cost c t s) (λ v. value_cost c u v)
  where
    by_division : (d : Bool) → cost_by (value_of c t s) ≤ s.count + cost_of t → ((v : Progress) → cost_by (value_of c u v) ≤ v.count + cost_of u)
        → cost_by (then_do (value_of c t s) (λ x s. cond d (divide op (divisor_of u) x (tick s)) (then_do (value_of c u s) (λ y s. apply_two (working (is_truth c t) op) x y (tick s))))) ≤ s.count + (cost_of t + cond d 0 (cost_of u) + 1)
    by_division true left right =
        cost_bind (s.count + cost_of t) (s.count + (cost_of t + 0 + 1)) (value_of c t s) (λ x s. divide op (divisor_of u) x (tick s)) (omega arith) left
        (λ x v le. let h = divide_cost op (divisor_of u) x (tick v) in omega (arith, h, le))
    by_division false left right =
        cost_bind (s.count + cost_of t) (s.count + (cost_of t + cost_of u + 1)) (value_of c t s) (λ x s. then_do (value_of c u s) (λ y s. apply_two (working (is_truth c t) op) x y (tick s))) (omega arith) left
        (λ x v le. cost_bind (v.count + cost_of u) (s.count + (cost_of t + cost_of u + 1)) (value_of c u v) (λ y s. apply_two (working (is_truth c t) op) x y (tick s)) (omega (arith, le)) (right v)
        (λ y w le2. let h = two_cost (working (is_truth c t) op) x y (tick w) in omega (arith, h, le, le2)))

values_cost : (c : Scope) (ts : List Tree) (s : Progress) → cost_by (values_of c ts s) ≤ s.count + sum_by cost_of ts
values_cost c [] s = omega arith
values_cost c (t ∷ ts) s =
    cost_bind (s.count + cost_of t) (s.count + sum_by cost_of (t ∷ ts)) (value_of c t s) (λ x s. then_do (values_of c ts s) (λ xs s. goes_on (x ∷ xs) s)) (omega (arith, sum_by-cons cost_of t ts)) (value_cost c t s)
    (λ x v le. cost_bind (v.count + sum_by cost_of ts) (s.count + sum_by cost_of (t ∷ ts)) (values_of c ts v) (λ xs s. goes_on (x ∷ xs) s) (omega (arith, le, sum_by-cons cost_of t ts)) (values_cost c ts v)
    (λ xs w le2. omega (arith, le, le2, sum_by-cons cost_of t ts)))

put_cost : (n : Option ℕ) (p : Option Address) (xs : List Value) (s : Progress) → cost_by (put_out n p xs s) ≤ s.count
put_cost None p xs s = omega arith
put_cost (Some n) None xs s = omega arith
put_cost (Some n) (Some p) xs s = omega arith

send_cost : (c : Scope) (sender : Option Address) (to : Option Destination) (x : PlainSending) (s : Progress) → cost_by (send c sender to x s) ≤ s.count + sending_cost x
send_cost c sender to x s =
    cost_bind (s.count + sum_by cost_of x.parameters) (s.count + sending_cost x) (values_of c x.parameters s) (λ xs s. put_out (signal_at c x.signal) (receiver_of c sender to x.signal) xs (tick s)) (omega arith) (values_cost c x.parameters s)
    (λ xs v le. let h = put_cost (signal_at c x.signal) (receiver_of c sender to x.signal) xs (tick v) in omega (arith, h, le))

send_all_cost : (c : Scope) (sender : Option Address) (to : Option Destination) (xs : List PlainSending) (s : Progress) → cost_by (send_all c sender to xs s) ≤ s.count + sendings_cost xs
send_all_cost c sender to [] s = omega arith
send_all_cost c sender to (x ∷ xs) s =
    cost_bind (s.count + sending_cost x) (s.count + sendings_cost (x ∷ xs)) (send c sender to x s) (λ _ s. send_all c sender to xs s) (omega (arith, sum_by-cons sending_cost x xs)) (send_cost c sender to x s)
    (λ _ v le. let h = send_all_cost c sender to xs v in omega (arith, h, le, sum_by-cons sending_cost x xs))

assign_cost : (c : Scope) (ts : List PlainAssignment) (s : Progress) → cost_by (assign c ts s) ≤ s.count + assignments_cost ts
assign_cost c [] s = omega arith
assign_cost c (t ∷ ts) s =
    cost_bind (s.count + cost_of t.value) (s.count + assignments_cost (t ∷ ts)) (value_of c t.value s) (λ x s. then_do (write (variable_at c t.variable) x s) (λ _ s. assign c ts s)) (omega (arith, sum_by-cons assignment_cost t ts)) (value_cost c t.value s)
    (λ x v le. cost_bind (v.count + 1) (s.count + assignments_cost (t ∷ ts)) (write (variable_at c t.variable) x v) (λ _ s. assign c ts s) (omega (arith, le, sum_by-cons assignment_cost t ts)) (write_cost (variable_at c t.variable) x v)
    (λ _ w le2. let h = assign_cost c ts w in omega (arith, h, le, le2, sum_by-cons assignment_cost t ts)))

start_cost : (o : Option ℕ) (x : Value) (s : Progress) → cost_by (start_timer o x s) ≤ s.count
start_cost None x s = omega arith
start_cost (Some t) (Int z) s = omega arith
start_cost (Some t) (Truth b) s = omega arith

stop_cost : (o : Option ℕ) (s : Progress) → cost_by (stop_timer o s) ≤ s.count
stop_cost None s = omega arith
stop_cost (Some t) s = omega arith

pub perform_cost : (c : Scope) (sender : Option Address) (a : PlainAction) (s : Progress) → cost_by (perform c sender a s) ≤ s.count + action_cost a
perform_cost c sender (task at ts) s = assign_cost c ts s
perform_cost c sender (output at xs to) s = send_all_cost c sender to xs s
perform_cost c sender (set_timer at t n) s =
    cost_bind (s.count + cost_of t) (s.count + (cost_of t + 1)) (value_of c t s) (λ x s. start_timer (timer_at c n) x (tick s)) (omega arith) (value_cost c t s)
    (λ x v le. let h = start_cost (timer_at c n) x (tick v) in omega (arith, h, le))
perform_cost c sender (reset_timer at n) s = let h = stop_cost (timer_at c n) (tick s) in omega (arith, h)

pass_cost : (o : Option Value) (v : Option ℕ) (s : Progress) → cost_by (pass o v s) ≤ s.count + 2
pass_cost None v s = omega arith
pass_cost (Some x) v s = let h = write_cost v x (tick s) in omega (arith, h)

pub take_cost : (c : Scope) (ps : List Value) (j : ℕ) (places : List (Option Identifier)) (s : Progress) → cost_by (take_places c ps j places s) ≤ s.count + places_cost places
take_cost c ps j [] s = omega arith
take_cost c ps j (None ∷ places) s = let h = take_cost c ps (j + 1) places s in omega (arith, h, sum_by-cons place_cost None places)
take_cost c ps j (Some n ∷ places) s =
    cost_bind (s.count + 2) (s.count + places_cost (Some n ∷ places)) (pass (slice_get ps j) (variable_at c n) s) (λ _ s. take_places c ps (j + 1) places s) (omega (arith, sum_by-cons place_cost (Some n) places)) (pass_cost (slice_get ps j) (variable_at c n) s)
    (λ _ v le. let h = take_cost c ps (j + 1) places v in omega (arith, h, le, sum_by-cons place_cost (Some n) places))
