-- The results of expressions, actions and answers: their meaning agrees with the path of a turn.
use Rattle.std.proofs.Common.{◌≡◌, ◌∙◌, ℕ, ◌+◌, Bool, true, false, cond, ◌||◌, List, [], ◌∷◌, Option, None, Some, unwrap_or, refl, sym, ap, subst}
use Rattle.std.specs.Prelude.{ℤ, slice_get, slice_set}
use Rattle.sdl_ast.specs.declared.expression.Identifier.{Identifier}
use Rattle.sdl_ast.specs.declared.tree.Destination.{Destination}
use Rattle.sdl_ast.specs.declared.tree.Range.{Range}
use Rattle.sdl_ast.specs.Plain.{Tree, PlainAssignment, PlainSending, PlainAction, task, output, set_timer, reset_timer}
use Rattle.sdl_meaning.specs.Act.{written, write, value_of, values_of, assign, put_out, send, send_all, start_timer, stop_timer, perform, told, try_ranges, find_truth, pass, take_places, covers_integer, covers_truth, receiver_of}
use Rattle.sdl_meaning.specs.Outcomes.{Scope, at_end, in_trouble, Outcome, goes_on, over, then_do, variable_at, signal_at, timer_at}
use Rattle.turn_code.specs.declared.input.Address.{Address}
use Rattle.turn_code.specs.declared.value.Value.{Value}
use Rattle.turn_code.specs.declared.value.Value.TheVariants.{Int, Bool as Truth}
use Rattle.turn_code.specs.Run.{Progress, tick}
use Rattle.script_covered.specs.Ways.{is_for, put, put_at, assigned, behind_action, taken_in}
use Rattle.sdl_meaning.specs.Valued.{valued, Reads}
use Rattle.sdl_meaning.proofs.Readings.{Values, ids, value_reads}

-- ---- parts that leave the variables unchanged

-- the part goes on with these variables, or is stuck
abbrev pub Keeps : {A : Type 0} → Outcome A → Values → Type 0
Keeps (goes_on x s) vs = s.variables ≡ vs
Keeps (over (at_end e) s) vs = ⊥
Keeps (over (in_trouble t) s) vs = Unit {0}

then_keeps : {A B : Type 0} (o : Outcome A) (us vs : Values) (f : A → Progress → Outcome B) → Keeps o us → ((x : A) (r : Progress) → r.variables ≡ us → Keeps (f x r) vs) → Keeps (then_do o f) vs
then_keeps (goes_on x s) us vs f h step = step x s h
then_keeps (over (at_end e) s) us vs f h step = h
then_keeps (over (in_trouble t) s) us vs f h step = tt

read_keeps : {A B : Type 0} (o : Outcome A) (p : Option A) (us vs : Values) (f : A → Progress → Outcome B) → Reads o p us
    → ((x : A) (r : Progress) → p ≡ Some x → r.variables ≡ us → Keeps (f x r) vs) → Keeps (then_do o f) vs
read_keeps (goes_on x s) p us vs f h step = step x s h.0 h.1
read_keeps (over (at_end e) s) p us vs f h step = h
read_keeps (over (in_trouble t) s) p us vs f h step = tt

written_keeps : (o : Option (Option Value)) (n : ℕ) (x : Value) (r : Progress) (vs : Values) → r.variables ≡ vs → Keeps (written o n x r) (slice_set vs n (Some x))
written_keeps None n x r vs is = tt
written_keeps (Some old) n x r vs is = ap (λ (l : Values). slice_set l n (Some x)) is

write_keeps : (o : Option ℕ) (x : Value) (r : Progress) (vs : Values) → r.variables ≡ vs → Keeps (write o x r) (put_at o (Some x) vs)
write_keeps None x r vs is = tt
write_keeps (Some n) x r vs is = written_keeps (slice_get r.variables n) n x (tick r) vs is

put_out_keeps : (o : Option ℕ) (p : Option Address) (xs : List Value) (r : Progress) (vs : Values) → r.variables ≡ vs → Keeps (put_out o p xs r) vs
put_out_keeps None p xs r vs is = tt
put_out_keeps (Some n) None xs r vs is = tt
put_out_keeps (Some n) (Some p) xs r vs is = is

start_keeps : (o : Option ℕ) (x : Value) (r : Progress) (vs : Values) → r.variables ≡ vs → Keeps (start_timer o x r) vs
start_keeps None x r vs is = tt
start_keeps (Some t) (Int z) r vs is = is
start_keeps (Some t) (Truth b) r vs is = tt

stop_keeps : (o : Option ℕ) (r : Progress) → Keeps (stop_timer o r) r.variables
stop_keeps None r = tt
stop_keeps (Some t) r = refl

module _ (c : Scope) where
  assign_keeps : (ts : List PlainAssignment) (s : Progress) → Keeps (assign c ts s) (assigned (ids c) ts s.variables)
  assign_keeps [] s = refl
  assign_keeps (a ∷ rest) s =
      read_keeps (value_of c a.value s) (valued (ids c) a.value s.variables) s.variables _ (λ x r. then_do (write (variable_at c a.variable) x r) (λ _ q. assign c rest q)) (value_reads c a.value s)
      (λ x r is here. then_keeps (write (variable_at c a.variable) x r) (put (ids c) a.variable (Some x) s.variables) _ (λ _ q. assign c rest q)
      (write_keeps (variable_at c a.variable) x r s.variables here)
      (λ _ q there. subst (λ (us : Values). Keeps (assign c rest q) (assigned (ids c) rest us)) (there ∙ ap (λ (o : Option Value). put (ids c) a.variable o s.variables) (sym is)) (assign_keeps rest q)))

  values_keep : (ts : List Tree) (s : Progress) → Keeps (values_of c ts s) s.variables
  values_keep [] s = refl
  values_keep (t ∷ ts) s =
      read_keeps (value_of c t s) (valued (ids c) t s.variables) s.variables s.variables (λ x r. then_do (values_of c ts r) (λ xs q. goes_on (x ∷ xs) q)) (value_reads c t s)
      (λ x r is here. then_keeps (values_of c ts r) r.variables s.variables (λ xs q. goes_on (x ∷ xs) q) (values_keep ts r) (λ xs q there. there ∙ here))

  module _ (sender : Option Address) where
    send_keeps : (to : Option Destination) (x : PlainSending) (s : Progress) → Keeps (send c sender to x s) s.variables
    send_keeps to x s =
        then_keeps (values_of c x.parameters s) s.variables s.variables (λ xs r. put_out (signal_at c x.signal) (receiver_of c sender to x.signal) xs (tick r)) (values_keep x.parameters s)
        (λ xs r here. put_out_keeps (signal_at c x.signal) (receiver_of c sender to x.signal) xs (tick r) s.variables here)

    sends_keep : (to : Option Destination) (xs : List PlainSending) (s : Progress) → Keeps (send_all c sender to xs s) s.variables
    sends_keep to [] s = refl
    sends_keep to (x ∷ xs) s =
        then_keeps (send c sender to x s) s.variables s.variables (λ _ r. send_all c sender to xs r) (send_keeps to x s)
        (λ _ r here. subst (Keeps (send_all c sender to xs r)) here (sends_keep to xs r))

    pub perform_keeps : (a : PlainAction) (s : Progress) → Keeps (perform c sender a s) (behind_action (ids c) a s.variables)
    perform_keeps (task k ts) s = assign_keeps ts s
    perform_keeps (output k xs to) s = sends_keep to xs s
    perform_keeps (set_timer k t n) s =
        read_keeps (value_of c t s) (valued (ids c) t s.variables) s.variables s.variables (λ x r. start_timer (timer_at c n) x (tick r)) (value_reads c t s)
        (λ x r is here. start_keeps (timer_at c n) x (tick r) s.variables here)
    perform_keeps (reset_timer k n) s = stop_keeps (timer_at c n) (tick s)

  pub places_keep : (ps : List Value) (j : ℕ) (places : List (Option Identifier)) (s : Progress) → Keeps (take_places c ps j places s) (taken_in (ids c) ps j places s.variables)
  places_keep ps j [] s = refl
  places_keep ps j (None ∷ places) s = places_keep ps (j + 1) places s
  places_keep ps j (Some n ∷ places) s = by_parameter (slice_get ps j) (places_keep ps (j + 1) places)
    where
      by_parameter : (o : Option Value) → ((r : Progress) → Keeps (take_places c ps (j + 1) places r) (taken_in (ids c) ps (j + 1) places r.variables))
          → Keeps (then_do (pass o (variable_at c n) s) (λ _ r. take_places c ps (j + 1) places r)) (taken_in (ids c) ps (j + 1) places (put (ids c) n o s.variables))
      by_parameter None rest = tt
      by_parameter (Some x) rest =
          then_keeps (write (variable_at c n) x (tick s)) (put (ids c) n (Some x) s.variables) _ (λ _ r. take_places c ps (j + 1) places r) (write_keeps (variable_at c n) x (tick s) s.variables refl)
          (λ _ r here. subst (λ (us : Values). Keeps (take_places c ps (j + 1) places r) (taken_in (ids c) ps (j + 1) places us)) here (rest r))

-- ---- answers

pub tried : (rs : List Range) (x : ℤ) (s : Progress) → Reads (try_ranges rs x s) (Some (is_for rs (Int x))) s.variables
tried [] x s = (refl, refl)
tried (r ∷ rs) x s = by_told (covers_integer r x) (tried rs x (tick s))
  where
    by_told : (o : Option Bool) → Reads (try_ranges rs x (tick s)) (Some (is_for rs (Int x))) s.variables
        → Reads (then_do (told o (tick s)) (λ b q. cond b (goes_on true q) (try_ranges rs x q))) (Some (unwrap_or o false || is_for rs (Int x))) s.variables
    by_told None rest = tt
    by_told (Some true) rest = (refl, refl)
    by_told (Some false) rest = rest

pub found_so : (rs : List Range) (b : Bool) (s : Progress) → Reads (find_truth rs b s) (Some (is_for rs (Truth b))) s.variables
found_so [] b s = (refl, refl)
found_so (r ∷ rs) b s = by_told (covers_truth r b) (found_so rs b s)
  where
    by_told : (o : Option Bool) → Reads (find_truth rs b s) (Some (is_for rs (Truth b))) s.variables
        → Reads (then_do (told o s) (λ d q. cond d (goes_on true q) (find_truth rs b q))) (Some (unwrap_or o false || is_for rs (Truth b))) s.variables
    by_told None rest = tt
    by_told (Some true) rest = (refl, refl)
    by_told (Some false) rest = rest
