-- The kept window determines all results of the window over all messages.
use Rattle.std.proofs.Common.{◌≡◌, ℕ, ◌+◌, ◌-◌, ◌%◌, ◌<◌, ◌≤◌, zero, suc, ◌==◌, Bool, true, false, if◌then◌else◌, nat_lt, nat_le, List, [], ◌∷◌, ◌++◌, length, take, drop, refl, ap, sym, ◌∙◌, subst, arith, zero-add}
use Rattle.std.specs.Prelude.{Option, Some, None, slice_get}
use Rattle.std.proofs.lemmas.List.{drop-drop, drop-append-le, length-drop, length-take, length_push, drop-take, drop_all}
use Rattle.resend_store.specs.declared.messages.Mode.{Mode}
use Rattle.resend_store.specs.declared.messages.RoundLimits.{RoundLimits}
use Rattle.resend_store.specs.declared.messages.Mode.TheVariants.{Basic, Cyclic}
use Rattle.resend_store.specs.declared.messages.Msu.{Msu}
use Rattle.resend_store.specs.declared.messages.Outgoing.{Outgoing}
use Rattle.resend_store.specs.Limits.{MOST_UNACKNOWLEDGED, MOST_WAITING, MOST_KEPT}
use Rattle.resend_store.specs.Numbers.{plus, minus}
use Rattle.resend_store.specs.Messages.{reaches_limit}
use Rattle.resend_store.specs.Window.{Window, Sending, unacknowledged, waiting, number_at, start_within, with_put, may_send, at_limit, unit_at, fill_in, repeats, round, after_new, sends_new, cycles, next_basic, next_ordinary, next_forced, next_by, next, count_by, without, asked, retrieved, count_known, emptied, refreshed}
use Rattle.resend_store.specs.Runs.{Call, put, put_diverted, next_unit, on_back, retrieve, fresh, is_accepted, accepted, step, after}
use Rattle.resend_store.specs.Whole.{Whole, number_of, in_window, whole_start, WholeSending, carries, fills_in, goes_again, forces, forces_by, goes_out, goes_in_turn, is_open, whole_next_basic, whole_next_ordinary, whole_next_forced, whole_next_by, whole_next, whole_count, acknowledges, whole_asked, whole_known, handed, whole_emptied, whole_refreshed, whole_accepts, whole_accepted, whole_step, whole_after, StandsFor, KeptIsEnough}
use Rattle.resend_store.proofs.WindowTests.{may_waits, limit_sent, same_lt, same_eq, both_same, not_above_zero}
use Rattle.std.proofs.lemmas.Bool.{leb-true as le_by_test, ltb-true}

-- ---- tests and lists

-- equal tests choose alike
pick : {A B : Type 0} (R : A → B → Type 0) (b c : Bool) (x y : A) (z v : B) → b ≡ c → (b ≡ true → R x z) → (b ≡ false → R y v) → R (if b then x else y) (if c then z else v)
pick R true c x y z v e h k = let P : Bool → Type 0 = λ d. R x (if d then z else v) in subst P e (h refl)
pick R false c x y z v e h k = let P : Bool → Type 0 = λ d. R y (if d then z else v) in subst P e (k refl)

pub slice_get_drop : (n : ℕ) (ms : List Msu) (i : ℕ) → slice_get (drop n ms) i ≡ slice_get ms (n + i)
slice_get_drop zero ms i = ap (λ (k : ℕ). slice_get ms k) (sym (zero-add i))
slice_get_drop (suc n) [] i = refl
slice_get_drop (suc n) (m ∷ ms) i = let e : suc n + i ≡ suc (n + i) = omega arith in rw e (slice_get_drop n ms i)

-- ---- units

same_unit : (a b m n : ℕ) (x y : Option Msu) → a ≡ b → m ≡ n → x ≡ y
    → (let u : Outgoing = record { fsn = a; fib = m; msu = x } in u) ≡ (let u : Outgoing = record { fsn = b; fib = n; msu = y } in u)
same_unit a b m n x y e f g = rw (e, f, g) refl

number_sum : (first a o i : ℕ) → o ≤ a → first ≡ (a - o) % 128 → plus first i ≡ (a + i - o) % 128
number_sum first a o i h e = omega arith

-- a message has the same number in both windows
number_alike : (h : Whole) (w : Window) (i j : ℕ) → StandsFor h w → h.acknowledged + i ≡ j → number_at w i ≡ number_of h j
number_alike h w i j st e =
    number_sum w.first h.acknowledged h.origin i st.origin st.first ∙ ap (λ (k : ℕ). number_of h k) e

unit_alike : (h : Whole) (w : Window) (i j : ℕ) → StandsFor h w → h.acknowledged + i ≡ j → unit_at w i ≡ carries h j
unit_alike h w i j st e =
    same_unit (number_at w i) (number_of h j) w.fib h.fib (slice_get w.kept i) (slice_get h.messages j) (number_alike h w i j st e) st.fib
    (ap (λ (ms : List Msu). slice_get ms i) st.kept ∙ slice_get_drop h.acknowledged h.messages i ∙ ap (λ (k : ℕ). slice_get h.messages k) e)

-- ---- a call to send

record SendAlike (s : Sending) (t : WholeSending) : Type 0 where
  pub unit : s.unit ≡ t.unit
  pub left : StandsFor t.left s.left

fill_alike : (h : Whole) (w : Window) → StandsFor h w → SendAlike (fill_in w) (fills_in h)
fill_alike h w st = record {
  unit = same_unit (minus (number_at w w.sent) 1) (minus (number_of h h.sent) 1) w.fib h.fib None None (ap (λ (n : ℕ). minus n 1) (number_alike h w w.sent h.sent st st.sent)) st.fib refl;
  left = st;
}

repeat_alike : (h : Whole) (w : Window) → StandsFor h w → 0 < w.again → SendAlike (repeats w) (goes_again h)
repeat_alike h w st some =
    let sent = st.sent in let again = st.again in let repeats = st.repeats in
    record {
      unit = unit_alike h w (w.sent - w.again) h.repeat_from st (omega arith);
      left = record {
        mode = st.mode;
        limits = st.limits;
        kept = st.kept;
        sent = st.sent;
        first = st.first;
        fib = st.fib;
        again = omega arith;
        forced = st.forced;
        turn = st.turn;
        origin = st.origin;
        inside = st.inside;
        repeats = omega arith;
        idle = λ m f. let rest = st.idle m f in omega arith;
      };
    }

limit_alike : (h : Whole) (w : Window) → StandsFor h w → at_limit w ≡ reaches_limit h.limits (in_window h)
limit_alike h w st =
    ap (λ (l : RoundLimits). reaches_limit l (unacknowledged w)) st.limits
    ∙ ap (λ (ms : List Msu). reaches_limit h.limits ms)
    (ap (λ (ms : List Msu). take w.sent ms) st.kept ∙ sym (drop-take h.acknowledged w.sent h.messages) ∙ ap (λ (k : ℕ). drop h.acknowledged (take k h.messages)) st.sent)

round_alike : (h : Whole) (w : Window) → StandsFor h w → StandsFor (forces h) (round w)
round_alike h w st = record {
  mode = st.mode;
  limits = st.limits;
  kept = st.kept;
  sent = st.sent;
  first = st.first;
  fib = st.fib;
  again = st.sent;
  forced = refl;
  turn = st.turn;
  origin = st.origin;
  inside = st.inside;
  repeats = omega arith;
  idle = λ m f. absurd (let wrong : true ≡ false = f in cc);
}

forces_alike : (m : Mode) (h : Whole) (w : Window) → StandsFor h w → StandsFor (forces_by m h) (after_new m w)
forces_alike Basic h w st = st
forces_alike Cyclic h w st =
    let R : Window → Whole → Type 0 = λ v k. StandsFor k v in
    pick R (at_limit w) (reaches_limit h.limits (in_window h)) (round w) w (forces h) h (limit_alike h w st) (λ _. round_alike h w st) (λ _. st)

kept_length : (h : Whole) (w : Window) → StandsFor h w → length w.kept ≡ length h.messages - h.acknowledged
kept_length h w st = ap (λ (ms : List Msu). length ms) st.kept ∙ length-drop h.acknowledged h.messages

-- one more is sent
more_sent : (h : Whole) (w : Window) → StandsFor h w → w.sent < length w.kept → w.again ≡ 0 → StandsFor (record h { sent = h.sent + 1; repeat_from = h.sent + 1 }) (record w { sent = w.sent + 1 })
more_sent h w st more none =
    let sent = st.sent in let size = kept_length h w st in
    record { mode = st.mode; limits = st.limits; kept = st.kept; sent = omega arith; first = st.first; fib = st.fib; again = omega arith; forced = st.forced; turn = st.turn; origin = st.origin; inside = omega arith; repeats = omega arith; idle = λ m f. refl }

new_alike : (h : Whole) (w : Window) → StandsFor h w → w.sent < length w.kept → w.again ≡ 0 → SendAlike (sends_new w) (goes_out h)
new_alike h w st more none =
    let v : Window = record w { sent = w.sent + 1 } in
    let k : Whole = record h { sent = h.sent + 1; repeat_from = h.sent + 1 } in
    let P : Mode → Type 0 = λ m. StandsFor (forces_by m k) (after_new w.mode v) in
    record {
      unit = unit_alike h w w.sent h.sent st st.sent;
      left = subst P st.mode (forces_alike w.mode k v (more_sent h w st more none));
    }

turn_alike : (h : Whole) (w : Window) → StandsFor h w → SendAlike (cycles w) (goes_in_turn h)
turn_alike h w st =
    let sent = st.sent in let turn = st.turn in
    let R : ℕ → ℕ → Type 0 = λ x y. h.acknowledged + x ≡ y in
    record {
      unit = unit_alike h w w.turn h.turn st st.turn;
      left = record {
        mode = st.mode;
        limits = st.limits;
        kept = st.kept;
        sent = st.sent;
        first = st.first;
        fib = st.fib;
        again = st.again;
        forced = st.forced;
        origin = st.origin;
        inside = st.inside;
        repeats = st.repeats;
        idle = st.idle;
        turn = pick R (w.turn + 1 == w.sent) (h.turn + 1 == h.sent) 0 (w.turn + 1) h.acknowledged (h.turn + 1)
            (same_eq (w.turn + 1) w.sent (h.turn + 1) h.sent (λ e. omega arith) (λ e. omega arith)) (λ _. omega arith) (λ _. omega arith);
      };
    }

may_alike : (h : Whole) (w : Window) → StandsFor h w → may_send w ≡ is_open h
may_alike h w st =
    let sent = st.sent in let size = kept_length h w st in let inside = st.inside in
    let width : w.sent ≡ h.sent - h.acknowledged = omega arith in
    both_same (nat_lt w.sent (length w.kept)) (nat_lt h.sent (length h.messages)) (nat_lt w.sent MOST_UNACKNOWLEDGED) (nat_lt (h.sent - h.acknowledged) MOST_UNACKNOWLEDGED)
    (same_lt w.sent (length w.kept) h.sent (length h.messages) (λ lt. omega arith) (λ lt. omega arith))
    (ap (λ (n : ℕ). nat_lt n MOST_UNACKNOWLEDGED) width)

again_alike : (h : Whole) (w : Window) → StandsFor h w → nat_lt 0 w.again ≡ nat_lt h.repeat_from h.sent
again_alike h w st = let again = st.again in same_lt 0 w.again h.repeat_from h.sent (λ lt. omega arith) (λ lt. omega arith)

some_alike : (h : Whole) (w : Window) → StandsFor h w → nat_lt 0 w.sent ≡ nat_lt h.acknowledged h.sent
some_alike h w st = let sent = st.sent in same_lt 0 w.sent h.acknowledged h.sent (λ lt. omega arith) (λ lt. omega arith)

basic_alike : (h : Whole) (w : Window) → StandsFor h w → SendAlike (next_basic w) (whole_next_basic h)
basic_alike h w st =
    let R : Sending → WholeSending → Type 0 = λ s t. SendAlike s t in
    pick R (nat_lt 0 w.again) (nat_lt h.repeat_from h.sent) (repeats w) (if may_send w then sends_new w else fill_in w) (goes_again h) (if is_open h then goes_out h else fills_in h)
    (again_alike h w st)
    (λ some. repeat_alike h w st (ltb-true 0 w.again some))
    (λ none. pick R (may_send w) (is_open h) (sends_new w) (fill_in w) (goes_out h) (fills_in h) (may_alike h w st)
    (λ may. new_alike h w st (may_waits w may) (not_above_zero w.again none)) (λ _. fill_alike h w st))

ordinary_alike : (h : Whole) (w : Window) → StandsFor h w → w.again ≡ 0 → SendAlike (next_ordinary w) (whole_next_ordinary h)
ordinary_alike h w st none =
    let R : Sending → WholeSending → Type 0 = λ s t. SendAlike s t in
    pick R (may_send w) (is_open h) (sends_new w) (if nat_lt 0 w.sent then cycles w else fill_in w) (goes_out h) (if nat_lt h.acknowledged h.sent then goes_in_turn h else fills_in h)
    (may_alike h w st)
    (λ may. new_alike h w st (may_waits w may) none)
    (λ _. pick R (nat_lt 0 w.sent) (nat_lt h.acknowledged h.sent) (cycles w) (fill_in w) (goes_in_turn h) (fills_in h) (some_alike h w st) (λ _. turn_alike h w st) (λ _. fill_alike h w st))

-- forced retransmission is over
unforced : (h : Whole) (w : Window) → StandsFor h w → w.again ≡ 0 → StandsFor (record h { forced = false }) (record w { forced = false })
unforced h w st none =
    let again = st.again in
    record { mode = st.mode; limits = st.limits; kept = st.kept; sent = st.sent; first = st.first; fib = st.fib; again = st.again; forced = refl; turn = st.turn; origin = st.origin; inside = st.inside; repeats = st.repeats; idle = λ m f. omega arith }

forced_alike : (h : Whole) (w : Window) → StandsFor h w → SendAlike (next_forced w) (whole_next_forced h)
forced_alike h w st =
    let R : Sending → WholeSending → Type 0 = λ s t. SendAlike s t in
    let v : Window = record w { forced = false } in
    let k : Whole = record h { forced = false } in
    pick R (nat_lt 0 w.again) (nat_lt h.repeat_from h.sent) (repeats w) (if at_limit w then repeats (round w) else next_ordinary v) (goes_again h) (if reaches_limit h.limits (in_window h) then goes_again (forces h) else whole_next_ordinary k)
    (again_alike h w st)
    (λ some. repeat_alike h w st (ltb-true 0 w.again some))
    (λ none. pick R (at_limit w) (reaches_limit h.limits (in_window h)) (repeats (round w)) (next_ordinary v) (goes_again (forces h)) (whole_next_ordinary k) (limit_alike h w st)
    (λ full. repeat_alike (forces h) (round w) (round_alike h w st) (limit_sent w.limits w.sent w.kept full))
    (λ _. ordinary_alike k v (unforced h w st (not_above_zero w.again none)) (not_above_zero w.again none)))

idle_again : (h : Whole) (w : Window) → StandsFor h w → h.mode ≡ Cyclic → w.forced ≡ false → w.again ≡ 0
idle_again h w st m f = let rest = st.idle m (sym st.forced ∙ f) in let again = st.again in omega arith

by_mode_alike : (m : Mode) (h : Whole) (w : Window) → h.mode ≡ m → StandsFor h w → SendAlike (next_by m w) (whole_next_by m h)
by_mode_alike Basic h w e st = basic_alike h w st
by_mode_alike Cyclic h w e st =
    let R : Sending → WholeSending → Type 0 = λ s t. SendAlike s t in
    pick R w.forced h.forced (next_forced w) (next_ordinary w) (whole_next_forced h) (whole_next_ordinary h) st.forced
    (λ _. forced_alike h w st) (λ f. ordinary_alike h w st (idle_again h w st e f))

send_alike : (h : Whole) (w : Window) → StandsFor h w → SendAlike (next w) (whole_next h)
send_alike h w st =
    let P : Mode → Type 0 = λ m. SendAlike (next_by m w) (whole_next_by h.mode h) in
    subst P (sym st.mode) (by_mode_alike h.mode h w refl st)

-- ---- the other calls

add_alike : (h : Whole) (w : Window) (m : Msu) → StandsFor h w → StandsFor (record h { messages = h.messages ++ m ∷ [] }) (with_put w m)
add_alike h w m st =
    let sent = st.sent in let inside = st.inside in let longer = length_push h.messages m in
    record {
      mode = st.mode;
      limits = st.limits;
      sent = st.sent;
      first = st.first;
      fib = st.fib;
      again = st.again;
      forced = st.forced;
      turn = st.turn;
      origin = st.origin;
      inside = omega arith;
      repeats = st.repeats;
      idle = st.idle;
      kept = ap (λ (ms : List Msu). ms ++ m ∷ []) st.kept ∙ sym (drop-append-le h.acknowledged h.messages (m ∷ []) (omega arith));
    }

count_alike : (h : Whole) (w : Window) (bsn : ℕ) → StandsFor h w → count_by w bsn ≡ whole_count h bsn
count_alike h w bsn st = ap (λ (n : ℕ). minus bsn (minus n 1)) st.first

known_alike : (h : Whole) (w : Window) (fsn : Option ℕ) → StandsFor h w → count_known w fsn ≡ whole_known h fsn
known_alike h w (Some fsn) st = count_alike h w fsn st
known_alike h w None st = refl

handed_alike : (h : Whole) (w : Window) (fsn : Option ℕ) → StandsFor h w → retrieved w fsn ≡ handed h fsn
handed_alike h w (Some fsn) st =
    ap (λ (ms : List Msu). drop (count_by w fsn) ms) st.kept ∙ drop-drop (count_by w fsn) h.acknowledged h.messages ∙ ap (λ (k : ℕ). drop (h.acknowledged + k) h.messages) (count_alike h w fsn st)
handed_alike h w None st =
    ap (λ (ms : List Msu). drop w.sent ms) st.kept ∙ drop-drop w.sent h.acknowledged h.messages ∙ ap (λ (k : ℕ). drop k h.messages) st.sent

without_alike : (h : Whole) (w : Window) (n : ℕ) → StandsFor h w → n ≤ w.sent → StandsFor (acknowledges h n) (without w n)
without_alike h w n st few =
    let sent = st.sent in let again = st.again in let turn = st.turn in let repeats = st.repeats in let origin = st.origin in
    record {
      mode = st.mode;
      limits = st.limits;
      fib = st.fib;
      forced = st.forced;
      inside = st.inside;
      kept = ap (λ (ms : List Msu). drop n ms) st.kept ∙ drop-drop n h.acknowledged h.messages;
      sent = omega arith;
      first = number_sum w.first h.acknowledged h.origin n st.origin st.first;
      again = omega arith;
      turn = omega arith;
      origin = omega arith;
      repeats = omega arith;
      idle = λ m f. let rest = st.idle m f in omega arith;
    }

asked_alike : (m : Mode) (bib : ℕ) (h : Whole) (w : Window) → h.mode ≡ m → StandsFor h w → StandsFor (whole_asked m bib h) (asked m bib w)
asked_alike Basic bib h w e st =
    let R : Window → Whole → Type 0 = λ v k. StandsFor k v in
    pick R (bib == w.fib) (bib == h.fib) w (record w { fib = 1 - w.fib; again = w.sent }) h (record h { fib = 1 - h.fib; repeat_from = h.acknowledged })
    (ap (λ (n : ℕ). bib == n) st.fib) (λ _. st)
    (λ _. record {
      mode = st.mode;
      limits = st.limits;
      kept = st.kept;
      sent = st.sent;
      first = st.first;
      fib = ap (λ (n : ℕ). 1 - n) st.fib;
      again = st.sent;
      forced = st.forced;
      turn = st.turn;
      origin = st.origin;
      inside = st.inside;
      repeats = omega arith;
      idle = λ m f. let wrong : h.mode ≡ Cyclic = m in absurd (cc);
    })
asked_alike Cyclic bib h w e st = st

back_alike : (h : Whole) (w : Window) (n m bib : ℕ) → StandsFor h w → n ≡ m → n ≤ w.sent → StandsFor (whole_asked h.mode bib (acknowledges h m)) (asked w.mode bib (without w n))
back_alike h w n m bib st e few =
    let P : ℕ → Type 0 = λ k. StandsFor (whole_asked h.mode bib (acknowledges h k)) (asked w.mode bib (without w n)) in
    let Q : Mode → Type 0 = λ mode. StandsFor (whole_asked h.mode bib (acknowledges h n)) (asked mode bib (without w n)) in
    subst P e (subst Q (sym st.mode) (asked_alike h.mode bib (acknowledges h n) (without w n) refl (without_alike h w n st few)))

emptied_alike : (h : Whole) (w : Window) (fsn : Option ℕ) (m : ℕ) → StandsFor h w → count_known w fsn ≡ m → count_known w fsn ≤ w.sent → StandsFor (whole_emptied h m) (emptied w fsn)
emptied_alike h w fsn m st e few =
    let n = count_known w fsn in
    let a = h.acknowledged + n in
    let sent = st.sent in let inside = st.inside in let origin = st.origin in
    let size = length-take a h.messages in
    let P : ℕ → Type 0 = λ k. StandsFor (whole_emptied h k) (emptied w fsn) in
    let front : StandsFor (whole_emptied h n) (emptied w fsn) = record {
      mode = st.mode;
      limits = st.limits;
      fib = st.fib;
      forced = refl;
      kept = sym (drop_all a (take a h.messages) (omega arith));
      sent = omega arith;
      first = number_sum w.first h.acknowledged h.origin n st.origin st.first;
      again = omega arith;
      turn = omega arith;
      origin = omega arith;
      inside = omega arith;
      repeats = omega arith;
      idle = λ m f. refl;
    } in
    subst P e front

refreshed_alike : (h : Whole) (w : Window) → StandsFor h w → StandsFor (whole_refreshed h) (refreshed w)
refreshed_alike h w st =
    let sent = st.sent in let inside = st.inside in
    record { mode = st.mode; limits = st.limits; kept = st.kept; sent = omega arith; first = omega arith; fib = refl; again = omega arith; forced = refl; turn = omega arith; origin = omega arith; inside = omega arith; repeats = omega arith; idle = λ m f. refl }

-- ---- both return the same results, before and after each call

width_alike : (h : Whole) (w : Window) → StandsFor h w → w.sent ≡ h.sent - h.acknowledged
width_alike h w st = let sent = st.sent in omega arith

accepts_alike : (h : Whole) (w : Window) (call : Call) → StandsFor h w → is_accepted w call ≡ whole_accepts h call
accepts_alike h w (put m) st =
    let sent = st.sent in let size = kept_length h w st in let waits = length-drop w.sent w.kept in
    let e : length (waiting w) ≡ length h.messages - h.sent = omega arith in
    ap (λ (n : ℕ). nat_lt n MOST_WAITING) e
accepts_alike h w (put_diverted m) st = ap (λ (n : ℕ). nat_lt n MOST_KEPT) (kept_length h w st)
accepts_alike h w next_unit st = refl
accepts_alike h w (on_back bsn bib) st =
    ap (λ (n : ℕ). nat_le n w.sent) (count_alike h w bsn st) ∙ ap (λ (n : ℕ). nat_le (whole_count h bsn) n) (width_alike h w st)
accepts_alike h w (retrieve fsn) st =
    ap (λ (n : ℕ). nat_le n w.sent) (known_alike h w fsn st) ∙ ap (λ (n : ℕ). nat_le (whole_known h fsn) n) (width_alike h w st)
accepts_alike h w fresh st = refl

accepted_alike : (h : Whole) (w : Window) (call : Call) → StandsFor h w → is_accepted w call ≡ true → StandsFor (whole_accepted h call) (accepted w call)
accepted_alike h w (put m) st met = add_alike h w m st
accepted_alike h w (put_diverted m) st met = add_alike h w m st
accepted_alike h w next_unit st met = (send_alike h w st).left
accepted_alike h w (on_back bsn bib) st met =
    back_alike h w (count_by w bsn) (whole_count h bsn) bib st (count_alike h w bsn st) (le_by_test (count_by w bsn) w.sent met)
accepted_alike h w (retrieve fsn) st met =
    emptied_alike h w fsn (whole_known h fsn) st (known_alike h w fsn st) (le_by_test (count_known w fsn) w.sent met)
accepted_alike h w fresh st met = refreshed_alike h w st

step_alike : (h : Whole) (w : Window) (call : Call) → StandsFor h w → StandsFor (whole_step h call) (step w call)
step_alike h w call st =
    let R : Window → Whole → Type 0 = λ v k. StandsFor k v in
    pick R (is_accepted w call) (whole_accepts h call) (accepted w call) w (whole_accepted h call) h (accepts_alike h w call st) (accepted_alike h w call st) (λ _. st)

run_alike : (h : Whole) (w : Window) (calls : List Call) → StandsFor h w → StandsFor (whole_after h calls) (after w calls)
run_alike h w [] st = st
run_alike h w (call ∷ calls) st = run_alike (whole_step h call) (step w call) calls (step_alike h w call st)

start_alike : (limits : RoundLimits) (mode : Mode) → StandsFor (whole_start limits mode) (start_within limits mode)
start_alike limits mode = record { mode = refl; limits = refl; kept = refl; sent = refl; first = refl; fib = refl; again = refl; forced = refl; turn = refl; origin = omega arith; inside = omega arith; repeats = omega arith; idle = λ m f. refl }

pub kept_is_enough : KeptIsEnough
kept_is_enough = record {
  alike = λ h w st. record {
    unit = (send_alike h w st).unit;
    count = λ bsn. count_alike h w bsn st;
    handed_back = λ fsn. handed_alike h w fsn st;
    accepts = λ call. accepts_alike h w call st;
  };
  steps = λ h w call st. step_alike h w call st;
  runs = λ limits mode calls. run_alike (whole_start limits mode) (start_within limits mode) calls (start_alike limits mode);
}
