-- New messages go out in order and without a gap, over every list of calls.
use Rattle.std.proofs.Common.{◌≡◌, ℕ, ◌+◌, ◌-◌, ◌<◌, ◌≤◌, inl, inr, zero, suc, ◌==◌, Bool, true, false, if◌then◌else◌, nat_lt, List, [], ◌∷◌, ◌++◌, length, drop, map, refl, ap, sym, ◌∙◌, subst, arith, add-one}
use Rattle.std.specs.Prelude.{Option, Some, None, slice_get}
use Rattle.std.proofs.lemmas.Bool.Decides.{nat_tests}
use Rattle.std.proofs.lemmas.List.{append-nil, append_assoc, drop-drop, drop-append-le, length-drop, length_push, take-append-drop}
use Rattle.resend_store.specs.declared.messages.Mode.{Mode}
use Rattle.resend_store.specs.declared.messages.Mode.TheVariants.{Basic, Cyclic}
use Rattle.resend_store.specs.declared.messages.Msu.{Msu}
use Rattle.resend_store.specs.declared.messages.Outgoing.{Outgoing}
use Rattle.resend_store.specs.Numbers.{plus}
use Rattle.resend_store.specs.Window.{Window, Sending, unacknowledged, waiting, start_within, with_put, next, count_by, without, asked, after_back, count_known, emptied, refreshed}
use Rattle.resend_store.specs.Runs.{Call, put, put_diverted, next_unit, on_back, retrieve, fresh, is_accepted, accepted, step, after, message_of, brought, newly_given, all_brought, all_given, is_beginning, NoBeginning, counted, InOrder, number_after, NewInOrder}
use Rattle.resend_store.proofs.Given.{again, new, SameNumbers, next_is}
use Rattle.std.proofs.lemmas.Bool.{cases_Bool as true_or_false, leb-true as test_of}

-- the effect of one call
data StepIs (w : Window) (call : Call) : Type 0 where
  keeps : newly_given w call ≡ [] → waiting (step w call) ≡ waiting w ++ brought w call → plus (step w call).first (step w call).sent ≡ plus w.first w.sent → StepIs w call
  sends : (u : Outgoing) (m : Msu) → newly_given w call ≡ u ∷ [] → brought w call ≡ [] → waiting w ≡ m ∷ waiting (step w call) → u.msu ≡ Some m → u.fsn ≡ plus w.first w.sent → plus (step w call).first (step w call).sent ≡ plus (plus w.first w.sent) 1 → StepIs w call

record Stepped (w : Window) (call : Call) : Type 0 where
  pub is : StepIs w call
  pub fits : (step w call).sent ≤ length (step w call).kept

-- ---- one more call before others

order_kept : (g us : List Outgoing) (b bs held left unsent : List Msu) → g ≡ [] → left ≡ held ++ b
    → map (λ (u : Outgoing). u.msu) us ++ map Some unsent ≡ map Some (left ++ bs)
    → map (λ (u : Outgoing). u.msu) (g ++ us) ++ map Some unsent ≡ map Some (held ++ (b ++ bs))
order_kept g us b bs held left unsent given same order =
    rw given (order ∙ ap (λ (ms : List Msu). map Some ms) (ap (λ (ms : List Msu). ms ++ bs) same ∙ append_assoc held b bs))

numbers_kept : (g us : List Outgoing) (n : ℕ) → g ≡ [] → map (λ (u : Outgoing). u.fsn) us ≡ counted n (length us)
    → map (λ (u : Outgoing). u.fsn) (g ++ us) ≡ counted n (length (g ++ us))
numbers_kept g us n given h = rw given h

first_keeps : (w : Window) (call : Call) (calls : List Call) (n : ℕ)
    → newly_given w call ≡ [] → waiting (step w call) ≡ waiting w ++ brought w call
    → InOrder (waiting (step w call)) n (step w call) calls → InOrder (waiting w) n w (call ∷ calls)
first_keeps w call calls n given held rest = record {
  unsent = rest.unsent;
  order = order_kept (newly_given w call) (all_given (step w call) calls) (brought w call) (all_brought (step w call) calls) (waiting w) (waiting (step w call)) rest.unsent given held rest.order;
  numbers = numbers_kept (newly_given w call) (all_given (step w call) calls) n given rest.numbers;
}

order_sent : (g us : List Outgoing) (u : Outgoing) (m : Msu) (b bs held left unsent : List Msu) → g ≡ u ∷ [] → b ≡ [] → held ≡ m ∷ left → u.msu ≡ Some m
    → map (λ (u : Outgoing). u.msu) us ++ map Some unsent ≡ map Some (left ++ bs)
    → map (λ (u : Outgoing). u.msu) (g ++ us) ++ map Some unsent ≡ map Some (held ++ (b ++ bs))
order_sent g us u m b bs held left unsent given none next msu order =
    rw (given, none, next, msu) (ap (λ (ms : List (Option Msu)). Some m ∷ ms) order)

numbers_sent : (g us : List Outgoing) (u : Outgoing) (n : ℕ) → g ≡ u ∷ [] → u.fsn ≡ n → map (λ (u : Outgoing). u.fsn) us ≡ counted (plus n 1) (length us)
    → map (λ (u : Outgoing). u.fsn) (g ++ us) ≡ counted n (length (g ++ us))
numbers_sent g us u n given fsn h = rw (given, fsn) (ap (λ (ns : List ℕ). n ∷ ns) h)

first_sends : (w : Window) (call : Call) (calls : List Call) (n : ℕ) (u : Outgoing) (m : Msu)
    → newly_given w call ≡ u ∷ [] → brought w call ≡ [] → waiting w ≡ m ∷ waiting (step w call) → u.msu ≡ Some m → u.fsn ≡ n
    → InOrder (waiting (step w call)) (plus n 1) (step w call) calls → InOrder (waiting w) n w (call ∷ calls)
first_sends w call calls n u m given none held msu fsn rest = record {
  unsent = rest.unsent;
  order = order_sent (newly_given w call) (all_given (step w call) calls) u m (brought w call) (all_brought (step w call) calls) (waiting w) (waiting (step w call)) rest.unsent given none held msu rest.order;
  numbers = numbers_sent (newly_given w call) (all_given (step w call) calls) u n given fsn rest.numbers;
}

-- ---- the effect of each call

-- a call that sends no new message
quiet : (w : Window) (call : Call) (v : Window) (b : List Msu) → step w call ≡ v → brought w call ≡ b → newly_given w call ≡ []
    → waiting v ≡ waiting w ++ b → plus v.first v.sent ≡ plus w.first w.sent → v.sent ≤ length v.kept → Stepped w call
quiet w call v b to brings given held number fits = record {
  is = keeps given (ap (λ (x : Window). waiting x) to ∙ held ∙ sym (ap (λ (ms : List Msu). waiting w ++ ms) brings)) (ap (λ (x : Window). plus x.first x.sent) to ∙ number);
  fits = let P : Window → Type 0 = λ x. x.sent ≤ length x.kept in subst P (sym to) fits;
}

refused : (w : Window) (call : Call) → is_accepted w call ≡ false → newly_given w call ≡ [] → w.sent ≤ length w.kept → Stepped w call
refused w call unmet given fits =
    quiet w call w [] (ap (λ (b : Bool). if b then accepted w call else w) unmet) (ap (λ (b : Bool). if b then message_of call else []) unmet) given (sym (append-nil (waiting w))) refl fits

taken : (w : Window) (call : Call) (m : Msu) → is_accepted w call ≡ true → accepted w call ≡ with_put w m → message_of call ≡ m ∷ [] → newly_given w call ≡ []
    → w.sent ≤ length w.kept → Stepped w call
taken w call m met to message given fits =
    let longer = length_push w.kept m in
    quiet w call (with_put w m) (m ∷ []) (ap (λ (b : Bool). if b then accepted w call else w) met ∙ to) (ap (λ (b : Bool). if b then message_of call else []) met ∙ message) given
    (drop-append-le w.sent w.kept (m ∷ []) fits) refl (omega arith)

put_is : (w : Window) (m : Msu) → w.sent ≤ length w.kept → Stepped w (put m)
put_is w m fits = elim (true_or_false (is_accepted w (put m))) [ inl met ↦ taken w (put m) m met refl refl refl fits | inr unmet ↦ refused w (put m) unmet refl fits ]

diverted_is : (w : Window) (m : Msu) → w.sent ≤ length w.kept → Stepped w (put_diverted m)
diverted_is w m fits = elim (true_or_false (is_accepted w (put_diverted m))) [ inl met ↦ taken w (put_diverted m) m met refl refl refl fits | inr unmet ↦ refused w (put_diverted m) unmet refl fits ]

-- an element and the elements after it
record At (n : ℕ) (ms : List Msu) : Type 0 where
  pub m : Msu
  pub here : slice_get ms n ≡ Some m
  pub rest : drop n ms ≡ m ∷ drop (suc n) ms

at : (n : ℕ) (ms : List Msu) → n < length ms → At n ms
at n [] h = absurd (omega arith)
at zero (m ∷ ms) h = record { m = m; here = refl; rest = refl }
at (suc n) (m ∷ ms) h = let tail = at n ms (omega arith) in record { m = tail.m; here = tail.here; rest = tail.rest }

not_below : (n : ℕ) → nat_lt n n ≡ false
not_below n = grind (arith, nat_tests)

below_next : (n : ℕ) → nat_lt n (n + 1) ≡ true
below_next n = grind (arith, nat_tests)

drop_same : (ms ns : List Msu) (m n : ℕ) → ms ≡ ns → m ≡ n → drop m ms ≡ drop n ns
drop_same ms ns m n e f = rw (e, f) refl

plus_same : (a b m n : ℕ) → a ≡ b → m ≡ n → plus a m ≡ plus b n
plus_same a b m n e f = rw (e, f) refl

plus_next : (a n : ℕ) → plus a (n + 1) ≡ plus (plus a n) 1
plus_next a n = omega arith

nothing_new : (w : Window) (s : Sending) → s.left.sent ≡ w.sent → (if nat_lt w.sent s.left.sent then s.unit ∷ [] else []) ≡ []
nothing_new w s e = ap (λ (n : ℕ). if nat_lt w.sent n then s.unit ∷ [] else []) e ∙ ap (λ (b : Bool). if b then s.unit ∷ [] else []) (not_below w.sent)

one_new : (w : Window) (s : Sending) → s.left.sent ≡ w.sent + 1 → (if nat_lt w.sent s.left.sent then s.unit ∷ [] else []) ≡ s.unit ∷ []
one_new w s e = ap (λ (n : ℕ). if nat_lt w.sent n then s.unit ∷ [] else []) e ∙ ap (λ (b : Bool). if b then s.unit ∷ [] else []) (below_next w.sent)

next_steps : (w : Window) → w.sent ≤ length w.kept → Stepped w next_unit
next_steps w fits = elim (next_is w) [
  | again kept sent first ↦ quiet w next_unit (next w).left [] refl refl (nothing_new w (next w) sent)
      (drop_same (next w).left.kept w.kept (next w).left.sent w.sent kept sent ∙ sym (append-nil (waiting w)))
      (plus_same (next w).left.first w.first (next w).left.sent w.sent first sent)
      (let size = ap (λ (ms : List Msu). length ms) kept in omega arith)
  | new below msu fsn kept sent first ↦
      let here = at w.sent w.kept below in
      record {
        is = sends (next w).unit here.m (one_new w (next w) sent) refl
            (here.rest ∙ ap (λ (ms : List Msu). here.m ∷ ms) (sym (drop_same (next w).left.kept w.kept (next w).left.sent (suc w.sent) kept (sent ∙ add-one w.sent))))
            (msu ∙ here.here) fsn
            (plus_same (next w).left.first w.first (next w).left.sent (w.sent + 1) first sent ∙ plus_next w.first w.sent);
        fits = let size = ap (λ (ms : List Msu). length ms) kept in omega arith;
      }
]

-- a request by a backward bit doesn't change the kept messages
asked_by : (b : Bool) (w v : Window) → SameNumbers v w → SameNumbers (if b then w else v) w
asked_by true w v same = record { kept = refl; sent = refl; first = refl }
asked_by false w v same = same

asked_same : (mode : Mode) (bib : ℕ) (w : Window) → SameNumbers (asked mode bib w) w
asked_same Basic bib w = asked_by (bib == w.fib) w (record w { fib = 1 - w.fib; again = w.sent }) (record { kept = refl; sent = refl; first = refl })
asked_same Cyclic bib w = record { kept = refl; sent = refl; first = refl }

number_without : (first n sent : ℕ) → n ≤ sent → plus (plus first n) (sent - n) ≡ plus first sent
number_without first n sent h = omega arith

waiting_without : (w : Window) (n : ℕ) → n ≤ w.sent → drop (w.sent - n) (drop n w.kept) ≡ waiting w
waiting_without w n h =
    let e : n + (w.sent - n) ≡ w.sent = omega arith in
    drop-drop (w.sent - n) n w.kept ∙ ap (λ (k : ℕ). drop k w.kept) e

back_is : (w : Window) (bsn bib : ℕ) → w.sent ≤ length w.kept → Stepped w (on_back bsn bib)
back_is w bsn bib fits = elim (true_or_false (is_accepted w (on_back bsn bib))) [
  | inl met ↦
      let n = count_by w bsn in
      let few : n ≤ w.sent = test_of n w.sent met in
      let v = without w n in
      let same = asked_same w.mode bib v in
      let size = ap (λ (ms : List Msu). length ms) same.kept ∙ length-drop n w.kept in
      quiet w (on_back bsn bib) (after_back w bsn bib) [] (ap (λ (b : Bool). if b then accepted w (on_back bsn bib) else w) met)
      (ap (λ (b : Bool). if b then message_of (on_back bsn bib) else []) met) refl
      (drop_same (after_back w bsn bib).kept v.kept (after_back w bsn bib).sent v.sent same.kept same.sent ∙ waiting_without w n few ∙ sym (append-nil (waiting w)))
      (plus_same (after_back w bsn bib).first v.first (after_back w bsn bib).sent v.sent same.first same.sent ∙ number_without w.first n w.sent few)
      (omega (arith, same.sent, size))
  | inr unmet ↦ refused w (on_back bsn bib) unmet refl fits
]

stepped : (w : Window) (call : Call) → w.sent ≤ length w.kept → (is_accepted w call ≡ true → is_beginning call ≡ false) → Stepped w call
stepped w (put m) fits plain = put_is w m fits
stepped w (put_diverted m) fits plain = diverted_is w m fits
stepped w next_unit fits plain = next_steps w fits
stepped w (on_back bsn bib) fits plain = back_is w bsn bib fits
stepped w (retrieve fsn) fits plain = elim (true_or_false (is_accepted w (retrieve fsn))) [
  | inl met ↦ let wrong : true ≡ false = plain met in cc
  | inr unmet ↦ refused w (retrieve fsn) unmet refl fits
]
stepped w fresh fits plain = let wrong : true ≡ false = plain refl in cc

-- ---- all calls

at_number : (held : List Msu) (m n : ℕ) (w : Window) (calls : List Call) → m ≡ n → InOrder held m w calls → InOrder held n w calls
at_number held m n w calls e h = let P : ℕ → Type 0 = λ k. InOrder held k w calls in subst P e h

at_held : (held ms : List Msu) (n : ℕ) (w : Window) (calls : List Call) → held ≡ ms → InOrder held n w calls → InOrder ms n w calls
at_held held ms n w calls e h = let P : List Msu → Type 0 = λ xs. InOrder xs n w calls in subst P e h

-- from any window on
in_order : (w : Window) (calls : List Call) → w.sent ≤ length w.kept → NoBeginning w calls → InOrder (waiting w) (plus w.first w.sent) w calls
in_order w [] fits plain = record { unsent = waiting w; order = ap (λ (ms : List Msu). map Some ms) (sym (append-nil (waiting w))); numbers = refl }
in_order w (call ∷ calls) fits plain =
    let one = stepped w call fits plain.0 in
    let rest = in_order (step w call) calls one.fits plain.1 in
    elim one.is [
      | keeps given held number ↦ first_keeps w call calls (plus w.first w.sent) given held
          (at_number (waiting (step w call)) (plus (step w call).first (step w call).sent) (plus w.first w.sent) (step w call) calls number rest)
      | sends u m given none held msu fsn number ↦ first_sends w call calls (plus w.first w.sent) u m given none held msu fsn
          (at_number (waiting (step w call)) (plus (step w call).first (step w call).sent) (plus (plus w.first w.sent) 1) (step w call) calls number rest)
    ]

number_known : (w : Window) (fsn : Option ℕ) → plus (plus w.first (count_known w fsn)) 0 ≡ number_after w fsn
number_known w (Some fsn) = omega arith
number_known w None = omega arith

pub new_in_order : NewInOrder
new_in_order = record {
  since_new = λ limits mode calls plain. in_order (start_within limits mode) calls (omega arith) plain;
  since_fresh = λ limits mode before calls plain.
      let w = after (start_within limits mode) before in
      at_held w.kept (unacknowledged w ++ waiting w) 0 (refreshed w) calls (sym (take-append-drop w.sent w.kept)) (in_order (refreshed w) calls (omega arith) plain);
  since_retrieve = λ limits mode before fsn calls known plain.
      let w = after (start_within limits mode) before in
      at_number [] (plus (emptied w fsn).first (emptied w fsn).sent) (number_after w fsn) (emptied w fsn) calls (number_known w fsn) (in_order (emptied w fsn) calls (omega arith) plain);
}
