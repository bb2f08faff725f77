-- The messages that a receiver accepts are a prefix of those that the sender took.
use Rattle.std.proofs.Common.{◌≡◌, ℕ, ◌+◌, ◌-◌, ◌%◌, ◌<◌, ◌≤◌, zero, suc, ◌==◌, Bool, true, false, if◌then◌else◌, max, List, [], ◌∷◌, ◌++◌, length, take, drop, refl, ap, sym, ◌∙◌, subst, arith}
use Rattle.std.specs.Prelude.{Option, None, slice_get, is_some}
use Rattle.std.specs.Option.{option_to_list}
use Rattle.std.proofs.lemmas.List.{append-nil, drop-drop, drop-append-le, take-append-le, length-drop, length_push, take-append-drop}
use Rattle.resend_store.specs.declared.messages.Mode.{Mode}
use Rattle.resend_store.specs.declared.messages.Mode.TheVariants.{Basic, Cyclic}
use Rattle.resend_store.specs.declared.messages.Msu.{Msu}
use Rattle.resend_store.specs.declared.messages.Outgoing.{Outgoing}
use Rattle.resend_store.specs.declared.messages.RoundLimits.{RoundLimits}
use Rattle.resend_store.specs.Numbers.{plus, minus}
use Rattle.resend_store.specs.Window.{Window, with_put, next, count_by, without, asked, after_back}
use Rattle.resend_store.specs.Intake.{Hearing, hear}
use Rattle.resend_store.specs.Runs.{put, put_diverted, on_back, is_accepted, accepted, step}
use Rattle.resend_store.specs.Hearings.{is_accept}
use Rattle.resend_store.specs.Exchange.{Answer, Exchange, Event, gets, gets_diverted, sends, answers, arrives, is_lost, comes_back, is_lost_back, exchange_anew, exchange_start, hears, first_arrives, first_is_lost, first_comes_back, first_is_lost_back, exchange_step, exchange_after, DeliversInOrder}
use Rattle.resend_store.proofs.Sent.{Fine, UnitIs, fills, carries, SameFine, next_fine}
use Rattle.resend_store.proofs.Stands.{slice_get_drop}
use Rattle.resend_store.proofs.InTurn.{taken, passed, hear_is}
use Rattle.std.proofs.lemmas.Bool.{le-leb as le_test}

-- The units under way, if s messages were sent and the receiver expects message d. None of them carries a message so
-- old that its number could be taken for that of a later one, even after the messages before it are accepted.
pub data Flight (ms : List Msu) (s : ℕ) : ℕ → List Outgoing → Type 0 where
  none_left : {d : ℕ} → Flight ms s d []
  idle : {d : ℕ} {u : Outgoing} {us : List Outgoing} → u.msu ≡ None → Flight ms s d us → Flight ms s d (u ∷ us)
  loaded : {d : ℕ} {u : Outgoing} {us : List Outgoing} (i : ℕ) → i < s → d ≤ i + 127 → u.msu ≡ slice_get ms i → u.fsn ≡ i % 128 → Flight ms s (max d (i + 1)) us → Flight ms s d (u ∷ us)

flight_down : (ms : List Msu) (s d e : ℕ) (us : List Outgoing) → e ≤ d → Flight ms s d us → Flight ms s e us
flight_down ms s d e [] h none_left = none_left
flight_down ms s d e (u ∷ us) h (idle none rest) = idle none (flight_down ms s d e us h rest)
flight_down ms s d e (u ∷ us) h (loaded i sent near msu fsn rest) =
    loaded i sent (omega arith) msu fsn (flight_down ms s (max d (i + 1)) (max e (i + 1)) us (omega arith) rest)

flight_more : (ms : List Msu) (s t d : ℕ) (us : List Outgoing) → s ≤ t → Flight ms s d us → Flight ms t d us
flight_more ms s t d [] h none_left = none_left
flight_more ms s t d (u ∷ us) h (idle none rest) = idle none (flight_more ms s t d us h rest)
flight_more ms s t d (u ∷ us) h (loaded i sent near msu fsn rest) =
    loaded i (omega arith) near msu fsn (flight_more ms s t (max d (i + 1)) us h rest)

slice_get_push : (i : ℕ) (ms : List Msu) (m : Msu) → i < length ms → slice_get (ms ++ m ∷ []) i ≡ slice_get ms i
slice_get_push i [] m h = absurd (omega arith)
slice_get_push zero (x ∷ ms) m h = refl
slice_get_push (suc i) (x ∷ ms) m h = slice_get_push i ms m (omega arith)

flight_put : (ms : List Msu) (m : Msu) (s d : ℕ) (us : List Outgoing) → s ≤ length ms → Flight ms s d us → Flight (ms ++ m ∷ []) s d us
flight_put ms m s d [] h none_left = none_left
flight_put ms m s d (u ∷ us) h (idle none rest) = idle none (flight_put ms m s d us h rest)
flight_put ms m s d (u ∷ us) h (loaded i sent near msu fsn rest) =
    loaded i sent near (msu ∙ sym (slice_get_push i ms m (omega arith))) fsn (flight_put ms m s (max d (i + 1)) us h rest)

flight_idle : (ms : List Msu) (s d : ℕ) (us : List Outgoing) (u : Outgoing) → u.msu ≡ None → Flight ms s d us → Flight ms s d (us ++ u ∷ [])
flight_idle ms s d [] u e none_left = idle e none_left
flight_idle ms s d (v ∷ us) u e (idle none rest) = idle none (flight_idle ms s d us u e rest)
flight_idle ms s d (v ∷ us) u e (loaded i sent near msu fsn rest) = loaded i sent near msu fsn (flight_idle ms s (max d (i + 1)) us u e rest)

flight_push : (ms : List Msu) (s d : ℕ) (us : List Outgoing) (u : Outgoing) (k : ℕ) → k < s → s ≤ k + 127 → d ≤ s → u.msu ≡ slice_get ms k → u.fsn ≡ k % 128 → Flight ms s d us → Flight ms s d (us ++ u ∷ [])
flight_push ms s d [] u k here new wanted msu fsn none_left = loaded k here (omega arith) msu fsn none_left
flight_push ms s d (v ∷ us) u k here new wanted msu fsn (idle none rest) = idle none (flight_push ms s d us u k here new wanted msu fsn rest)
flight_push ms s d (v ∷ us) u k here new wanted msu fsn (loaded i sent near other number rest) =
    loaded i sent near other number (flight_push ms s (max d (i + 1)) us u k here new (omega arith) msu fsn rest)

-- The answers under way: each names a message count between the one before and d.
pub data Backs : ℕ → ℕ → List Answer → Type 0 where
  none_back : {a d : ℕ} → a ≤ d → Backs a d []
  one_back : {a d : ℕ} {b : Answer} {bs : List Answer} (k : ℕ) → a ≤ k → plus b.bsn 1 ≡ k % 128 → Backs k d bs → Backs a d (b ∷ bs)

pub backs_le : (a d : ℕ) (bs : List Answer) → Backs a d bs → a ≤ d
backs_le a d [] (none_back h) = h
backs_le a d (b ∷ bs) (one_back k h e rest) = let further = backs_le k d bs rest in omega arith

backs_up : (a d e : ℕ) (bs : List Answer) → d ≤ e → Backs a d bs → Backs a e bs
backs_up a d e [] h (none_back le) = none_back (omega arith)
backs_up a d e (b ∷ bs) h (one_back k le same rest) = one_back k le same (backs_up k d e bs h rest)

backs_down : (a k d : ℕ) (bs : List Answer) → a ≤ k → Backs k d bs → Backs a d bs
backs_down a k d [] h (none_back le) = none_back (omega arith)
backs_down a k d (b ∷ bs) h (one_back n le same rest) = one_back n (omega arith) same rest

backs_push : (a d : ℕ) (bs : List Answer) (b : Answer) → plus b.bsn 1 ≡ d % 128 → Backs a d bs → Backs a d (bs ++ b ∷ [])
backs_push a d [] b e (none_back le) = one_back d le e (none_back (omega arith))
backs_push a d (x ∷ bs) b e (one_back k le same rest) = one_back k le same (backs_push k d bs b e rest)

-- the invariant: a messages are acknowledged, d accepted
pub record Sound (x : Exchange) : Type 0 where
  pub a : ℕ
  pub d : ℕ
  pub fine : Fine x.sender
  pub kept : x.sender.kept ≡ drop a x.taken
  pub first : x.sender.first ≡ a % 128
  pub inside : a ≤ length x.taken
  pub reached : d ≤ a + x.sender.sent
  pub last : plus x.receiver.last 1 ≡ d % 128
  pub delivered : x.delivered ≡ take d x.taken
  pub forth : Flight x.taken (a + x.sender.sent) d x.forth
  pub back : Backs a d x.back

all_sent : (x : Exchange) (h : Sound x) → h.a + x.sender.sent ≤ length x.taken
all_sent x h =
    let size = ap (λ (ms : List Msu). length ms) h.kept ∙ length-drop h.a x.taken in
    let fits = h.fine.fits in let inside = h.inside in omega arith

-- ---- the sender is given a message

sound_put : (x : Exchange) (m : Msu) → Sound x → Sound (record x { sender = with_put x.sender m; taken = x.taken ++ m ∷ [] })
sound_put x m h =
    let kept_size = length_push x.sender.kept m in
    let taken_size = length_push x.taken m in
    let fits = h.fine.fits in let inside = h.inside in let reached = h.reached in let sent = all_sent x h in
    record {
      a = h.a;
      d = h.d;
      fine = record { fits = omega arith; narrow = h.fine.narrow; again = h.fine.again; turn = h.fine.turn };
      kept = ap (λ (ms : List Msu). ms ++ m ∷ []) h.kept ∙ sym (drop-append-le h.a x.taken (m ∷ []) inside);
      first = h.first;
      inside = omega arith;
      reached = h.reached;
      last = h.last;
      delivered = h.delivered ∙ sym (take-append-le h.d x.taken (m ∷ []) (omega arith));
      forth = flight_put x.taken m (h.a + x.sender.sent) h.d x.forth sent h.forth;
      back = h.back;
    }

sound_get : (b : Bool) (x : Exchange) (m : Msu) → Sound x → Sound (record x { sender = if b then with_put x.sender m else x.sender; taken = x.taken ++ (if b then m ∷ [] else []) })
sound_get true x m h = sound_put x m h
sound_get false x m h = let P : List Msu → Type 0 = λ ms. Sound (record x { taken = ms }) in subst P (sym (append-nil x.taken)) h

-- ---- the sender sends

place_number : (a i first : ℕ) → first ≡ a % 128 → plus first i ≡ (a + i) % 128
place_number a i first e = omega arith

unit_under_way : (x : Exchange) (h : Sound x) (u : Outgoing) (sent : ℕ) → x.sender.sent ≤ sent → sent ≤ 127 → UnitIs x.sender.kept x.sender.first sent u
    → Flight x.taken (h.a + sent) h.d (x.forth ++ u ∷ [])
unit_under_way x h u sent more narrow (fills none) =
    flight_idle x.taken (h.a + sent) h.d x.forth u none (flight_more x.taken (h.a + x.sender.sent) (h.a + sent) h.d x.forth (omega arith) h.forth)
unit_under_way x h u sent more narrow (carries i below msu fsn) =
    let reached = h.reached in
    flight_push x.taken (h.a + sent) h.d x.forth u (h.a + i) (omega arith) (omega arith) (omega arith)
    (msu ∙ ap (λ (ms : List Msu). slice_get ms i) h.kept ∙ slice_get_drop h.a x.taken i)
    (fsn ∙ place_number h.a i x.sender.first h.first)
    (flight_more x.taken (h.a + x.sender.sent) (h.a + sent) h.d x.forth (omega arith) h.forth)

sound_send : (x : Exchange) → Sound x → Sound (exchange_step x sends)
sound_send x h =
    let s = next x.sender in
    let on = next_fine x.sender h.fine in
    let sent_on = on.sent_on in let reached = h.reached in
    record {
      a = h.a;
      d = h.d;
      fine = on.fine;
      kept = on.kept_on ∙ h.kept;
      first = on.first_on ∙ h.first;
      inside = h.inside;
      reached = omega arith;
      last = h.last;
      delivered = h.delivered;
      forth = unit_under_way x h s.unit s.left.sent on.sent_on on.fine.narrow on.unit;
      back = h.back;
    }

-- ---- a unit arrives, or is lost

take_one : (i : ℕ) (ms : List Msu) → i < length ms → take (i + 1) ms ≡ take i ms ++ option_to_list (slice_get ms i)
take_one i [] h = absurd (omega arith)
take_one zero (m ∷ ms) h = refl
take_one (suc i) (m ∷ ms) h = let e : suc i + 1 ≡ suc (i + 1) = omega arith in rw e (ap (λ (xs : List Msu). m ∷ xs) (take_one i ms (omega arith)))

the_wanted : (a d i s fsn last : ℕ) → a ≤ d → i < a + s → s ≤ 127 → d ≤ i + 127 → fsn ≡ i % 128 → fsn ≡ plus last 1 → plus last 1 ≡ d % 128 → i ≡ d
the_wanted a d i s fsn last le below narrow near e f g =
    let same : i % 128 ≡ d % 128 = sym e ∙ f ∙ g in omega arith

next_number : (fsn i last : ℕ) → last ≡ fsn → fsn ≡ i % 128 → plus last 1 ≡ (i + 1) % 128
next_number fsn i last e f = omega arith

-- the rest of a flight after its first unit has arrived or is lost
rest_of_flight : (ms : List Msu) (s d : ℕ) (u : Outgoing) (us : List Outgoing) → Flight ms s d (u ∷ us) → Flight ms s d us
rest_of_flight ms s d u us (idle none rest) = rest
rest_of_flight ms s d u us (loaded i sent near msu fsn rest) = flight_down ms s (max d (i + 1)) d us (omega arith) rest

sound_pass : (x : Exchange) (u : Outgoing) (us : List Outgoing) (s : Hearing) (h : Sound x) → Flight x.taken (h.a + x.sender.sent) h.d us → is_accept s.verdict ≡ false → s.known.last ≡ x.receiver.last
    → Sound (record x { forth = us; receiver = s.known; delivered = x.delivered ++ (if is_accept s.verdict then option_to_list u.msu else []) })
sound_pass x u us s h forth not_accepted known = record {
  a = h.a;
  d = h.d;
  fine = h.fine;
  kept = h.kept;
  first = h.first;
  inside = h.inside;
  reached = h.reached;
  forth = forth;
  back = h.back;
  last = ap (λ (n : ℕ). plus n 1) known ∙ h.last;
  delivered = ap (λ (b : Bool). x.delivered ++ (if b then option_to_list u.msu else [])) not_accepted ∙ append-nil x.delivered ∙ h.delivered;
}

sound_accept : (x : Exchange) (u : Outgoing) (us : List Outgoing) (s : Hearing) (h : Sound x) → Flight x.taken (h.a + x.sender.sent) h.d (u ∷ us)
    → is_accept s.verdict ≡ true → is_some u.msu ≡ true → u.fsn ≡ plus x.receiver.last 1 → s.known.last ≡ u.fsn
    → Sound (record x { forth = us; receiver = s.known; delivered = x.delivered ++ (if is_accept s.verdict then option_to_list u.msu else []) })
sound_accept x u us s h (idle none rest) accept some number known =
    let wrong : false ≡ true = sym (ap (λ (o : Option Msu). is_some o) none) ∙ some in absurd (cc)
sound_accept x u us s h (loaded i below near msu fsn rest) accept some number known =
    let le = backs_le h.a h.d x.back h.back in
    let here : i ≡ h.d = the_wanted h.a h.d i x.sender.sent u.fsn x.receiver.last le below h.fine.narrow near fsn number h.last in
    let sent = all_sent x h in
    let within : i < length x.taken = omega arith in
    record {
      a = h.a;
      d = i + 1;
      fine = h.fine;
      kept = h.kept;
      first = h.first;
      inside = h.inside;
      reached = omega arith;
      last = next_number u.fsn i s.known.last known fsn;
      delivered = ap (λ (b : Bool). x.delivered ++ (if b then option_to_list u.msu else [])) accept
          ∙ ap (λ (ms : List Msu). ms ++ option_to_list u.msu) (h.delivered ∙ ap (λ (k : ℕ). take k x.taken) (sym here))
          ∙ ap (λ (o : Option Msu). take i x.taken ++ option_to_list o) msu
          ∙ sym (take_one i x.taken within);
      forth = flight_down x.taken (h.a + x.sender.sent) (max h.d (i + 1)) (i + 1) us (omega arith) rest;
      back = backs_up h.a h.d (i + 1) x.back (omega arith) h.back;
    }

sound_hear : (x : Exchange) (u : Outgoing) (us : List Outgoing) (h : Sound x) → Flight x.taken (h.a + x.sender.sent) h.d (u ∷ us) → Sound (hears (record x { forth = us }) u)
sound_hear x u us h forth = elim (hear_is x.receiver u.fsn u.fib (is_some u.msu)) [
  | taken accept some number known ↦ sound_accept x u us (hear x.receiver u.fsn u.fib (is_some u.msu)) h forth accept some number known
  | passed not_accepted known ↦ sound_pass x u us (hear x.receiver u.fsn u.fib (is_some u.msu)) h (rest_of_flight x.taken (h.a + x.sender.sent) h.d u us forth) not_accepted known
]

flight_as : (x : Exchange) (h : Sound x) (us : List Outgoing) → x.forth ≡ us → Flight x.taken (h.a + x.sender.sent) h.d us
flight_as x h us e = let P : List Outgoing → Type 0 = λ vs. Flight x.taken (h.a + x.sender.sent) h.d vs in subst P e h.forth

sound_arrive : (x : Exchange) (us : List Outgoing) → x.forth ≡ us → Sound x → Sound (first_arrives x us)
sound_arrive x [] e h = h
sound_arrive x (u ∷ us) e h = sound_hear x u us h (flight_as x h (u ∷ us) e)

sound_lose : (x : Exchange) (us : List Outgoing) → x.forth ≡ us → Sound x → Sound (first_is_lost x us)
sound_lose x [] e h = h
sound_lose x (u ∷ us) e h = record {
  a = h.a;
  d = h.d;
  fine = h.fine;
  kept = h.kept;
  first = h.first;
  inside = h.inside;
  reached = h.reached;
  last = h.last;
  delivered = h.delivered;
  back = h.back;
  forth = rest_of_flight x.taken (h.a + x.sender.sent) h.d u us (flight_as x h (u ∷ us) e);
}

-- ---- an answer comes back, or is lost

pub count_exact : (a k bsn first : ℕ) → a ≤ k → k ≤ a + 127 → first ≡ a % 128 → plus bsn 1 ≡ k % 128 → minus bsn (minus first 1) ≡ k - a
count_exact a k bsn first h near e f = omega arith

asked_by : (b : Bool) (w v : Window) → Fine w → SameFine v w → SameFine (if b then w else v) w
asked_by true w v f same = record { kept = refl; first = refl; sent = refl; fine = f }
asked_by false w v f same = same

asked_fine : (m : Mode) (bib : ℕ) (w : Window) → Fine w → SameFine (asked m bib w) w
asked_fine Basic bib w f =
    asked_by (bib == w.fib) w (record w { fib = 1 - w.fib; again = w.sent }) f
    (record { kept = refl; first = refl; sent = refl; fine = record { fits = f.fits; narrow = f.narrow; turn = f.turn; again = omega arith } })
asked_fine Cyclic bib w f = record { kept = refl; first = refl; sent = refl; fine = f }

without_fine : (w : Window) (n : ℕ) → Fine w → n ≤ w.sent → Fine (without w n)
without_fine w n f few =
    let fits = f.fits in let narrow = f.narrow in let turn = f.turn in let size = length-drop n w.kept in
    record { fits = omega arith; narrow = omega arith; again = omega arith; turn = omega arith }

sound_after : (x : Exchange) (bs : List Answer) (n k : ℕ) (v : Window) (h : Sound x) → h.a ≤ k → n ≡ k - h.a → n ≤ x.sender.sent → SameFine v (without x.sender n) → Backs k h.d bs
    → Sound (record x { back = bs; sender = v })
sound_after x bs n k v h le count few same back =
    let e : h.a + n ≡ k = omega arith in
    let sent = same.sent in
    let both : k + v.sent ≡ h.a + x.sender.sent = omega arith in
    let whole = all_sent x h in let reached = h.reached in let first = h.first in let first_on = same.first in
    record {
      a = k;
      d = h.d;
      fine = same.fine;
      kept = same.kept ∙ ap (λ (ms : List Msu). drop n ms) h.kept ∙ drop-drop n h.a x.taken ∙ ap (λ (j : ℕ). drop j x.taken) e;
      first = same.first ∙ place_number h.a n x.sender.first h.first ∙ ap (λ (j : ℕ). j % 128) e;
      inside = omega arith;
      reached = omega arith;
      last = h.last;
      delivered = h.delivered;
      forth = let P : ℕ → Type 0 = λ s. Flight x.taken s h.d x.forth in subst P (sym both) h.forth;
      back = back;
    }

sound_answer : (x : Exchange) (b : Answer) (bs : List Answer) (h : Sound x) → Backs h.a h.d (b ∷ bs) → Sound (record x { back = bs; sender = step x.sender (on_back b.bsn b.bib) })
sound_answer x b bs h (one_back k le same rest) =
    let w = x.sender in
    let narrow = h.fine.narrow in let reached = h.reached in
    let further = backs_le k h.d bs rest in
    let n = count_by w b.bsn in
    let count : n ≡ k - h.a = count_exact h.a k b.bsn w.first le (omega arith) h.first same in
    let few : n ≤ w.sent = omega arith in
    let met : is_accepted w (on_back b.bsn b.bib) ≡ true = le_test n w.sent few in
    let v = after_back w b.bsn b.bib in
    let to : step w (on_back b.bsn b.bib) ≡ v = ap (λ (t : Bool). if t then accepted w (on_back b.bsn b.bib) else w) met in
    let P : Window → Type 0 = λ y. Sound (record x { back = bs; sender = y }) in
    subst P (sym to) (sound_after x bs n k v h le count few (asked_fine w.mode b.bib (without w n) (without_fine w n h.fine few)) rest)

backs_as : (x : Exchange) (h : Sound x) (bs : List Answer) → x.back ≡ bs → Backs h.a h.d bs
backs_as x h bs e = let P : List Answer → Type 0 = λ cs. Backs h.a h.d cs in subst P e h.back

sound_back : (x : Exchange) (bs : List Answer) → x.back ≡ bs → Sound x → Sound (first_comes_back x bs)
sound_back x [] e h = h
sound_back x (b ∷ bs) e h = sound_answer x b bs h (backs_as x h (b ∷ bs) e)

rest_of_backs : (a d : ℕ) (b : Answer) (bs : List Answer) → Backs a d (b ∷ bs) → Backs a d bs
rest_of_backs a d b bs (one_back k le same rest) = backs_down a k d bs le rest

sound_lose_back : (x : Exchange) (bs : List Answer) → x.back ≡ bs → Sound x → Sound (first_is_lost_back x bs)
sound_lose_back x [] e h = h
sound_lose_back x (b ∷ bs) e h = record {
  a = h.a;
  d = h.d;
  fine = h.fine;
  kept = h.kept;
  first = h.first;
  inside = h.inside;
  reached = h.reached;
  last = h.last;
  delivered = h.delivered;
  forth = h.forth;
  back = rest_of_backs h.a h.d b bs (backs_as x h (b ∷ bs) e);
}

-- ---- all events

sound_step : (x : Exchange) (e : Event) → Sound x → Sound (exchange_step x e)
sound_step x (gets m) h = sound_get (is_accepted x.sender (put m)) x m h
sound_step x (gets_diverted m) h = sound_get (is_accepted x.sender (put_diverted m)) x m h
sound_step x sends h = sound_send x h
sound_step x answers h = record {
  a = h.a;
  d = h.d;
  fine = h.fine;
  kept = h.kept;
  first = h.first;
  inside = h.inside;
  reached = h.reached;
  last = h.last;
  delivered = h.delivered;
  forth = h.forth;
  back = backs_push h.a h.d x.back (record { bsn = x.receiver.last; bib = x.receiver.bib }) h.last h.back;
}
sound_step x arrives h = sound_arrive x x.forth refl h
sound_step x is_lost h = sound_lose x x.forth refl h
sound_step x comes_back h = sound_back x x.back refl h
sound_step x is_lost_back h = sound_lose_back x x.back refl h

pub sound_run : (x : Exchange) (es : List Event) → Sound x → Sound (exchange_after x es)
sound_run x [] h = h
sound_run x (e ∷ es) h = sound_run (exchange_step x e) es (sound_step x e h)

pub sound_anew : (limits : RoundLimits) (mode : Mode) (messages : List Msu) → Sound (exchange_anew limits mode messages)
sound_anew limits mode messages = record {
  a = 0;
  d = 0;
  fine = record { fits = omega arith; narrow = omega arith; again = omega arith; turn = omega arith };
  kept = refl;
  first = refl;
  inside = omega arith;
  reached = omega arith;
  last = refl;
  delivered = refl;
  forth = none_left;
  back = none_back (omega arith);
}

pub delivers_in_order : DeliversInOrder
delivers_in_order limits mode events =
    let x = exchange_after (exchange_start limits mode) events in
    let h : Sound x = sound_run (exchange_start limits mode) events (sound_anew limits mode []) in
    (drop h.d x.taken, sym (ap (λ (ms : List Msu). ms ++ drop h.d x.taken) h.delivered ∙ take-append-drop h.d x.taken))
