-- The messages accepted, and then those retrieved with the number accepted last, are those that the sender took.
use Rattle.std.proofs.Common.{◌≡◌, ℕ, ◌+◌, ◌-◌, ◌≤◌, true, List, [], ◌∷◌, ◌++◌, take, drop, refl, ap, sym, ◌∙◌, subst, arith}
use Rattle.std.specs.Prelude.{Some}
use Rattle.std.proofs.lemmas.List.{drop-drop, take-append-drop}
use Rattle.resend_store.specs.declared.messages.Mode.{Mode}
use Rattle.resend_store.specs.declared.messages.Msu.{Msu}
use Rattle.resend_store.specs.declared.messages.Outgoing.{Outgoing}
use Rattle.resend_store.specs.declared.messages.RoundLimits.{RoundLimits}
use Rattle.resend_store.specs.Intake.{Intake}
use Rattle.resend_store.specs.Window.{count_by, retrieved}
use Rattle.resend_store.specs.Exchange.{Answer, Exchange, Event, gets, gets_diverted, sends, answers, arrives, is_lost, comes_back, is_lost_back, first_is_lost, first_comes_back, first_is_lost_back, exchange_step, exchange_after, exchange_anew, none_arrives, RetrievalCompletes}
use Rattle.resend_store.proofs.Delivery.{Sound, backs_le, count_exact, sound_run, sound_anew}

-- ---- the number that was accepted last

count_last : (x : Exchange) (h : Sound x) → count_by x.sender x.receiver.last ≡ h.d - h.a
count_last x h =
    let narrow = h.fine.narrow in let reached = h.reached in
    count_exact h.a h.d x.receiver.last x.sender.first (backs_le h.a h.d x.back h.back) (omega arith) h.first h.last

last_known : (x : Exchange) → Sound x → count_by x.sender x.receiver.last ≤ x.sender.sent
last_known x h = let count = count_last x h in let reached = h.reached in omega arith

behind : (a d n : ℕ) → a ≤ d → n ≡ d - a → a + n ≡ d
behind a d n le e = omega (arith, le, e)

completed : (x : Exchange) → Sound x → x.taken ≡ x.delivered ++ retrieved x.sender (Some x.receiver.last)
completed x h =
    let n = count_by x.sender x.receiver.last in
    let e : h.a + n ≡ h.d = behind h.a h.d n (backs_le h.a h.d x.back h.back) (count_last x h) in
    let rest : drop n x.sender.kept ≡ drop h.d x.taken =
    ap (λ (ms : List Msu). drop n ms) h.kept ∙ drop-drop n h.a x.taken ∙ ap (λ (j : ℕ). drop j x.taken) e in
    sym (ap (λ (ms : List Msu). ms ++ drop n x.sender.kept) h.delivered ∙ ap (λ (ms : List Msu). take h.d x.taken ++ ms) rest ∙ take-append-drop h.d x.taken)

-- ---- nothing arrives

lost-receiver : (x : Exchange) (us : List Outgoing) → (first_is_lost x us).receiver ≡ x.receiver
lost-receiver x [] = refl
lost-receiver x (u ∷ us) = refl

back-receiver : (x : Exchange) (bs : List Answer) → (first_comes_back x bs).receiver ≡ x.receiver
back-receiver x [] = refl
back-receiver x (b ∷ bs) = refl

lost_back-receiver : (x : Exchange) (bs : List Answer) → (first_is_lost_back x bs).receiver ≡ x.receiver
lost_back-receiver x [] = refl
lost_back-receiver x (b ∷ bs) = refl

stays : (x : Exchange) (es : List Event) → none_arrives es ≡ true → (exchange_after x es).receiver ≡ x.receiver
stays x [] h = refl
stays x (gets m ∷ es) h = stays (exchange_step x (gets m)) es h
stays x (gets_diverted m ∷ es) h = stays (exchange_step x (gets_diverted m)) es h
stays x (sends ∷ es) h = stays (exchange_step x sends) es h
stays x (answers ∷ es) h = stays (exchange_step x answers) es h
stays x (arrives ∷ es) h = absurd (cc)
stays x (is_lost ∷ es) h = stays (exchange_step x is_lost) es h ∙ lost-receiver x x.forth
stays x (comes_back ∷ es) h = stays (exchange_step x comes_back) es h ∙ back-receiver x x.back
stays x (is_lost_back ∷ es) h = stays (exchange_step x is_lost_back) es h ∙ lost_back-receiver x x.back

-- ---- both laws

module _ (limits : RoundLimits) (mode : Mode) (waiting : List Msu) (events later : List Event) (none : none_arrives later ≡ true) where
  abbrev told : Exchange
  told = exchange_after (exchange_anew limits mode waiting) events

  abbrev at_last : Exchange
  at_last = exchange_after told later

  sound_at_last : Sound at_last
  sound_at_last = sound_run told later (sound_run (exchange_anew limits mode waiting) events (sound_anew limits mode waiting))

  same : at_last.receiver ≡ told.receiver
  same = stays told later none

  all_taken : at_last.taken ≡ at_last.delivered ++ retrieved at_last.sender (Some told.receiver.last)
  all_taken =
      let P : Intake → Type 0 = λ r. at_last.taken ≡ at_last.delivered ++ retrieved at_last.sender (Some r.last) in
      subst P same (completed at_last sound_at_last)

  is_known : count_by at_last.sender told.receiver.last ≤ at_last.sender.sent
  is_known = let P : Intake → Type 0 = λ r. count_by at_last.sender r.last ≤ at_last.sender.sent in subst P same (last_known at_last sound_at_last)

pub retrieval_completes : RetrievalCompletes
retrieval_completes = record { taken = all_taken; known = is_known }
