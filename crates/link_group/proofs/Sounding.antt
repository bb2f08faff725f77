-- One direction of a link, step by step.
use Rattle.std.proofs.Common.{◌≡◌, ℕ, ◌+◌, ◌-◌, ◌<◌, ◌≤◌, zero, suc, max, List, [], ◌∷◌, ◌++◌, length, take, drop, None, refl, ap, sym, ◌∙◌, subst, arith, le_refl}
use Rattle.std.specs.Prelude.{slice_get}
use Rattle.std.proofs.lemmas.List.{drop-drop, drop-append-le, take-append-le, length-drop, length-take-le, length-append, take-append-drop}
use Rattle.resend_store.specs.declared.messages.Msu.{Msu}
use Rattle.resend_store.specs.declared.messages.Outgoing.{Outgoing}
use Rattle.resend_store.specs.Window.{count_by}
use Rattle.resend_store.specs.Runs.{on_back, step}
use Rattle.resend_store.specs.Exchange.{Answer, Exchange, answers, sends, arrives, is_lost, comes_back, is_lost_back, hears, first_arrives, first_is_lost, first_comes_back, first_is_lost_back, exchange_step}
use Rattle.resend_store.proofs.Delivery.{Flight, none_left, idle, loaded, Backs, none_back, one_back, backs_le, Sound, sound_run, count_exact}

-- ---- units under way

get_front : (i : ℕ) (ms more : List Msu) → i < length ms → slice_get (ms ++ more) i ≡ slice_get ms i
get_front i [] more h = absurd (omega (arith, h))
get_front zero (x ∷ ms) more h = refl
get_front (suc i) (x ∷ ms) more h = get_front i ms more (omega (arith, h))

flight_given : (ms more : List Msu) (s d : ℕ) (us : List Outgoing) → s ≤ length ms → Flight ms s d us → Flight (ms ++ more) s d us
flight_given ms more s d [] h none_left = none_left
flight_given ms more s d (u ∷ us) h (idle none rest) = idle none (flight_given ms more s d us h rest)
flight_given ms more s d (u ∷ us) h (loaded i sent near msu fsn rest) =
    loaded i sent near (msu ∙ sym (get_front i ms more (omega (arith, sent, h)))) fsn (flight_given ms more s (max d (i + 1)) us h rest)

flight_idle : (ms : List Msu) (s d : ℕ) (us : List Outgoing) (u : Outgoing) → u.msu ≡ None → Flight ms s d us → Flight ms s d (us ++ u ∷ [])
flight_idle ms s d [] u e none_left = idle e none_left
flight_idle ms s d (v ∷ us) u e (idle none rest) = idle none (flight_idle ms s d us u e rest)
flight_idle ms s d (v ∷ us) u e (loaded i sent near msu fsn rest) = loaded i sent near msu fsn (flight_idle ms s (max d (i + 1)) us u e rest)

-- ---- answers under way

backs_front : (a d : ℕ) (bs cs : List Answer) → Backs a d (bs ++ cs) → Backs a d bs
backs_front a d [] cs h = none_back (backs_le a d cs h)
backs_front a d (b ∷ bs) cs (one_back k le same rest) = one_back k le same (backs_front k d bs cs rest)

-- the last answer once more
backs_twice : (a d : ℕ) (bs : List Answer) (b : Answer) → Backs a d (bs ++ b ∷ []) → Backs a d ((bs ++ b ∷ []) ++ b ∷ [])
backs_twice a d [] b (one_back k le same rest) = one_back k le same (one_back k (le_refl k) same rest)
backs_twice a d (c ∷ bs) b (one_back k le same rest) = one_back k le same (backs_twice k d bs b rest)

-- ---- a direction in which only these change

sound_forth : (x : Exchange) (us : List Outgoing) → ((ms : List Msu) (s d : ℕ) → Flight ms s d x.forth → Flight ms s d us) → Sound x → Sound (record x { forth = us })
sound_forth x us f h = record {
  a = h.a;
  d = h.d;
  fine = h.fine;
  kept = h.kept;
  first = h.first;
  inside = h.inside;
  reached = h.reached;
  last = h.last;
  delivered = h.delivered;
  forth = f x.taken (h.a + x.sender.sent) h.d h.forth;
  back = h.back;
}

sound_back : (x : Exchange) (bs : List Answer) → ((a d : ℕ) → Backs a d x.back → Backs a d bs) → Sound x → Sound (record x { back = bs })
sound_back x bs f h = record {
  a = h.a;
  d = h.d;
  fine = h.fine;
  kept = h.kept;
  first = h.first;
  inside = h.inside;
  reached = h.reached;
  last = h.last;
  delivered = h.delivered;
  forth = h.forth;
  back = f h.a h.d h.back;
}

-- ---- each step

all_sent : (x : Exchange) (h : Sound x) → h.a + x.sender.sent ≤ length x.taken
all_sent x h =
    let size = ap (λ (ms : List Msu). length ms) h.kept ∙ length-drop h.a x.taken in
    let fits = h.fine.fits in let inside = h.inside in omega arith

pub sound_given : (x : Exchange) (ms : List Msu) → Sound x → Sound (record x { sender = record x.sender { kept = x.sender.kept ++ ms }; taken = x.taken ++ ms })
sound_given x ms h =
    let kept_size = length-append x.sender.kept ms in
    let taken_size = length-append x.taken ms in
    let fits = h.fine.fits in let inside = h.inside in let reached = h.reached in let sent = all_sent x h in
    record {
      a = h.a;
      d = h.d;
      fine = record { fits = omega arith; narrow = h.fine.narrow; again = h.fine.again; turn = h.fine.turn };
      kept = ap (λ (xs : List Msu). xs ++ ms) h.kept ∙ sym (drop-append-le h.a x.taken ms inside);
      first = h.first;
      inside = omega arith;
      reached = h.reached;
      last = h.last;
      delivered = h.delivered ∙ sym (take-append-le h.d x.taken ms (omega arith));
      forth = flight_given x.taken ms (h.a + x.sender.sent) h.d x.forth sent h.forth;
      back = h.back;
    }

pub sound_sent : (x : Exchange) → Sound x → Sound (exchange_step x sends)
sound_sent x h = sound_run x (sends ∷ []) h

-- a unit without a message is sent, whatever the sender's next unit is
pub sound_filled : (x : Exchange) (u : Outgoing) → u.msu ≡ None → Sound x → Sound (record x { forth = x.forth ++ u ∷ [] })
sound_filled x u none h = sound_forth x (x.forth ++ u ∷ []) (λ ms s d f. flight_idle ms s d x.forth u none f) h

pub sound_arrived : (x : Exchange) (u : Outgoing) (us : List Outgoing) → x.forth ≡ u ∷ us → Sound x → Sound (hears (record x { forth = us }) u)
sound_arrived x u us e h = subst (λ (vs : List Outgoing). Sound (first_arrives x vs)) e (sound_run x (arrives ∷ []) h)

pub sound_lost : (x : Exchange) (u : Outgoing) (us : List Outgoing) → x.forth ≡ u ∷ us → Sound x → Sound (record x { forth = us })
sound_lost x u us e h = subst (λ (vs : List Outgoing). Sound (first_is_lost x vs)) e (sound_run x (is_lost ∷ []) h)

pub sound_came_back : (x : Exchange) (b : Answer) (bs : List Answer) → x.back ≡ b ∷ bs → Sound x → Sound (record x { back = bs; sender = step x.sender (on_back b.bsn b.bib) })
sound_came_back x b bs e h = subst (λ (cs : List Answer). Sound (first_comes_back x cs)) e (sound_run x (comes_back ∷ []) h)

pub sound_lost_back : (x : Exchange) (b : Answer) (bs : List Answer) → x.back ≡ b ∷ bs → Sound x → Sound (record x { back = bs })
sound_lost_back x b bs e h = subst (λ (cs : List Answer). Sound (first_is_lost_back x cs)) e (sound_run x (is_lost_back ∷ []) h)

-- the receiver answers with its last accepted number
pub sound_answered : (x : Exchange) → Sound x → Sound (record x { back = x.back ++ record { bsn = x.receiver.last; bib = x.receiver.bib } ∷ [] })
sound_answered x h = sound_run x (answers ∷ []) h

-- only some of the answers arrive
pub sound_front : (x : Exchange) (bs cs : List Answer) → x.back ≡ bs ++ cs → Sound x → Sound (record x { back = bs })
sound_front x bs cs e h = sound_back x bs (λ a d f. backs_front a d bs cs (subst (λ (xs : List Answer). Backs a d xs) e f)) h

-- it repeats its last answer
pub sound_again : (x : Exchange) (bs : List Answer) (b : Answer) → x.back ≡ bs ++ b ∷ [] → Sound x → Sound (record x { back = (bs ++ b ∷ []) ++ b ∷ [] })
sound_again x bs b e h =
    sound_back x ((bs ++ b ∷ []) ++ b ∷ []) (λ a d f. backs_twice a d bs b (subst (λ (xs : List Answer). Backs a d xs) e f)) h

-- ---- numbers

known_last : (x : Exchange) (h : Sound x) → count_by x.sender x.receiver.last ≡ h.d - h.a
known_last x h =
    let narrow = h.fine.narrow in let reached = h.reached in
    count_exact h.a h.d x.receiver.last x.sender.first (backs_le h.a h.d x.back h.back) (omega arith) h.first h.last

delivered_so_many : (x : Exchange) (h : Sound x) → length x.delivered ≡ h.d
delivered_so_many x h =
    let reached = h.reached in let sent = all_sent x h in
    ap (λ (ms : List Msu). length ms) h.delivered ∙ length-take-le h.d x.taken (omega arith)

kept_so_many : (x : Exchange) (h : Sound x) → length x.sender.kept ≡ length x.taken - h.a
kept_so_many x h = ap (λ (ms : List Msu). length ms) h.kept ∙ length-drop h.a x.taken

-- how many held messages the number of the last accepted message acknowledges
pub sound_place : (x : Exchange) → Sound x → count_by x.sender x.receiver.last + length x.taken ≡ length x.delivered + length x.sender.kept
sound_place x h =
    let le = backs_le h.a h.d x.back h.back in let inside = h.inside in
    omega (arith, known_last x h, delivered_so_many x h, kept_so_many x h, le, inside)

pub sound_few : (x : Exchange) → Sound x → count_by x.sender x.receiver.last ≤ x.sender.sent
sound_few x h = let count = known_last x h in let reached = h.reached in omega arith

-- No held message after the last accepted number is missing.
pub sound_sizes : (x : Exchange) → Sound x → length x.taken ≤ length x.delivered + length x.sender.kept
sound_sizes x h =
    let le = backs_le h.a h.d x.back h.back in let inside = h.inside in
    omega (arith, delivered_so_many x h, kept_so_many x h, le, inside)

pub sound_whole : (x : Exchange) (p : ℕ) → Sound x → p + length x.taken ≡ length x.delivered + length x.sender.kept → x.taken ≡ x.delivered ++ drop p x.sender.kept
sound_whole x p h e =
    let le = backs_le h.a h.d x.back h.back in let inside = h.inside in
    let at : h.a + p ≡ h.d = omega (arith, e, delivered_so_many x h, kept_so_many x h, le, inside) in
    let rest : drop p x.sender.kept ≡ drop h.d x.taken =
    ap (λ (ms : List Msu). drop p ms) h.kept ∙ drop-drop p h.a x.taken ∙ ap (λ (j : ℕ). drop j x.taken) at in
    sym (ap (λ (ms : List Msu). ms ++ drop p x.sender.kept) h.delivered ∙ ap (λ (ms : List Msu). take h.d x.taken ++ ms) rest ∙ take-append-drop h.d x.taken)

pub sound_in_order : (x : Exchange) → Sound x → (missing : List Msu) × (x.taken ≡ x.delivered ++ missing)
sound_in_order x h = (drop h.d x.taken, sym (ap (λ (ms : List Msu). ms ++ drop h.d x.taken) h.delivered ∙ take-append-drop h.d x.taken))
