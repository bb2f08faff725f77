-- Every step of a terminal except for units leaves what the actors' signals leave.
use Rattle.std.proofs.Common.{◌≡◌, ℕ, ◌+◌, ◌≤◌, zero, suc, nat_lt, Bool, true, false, cond, Option, Some, None, List, [], ◌∷◌, ◌++◌, length, refl, sym, ap, ◌∙◌, append-nil, length-append, lit≤, arith}
use Rattle.std.specs.Prelude.{if◌then◌else◌}
use Rattle.resend_store.specs.declared.messages.Msu.{Msu}
use Rattle.resend_store.specs.Window.{Window, emptied as without_kept}
use Rattle.su_octets.specs.declared.units.Unit.{Unit}
use Rattle.su_octets.specs.declared.units.Unit.TheVariants as unit
use Rattle.actor_machine.specs.Ledger.{Ledger, state_of, ask}
use Rattle.actor_machine.specs.Step.{Answer, Stuck, Says}
use Rattle.actor_machine.specs.declared.event.Event.{Event}
use Rattle.actor_machine.specs.declared.event.Event.TheVariants.{TakeEnv}
use Rattle.actor_machine.specs.declared.reply.Emitted.{Emitted}
use Rattle.actor_machine.specs.declared.reply.Reply.{Reply}
use Rattle.actor_machine.specs.declared.reply.Reply.TheVariants as reply
use Rattle.actor_book.specs.declared.turn.Turn.{Turn}
use Rattle.actor_book.specs.declared.turn.Turn.TheVariants.{Made, Blocked, Idle}
use Rattle.actor_book.specs.Turns.{MOST_TURNS, least_turn}
use Rattle.link_transceiver.specs.declared.offers.Offer.{Offer}
use Rattle.link_transceiver.specs.declared.offers.UnitOut.{UnitOut}
use Rattle.link_transceiver.specs.declared.signals.EnvSignal.{EnvSignal}
use Rattle.link_transceiver.specs.TransceiverState.{TransceiverState}
use Rattle.link_transceiver.specs.Effects.{effect, clears}
use Rattle.link_transceiver.specs.Judging.{judged}
use Rattle.link_transceiver.specs.Measuring.{error_counted, octets_counted}
use Rattle.link_transceiver.specs.Going.{gone}
use Rattle.link_transceiver.specs.Offers.{error_offers, acknowledgement_seen, counting_offers}
use Rattle.link_transceiver.specs.Laws.{HandsOutInOrder, KeepsUnacknowledged, Loses, Told, Came, Went, accepted_of, acknowledged_of, is_accepted}
use Rattle.link_processes.specs.declared.processes.Processes.{Processes}
use Rattle.link_processes.specs.Offering.{told_by, offer_event}
use Rattle.link_processes.specs.Machine.{with_book, with_transceiver, Step, repeated, heeds, heard, taken_reply, taken_answer, one_taken, emptied, turned, moved_by, moved, rested, offered, all_offered, with_measures, timed, unit_measured, unit_taken, error_taken, octets_taken, out_measured, calm_measured, is_news, counting_told, told_of, sent_by, sent, none_out, handed_out, buffers_emptied}
use Rattle.link_processes.specs.Laws.{MessagesLaw, KeptLaw}

-- a relation that holds over each signal holds over every step that only takes signals
module _ (R : TransceiverState → TransceiverState → Type 0) (same : (h : TransceiverState) → R h h) (joined : (a b c : TransceiverState) → R a b → R b c → R a c)
    (each : (s : EnvSignal) (h : TransceiverState) → R h (effect s h)) where
  heeds_keeps : (o : Option EnvSignal) (h : TransceiverState) → R h (heeds o h)
  heeds_keeps None h = same h
  heeds_keeps (Some s) h = each s h

  heard_keeps : (x : Emitted) (t : Processes) → R t.transceiver (heard x t).transceiver
  unfolding heard
  heard_keeps x t = heeds_keeps (told_by t.names x) t.transceiver

  reply_keeps : (t : Processes) (b : Ledger) (r : Reply) → R t.transceiver (taken_reply t b r).processes.transceiver
  reply_keeps t b (reply.Taken x) = heard_keeps x (with_book t b)
  reply_keeps t b _ = same t.transceiver

  answer_keeps : (t : Processes) (b : Ledger) (a : Answer) → R t.transceiver (taken_answer t b a).processes.transceiver
  answer_keeps t b (Stuck x) = same t.transceiver
  answer_keeps t b (Says r) = reply_keeps t b r

  one_keeps : (t : Processes) → R t.transceiver (one_taken t).processes.transceiver
  unfolding one_taken
  one_keeps t = answer_keeps t (ask t.book TakeEnv).book (ask t.book TakeEnv).answer

  chosen_keeps : (b : Bool) (x y : Processes) (h : TransceiverState) → R h x.transceiver → R h y.transceiver → R h (cond b x y).transceiver
  chosen_keeps true x y h p q = p
  chosen_keeps false x y h p q = q

  repeated_keeps : (f : Processes → Step) → ((t : Processes) → R t.transceiver (f t).processes.transceiver) → (k : ℕ) (t : Processes) → R t.transceiver (repeated f k t).transceiver
  unfolding repeated
  repeated_keeps f step zero t = same t.transceiver
  repeated_keeps f step (suc k) t =
      chosen_keeps (f t).goes (repeated f k (f t).processes) (f t).processes t.transceiver
      (joined t.transceiver (f t).processes.transceiver (repeated f k (f t).processes).transceiver (step t) (repeated_keeps f step k (f t).processes)) (step t)

  emptied_keeps : (t : Processes) → R t.transceiver (emptied t).transceiver
  unfolding emptied
  emptied_keeps t = repeated_keeps one_taken one_keeps (length (state_of t.book).ring.items) t

  turn_keeps : (t : Processes) (b : Ledger) (x : Turn) → R t.transceiver (moved_by t b x).processes.transceiver
  turn_keeps t b Made = emptied_keeps (turned t b)
  turn_keeps t b Blocked = same t.transceiver
  turn_keeps t b Idle = same t.transceiver

  moved_keeps : (t : Processes) → R t.transceiver (moved t).processes.transceiver
  unfolding moved
  moved_keeps t = turn_keeps t (least_turn t.book).book (least_turn t.book).turn

  rested_keeps : (t : Processes) → R t.transceiver (rested t).transceiver
  unfolding rested
  rested_keeps t = repeated_keeps moved moved_keeps MOST_TURNS t

  pub offered_keeps : (e : Event) (t : Processes) → R t.transceiver (offered e t).transceiver
  unfolding offered
  offered_keeps e t = rested_keeps (with_book (timed e t) (ask t.book e).book)

  pub all_keeps : (os : List Offer) (t : Processes) → R t.transceiver (all_offered os t).transceiver
  unfolding all_offered
  all_keeps [] t = same t.transceiver
  all_keeps (o ∷ os) t =
      let next : Processes = offered (offer_event t.names o) t in
      joined t.transceiver next.transceiver (all_offered os next).transceiver (offered_keeps (offer_event t.names o) t) (all_keeps os next)

  pub unit_keeps : (u : Unit) (t : Processes) → R (judged t.transceiver u).transceiver (unit_taken u t).transceiver
  unfolding unit_taken
  unit_keeps u t = all_keeps (judged t.transceiver u).offers (with_transceiver (unit_measured u t) (judged t.transceiver u).transceiver)

  pub error_keeps : (t : Processes) → R t.transceiver (error_taken t).transceiver
  unfolding error_taken
  error_keeps t = all_keeps error_offers (with_measures t (error_counted t.measures))

  pub octets_keep : (t : Processes) → R t.transceiver (octets_taken t).transceiver
  unfolding octets_taken
  octets_keep t = all_keeps error_offers (with_measures t (octets_counted t.measures))

  either_keeps : (b : Bool) (x y : Processes) (h : TransceiverState) → R h x.transceiver → R h y.transceiver → R h (if b then x else y).transceiver
  either_keeps true x y h p q = p
  either_keeps false x y h p q = q

  pub counting_keeps : (on : Bool) (t : Processes) → R t.transceiver (counting_told on t).transceiver
  unfolding counting_told
  counting_keeps on t =
      either_keeps (is_news on t) (all_offered (counting_offers on) (record t { counting = on })) t t.transceiver
      (all_keeps (counting_offers on) (record t { counting = on })) (same t.transceiver)

  told_keeps : (o : Option Offer) (t : Processes) → R t.transceiver (told_of o t).transceiver
  told_keeps None t = same t.transceiver
  told_keeps (Some o) t = offered_keeps (offer_event t.names o) t

  by_keeps : (t : Processes) (o : Option UnitOut) → R t.transceiver (sent_by t o).processes.transceiver
  by_keeps t None = same t.transceiver
  by_keeps t (Some out) = told_keeps out.offer t

  pub sent_keeps : (t : Processes) → R (gone t.transceiver).transceiver (sent t).processes.transceiver
  unfolding sent
  sent_keeps t = by_keeps (with_transceiver (out_measured t) (gone t.transceiver).transceiver) (gone t.transceiver).out

-- ---- messages waiting to be handed out

abbrev SameMessages : TransceiverState → TransceiverState → Type 0
SameMessages a b = b.messages ≡ a.messages

messages_same : (h : TransceiverState) → SameMessages h h
messages_same h = refl

messages_joined : (a b c : TransceiverState) → SameMessages a b → SameMessages b c → SameMessages a c
messages_joined a b c p q = q ∙ p

told_messages : HandsOutInOrder → (s : EnvSignal) (h : TransceiverState) → SameMessages h (effect s h)
told_messages law s h = sym (law h (Told s ∷ [])) ∙ append-nil h.messages

came_messages : HandsOutInOrder → (h : TransceiverState) (u : Unit) → (judged h u).transceiver.messages ≡ h.messages ++ accepted_of h u
came_messages law h u = sym (law h (Came u ∷ [])) ∙ ap (λ (xs : List Msu). h.messages ++ xs) (append-nil (accepted_of h u))

went_messages : HandsOutInOrder → (h : TransceiverState) → SameMessages h (gone h).transceiver
went_messages law h = sym (law h (Went ∷ [])) ∙ append-nil h.messages

few_if : (b : Bool) (m : Msu) → length (if b then m ∷ [] else []) ≤ 1
few_if true m = lit≤ tt
few_if false m = lit≤ tt

few_accepted : (h : TransceiverState) (u : Unit) → length (accepted_of h u) ≤ 1
few_accepted h (unit.Fisu head) = lit≤ tt
few_accepted h (unit.Lssu head status second) = lit≤ tt
few_accepted h (unit.Msu head sio sif) = few_if (is_accepted h head) (record { sio = sio; sif = sif })

units_messages : HandsOutInOrder → (u : Unit) (t : Processes) → (unit_taken u t).transceiver.messages ≡ t.transceiver.messages ++ accepted_of t.transceiver u
units_messages law u t =
    unit_keeps SameMessages messages_same messages_joined (told_messages law) u t ∙ came_messages law t.transceiver u

few_more : (n k m : ℕ) → n ≡ k + m → m ≤ 1 → n ≤ k + 1
few_more n k m h le = omega (arith, h, le)

pub messages_law : HandsOutInOrder → MessagesLaw
messages_law law = record {
  events = offered_keeps SameMessages messages_same messages_joined (told_messages law);
  offers = all_keeps SameMessages messages_same messages_joined (told_messages law);
  units = units_messages law;
  errors = error_keeps SameMessages messages_same messages_joined (told_messages law);
  octets = octets_keep SameMessages messages_same messages_joined (told_messages law);
  counting = counting_keeps SameMessages messages_same messages_joined (told_messages law);
  sends = λ t. sent_keeps SameMessages messages_same messages_joined (told_messages law) t ∙ went_messages law t.transceiver;
  few = λ u t. few_more (length (unit_taken u t).transceiver.messages) (length t.transceiver.messages) (length (accepted_of t.transceiver u))
      (ap length (units_messages law u t) ∙ length-append t.transceiver.messages (accepted_of t.transceiver u)) (few_accepted t.transceiver u);
}

-- ---- messages held for sending

abbrev LosesNone : TransceiverState → TransceiverState → Type 0
LosesNone a b = Loses [] a.sender b.sender

no_loss : (h : TransceiverState) → LosesNone h h
no_loss h = record { kept = refl; sent = omega arith }

fewer_sent : (g k a b c : ℕ) → g + b ≤ a → k + c ≤ b → k ≡ 0 → g + c ≤ a
fewer_sent g k a b c h j z = omega (arith, h, j, z)

-- losing nothing more after such a loss keeps it
loss_stays : (gone : List Msu) (a b c : Window) → Loses gone a b → Loses [] b c → Loses gone a c
loss_stays gone a b c h k = record {
  kept = h.kept ∙ ap (λ (ms : List Msu). gone ++ ms) k.kept;
  sent = fewer_sent (length gone) (length {A = Msu} []) a.sent b.sent c.sent h.sent k.sent refl;
}

no_loss_joined : (a b c : TransceiverState) → LosesNone a b → LosesNone b c → LosesNone a c
no_loss_joined a b c h k = loss_stays [] a.sender b.sender c.sender h k

one_sent : (none a b c : ℕ) → none + a ≤ b → b ≤ c + 1 → a ≤ c + 1
one_sent none a b c h k = omega (arith, h, k)

kept_none : (w v : Window) → w.kept ≡ [] → Loses [] w v → v.kept ≡ []
kept_none w v none h = sym h.kept ∙ none

told_none : KeepsUnacknowledged → (o : Option Offer) (t : Processes) → t.transceiver.sender.kept ≡ [] → (told_of o t).transceiver.sender.kept ≡ []
told_none law o t none =
    kept_none t.transceiver.sender (told_of o t).transceiver.sender none (told_keeps LosesNone no_loss no_loss_joined law.on_signal o t)

handed_none : KeepsUnacknowledged → (accepted : Option ℕ) (t : Processes) → (handed_out accepted t).transceiver.sender.kept ≡ []
unfolding handed_out
handed_none law accepted t =
    told_none law (none_out (nat_lt 0 t.transceiver.sender.sent)) (with_transceiver (calm_measured t) (record t.transceiver { sender = without_kept t.transceiver.sender accepted })) refl

emptied_none : KeepsUnacknowledged → (t : Processes) → (buffers_emptied t).transceiver.sender.kept ≡ []
unfolding buffers_emptied clears
emptied_none law t = told_none law (Some (acknowledgement_seen false)) (with_transceiver (calm_measured t) (clears t.transceiver)) refl

pub kept_law : KeepsUnacknowledged → KeptLaw
kept_law law = record {
  events = offered_keeps LosesNone no_loss no_loss_joined law.on_signal;
  offers = all_keeps LosesNone no_loss no_loss_joined law.on_signal;
  units = λ u t. loss_stays (acknowledged_of t.transceiver u) t.transceiver.sender (judged t.transceiver u).transceiver.sender (unit_taken u t).transceiver.sender
      (law.on_unit t.transceiver u) (unit_keeps LosesNone no_loss no_loss_joined law.on_signal u t);
  errors = error_keeps LosesNone no_loss no_loss_joined law.on_signal;
  octets = octets_keep LosesNone no_loss no_loss_joined law.on_signal;
  counting = counting_keeps LosesNone no_loss no_loss_joined law.on_signal;
  sends = λ t. sym (sent_keeps LosesNone no_loss no_loss_joined law.on_signal t).kept ∙ law.unit_out t.transceiver;
  one_sent = λ t. one_sent (length {A = Msu} []) (sent t).processes.transceiver.sender.sent (gone t.transceiver).transceiver.sender.sent t.transceiver.sender.sent
      (sent_keeps LosesNone no_loss no_loss_joined law.on_signal t).sent (law.one_sent t.transceiver);
  retrievals = handed_none law;
  clears = emptied_none law;
}
