-- The effects of commands on a terminal.
use Rattle.std.proofs.Common.{◌≡◌, ℕ, zero, suc, ◌+◌, ◌-◌, ◌<◌, ◌≤◌, List, [], ◌∷◌, ◌++◌, length, take, drop, Option, None, Some, Result, Ok, Err, Bool, true, false, inl, inr, refl, sym, ap, subst, arith, ◌∙◌}
use Rattle.std.specs.Prelude.{◌⊎◌, ◌↔◌, IsTrue, codes, if◌then◌else◌, slice_get, is_some}
use Rattle.std.specs.Fmt.{decimal}
use Rattle.std.proofs.Math.Seq.{drop-nil}
use Rattle.std.proofs.lemmas.Bool.{cases_lt}
use Rattle.std.proofs.lemmas.List.{take-append-drop, take_all, drop-drop, length-drop}
use Rattle.resend_store.specs.Limits.{MOST_WAITING}
use Rattle.resend_store.specs.Window.{waiting, with_put, retrieved, count_known}
use Rattle.resend_store.specs.declared.refusals.PutError.{PutError}
use Rattle.resend_store.specs.declared.refusals.PutError.TheVariants.{Full}
use Rattle.resend_store.specs.declared.refusals.RetrieveError.{RetrieveError}
use Rattle.resend_store.specs.declared.refusals.RetrieveError.TheVariants.{BadAck}
use Rattle.resend_store.specs.declared.refusals.RetrieveError.TheVariants as unretrieved
use Rattle.resend_store.specs.declared.messages.Msu.{Msu}
use Rattle.actor_machine.specs.Ledger.{ask, rebased}
use Rattle.actor_machine.specs.Step.{Says}
use Rattle.actor_machine.specs.declared.event.Event.{Event}
use Rattle.actor_machine.specs.declared.reply.Reply.{Reply}
use Rattle.actor_machine.specs.declared.reply.Reply.TheVariants as reply
use Rattle.link_transceiver.specs.Limits.{KEPT_MESSAGES}
use Rattle.link_transceiver.specs.TransceiverState.{TransceiverState}
use Rattle.link_transceiver.specs.Reporting.{Reported, status_reported, message_reported, reported}
use Rattle.link_transceiver.specs.declared.signals.LinkStatus.{LinkStatus}
use Rattle.link_transceiver.specs.declared.signals.Report.{Report}
use Rattle.link_term.specs.Offering.{command_event}
use Rattle.link_term.specs.link_processes_types.commands.Command.{Command}
use Rattle.link_term.specs.link_processes_types.names.Names.{Names}
use Rattle.link_term.specs.Machine.{with_book, offered, tidied, is_low}
use Rattle.link_term.specs.link_processes_types.processes.Processes.{Processes}
use Rattle.link_term.specs.Term.{Term, with_processes, term_with_transceiver, IsAnswer, Leaves}
use Rattle.link_term.specs.Hearing.{Heard}
use Rattle.link_term.specs.declared.answers.CallError.{CallError}
use Rattle.link_term.specs.declared.answers.CallError.TheVariants.{Refused, NoMemory}
use Rattle.script_book.specs.Answers.{answer_text}
use Rattle.script_ends.specs.TermAnswers.{after_answer, IsAsked, IsRefusedLine, Puts, taken, full, IsMessageOf, IsPut, without_reports, IsFull, TakesNoMore, Listens, done, part, Hears, heard_all, in_parts, Takes, TakesTimes, never, again, behind_retrieve, IsRetrieveLine, Retrieves, given, bad}

-- ---- events

pub asked_ok : (e : Event) (t u : Term) (text : List ℕ) → text ≡ codes "ok" → Says reply.Offered ≡ (ask (tidied t.processes).book e).answer
    → u ≡ with_processes t (offered e (tidied t.processes)) → IsAsked e t text u
asked_ok e t u text is says goes =
    record {
      says = is ∙ ap (λ a. answer_text t.processes.book.set 0 a) says;
      makes = goes ∙ ap (λ a. with_processes t (after_answer a e t.processes)) says;
    }

pub asked_refused : {A : Type 0} (f : A → Reply) (e : Event) (t u : Term) (text : List ℕ) (error : CallError) → IsRefusedLine error text
    → IsAnswer f (Err error) (ask (tidied t.processes).book e).answer → Leaves t u error → IsAsked e t text u
asked_refused f e t u text (Refused r) is says leaves =
    record {
      says = is ∙ ap (λ a. answer_text t.processes.book.set 0 a) says;
      makes = leaves ∙ ap (λ a. with_processes t (after_answer a e t.processes)) says;
    }
asked_refused f e t u text NoMemory is says leaves = absurd is

names_by : (b : Bool) (x y : Processes) → x.names ≡ y.names → (if b then x else y).names ≡ y.names
names_by true x y same = same
names_by false x y same = refl

-- Making room in the journal leaves the numbers of names unchanged.
pub names_stay : (h : Processes) → (tidied h).names ≡ h.names
unfolding tidied
names_stay h = names_by (is_low h) (with_book h (rebased h.book)) h refl

-- An event is the same under equal names and equal commands.
pub asked_same : (n m : Names) (c d : Command) (t u : Term) (text : List ℕ) → n ≡ m → c ≡ d → IsAsked (command_event n c) t text u
    → IsAsked (command_event m d) t text u
asked_same n m c d t u text names commands asked =
    let P : Names → Type 0 = λ x. IsAsked (command_event x c) t text u in
    let Q : Command → Type 0 = λ x. IsAsked (command_event m x) t text u in
    subst Q commands (subst P names asked)

-- ---- messages to send

below : (n m : ℕ) → (n < m) ⊎ (m ≤ n) → (m ≤ n → ⊥) → n < m
below n m (inl less) refuted = less
below n m (inr many) refuted = absurd (refuted many)

put_text : (octets : List ℕ) (t u : Term) (m : Msu) (text said : List ℕ) (v : Term) → IsMessageOf octets m → text ≡ said → u ≡ v → Puts m t said v
    → IsPut octets t text u
put_text octets t u m text said v are says makes puts =
    let P : List ℕ → Type 0 = λ x. Puts m t x u in
    let Q : Term → Type 0 = λ x. Puts m t said x in
    record { message = m; octets_are = are; puts = subst P (sym says) (subst Q (sym makes) puts) }

pub put_taken : (octets : List ℕ) (t u : Term) (m : Msu) (text : List ℕ) (x : Unit {0}) → IsMessageOf octets m → text ≡ codes "ok"
    → (◌≡◌ {A = Result (Unit {0}) PutError} (Ok x) (Err Full)) ↔ (MOST_WAITING ≤ length (waiting t.processes.transceiver.sender))
    → u ≡ term_with_transceiver t (record t.processes.transceiver { sender = with_put t.processes.transceiver.sender m }) → IsPut octets t text u
put_taken octets t u m text x are says many makes =
    put_text octets t u m text (codes "ok") _ are says makes
    (taken
    (below (length (waiting t.processes.transceiver.sender)) MOST_WAITING (cases_lt (length (waiting t.processes.transceiver.sender)) MOST_WAITING)
    (λ so. let e : ◌≡◌ {A = Result (Unit {0}) PutError} (Ok x) (Err Full) = many.1 so in cc)))

pub put_full : (octets : List ℕ) (t u : Term) (m : Msu) (text : List ℕ) (e : PutError) → IsMessageOf octets m → text ≡ codes "refused E1 Full"
    → (◌≡◌ {A = Result (Unit {0}) PutError} (Err e) (Err Full)) ↔ (MOST_WAITING ≤ length (waiting t.processes.transceiver.sender)) → u ≡ t
    → IsPut octets t text u
put_full octets t u m text Full are says many makes = put_text octets t u m text (codes "refused E1 Full") t are says makes (full (many.0 refl))

-- ---- retrieved messages

at_most : (n m : ℕ) → (n < m) ⊎ (m ≤ n) → (n < m → ⊥) → m ≤ n
at_most n m (inl less) refuted = absurd (refuted less)
at_most n m (inr most) refuted = most

pub given_out : {V : Type 0} (behind : Option ℕ) (t u : Term) (text : List ℕ) (items : List Msu) (x : V) → text ≡ codes "ok " ++ decimal (length items)
    → (◌≡◌ {A = Result V RetrieveError} (Ok x) (Err BadAck)) ↔ (t.processes.transceiver.sender.sent < count_known t.processes.transceiver.sender behind)
    → items ≡ retrieved t.processes.transceiver.sender behind → u ≡ behind_retrieve behind t → Retrieves behind t text u
given_out {V} behind t u text items x says many are makes =
    let w = t.processes.transceiver.sender in
    let few : count_known w behind ≤ w.sent =
    at_most w.sent (count_known w behind) (cases_lt w.sent (count_known w behind))
    (λ so. let e : ◌≡◌ {A = Result V RetrieveError} (Ok x) (Err BadAck) = many.1 so in cc) in
    let P : List ℕ → Type 0 = λ said. Retrieves behind t said u in
    let Q : Term → Type 0 = λ v. Retrieves behind t (codes "ok " ++ decimal (length (retrieved w behind))) v in
    subst P (sym (says ∙ ap (λ (ms : List Msu). codes "ok " ++ decimal (length ms)) are)) (subst Q (sym makes) (given few))

pub not_given : {V : Type 0} (behind : Option ℕ) (t u : Term) (text : List ℕ) (e : RetrieveError) → IsRetrieveLine e text
    → (◌≡◌ {A = Result V RetrieveError} (Err e) (Err BadAck)) ↔ (t.processes.transceiver.sender.sent < count_known t.processes.transceiver.sender behind)
    → u ≡ t → Retrieves behind t text u
not_given {V} behind t u text unretrieved.NoMemory says many makes = absurd says
not_given {V} behind t u text unretrieved.BadAck says many makes =
    let P : List ℕ → Type 0 = λ said. Retrieves behind t said u in
    let Q : Term → Type 0 = λ v. Retrieves behind t (codes "refused E2 BadAck") v in
    subst P (sym says) (subst Q (sym makes) (bad (many.0 refl)))

-- ---- reports

nothing_first : {A : Type 0} (xs : List A) → slice_get xs 0 ≡ None → xs ≡ []
nothing_first [] none = refl
nothing_first (x ∷ xs) none = absurd (cc)

one_less : {A : Type 0} (xs : List A) (x : A) → slice_get xs 0 ≡ Some x → length (drop 1 xs) < length xs
one_less [] x some = absurd (cc)
one_less (y ∷ xs) x some = omega arith

-- The number of pending reports.
abbrev pub reports : TransceiverState → ℕ
reports h = length h.messages + length h.statuses

abbrev cleared : TransceiverState → TransceiverState
cleared h = record h { messages = []; statuses = [] }

-- The state after a report is taken.
record Handed (h : TransceiverState) (r : Reported) : Type 0 where
  pub same : cleared r.transceiver ≡ cleared h
  pub less : (x : Report) → r.report ≡ Some x → reports r.transceiver < reports h
  pub none : r.report ≡ None → r.transceiver ≡ cleared h

cleared_same : (h : TransceiverState) → h.messages ≡ [] → h.statuses ≡ [] → h ≡ cleared h
cleared_same h messages statuses =
    ap (λ ms. record h { messages = ms; statuses = h.statuses }) messages ∙ ap (λ ss. record h { messages = []; statuses = ss }) statuses

status_handed : (h : TransceiverState) (o : Option LinkStatus) → h.messages ≡ [] → slice_get h.statuses 0 ≡ o → Handed h (status_reported h o)
status_handed h None messages is =
    record { same = refl; less = λ x some. absurd (cc); none = λ n. cleared_same h messages (nothing_first h.statuses is) }
status_handed h (Some s) messages is =
    let fewer : length (drop 1 h.statuses) < length h.statuses = one_less h.statuses s is in
    record { same = refl; less = λ x some. omega (arith, fewer); none = λ n. absurd (cc) }

message_handed : (h : TransceiverState) (o : Option Msu) → slice_get h.messages 0 ≡ o → Handed h (message_reported h o)
message_handed h None is = status_handed h (slice_get h.statuses 0) (nothing_first h.messages is) refl
message_handed h (Some m) is =
    let fewer : length (drop 1 h.messages) < length h.messages = one_less h.messages m is in
    record { same = refl; less = λ x some. omega (arith, fewer); none = λ n. absurd (cc) }

handed : (h : TransceiverState) → Handed h (reported h)
unfolding reported
handed h = message_handed h (slice_get h.messages 0) refl

-- No report is left.
pub none_left : (first t u : Term) (r : Option Report) → without_reports t ≡ without_reports first → is_some r ≡ false
    → r ≡ (reported t.processes.transceiver).report → u ≡ term_with_transceiver t (reported t.processes.transceiver).transceiver → u ≡ without_reports first
none_left first t u None same none is transceiver = transceiver ∙ (ap (term_with_transceiver t) ((handed t.processes.transceiver).none (sym is)) ∙ same)
none_left first t u (Some x) same none is transceiver = absurd (let e : true ≡ false = none in cc)

-- One report was taken out.
pub one_handed : (first t u : Term) → without_reports t ≡ without_reports first → u ≡ term_with_transceiver t (reported t.processes.transceiver).transceiver
    → without_reports u ≡ without_reports first
one_handed first t u same transceiver = ap without_reports transceiver ∙ (ap (term_with_transceiver t) (handed t.processes.transceiver).same ∙ same)

pub fewer_reports : (t u : Term) (r : Option Report) → is_some r ≡ true → r ≡ (reported t.processes.transceiver).report → u ≡ term_with_transceiver t (reported t.processes.transceiver).transceiver
    → reports u.processes.transceiver < reports t.processes.transceiver
fewer_reports t u None some is transceiver = absurd (let e : false ≡ true = some in cc)
fewer_reports t u (Some x) some is transceiver =
    let less : reports (reported t.processes.transceiver).transceiver < reports t.processes.transceiver = (handed t.processes.transceiver).less x (sym is) in
    let P : Term → Type 0 = λ v. reports v.processes.transceiver < reports t.processes.transceiver in
    subst P (sym transceiver) less

-- ---- octets of the line

nothing_behind : (n : ℕ) (xs : List ℕ) → length xs ≤ n → drop n xs ≡ []
nothing_behind n [] long = drop-nil n
nothing_behind zero (x ∷ xs) long = absurd (omega (arith, long))
nothing_behind (suc n) (x ∷ xs) long = nothing_behind n xs (omega (arith, long))

where_less : (n : ℕ) (xs : List ℕ) → (drop n xs ≡ [] → ⊥) → (n < length xs) ⊎ (length xs ≤ n) → n < length xs
where_less n xs more (inl less) = less
where_less n xs more (inr long) = absurd (more (nothing_behind n xs long))

-- One more part.
pub part_taken : (t m u : Term) (octets : List ℕ) (n : ℕ) → (n ≡ 0 → ⊥) → n ≤ length octets → Heard t (take n octets) m
    → (n < length octets → TakesNoMore m) → Listens (without_reports m) (drop n octets) u → Listens t octets u
part_taken t m u octets zero some within heard stops others = absurd (some refl)
part_taken t m u [] (suc n) some within heard stops others = absurd (omega (arith, within))
part_taken t m u (x ∷ xs) (suc n) some within heard stops others =
    let P : List ℕ → Type 0 = λ all. Listens t (x ∷ all) u in
    subst P (take-append-drop n xs)
    (part t m u x (take n xs) (drop n xs) heard
    (λ more. let less : n < length xs = where_less n xs more (cases_lt n (length xs)) in stops (omega (arith, less)))
    others)

-- A part of the remaining octets.
pub part_more : (t m w u : Term) (octets xs : List ℕ) (from n : ℕ) → xs ≡ drop from octets → (n ≡ 0 → ⊥) → n ≤ length xs → Heard t (take n xs) m
    → (n < length xs → TakesNoMore m) → w ≡ without_reports m → Listens w (drop (from + n) octets) u → Listens t (drop from octets) u
part_more t m w u octets xs from n same some within heard stops without others =
    let P : Term → Type 0 = λ v. Listens v (drop (from + n) octets) u in
    let Q : List ℕ → Type 0 = λ ys. Listens (without_reports m) ys u in
    let R : List ℕ → Type 0 = λ ys. Listens t ys u in
    let rest : drop (from + n) octets ≡ drop n xs = sym (drop-drop n from octets) ∙ ap (drop n) (sym same) in
    subst R same (part_taken t m u xs n some within heard stops (subst Q rest (subst P without others)))

-- No octets remain.
pub listens_end : (t : Term) (octets : List ℕ) (from : ℕ) → length octets ≤ from → Listens t (drop from octets) t
listens_end t octets from over = let P : List ℕ → Type 0 = λ xs. Listens t xs t in subst P (sym (nothing_behind from octets over)) (done t)

-- ---- reports are kept

-- All octets were taken.
pub hears_all : (t u : Term) (octets : List ℕ) (n : ℕ) → n ≡ length octets → Heard t (take n octets) u → Hears t octets u
hears_all t u octets n all heard =
    let P : ℕ → Type 0 = λ k. Heard t (take k octets) u in
    let Q : List ℕ → Type 0 = λ xs. Heard t xs u in
    let least : length octets ≤ length octets = omega arith in
    heard_all t u octets (subst Q (take_all (length octets) octets least) (subst P all heard))

not_over : (n : ℕ) (xs : List ℕ) → n < length xs → drop n xs ≡ [] → ⊥
not_over n xs less none = omega (arith, less, ap length none, length-drop n xs)

-- The most messages are waiting, and the reports are dropped.
pub hears_part : (t m w u : Term) (octets xs : List ℕ) (n : ℕ) → n < length octets → Heard t (take n octets) m
    → IsFull m → w ≡ without_reports m → xs ≡ drop n octets → Hears w xs u → Hears t octets u
hears_part t m w u octets xs n less heard packed without rest hears =
    let P : List ℕ → Type 0 = λ ys. Hears t ys u in
    let Q : Term → Type 0 = λ v. Hears v xs u in
    let R : List ℕ → Type 0 = λ ys. Hears (without_reports m) ys u in
    subst P (take-append-drop n octets) (in_parts t m u (take n octets) (drop n octets) heard (not_over n octets less) packed (subst R rest (subst Q without hears)))

-- The octets before `from` were heard, and reports dropped when the most messages were waiting. These are all octets,
-- or those before a place where reports may be dropped if the messages are full.
pub record Hearing (t m : Term) (octets : List ℕ) (from : ℕ) : Type 0 where
  pub within : from ≤ length octets
  pub all : length octets ≤ from → Hears t octets m
  pub others : from < length octets → IsFull m → (u : Term) → Hears (without_reports m) (drop from octets) u → Hears t octets u

pub hearing_begun : (t m : Term) (octets : List ℕ) (n : ℕ) → n ≤ length octets → Heard t (take n octets) m → Hearing t m octets n
hearing_begun t m octets n few heard = record {
  within = few;
  all = λ over. hears_all t m octets n (omega (arith, few, over)) heard;
  others = λ less packed u hears. hears_part t m (without_reports m) u octets (drop n octets) n less heard packed refl refl hears;
}

pub hearing_on : (t m w v : Term) (octets xs : List ℕ) (from k : ℕ) → Hearing t m octets from → from < length octets → IsFull m → w ≡ without_reports m
    → xs ≡ drop from octets → k ≤ length xs → Heard w (take k xs) v → Hearing t v octets (from + k)
hearing_on t m w v octets xs from k before less packed without same few heard =
    let count : length xs ≡ length octets - from = ap length same ∙ length-drop from octets in
    let P : Term → Type 0 = λ z. Hears z xs v in
    let Q : List ℕ → Type 0 = λ ys. Hears (without_reports m) ys v in
    record {
      within = omega (arith, count, few, less);
      all = λ over. before.others less packed v (subst Q same (subst P without (hears_all w v xs k (omega (arith, count, few, over, less)) heard)));
      others = λ more next_full u hears.
          let rest : drop (from + k) octets ≡ drop k xs = sym (drop-drop k from octets) ∙ ap (drop k) (sym same) in
          let R : List ℕ → Type 0 = λ ys. Hears (without_reports v) ys u in
          let S : Term → Type 0 = λ z. Hears z xs u in
          let T : List ℕ → Type 0 = λ ys. Hears (without_reports m) ys u in
          before.others less packed u
          (subst T same (subst S without (hears_part w v (without_reports v) u xs (drop k xs) k (omega (arith, count, more, less)) heard next_full refl refl (subst R rest hears))));
    }

-- Without room, the most messages are waiting.
pub full_by : (b : Bool) (t : Term) → IsTrue b ↔ (length t.processes.transceiver.messages < KEPT_MESSAGES) → b ≡ false → IsFull t
full_by b t room is =
    at_most (length t.processes.transceiver.messages) KEPT_MESSAGES (cases_lt (length t.processes.transceiver.messages) KEPT_MESSAGES)
    (λ less. let e : true ≡ false = sym (room.1 less) ∙ is in cc)

-- ---- repetitions

pub times_none : (keeps : Bool) (octets : List ℕ) (t : Term) → TakesTimes keeps octets 0 t t
times_none keeps octets t = never t

pub times_more : (keeps : Bool) (octets : List ℕ) (n : ℕ) (t m u : Term) → TakesTimes keeps octets n t m → Takes keeps m octets u
    → TakesTimes keeps octets (n + 1) t u
times_more keeps octets n t m u before takes =
    let P : ℕ → Type 0 = λ k. TakesTimes keeps octets k t u in
    let number : suc n ≡ n + 1 = omega arith in
    subst P number (again n t m u before takes)
