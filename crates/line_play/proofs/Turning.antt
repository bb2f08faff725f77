-- The next report is the first of those that wait.
use Rattle.std.proofs.Common.{◌≡◌, List, [], ◌∷◌, ◌++◌, drop, map, Option, Some, None, slice_get, refl, sym, ap, ◌∙◌}
use Rattle.script_links.specs.resend_store_types.messages.Msu.{Msu}
use Rattle.link_transceiver.specs.declared.signals.LinkStatus.{LinkStatus}
use Rattle.link_transceiver.specs.declared.signals.Report.{Report}
use Rattle.link_transceiver.specs.declared.signals.Report.TheVariants.{Message, Status}
use Rattle.link_transceiver.specs.Reporting.{reported, message_reported, status_reported}
use Rattle.link_transceiver.specs.TransceiverState.{TransceiverState}
use Rattle.script_ends.specs.Term.{Term, term_with_transceiver}
use Rattle.line_play.specs.InTurn.{last_behind, ordered, in_turn, with_none_left, without_reports, turn_of, behind}

-- ---- the first of a list
front : {A : Type 0} (xs : List A) (x : A) → slice_get xs 0 ≡ Some x → xs ≡ x ∷ drop 1 xs
front [] x e = cc
front (y ∷ ys) x e = cc

empty : {A : Type 0} (xs : List A) → slice_get xs 0 ≡ None → xs ≡ []
empty [] e = refl
empty (y ∷ ys) e = cc

-- ---- a link status is handed out
status_first : (h : TransceiverState) (o : Option LinkStatus) (s : LinkStatus) → slice_get h.statuses 0 ≡ o → (status_reported h o).report ≡ Some (Status s)
    → h.statuses ≡ s ∷ (status_reported h o).transceiver.statuses
status_first h (Some x) s e is =
    let k : Some (Status x) ≡ Some (Status s) = is in
    let f : h.statuses ≡ x ∷ drop 1 h.statuses = front h.statuses x e in
    let g : h.statuses ≡ s ∷ drop 1 h.statuses = cc in
    g
status_first h None s e is = cc

status_messages : (h : TransceiverState) (o : Option LinkStatus) → (status_reported h o).transceiver.messages ≡ h.messages
status_messages h (Some x) = refl
status_messages h None = refl

status_none : (h : TransceiverState) (o : Option LinkStatus) → slice_get h.statuses 0 ≡ o → (status_reported h o).report ≡ None → h.statuses ≡ []
status_none h (Some x) e is = cc
status_none h None e is = empty h.statuses e

status_same : (h : TransceiverState) (o : Option LinkStatus) → (status_reported h o).report ≡ None → (status_reported h o).transceiver ≡ h
status_same h (Some x) is = cc
status_same h None is = refl

status_rest : (h : TransceiverState) (o : Option LinkStatus) → with_none_left (status_reported h o).transceiver ≡ with_none_left h
status_rest h (Some x) = refl
status_rest h None = refl

no_message : (h : TransceiverState) (o : Option LinkStatus) (m : Msu) → (status_reported h o).report ≡ Some (Message m) → ⊥
no_message h (Some x) m is = let k : Some (Status x) ≡ Some (Message m) = is in cc
no_message h None m is = cc

-- ---- messages first
message_first : (h : TransceiverState) (o : Option Msu) (m : Msu) → slice_get h.messages 0 ≡ o → (message_reported h o).report ≡ Some (Message m)
    → (h.messages ≡ m ∷ (message_reported h o).transceiver.messages) × ((message_reported h o).transceiver.statuses ≡ h.statuses)
message_first h (Some x) m e is =
    let k : Some (Message x) ≡ Some (Message m) = is in
    let f : h.messages ≡ x ∷ drop 1 h.messages = front h.messages x e in
    let g : h.messages ≡ m ∷ drop 1 h.messages = cc in
    (g, refl)
message_first h None m e is = absurd (no_message h (slice_get h.statuses 0) m is)

status_behind : (h : TransceiverState) (o : Option Msu) (s : LinkStatus) → slice_get h.messages 0 ≡ o → (message_reported h o).report ≡ Some (Status s)
    → (h.messages ≡ []) × ((message_reported h o).transceiver.messages ≡ []) × (h.statuses ≡ s ∷ (message_reported h o).transceiver.statuses)
status_behind h (Some x) s e is = absurd (let k : Some (Message x) ≡ Some (Status s) = is in cc)
status_behind h None s e is =
    let none : h.messages ≡ [] = empty h.messages e in
    (none, status_messages h (slice_get h.statuses 0) ∙ none, status_first h (slice_get h.statuses 0) s refl is)

none_behind : (h : TransceiverState) (o : Option Msu) → slice_get h.messages 0 ≡ o → (message_reported h o).report ≡ None
    → (h.messages ≡ []) × (h.statuses ≡ []) × ((message_reported h o).transceiver ≡ h)
none_behind h (Some x) e is = absurd (let k : Some (Message x) ≡ None = is in cc)
none_behind h None e is = (empty h.messages e, status_none h (slice_get h.statuses 0) refl is, status_same h (slice_get h.statuses 0) is)

rest_by : (h : TransceiverState) (o : Option Msu) → with_none_left (message_reported h o).transceiver ≡ with_none_left h
rest_by h (Some x) = refl
rest_by h None = status_rest h (slice_get h.statuses 0)

message_out : (h : TransceiverState) (m : Msu) → (reported h).report ≡ Some (Message m)
    → (h.messages ≡ m ∷ (reported h).transceiver.messages) × ((reported h).transceiver.statuses ≡ h.statuses)
unfolding reported
message_out h m is = message_first h (slice_get h.messages 0) m refl is

status_out : (h : TransceiverState) (s : LinkStatus) → (reported h).report ≡ Some (Status s)
    → (h.messages ≡ []) × ((reported h).transceiver.messages ≡ []) × (h.statuses ≡ s ∷ (reported h).transceiver.statuses)
unfolding reported
status_out h s is = status_behind h (slice_get h.messages 0) s refl is

none_out : (h : TransceiverState) → (reported h).report ≡ None → (h.messages ≡ []) × (h.statuses ≡ []) × ((reported h).transceiver ≡ h)
unfolding reported
none_out h is = none_behind h (slice_get h.messages 0) refl is

rest_same : (h : TransceiverState) → with_none_left (reported h).transceiver ≡ with_none_left h
unfolding reported
rest_same h = rest_by h (slice_get h.messages 0)

-- ---- the reports that wait after it
with_message : (held : Report) (m : Msu) (ms more : List Msu) (old new : List LinkStatus) → ms ≡ m ∷ more → new ≡ old
    → last_behind held (map Message ms) (map Status old) ≡ held ∷ last_behind (Message m) (map Message more) (map Status new)
with_message held m ms more old new is same =
    ap (λ (l : List Msu). last_behind held (map Message l) (map Status old)) is
    ∙ ap (λ (l : List LinkStatus). held ∷ last_behind (Message m) (map Message more) (map Status l)) (sym same)

with_status : (held : Report) (s : LinkStatus) (ms more : List Msu) (old new : List LinkStatus) → ms ≡ [] → more ≡ [] → old ≡ s ∷ new
    → last_behind held (map Message ms) (map Status old) ≡ Status s ∷ last_behind held (map Message more) (map Status new)
with_status held s ms more old new none none_left is =
    ap (λ (l : List Msu). last_behind held (map Message l) (map Status old)) none
    ∙ (ap (λ (l : List LinkStatus). map Status l ++ held ∷ []) is
    ∙ ap (λ (l : List Msu). Status s ∷ last_behind held (map Message l) (map Status new)) (sym none_left))

first_message : (m : Msu) (ms more : List Msu) (old new : List LinkStatus) → ms ≡ m ∷ more → new ≡ old
    → ordered (map Message ms) (map Status old) ≡ last_behind (Message m) (map Message more) (map Status new)
first_message m ms more old new is same =
    ap (λ (l : List Msu). ordered (map Message l) (map Status old)) is
    ∙ ap (λ (l : List LinkStatus). last_behind (Message m) (map Message more) (map Status l)) (sym same)

first_status : (s : LinkStatus) (ms more : List Msu) (old new : List LinkStatus) → ms ≡ [] → more ≡ [] → old ≡ s ∷ new
    → ordered (map Message ms) (map Status old) ≡ Status s ∷ ordered (map Message more) (map Status new)
first_status s ms more old new none none_left is =
    ap (λ (l : List Msu). ordered (map Message l) (map Status old)) none
    ∙ (ap (λ (l : List LinkStatus). map Status l) is ∙ ap (λ (l : List Msu). Status s ∷ ordered (map Message l) (map Status new)) (sym none_left))

none_waits : (ms : List Msu) (ss : List LinkStatus) → ms ≡ [] → ss ≡ [] → ordered (map Message ms) (map Status ss) ≡ []
none_waits ms ss none no_status =
    ap (λ (l : List Msu). ordered (map Message l) (map Status ss)) none ∙ ap (λ (l : List LinkStatus). map Status l) no_status

held_waits : (held : Report) (ms : List Msu) (ss : List LinkStatus) → ms ≡ [] → ss ≡ [] → last_behind held (map Message ms) (map Status ss) ≡ held ∷ []
held_waits held ms ss none no_status =
    ap (λ (l : List Msu). last_behind held (map Message l) (map Status ss)) none
    ∙ ap (λ (l : List LinkStatus). map Status l ++ held ∷ []) no_status

-- ---- of a transceiver
held_next : (h : TransceiverState) (held next : Report) → (reported h).report ≡ Some next
    → in_turn (Some held) h ≡ (turn_of held next).told ∷ in_turn (turn_of held next).held (reported h).transceiver
held_next h held (Message m) is =
    let out : (h.messages ≡ m ∷ (reported h).transceiver.messages) × ((reported h).transceiver.statuses ≡ h.statuses) = message_out h m is in
    with_message held m h.messages (reported h).transceiver.messages h.statuses (reported h).transceiver.statuses out.0 out.1
held_next h held (Status s) is =
    let out : (h.messages ≡ []) × ((reported h).transceiver.messages ≡ []) × (h.statuses ≡ s ∷ (reported h).transceiver.statuses) = status_out h s is in
    with_status held s h.messages (reported h).transceiver.messages h.statuses (reported h).transceiver.statuses out.0 out.1 out.2

none_left : (h : TransceiverState) → (reported h).report ≡ None → in_turn None (reported h).transceiver ≡ []
none_left h is =
    let out : (h.messages ≡ []) × (h.statuses ≡ []) × ((reported h).transceiver ≡ h) = none_out h is in
    ap (λ (k : TransceiverState). ordered (map Message k.messages) (map Status k.statuses)) out.2 ∙ none_waits h.messages h.statuses out.0 out.1

held_last : (h : TransceiverState) (held : Report) → (reported h).report ≡ None → in_turn (Some held) h ≡ held ∷ in_turn None (reported h).transceiver
held_last h held is =
    let out : (h.messages ≡ []) × (h.statuses ≡ []) × ((reported h).transceiver ≡ h) = none_out h is in
    held_waits held h.messages h.statuses out.0 out.1 ∙ ap (λ (l : List Report). held ∷ l) (sym (none_left h is))

first_next : (h : TransceiverState) (first : Report) → (reported h).report ≡ Some first → in_turn None h ≡ behind first (reported h).transceiver
first_next h (Message m) is =
    let out : (h.messages ≡ m ∷ (reported h).transceiver.messages) × ((reported h).transceiver.statuses ≡ h.statuses) = message_out h m is in
    first_message m h.messages (reported h).transceiver.messages h.statuses (reported h).transceiver.statuses out.0 out.1
first_next h (Status s) is =
    let out : (h.messages ≡ []) × ((reported h).transceiver.messages ≡ []) × (h.statuses ≡ s ∷ (reported h).transceiver.statuses) = status_out h s is in
    first_status s h.messages (reported h).transceiver.messages h.statuses (reported h).transceiver.statuses out.0 out.1 out.2

-- ---- of a terminal
abbrev pub IsAsked : Term → Term → Type 0
IsAsked t u = u ≡ term_with_transceiver t (reported t.processes.transceiver).transceiver

its_transceiver : (t u : Term) → IsAsked t u → u.processes.transceiver ≡ (reported t.processes.transceiver).transceiver
its_transceiver t u after = ap (λ (v : Term). v.processes.transceiver) after

pub same_rest : (t u : Term) → IsAsked t u → without_reports u ≡ without_reports t
same_rest t u after =
    ap (λ (v : Term). without_reports v) after ∙ ap (λ (k : TransceiverState). term_with_transceiver t k) (rest_same t.processes.transceiver)

pub next_behind_held : (t u : Term) (held next : Report) → Some next ≡ (reported t.processes.transceiver).report → IsAsked t u
    → in_turn (Some held) t.processes.transceiver ≡ (turn_of held next).told ∷ in_turn (turn_of held next).held u.processes.transceiver
next_behind_held t u held next is after =
    held_next t.processes.transceiver held next (sym is)
    ∙ ap (λ (k : TransceiverState). (turn_of held next).told ∷ in_turn (turn_of held next).held k) (sym (its_transceiver t u after))

pub none_behind_held : (t u : Term) (held : Report) → None ≡ (reported t.processes.transceiver).report → IsAsked t u
    → in_turn (Some held) t.processes.transceiver ≡ held ∷ in_turn None u.processes.transceiver
none_behind_held t u held is after =
    held_last t.processes.transceiver held (sym is) ∙ ap (λ (k : TransceiverState). held ∷ in_turn None k) (sym (its_transceiver t u after))

pub first_behind_none : (t u : Term) (first : Report) → Some first ≡ (reported t.processes.transceiver).report → IsAsked t u
    → in_turn None t.processes.transceiver ≡ behind first u.processes.transceiver
first_behind_none t u first is after =
    first_next t.processes.transceiver first (sym is) ∙ ap (λ (k : TransceiverState). behind first k) (sym (its_transceiver t u after))

pub none_at_all : (t u : Term) → None ≡ (reported t.processes.transceiver).report → IsAsked t u
    → (in_turn None t.processes.transceiver ≡ []) × (in_turn None u.processes.transceiver ≡ [])
none_at_all t u is after =
    let out : (t.processes.transceiver.messages ≡ []) × (t.processes.transceiver.statuses ≡ []) × ((reported t.processes.transceiver).transceiver ≡ t.processes.transceiver) =
    none_out t.processes.transceiver (sym is)
    in (
      none_waits t.processes.transceiver.messages t.processes.transceiver.statuses out.0 out.1,
      ap (λ (k : TransceiverState). in_turn None k) (its_transceiver t u after) ∙ none_left t.processes.transceiver (sym is),
    )
