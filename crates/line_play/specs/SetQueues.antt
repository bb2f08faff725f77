-- Waiting messages to send: each selection has its own queue.
use Rattle.std.specs.Prelude.{◌≡◌, ◌⊎◌, ℕ, ◌+◌, ◌-◌, ◌^◌, ◌<◌, ◌≤◌, ◌==◌, ◌&&◌, nat_lt, min, Bool}
use Rattle.std.specs.Prelude.{true, false, List, [], ◌∷◌, ◌++◌, length, count_by, map, codes}
use Rattle.std.specs.Prelude.{string_bytes, is_some, slice_get, slice_index_or, slice_set, Option}
use Rattle.std.specs.Prelude.{None, Some, option_map}
use Rattle.std.specs.List.{list_any}
use Rattle.link_group.specs.Printed.{send_error_text}
use Rattle.script_links.specs.resend_store_types.messages.Msu.{Msu}
use Rattle.script_ends.specs.TermAnswers.{IsMessageOf}
use Rattle.line_filter.specs.Reporting.{ToldLine}
use Rattle.line_tending.specs.Labels.{label_in}
use Rattle.line_tending.specs.Rounds.{Acts}
use Rattle.line_tending.specs.Sending.{tended_send_fault}
use Rattle.line_tending.specs.Sharing.{selection_by, selection_of, link_of}
use Rattle.line_tending.specs.Tended.{Tended}
use Rattle.line_tending.specs.group_changeover_types.errors.SendError.{SendError}
use Rattle.line_tending.specs.group_changeover_types.errors.SendError.TheVariants as error
use Rattle.line_play.specs.declared.set.queue.Queue.{Queue}
use Rattle.line_play.specs.declared.set.queue.Waiting.{Waiting}
use Rattle.line_play.specs.declared.set.sending.Sent.{Sent}
use Rattle.line_play.specs.declared.set.sending.Sent.TheVariants as code
use Rattle.line_play.specs.declared.set.state.Ending.{Ending}
use Rattle.line_play.specs.declared.set.state.Ending.TheVariants.{Stays, Leaves, Stops, Over}
use Rattle.line_play.specs.SetDoing.{Stood, answered, marked}
use Rattle.line_play.specs.SetGiven.{PlainSaid, is_ignored}
use Rattle.line_play.specs.SetObeying.{Obeys, refusal_line, BAD_LINE}
use Rattle.line_play.specs.SetOrders.{send}

-- ---- waiting orders

-- the most orders that may wait, and the most of a selection
abbrev pub MOST_WAITING : ℕ
MOST_WAITING = 1024

abbrev pub MOST_OF_SELECTION : ℕ
MOST_OF_SELECTION = 64

-- the most milliseconds that an order waits
abbrev pub PATIENCE : ℕ
PATIENCE = 5000

-- a waiting `send`: its mark and words, its octets, and the millisecond at which it came
pub record Waited : Type 0 where
  pub mark : List ℕ
  pub text : List ℕ
  pub octets : List ℕ
  pub since : ℕ

abbrev pub waited_of : Waiting → Waited
waited_of w = record {
  mark = string_bytes w.mark;
  text = string_bytes w.text;
  octets = w.octets.items;
  since = w.since;
}

-- the waiting orders, in the order in which they came
abbrev pub waiting_in : Queue → List Waited
waiting_in q = map waited_of q.waiting.items

-- the selection of a message, from the label after its service information octet
abbrev pub selection_in : List ℕ → ℕ
selection_in [] = 0
selection_in (sio ∷ sif) = selection_by (label_in sif)

abbrev pub is_of : ℕ → Waited → Bool
is_of s w = selection_in w.octets == s

-- whether some of a selection wait, and how many
abbrev pub any_of : ℕ → List Waited → Bool
any_of s ws = list_any (is_of s) ws

abbrev pub is_at : ℕ → Option Waited → Bool
is_at s None = false
is_at s (Some w) = is_of s w

abbrev pub count_of : ℕ → List Waited → ℕ
count_of s ws = count_by (is_of s) ws

-- ---- a message to send

-- A message has 5 to 273 octets: the service information octet, a label of four, and the rest.
abbrev pub AreNoMessage : List ℕ → Type 0
AreNoMessage octets = (length octets < 5) ⊎ (273 < length octets)

-- why a message may be refused now and taken later: K2 and E1
abbrev pub may_pass : SendError → Bool
may_pass error.Bound = false
may_pass error.NoLink = false
may_pass error.Waiting = true
may_pass error.Full = true

-- the result
pub data PlainSent : Type 0 where
  taken : PlainSent
  refused : List ℕ → PlainSent
  held : PlainSent

abbrev pub plain_sent : Sent → PlainSent
plain_sent code.Taken = taken
plain_sent (code.Refused why) = refused (string_bytes why)
plain_sent code.Held = held

-- The set takes it, or refuses it; or it may be taken later, or its selection, which has a link, is
-- about to move, and the message waits.
pub data AsksOf (m : Msu) (patient : Bool) (t : Tended) : PlainSent → Tended → Type 0 where
  is_taken : {u : Tended} → tended_send_fault t.set m ≡ None → Acts (m ∷ []) [] t u
      → AsksOf m patient t taken u
  unlabelled : label_in m.sif.items ≡ None → AsksOf m patient t (refused BAD_LINE) t
  turned_down : (why : SendError) → tended_send_fault t.set m ≡ Some why
      → (patient && may_pass why) ≡ false → AsksOf m patient t (refused (send_error_text why)) t
  is_kept : (why : SendError) → patient ≡ true → tended_send_fault t.set m ≡ Some why
      → may_pass why ≡ true → AsksOf m patient t held t
  is_moving : patient ≡ true → is_some (link_of t.set.table (selection_of m)) ≡ true
      → AsksOf m patient t held t

-- the message of these octets, if they are one
pub data Asks (octets : List ℕ) (patient : Bool) (t : Tended) : PlainSent → Tended → Type 0 where
  no_message : AreNoMessage octets → Asks octets patient t (refused BAD_LINE) t
  is_message : {sent : PlainSent} {u : Tended} (m : Msu) → IsMessageOf octets m
      → AsksOf m patient t sent u → Asks octets patient t sent u

-- the run goes on, and no end was ordered
abbrev pub stays : Ending → Bool
stays Stays = true
stays (Leaves until) = false
stays (Stops since) = false
stays Over = false

-- the reason for a refusal once the run is to end
abbrev pub LEAVING : List ℕ
LEAVING = codes "K6 Leaving"

-- An order to send these octets. The set takes the message or refuses it, or the run is to end,
-- which is reported; or it waits on.
pub data Tries (text octets : List ℕ) (patient : Bool) (p : Stood) :
    List ToldLine → Bool → Stood → Type 0 where
  leaves : stays p.ending ≡ false
      → Tries text octets patient p (refusal_line p text LEAVING) true p
  takes : {u : Tended} → stays p.ending ≡ true → Asks octets patient p.tender taken u
      → Tries text octets patient p (answered (record p { tender = u }) (codes "ok " ++ text)) true
      (record p { tender = u })
  refuses : {u : Tended} (why : List ℕ) → stays p.ending ≡ true
      → Asks octets patient p.tender (refused why) u
      → Tries text octets patient p (refusal_line (record p { tender = u }) text why) true
      (record p { tender = u })
  waits_on : {u : Tended} → stays p.ending ≡ true → Asks octets patient p.tender held u
      → Tries text octets patient p [] false (record p { tender = u })

-- ---- waiting orders are tried again

-- it came less than 5 s ago
abbrev pub is_early : ℕ → Waited → Bool
is_early now w = nat_lt now (min (2 ^ 64 - 1) (w.since + PATIENCE))

abbrev pub TriesOf : Waited → Stood → List ToldLine → Bool → Stood → Type 0
TriesOf w p bytes went q =
    Tries w.text w.octets (is_early p.tender.ticks w) (marked w.mark p) bytes went q

-- Each of these in order waits on, after one of its selection that does or because it can't be
-- taken yet; or it leaves.
pub data Retries (p : Stood) : List Waited → List ToldLine → Stood → List Waited → Type 0 where
  none_yet : Retries p [] [] p []
  behind : {ws : List Waited} {bytes : List ToldLine} {q : Stood} {stay : List Waited} (w : Waited)
      → Retries p ws bytes q stay → any_of (selection_in w.octets) stay ≡ true
      → Retries p (ws ++ w ∷ []) bytes q (stay ++ w ∷ [])
  holds : {ws : List Waited} {bytes : List ToldLine} {q : Stood} {stay : List Waited} (w : Waited)
      (more : List ToldLine) (r : Stood)
      → Retries p ws bytes q stay → any_of (selection_in w.octets) stay ≡ false
      → TriesOf w q more false r → Retries p (ws ++ w ∷ []) (bytes ++ more) r (stay ++ w ∷ [])
  goes : {ws : List Waited} {bytes : List ToldLine} {q : Stood} {stay : List Waited} (w : Waited)
      (more : List ToldLine) (r : Stood)
      → Retries p ws bytes q stay → any_of (selection_in w.octets) stay ≡ false
      → TriesOf w q more true r → Retries p (ws ++ w ∷ []) (bytes ++ more) r stay

-- whether one of a selection waits on, with a mark for each selection
abbrev pub is_blocked : List Bool → ℕ → Bool
is_blocked blocked s = slice_index_or blocked s false

-- The first waiting order is tried. If it waits on, it stands after the others then.
pub data RetriesFirst (blocked : List Bool) (p : Stood) :
    List Waited → List ToldLine → Stood → List Bool → List Waited → Type 0 where
  none_there : RetriesFirst blocked p [] [] p blocked []
  first_behind : (w : Waited) (rest : List Waited) → selection_in w.octets < 16
      → is_blocked blocked (selection_in w.octets) ≡ true
      → RetriesFirst blocked p (w ∷ rest) [] p blocked (rest ++ w ∷ [])
  first_holds : {bytes : List ToldLine} {q : Stood} (w : Waited) (rest : List Waited)
      → selection_in w.octets < 16 → is_blocked blocked (selection_in w.octets) ≡ false
      → TriesOf w p bytes false q
      → RetriesFirst blocked p (w ∷ rest) bytes q
      (slice_set blocked (selection_in w.octets) true) (rest ++ w ∷ [])
  first_goes : {bytes : List ToldLine} {q : Stood} (w : Waited) (rest : List Waited)
      → selection_in w.octets < 16 → is_blocked blocked (selection_in w.octets) ≡ false
      → TriesOf w p bytes true q
      → RetriesFirst blocked p (w ∷ rest) bytes q blocked rest

-- ---- an order comes

-- why the 65th of a selection is refused
abbrev pub FULL : List ℕ
FULL = codes "E1 Full"

abbrev pub SaysSend : List ℕ → Option PlainSaid → Type 0
SaysSend octets said = option_map (λ (s : PlainSaid). s.order) said ≡ Some (send octets)

-- it waits from this millisecond on
abbrev pub waits_as : Stood → List ℕ → List ℕ → Waited
waits_as p text octets =
    record { mark = p.mark; text = text; octets = octets; since = p.tender.ticks }

-- An order that sends a message is tried if none of its selection waits. Else, or if it can't be
-- taken yet, it waits after all that came before it, if fewer than 64 of its selection wait.
pub data TakesSend (text octets : List ℕ) (p : Stood) (waiting : List Waited) :
    List ToldLine → Stood → List Waited → Type 0 where
  late : stays p.ending ≡ false
      → TakesSend text octets p waiting (refusal_line p text LEAVING) p waiting
  crowded : MOST_OF_SELECTION ≤ count_of (selection_in octets) waiting
      → TakesSend text octets p waiting (refusal_line p text FULL) p waiting
  goes_now : {bytes : List ToldLine} {q : Stood} → any_of (selection_in octets) waiting ≡ false
      → Tries text octets true p bytes true q → TakesSend text octets p waiting bytes q waiting
  waits_first : {bytes : List ToldLine} {q : Stood} → any_of (selection_in octets) waiting ≡ false
      → Tries text octets true p bytes false q
      → TakesSend text octets p waiting bytes q (waiting ++ waits_as q text octets ∷ [])
  waits_behind : any_of (selection_in octets) waiting ≡ true
      → count_of (selection_in octets) waiting < MOST_OF_SELECTION
      → TakesSend text octets p waiting [] p (waiting ++ waits_as p text octets ∷ [])

-- Another order is obeyed, whatever waits. Words that are a report, without a tag, mean nothing.
pub data TakesOrder (text : List ℕ) (said : Option PlainSaid) (p : Stood) (waiting : List Waited) :
    List ToldLine → Stood → List Waited → Type 0 where
  obeyed : {bytes : List ToldLine} {q : Stood} → Obeys text said p bytes q
      → TakesOrder text said p waiting bytes q waiting
  sent : {bytes : List ToldLine} {q : Stood} {now : List Waited} (octets : List ℕ)
      → SaysSend octets said → TakesSend text octets p waiting bytes q now
      → TakesOrder text said p waiting bytes q now
  report : said ≡ None → is_ignored p.mark text ≡ true → TakesOrder text said p waiting [] p waiting
