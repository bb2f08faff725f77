-- Messages to send, as the set is asked to take them.
use Rattle.std.proofs.Common.{◌≡◌, ◌∙◌, ◌&&◌, inl, inr, ℕ, Bool, true, false, List, [], ◌++◌, length, codes, Option, None, Some, is_some, Result, Ok, Err, IfOk, true≢false, refl, if◌then◌else◌, sym, ap, subst, arith}
use Rattle.script_links.specs.resend_store_types.messages.Msu.{Msu}
use Rattle.script_ends.specs.TermAnswers.{IsMessageOf, AreNoMessage as AreUnread}
use Rattle.line_filter.specs.Desks.{Told as TellsSuch}
use Rattle.line_filter.specs.Reporting.{Stand, TellsLines}
use Rattle.line_filter.proofs.Reporting.{tells_none}
use Rattle.line_tending.specs.Labels.{label_in}
use Rattle.line_tending.specs.Rounds.{Acts}
use Rattle.line_tending.specs.Sending.{tended_send_fault}
use Rattle.line_tending.specs.Sharing.{selection_by, selection_of, link_of}
use Rattle.line_tending.specs.Tended.{Tended}
use Rattle.line_tending.specs.group_changeover_types.errors.SendError.{SendError}
use Rattle.line_tending.specs.group_changeover_types.labels.Label.{Label}
use Rattle.link_group.specs.Printed.{send_error_text}
use Rattle.line_play.specs.SetDoing.{Stood, answered}
use Rattle.line_play.specs.SetObeying.{refusal_line, BAD_LINE}
use Rattle.line_play.specs.SetQueues.{AreNoMessage, PlainSent, plain_sent, taken, refused, held, AsksOf, is_taken, unlabelled, turned_down, is_kept, is_moving, Asks, no_message, is_message, may_pass, stays, LEAVING, Tries, leaves, takes, refuses, waits_on}
use Rattle.line_play.specs.declared.set.sending.Sent.{Sent}

pub without_label : {E : Type 0} (r : Result Sent E) (m : Msu) (patient : Bool) (t : Tended) → label_in m.sif.items ≡ None
    → IfOk r (λ (s : Sent). plain_sent s ≡ refused BAD_LINE) → IfOk r (λ (s : Sent). AsksOf m patient t (plain_sent s) t)
without_label (Ok s) m patient t none_there is = subst (λ (x : PlainSent). AsksOf m patient t x t) (sym is) (unlabelled none_there)
without_label (Err e) m patient t none_there is = tt

untaken_by : (m : Msu) (patient : Bool) (t : Tended) (why : SendError) (b : Bool) → (patient && may_pass why) ≡ b → tended_send_fault t.set m ≡ Some why
    → AsksOf m patient t (if b then held else refused (send_error_text why)) t
untaken_by m true t why true both fault = is_kept why refl fault both
untaken_by m false t why true both fault = absurd (true≢false (sym both))
untaken_by m patient t why false both fault = turned_down why fault both

pub with_fault : {E : Type 0} (r : Result Sent E) (m : Msu) (patient : Bool) (t u : Tended) (why : SendError) → Some why ≡ tended_send_fault t.set m → u ≡ t
    → IfOk r (λ (s : Sent). plain_sent s ≡ (if patient && may_pass why then held else refused (send_error_text why)))
    → IfOk r (λ (s : Sent). AsksOf m patient t (plain_sent s) u)
with_fault (Ok s) m patient t u why fault same is =
    subst (λ (v : Tended). AsksOf m patient t (plain_sent s) v) (sym same)
    (subst (λ (x : PlainSent). AsksOf m patient t x t) (sym is) (untaken_by m patient t why (patient && may_pass why) refl (sym fault)))
with_fault (Err e) m patient t u why fault same is = tt

labelled : (m : Msu) (label : Label) → label_in m.sif.items ≡ Some label → label.sls ≡ selection_of m
unfolding selection_of
labelled m label is = sym (ap selection_by is)

pub moving_so : (m : Msu) (patient : Bool) (t : Tended) (label : Label) → label_in m.sif.items ≡ Some label → patient ≡ true
    → is_some (link_of t.set.table label.sls) ≡ true → AsksOf m patient t held t
moving_so m patient t label labelled_so waits there =
    is_moving waits (subst (λ (s : ℕ). is_some (link_of t.set.table s) ≡ true) (labelled m label labelled_so) there)

pub unread : (octets : List ℕ) → AreUnread octets → AreNoMessage octets
unread octets (inl none_there) = inl (omega (arith, ap length none_there))
unread octets (inr many) = inr many

pub bad_octets : {E : Type 0} (r : Result Sent E) (octets : List ℕ) (patient : Bool) (t : Tended) → AreNoMessage octets
    → IfOk r (λ (s : Sent). plain_sent s ≡ refused BAD_LINE) → IfOk r (λ (s : Sent). Asks octets patient t (plain_sent s) t)
bad_octets (Ok s) octets patient t none_there is = subst (λ (x : PlainSent). Asks octets patient t x t) (sym is) (no_message none_there)
bad_octets (Err e) octets patient t none_there is = tt

pub of_message : {E : Type 0} (r : Result Sent E) (octets : List ℕ) (patient : Bool) (t u : Tended) (m : Msu) → IsMessageOf octets m
    → IfOk r (λ (s : Sent). AsksOf m patient t (plain_sent s) u) → IfOk r (λ (s : Sent). Asks octets patient t (plain_sent s) u)
of_message (Ok s) octets patient t u m is asks = is_message m is asks
of_message (Err e) octets patient t u m is asks = tt

-- ---- reports

pub left_so : (text octets : List ℕ) (patient : Bool) (p : Stood) (a b : Stand) → stays p.ending ≡ false → TellsLines a b (refusal_line p text LEAVING)
    → TellsSuch (λ bytes. Tries text octets patient p bytes true p) a b
left_so text octets patient p a b over line = record { bytes = refusal_line p text LEAVING; are = leaves over; tells = line }

pub took_so : (text octets : List ℕ) (patient : Bool) (p : Stood) (u : Tended) (sent : PlainSent) (a b : Stand) → stays p.ending ≡ true → sent ≡ taken
    → Asks octets patient p.tender sent u → TellsLines a b (answered (record p { tender = u }) (codes "ok " ++ text))
    → TellsSuch (λ bytes. Tries text octets patient p bytes true (record p { tender = u })) a b
took_so text octets patient p u sent a b on is asks line = record {
  bytes = answered (record p { tender = u }) (codes "ok " ++ text);
  are = takes on (subst (λ (s : PlainSent). Asks octets patient p.tender s u) is asks);
  tells = line;
}

pub refused_so : (text octets why told : List ℕ) (patient : Bool) (p : Stood) (u : Tended) (sent : PlainSent) (a b : Stand) → stays p.ending ≡ true → sent ≡ refused why
    → told ≡ why → Asks octets patient p.tender sent u → TellsLines a b (refusal_line (record p { tender = u }) text told)
    → TellsSuch (λ bytes. Tries text octets patient p bytes true (record p { tender = u })) a b
refused_so text octets why told patient p u sent a b on is told_is asks line = record {
  bytes = refusal_line (record p { tender = u }) text told;
  are = refuses told on (subst (λ (s : PlainSent). Asks octets patient p.tender s u) (is ∙ ap refused (sym told_is)) asks);
  tells = line;
}

pub held_so : (text octets : List ℕ) (patient : Bool) (p : Stood) (u : Tended) (sent : PlainSent) (a : Stand) → stays p.ending ≡ true → sent ≡ held
    → Asks octets patient p.tender sent u → TellsSuch (λ bytes. Tries text octets patient p bytes false (record p { tender = u })) a a
held_so text octets patient p u sent a on is asks =
    record { bytes = []; are = waits_on on (subst (λ (s : PlainSent). Asks octets patient p.tender s u) is asks); tells = tells_none a }
