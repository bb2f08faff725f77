-- Each order that comes along a run is answered once, in time, or waits: round by round.
use Rattle.std.proofs.Common.{◌≡◌, ◌∙◌, ℕ, ◌+◌, ◌-◌, ◌^◌, ◌<◌, ◌==◌, if◌then◌else◌, min, Bool, true, false, List, [], ◌∷◌, ◌++◌, map, length, append-nil, codes, IsPermutation, Option, refl, sym, ap, subst, arith}
use Rattle.std.specs.Fmt.{decimal}
use Rattle.std.proofs.lemmas.Grind.{flat_map-append}
use Rattle.script_links.specs.resend_store_types.messages.Msu.{Msu}
use Rattle.line_filter.specs.Orders.{Timed, anew_told}
use Rattle.line_filter.specs.Reporting.{ToldLine, Stand, kept}
use Rattle.line_filter.specs.declared.reports.Wait.TheVariants.{Never}
use Rattle.line_tending.specs.Tended.{Tended}
use Rattle.line_tending.specs.Texts.{told_text}
use Rattle.line_tending.specs.declared.told.Told.{Told}
use Rattle.line_tending.specs.declared.told.Told.TheVariants as told
use Rattle.line_tending.specs.declared.link_line.LineChange.{LineChange}
use Rattle.line_tending.specs.declared.link_line.LineChange.TheVariants.{Same, Silent, Back}
use Rattle.line_tending.specs.declared.link_line.LinkLine.{LinkLine}
use Rattle.line_play.specs.LineTraffic.{Traffic}
use Rattle.line_play.specs.SetAnswers.{Asked, asked_by, asked_so, asked_in, asked_of, read_attending, read_by_all, read_along, answers_in, orders_of, IsTimely, IsRecent, AreAnswered}
use Rattle.line_play.specs.SetDoing.{Stood, marked}
use Rattle.line_play.specs.SetGiven.{PlainSaid, given_in, is_ignored}
use Rattle.line_play.specs.SetLaws.{octets_said, octets_of, sent_trying, sent_waiting, sent_sending, sent_taking, sent_attending, sent_by_all, sent_along}
use Rattle.line_play.specs.SetObeying.{refusal_line}
use Rattle.line_play.specs.SetQueues.{Waited, LEAVING, FULL, waits_as, TakesSend, late, crowded, goes_now, waits_first, waits_behind, TakesOrder, obeyed, sent, report}
use Rattle.line_play.specs.SetRounds.{passed_told, late_told, Carries, passes, misses, ends, fails, opens, CarriesAll, no_link, one_link, Tells, nothing, one, Attends, waited, comes, looks, AttendsAll, none_due, full, answers_wait, over, SetPlace, IsRound, Rounds, begins, round}
use Rattle.line_play.specs.SetSaying.{wait_of}
use Rattle.line_play.proofs.SetAnswering.{OneAnswer, refusal_of, tried_one, WaitsSo, tried_none, obeyed_ticks, ObeyedSo, obeyed_one, meant_send, meant_nothing}
use Rattle.line_play.proofs.SetAnswers.{answers_more, PartSo, no_part, parts_then, quiet_part, no_more_answers, one_part, wait_part, RetriedSo, retried_so}
use Rattle.line_play.proofs.SetTimes.{Each, each_weaker, all_of, Fresh, Early, Rising, InTime, arrives, later_by_one, tries_ticks, StaysSo, retries_times, minded_ticks, last_ticks}

-- ---- an order comes

pub record StepSo (now : ℕ) (waits : List Waited) (asked : List Asked) (sent_so : List Msu) (bytes : List ToldLine) (q : Stood) (later : List Waited) : Type 0 where
  pub ticks : q.tender.ticks ≡ now
  pub inside : InTime now later
  pub part : PartSo waits asked sent_so bytes later

-- answered at once
timely_now : (o : Asked) (ok : Bool) (at now : ℕ) → at ≡ now → o.at ≡ now → IsTimely (record { order = o; ok = ok; at = at })
timely_now o ok at now is came = record {
  after = omega (arith, is, came);
  soon = omega (arith, is, came);
  at_once = λ none. is ∙ sym came;
}

abbrev order_of : List ℕ → List ℕ → List (List ℕ) → ℕ → Asked
order_of mark text octets at = record { mark = mark; text = text; octets = octets; at = at }

answered_step : (now : ℕ) (waits : List Waited) (o : Asked) (sent_so : List Msu) (bytes : List ToldLine) (q : Stood) → InTime now waits → q.tender.ticks ≡ now → o.at ≡ now
    → OneAnswer o q.tender.ticks sent_so bytes → StepSo now waits (o ∷ []) sent_so bytes q waits
answered_step now waits o sent_so bytes q inside ticks came one_so = record {
  ticks = ticks;
  inside = inside;
  part = one_part waits o q.tender.ticks sent_so bytes one_so (timely_now o one_so.ok q.tender.ticks now ticks came);
}

waits_step : (now : ℕ) (waits : List Waited) (o : Asked) (text octets : List ℕ) (sent_so : List Msu) (bytes : List ToldLine) (q : Stood) → InTime now waits → now < 2 ^ 64
    → q.tender.ticks ≡ now → o ≡ asked_of (waits_as q text octets) → map octets_of sent_so ≡ [] → bytes ≡ []
    → StepSo now waits (o ∷ []) sent_so bytes q (waits ++ waits_as q text octets ∷ [])
waits_step now waits o text octets sent_so bytes q inside small ticks same none_sent none_told = record {
  ticks = ticks;
  inside = arrives now waits (waits_as q text octets) inside ticks small;
  part = subst (λ (x : Asked). PartSo waits (x ∷ []) sent_so bytes (waits ++ waits_as q text octets ∷ [])) (sym same)
      (wait_part waits (waits_as q text octets) sent_so bytes none_sent none_told);
}

sending_step : (now : ℕ) (text octets : List ℕ) (p : Stood) (waits : List Waited) (bytes : List ToldLine) (q : Stood) (later : List Waited)
    → (made : TakesSend text octets p waits bytes q later) → p.tender.ticks ≡ now → now < 2 ^ 64 → InTime now waits
    → StepSo now waits (order_of p.mark text (octets ∷ []) p.tender.ticks ∷ []) (sent_sending made) bytes q later
sending_step now text octets p waits _ _ _ (late ended) is small inside =
    answered_step now waits (order_of p.mark text (octets ∷ []) p.tender.ticks) [] (refusal_line p text LEAVING) p inside is is
    (refusal_of p text (octets ∷ []) p.tender.ticks LEAVING)
sending_step now text octets p waits _ _ _ (crowded many) is small inside =
    answered_step now waits (order_of p.mark text (octets ∷ []) p.tender.ticks) [] (refusal_line p text FULL) p inside is is
    (refusal_of p text (octets ∷ []) p.tender.ticks FULL)
sending_step now text octets p waits _ _ _ (goes_now {bytes} {q} none_wait tries) is small inside =
    answered_step now waits (order_of p.mark text (octets ∷ []) p.tender.ticks) (sent_trying tries) bytes q inside (tries_ticks text octets true p bytes true q tries ∙ is) is
    (tried_one text octets true p bytes true q p.tender.ticks refl tries)
sending_step now text octets p waits _ _ _ (waits_first {bytes} {q} none_wait tries) is small inside =
    let none : WaitsSo p q (sent_trying tries) bytes = tried_none text octets true p bytes false q refl tries in
    let ticks : q.tender.ticks ≡ p.tender.ticks = tries_ticks text octets true p bytes false q tries in
    let same : order_of p.mark text (octets ∷ []) p.tender.ticks ≡ asked_of (waits_as q text octets) =
    ap (λ (m : List ℕ). order_of m text (octets ∷ []) p.tender.ticks) (sym none.mark_is) ∙ ap (λ (n : ℕ). order_of q.mark text (octets ∷ []) n) (sym ticks) in
    waits_step now waits (order_of p.mark text (octets ∷ []) p.tender.ticks) text octets (sent_trying tries) bytes q inside small (ticks ∙ is) same none.sent_is none.bytes_are
sending_step now text octets p waits _ _ _ (waits_behind some_wait few) is small inside =
    waits_step now waits (order_of p.mark text (octets ∷ []) p.tender.ticks) text octets [] [] p inside small is refl refl refl

taking_step : (tick : ℕ) (text : List ℕ) (said : Option PlainSaid) (p : Stood) (waits : List Waited) (bytes : List ToldLine) (q : Stood) (later : List Waited)
    → (made : TakesOrder text said p waits bytes q later) → p.tender.ticks ≡ tick → tick < 2 ^ 64 → InTime tick waits
    → StepSo tick waits (asked_by said (is_ignored p.mark text) (order_of p.mark text (octets_said said) p.tender.ticks)) (sent_taking made) bytes q later
taking_step tick text said p waits _ _ _ (obeyed {bytes} {q} made) is small inside =
    let so : ObeyedSo text said p p.tender.ticks q.tender.ticks bytes = obeyed_one text said p bytes q p.tender.ticks made in
    subst (λ (l : List Asked). StepSo tick waits l [] bytes q waits) (sym so.asked)
    (answered_step tick waits so.order [] bytes q inside (obeyed_ticks text said p bytes q made ∙ is) (so.at_is ∙ is) so.one)
taking_step tick text said p waits _ _ _ (sent {bytes} {q} {now} octets says made) is small inside =
    subst (λ (l : List Asked). StepSo tick waits l (sent_sending made) bytes q now) (sym (meant_send octets said (is_ignored p.mark text) p.mark text p.tender.ticks says))
    (sending_step tick text octets p waits bytes q now made is small inside)
taking_step tick text said p waits _ _ _ (report none_there is_told) is small inside =
    subst (λ (l : List Asked). StepSo tick waits l [] [] p waits)
    (sym (meant_nothing said (is_ignored p.mark text) (order_of p.mark text (octets_said said) p.tender.ticks) none_there is_told))
    (record { ticks = is; inside = inside; part = no_part waits })

-- ---- the orders of a round

asked_more : (xs ys : List Timed) → asked_in (xs ++ ys) ≡ asked_in xs ++ asked_in ys
asked_more xs ys = flat_map-append (λ (o : Timed). asked_so o.at (given_in o.text)) xs ys

asked_last : (xs : List Timed) (o : Timed) → asked_in (xs ++ o ∷ []) ≡ asked_in xs ++ asked_so o.at (given_in o.text)
asked_last xs o = asked_more xs (o ∷ []) ∙ ap (λ (l : List Asked). asked_in xs ++ l) (append-nil (asked_so o.at (given_in o.text)))

-- nothing is asked by those that wait
waited_part : (waits later : List Waited) (sent_so : List Msu) (bytes : List ToldLine) → RetriedSo waits sent_so bytes later → PartSo waits [] sent_so bytes later
waited_part waits later sent_so bytes so = record {
  answers = so.answers;
  lines = so.lines;
  each = subst (λ (l : List Asked). IsPermutation l (orders_of so.answers ++ map asked_of later)) (sym (append-nil (map asked_of waits))) so.each;
  timely = so.timely;
  taken = so.taken;
}

none_anew : (now : ℕ) (begins_anew : Bool) → answers_in (anew_told now begins_anew) ≡ []
none_anew now true = refl
none_anew now false = refl

attending_step : {a : Stand} (tick : ℕ) (p : Stood) (waits : List Waited) (left : Option (List Timed)) (bytes : List ToldLine) (q : Stood) (later : List Waited) (last : Option (List Timed))
    {b : Stand} → (made : Attends p waits left a bytes q later last b) → p.tender.ticks ≡ tick → tick < 2 ^ 64 → Rising waits → Each (Fresh tick) waits
    → StepSo tick waits (asked_in (read_attending made)) (sent_attending made) bytes q later
attending_step tick p waits left _ _ _ _ (waited {bytes} {q} {now} before tells) is small rising recent =
    let times : StaysSo tick waits q now = retries_times tick p waits bytes q now before is rising recent in
    record { ticks = times.ticks; inside = times.inside; part = waited_part waits now (sent_waiting before) bytes (retried_so tick p waits bytes q now before is rising recent) }
attending_step tick p waits left _ _ _ _ (comes {bytes} {q} {now} {fewer} order more r later last c before next going may made tells) is small rising recent =
    let first : StepSo tick waits (asked_in (read_attending before)) (sent_attending before) bytes q now = attending_step tick p waits left bytes q now fewer before is small rising recent in
    let second : StepSo tick now (asked_so q.tender.ticks (given_in order)) (sent_taking made) more r later =
    taking_step tick (given_in order).text (given_in order).said (marked (given_in order).mark q) now more r later made first.ticks small first.inside in
    let all : StepSo tick waits (asked_in (read_attending before) ++ asked_so q.tender.ticks (given_in order)) (sent_attending before ++ sent_taking made) (bytes ++ more) r later =
    record {
      ticks = second.ticks;
      inside = second.inside;
      part = parts_then waits now later (asked_in (read_attending before)) (asked_so q.tender.ticks (given_in order)) (sent_attending before) (sent_taking made) bytes more first.part second.part;
    } in
    subst (λ (l : List Asked). StepSo tick waits l (sent_attending before ++ sent_taking made) (bytes ++ more) r later)
    (sym (asked_last (read_attending before) (record { at = q.tender.ticks; text = order }))) all
attending_step tick p waits left _ _ _ _ (looks {bytes} {q} {now} {fewer} more last c before anew tells) is small rising recent =
    let first : StepSo tick waits (asked_in (read_attending before)) (sent_attending before) bytes q now = attending_step tick p waits left bytes q now fewer before is small rising recent in
    let none : answers_in more ≡ [] = ap answers_in anew.tells ∙ none_anew q.tender.ticks anew.begins in
    record {
      ticks = first.ticks;
      inside = first.inside;
      part = quiet_part waits now (asked_in (read_attending before)) (sent_attending before) bytes (bytes ++ more) first.part (no_more_answers bytes more none);
    }

all_step : {a : Stand} (tick : ℕ) (p : Stood) (waits : List Waited) (left : Option (List Timed)) (bytes : List ToldLine) (q : Stood) (later : List Waited) (last : Option (List Timed))
    {b : Stand} → (made : AttendsAll p waits left a bytes q later last b) → p.tender.ticks ≡ tick → tick < 2 ^ 64 → Rising waits → Each (Fresh tick) waits
    → StepSo tick waits (asked_in (read_by_all made)) (sent_by_all made) bytes q later
all_step tick p waits left _ _ _ _ (none_due {bytes} {q} {now} {fewer} last before none_there) is small rising recent =
    attending_step tick p waits left bytes q now fewer before is small rising recent
all_step tick p waits left _ _ _ _ (full {bytes} {q} {now} {fewer} last before many same) is small rising recent =
    attending_step tick p waits left bytes q now fewer before is small rising recent
all_step tick p waits left _ _ _ _ (answers_wait {bytes} {q} {now} {fewer} last before many same) is small rising recent =
    attending_step tick p waits left bytes q now fewer before is small rising recent
all_step tick p waits left _ _ _ _ (over {bytes} {q} {now} {fewer} before ends_it) is small rising recent =
    attending_step tick p waits left bytes q now fewer before is small rising recent

-- ---- no other line of a round is an answer

none_then : (xs ys : List ToldLine) → answers_in xs ≡ [] → answers_in ys ≡ [] → answers_in (xs ++ ys) ≡ []
none_then xs ys first second = answers_more xs ys ∙ (ap (λ (l : List ToldLine). l ++ answers_in ys) first ∙ second)

none_passed : (now link : ℕ) (passed : LineChange) → answers_in (passed_told now link passed) ≡ []
none_passed now link Same = refl
none_passed now link Silent = refl
none_passed now link Back = refl

none_carried : (link ahead : ℕ) (t : Tended) (w : LinkLine) (bytes : List ToldLine) (traffic : List Traffic) (u : Tended) (x : LinkLine) → Carries link ahead t w bytes traffic u x
    → answers_in bytes ≡ []
none_carried link ahead t w _ _ _ _ (passes {bytes} {traffic} {u} {x} came is) = ap answers_in is.tells ∙ none_passed u.ticks link is.passed
none_carried link ahead t w _ _ _ _ (misses hears) = refl
none_carried link ahead t w _ _ _ _ ends = refl
none_carried link ahead t w _ _ _ _ fails = refl
none_carried link ahead t w _ _ _ _ opens = refl

none_by_lines : (ahead : ℕ) (t : Tended) (ws : List LinkLine) (count : ℕ) (bytes : List ToldLine) (traffic : List Traffic) (u : Tended) (xs : List LinkLine)
    → CarriesAll ahead t ws count bytes traffic u xs → answers_in bytes ≡ []
none_by_lines ahead t ws _ _ _ _ _ no_link = refl
none_by_lines ahead t ws _ _ _ _ _ (one_link {link} {bytes} {traffic} {u} {v} {xs} {ys} more others before last) =
    none_then bytes more (none_by_lines ahead t ws link bytes traffic u xs before) (none_carried link ahead u last.before more others v last.after last.carries)

none_late : (b : Bool) (now delay : ℕ) → answers_in (if b then [] else kept Never now (codes "late " ++ decimal delay)) ≡ []
none_late true now delay = refl
none_late false now delay = refl

none_of : (x : Told) (now : ℕ) → answers_in (kept (wait_of x) now (told_text x)) ≡ []
none_of (told.Message link m) now = refl
none_of (told.InService link) now = refl
none_of (told.Down link reason) now = refl
none_of (told.FarOut link) now = refl
none_of (told.FarBack link) now = refl
none_of (told.Started link) now = refl
none_of (told.Changeover link) now = refl
none_of (told.Says link kind by_link) now = refl
none_of (told.Hears link kind by_link) now = refl
none_of (told.Unsure link count) now = refl
none_of (told.Diverted link count) now = refl
none_of (told.Tested link) now = refl
none_of (told.Looped link) now = refl
none_of (told.Shared shared) now = refl
none_of told.ReaderAway now = refl
none_of told.ReaderBack now = refl

none_told : (t : Tended) (bytes : List ToldLine) (u : Tended) → Tells t bytes u → answers_in bytes ≡ []
none_told t _ _ nothing = refl
none_told t _ _ (one {bytes} {u} {w} x before first) = none_then bytes (kept (wait_of x) w.ticks (told_text x)) (none_told t bytes u before) (none_of x w.ticks)

-- the lines of answers of a round
round_answers : {slow : ℕ} (ahead : ℕ) (p q : SetPlace) (bytes : List ToldLine) (traffic : List Traffic) (on : Bool) → (is : IsRound ahead slow p bytes traffic on q)
    → answers_in bytes ≡ answers_in is.third
round_answers {slow} ahead p q bytes traffic on is =
    let zeroth : List ToldLine = late_told p.stood.tender.ticks slow in
    let begun : answers_in ((zeroth ++ is.first) ++ is.second) ≡ [] =
    none_then (zeroth ++ is.first) is.second
    (none_then zeroth is.first (none_late (slow == 0) p.stood.tender.ticks slow) (none_by_lines ahead p.stood.tender p.wires (length p.wires) is.first traffic is.carried q.wires is.carries))
    (none_told is.tended is.second is.calm is.tells.tells) in
    let most : List ToldLine = ((zeroth ++ is.first) ++ is.second) ++ is.third in
    ap answers_in is.are
    ∙ (no_more_answers most is.fourth (none_told is.departed.tender is.fourth is.last is.tells_more.tells)
    ∙ (answers_more ((zeroth ++ is.first) ++ is.second) is.third ∙ ap (λ (l : List ToldLine). l ++ answers_in is.third) begun))

-- ---- along a run

pub record AlongSo (now : ℕ) (waits : List Waited) (asked : List Asked) (sent_so : List Msu) (bytes : List ToldLine) (later : List Waited) : Type 0 where
  pub inside : InTime now later
  pub part : PartSo waits asked sent_so bytes later

round_step : {slow : ℕ} (ahead : ℕ) (p q : SetPlace) (bytes : List ToldLine) (traffic : List Traffic) (on : Bool) → (is : IsRound ahead slow p bytes traffic on q)
    → InTime p.stood.tender.ticks p.waiting → AlongSo q.stood.tender.ticks p.waiting (asked_in (read_by_all is.attends)) (sent_by_all is.attends) bytes q.waiting
round_step ahead p q bytes traffic on is inside =
    let now : ℕ = is.minded.ticks in
    let now_is : now ≡ min (2 ^ 64 - 1) (p.stood.tender.ticks + 1) = minded_ticks ahead p q bytes traffic on is in
    let step : StepSo now p.waiting (asked_in (read_by_all is.attends)) (sent_by_all is.attends) is.third is.obeyed q.waiting =
    all_step now (record p.stood { tender = is.minded }) p.waiting p.left is.third is.obeyed q.waiting q.left is.attends refl (omega (arith, now_is)) inside.rising
    (later_by_one p.stood.tender.ticks now p.waiting now_is inside.early) in
    record {
      inside = subst (λ (n : ℕ). InTime n q.waiting) (sym (last_ticks ahead p q bytes traffic on is ∙ step.ticks)) step.inside;
      part = quiet_part p.waiting q.waiting (asked_in (read_by_all is.attends)) (sent_by_all is.attends) is.third bytes step.part (round_answers ahead p q bytes traffic on is);
    }

none_yet_part : (waits : List Waited) (now : ℕ) → waits ≡ [] → AlongSo now waits [] [] [] waits
none_yet_part waits now none = record { inside = subst (λ (ws : List Waited). InTime now ws) (sym none) (record { rising = tt; early = tt }); part = no_part waits }

along_step : (ahead : ℕ) (p q : SetPlace) (bytes : List ToldLine) (traffic : List Traffic) (on : Bool) → (run : Rounds ahead p bytes traffic on q) → p.waiting ≡ []
    → AlongSo q.stood.tender.ticks p.waiting (asked_in (read_along run)) (sent_along run) bytes q.waiting
along_step ahead p _ _ _ _ begins none = none_yet_part p.waiting p.stood.tender.ticks none
along_step ahead p _ _ _ _ (round {bytes} {traffic} {q} {r} more others on before is) none =
    let first : AlongSo q.stood.tender.ticks p.waiting (asked_in (read_along before)) (sent_along before) bytes q.waiting = along_step ahead p q bytes traffic true before none in
    let second : AlongSo r.stood.tender.ticks q.waiting (asked_in (read_by_all is.attends)) (sent_by_all is.attends) more r.waiting = round_step ahead q r more others on is first.inside in
    record {
      inside = second.inside;
      part = subst (λ (l : List Asked). PartSo p.waiting l (sent_along before ++ sent_by_all is.attends) (bytes ++ more) r.waiting)
          (sym (asked_more (read_along before) (read_by_all is.attends)))
          (parts_then p.waiting q.waiting r.waiting (asked_in (read_along before)) (asked_in (read_by_all is.attends)) (sent_along before) (sent_by_all is.attends) bytes more first.part second.part);
    }

pub answered_along : (ahead : ℕ) (p q : SetPlace) (bytes : List ToldLine) (traffic : List Traffic) (on : Bool) → (run : Rounds ahead p bytes traffic on q) → p.waiting ≡ []
    → AreAnswered (read_along run) (sent_along run) bytes q.stood.tender.ticks q.waiting
answered_along ahead p q bytes traffic on run none =
    let so : AlongSo q.stood.tender.ticks p.waiting (asked_in (read_along run)) (sent_along run) bytes q.waiting = along_step ahead p q bytes traffic on run none in
    let now : ℕ = q.stood.tender.ticks in
    record {
      answered = so.part.answers;
      answers = so.part.lines;
      each = subst (λ (ws : List Waited). IsPermutation (map asked_of ws ++ asked_in (read_along run)) (orders_of so.part.answers ++ map asked_of q.waiting)) none so.part.each;
      timely = all_of IsTimely so.part.answers so.part.timely;
      recent = all_of (IsRecent now) q.waiting (each_weaker (Early now) (IsRecent now) (λ (w : Waited) (early : Early now w). early.soon) q.waiting so.inside.early);
      taken = so.part.taken;
    }
