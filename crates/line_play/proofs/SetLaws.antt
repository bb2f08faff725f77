-- Laws for every run of a link set on lines.
use Rattle.std.proofs.Common.{◌≡◌, ℕ, Bool, true, false, List, [], ◌∷◌, ◌++◌, append-nil, append_assoc, length, Option, refl, sym, ap, subst}
use Rattle.script_links.specs.resend_store_types.messages.Msu.{Msu}
use Rattle.line_filter.specs.Orders.{Timed}
use Rattle.line_filter.specs.Reporting.{ToldLine, Stand, waiting_count}
use Rattle.line_filter.specs.declared.reports.Wait.TheVariants.{Message}
use Rattle.line_tending.specs.Lives.{Lived}
use Rattle.line_tending.specs.Telling.{report_in}
use Rattle.line_tending.specs.Tended.{Tended}
use Rattle.line_tending.specs.declared.told.Told.{Told}
use Rattle.line_tending.specs.LinkLines.{Passes, some, none}
use Rattle.line_tending.specs.declared.link_line.LinkLine.{LinkLine}
use Rattle.line_tending.specs.declared.link_line.LineChange.{LineChange}
use Rattle.line_tending.proofs.Lives.{lived_none, lived_orders, lived_sends, lived_ticks, lived_tends, lived_hears, lived_speaks, lived_tells, lived_minds}
use Rattle.line_play.specs.LineTraffic.{Traffic}
use Rattle.line_play.specs.SetDoing.{Stood, marked, links_at}
use Rattle.script_lines.specs.Words.{words_of}
use Rattle.line_play.specs.SetGiven.{PlainSaid, given_in, is_on}
use Rattle.line_play.specs.SetLeaving.{StopsAll, Departs, goes_on, stops, ends as is_over}
use Rattle.line_play.specs.SetObeying.{ObeysThere, does_so, refuses_so, Obeys, does, lacks_some, says_none, unselected, unselected_by}
use Rattle.line_play.specs.SetOrders.{PlainSetOrder}
use Rattle.line_play.specs.SetQueues.{Waited, PlainSent, taken, refused, held, AsksOf, is_taken, unlabelled, turned_down, is_kept, is_moving, Asks, no_message, is_message, Tries, leaves, takes, refuses, waits_on, is_early, Retries, none_yet, behind, holds, goes, TakesSend, late, crowded, goes_now, waits_first, waits_behind, TakesOrder, obeyed, sent as sent_so, report}
use Rattle.line_play.specs.SetRounds.{Carries, passes, misses, ends, fails, opens, CarriesAll, no_link, one_link, Tells, nothing, one, Attends, waited, comes, looks, AttendsAll, none_due, full, answers_wait, over, SetPlace, IsRound, Rounds, begins, round}
use Rattle.line_play.specs.SetLaws.{sent_asking, sent_of, sent_trying, sent_waiting, sent_sending, sent_taking, sent_attending, sent_by_all, sent_along, told_in, told_along}

-- the messages sent, one part after another
sent_more : (t u : Tended) (sent xs ys : List Msu) (told : List Told) → Lived t ((sent ++ xs) ++ ys) told u → Lived t (sent ++ (xs ++ ys)) told u
sent_more t u sent xs ys told l = subst (λ (zs : List Msu). Lived t zs told u) (append_assoc sent xs ys) l

sent_none : (t u : Tended) (sent : List Msu) (told : List Told) → Lived t sent told u → Lived t (sent ++ []) told u
sent_none t u sent told l = subst (λ (zs : List Msu). Lived t zs told u) (sym (append-nil sent)) l

told_more : (t u : Tended) (sent : List Msu) (told xs ys : List Told) → Lived t sent ((told ++ xs) ++ ys) u → Lived t sent (told ++ (xs ++ ys)) u
told_more t u sent told xs ys l = subst (λ (zs : List Told). Lived t sent zs u) (append_assoc told xs ys) l

told_none : (t u : Tended) (sent : List Msu) (told : List Told) → Lived t sent told u → Lived t sent (told ++ []) u
told_none t u sent told l = subst (λ (zs : List Told). Lived t sent zs u) (sym (append-nil told)) l

lived_same : (t u w : Tended) (sent : List Msu) (told : List Told) → Lived t sent told u → w ≡ u → Lived t sent told w
lived_same t u w sent told l same = subst (λ (x : Tended). Lived t sent told x) (sym same) l

-- ---- messages to send

lived_asking : (t s u : Tended) (sent : List Msu) (told : List Told) (m : Msu) (patient : Bool) (r : PlainSent) → Lived t sent told s → (made : AsksOf m patient s r u)
    → Lived t (sent ++ sent_asking made) told u
lived_asking t s _ sent told m patient _ l (is_taken {u} room acts) = lived_sends t s u sent told (m ∷ []) l acts
lived_asking t s _ sent told m patient _ l (unlabelled none_there) = sent_none t s sent told l
lived_asking t s _ sent told m patient _ l (turned_down why fault not_later) = sent_none t s sent told l
lived_asking t s _ sent told m patient _ l (is_kept why patient_so fault later) = sent_none t s sent told l
lived_asking t s _ sent told m patient _ l (is_moving patient_so there) = sent_none t s sent told l

lived_asked : (t s u : Tended) (sent : List Msu) (told : List Told) (octets : List ℕ) (patient : Bool) (r : PlainSent) → Lived t sent told s → (made : Asks octets patient s r u)
    → Lived t (sent ++ sent_of made) told u
lived_asked t s _ sent told octets patient _ l (no_message none_there) = sent_none t s sent told l
lived_asked t s _ sent told octets patient _ l (is_message m is asks) = lived_asking t s _ sent told m patient _ l asks

lived_trying : (t : Tended) (p : Stood) (sent : List Msu) (told : List Told) (text octets : List ℕ) (patient : Bool) (bytes : List ToldLine) (went : Bool) (q : Stood)
    → Lived t sent told p.tender → (made : Tries text octets patient p bytes went q) → Lived t (sent ++ sent_trying made) told q.tender
lived_trying t p sent told text octets patient _ _ _ l (leaves ended) = sent_none t p.tender sent told l
lived_trying t p sent told text octets patient _ _ _ l (takes {u} going asks) = lived_asked t p.tender u sent told octets patient taken l asks
lived_trying t p sent told text octets patient _ _ _ l (refuses {u} why going asks) = lived_asked t p.tender u sent told octets patient (refused why) l asks
lived_trying t p sent told text octets patient _ _ _ l (waits_on {u} going asks) = lived_asked t p.tender u sent told octets patient held l asks

lived_waiting : (t : Tended) (p : Stood) (sent : List Msu) (told : List Told) (waiting : List Waited) (bytes : List ToldLine) (v : Stood) (last : List Waited) → Lived t sent told p.tender
    → (made : Retries p waiting bytes v last) → Lived t (sent ++ sent_waiting made) told v.tender
lived_waiting t p sent told _ _ _ _ l none_yet = sent_none t p.tender sent told l
lived_waiting t p sent told _ _ _ _ l (behind {ws} {bytes} {q} {stay} w before some_wait) = lived_waiting t p sent told ws bytes q stay l before
lived_waiting t p sent told _ _ _ _ l (holds {ws} {bytes} {q} {stay} w more r before none_wait tries) =
    sent_more t r.tender sent (sent_waiting before) (sent_trying tries) told
    (lived_trying t (marked w.mark q) (sent ++ sent_waiting before) told w.text w.octets (is_early q.tender.ticks w) more false r (lived_waiting t p sent told ws bytes q stay l before) tries)
lived_waiting t p sent told _ _ _ _ l (goes {ws} {bytes} {q} {stay} w more r before none_wait tries) =
    sent_more t r.tender sent (sent_waiting before) (sent_trying tries) told
    (lived_trying t (marked w.mark q) (sent ++ sent_waiting before) told w.text w.octets (is_early q.tender.ticks w) more true r (lived_waiting t p sent told ws bytes q stay l before) tries)

lived_sending : (t : Tended) (p : Stood) (sent : List Msu) (told : List Told) (text octets : List ℕ) (waiting : List Waited) (bytes : List ToldLine) (v : Stood) (now : List Waited)
    → Lived t sent told p.tender → (made : TakesSend text octets p waiting bytes v now) → Lived t (sent ++ sent_sending made) told v.tender
lived_sending t p sent told text octets waiting _ _ _ l (late ended) = sent_none t p.tender sent told l
lived_sending t p sent told text octets waiting _ _ _ l (crowded many) = sent_none t p.tender sent told l
lived_sending t p sent told text octets waiting _ _ _ l (goes_now {bytes} {q} none_wait tries) = lived_trying t p sent told text octets true bytes true q l tries
lived_sending t p sent told text octets waiting _ _ _ l (waits_first {bytes} {q} none_wait tries) = lived_trying t p sent told text octets true bytes false q l tries
lived_sending t p sent told text octets waiting _ _ _ l (waits_behind some_wait few) = sent_none t p.tender sent told l

-- ---- orders

-- a refused `on` changes no link
same_links : (is : Bool) (p : Stood) → (unselected_by is p).tender ≡ p.tender
same_links true p = refl
same_links false p = refl

lived_there : (t : Tended) (p q : Stood) (sent : List Msu) (told : List Told) (text : List ℕ) (what : PlainSetOrder) (whom : List ℕ) (bytes : List ToldLine) → Lived t sent told p.tender
    → ObeysThere text what whom p bytes q → Lived t sent told q.tender
lived_there t p _ sent told text what whom _ l (does_so {q} may adds changes) = lived_orders t p.tender q.tender sent told l adds
lived_there t p _ sent told text what whom _ l (refuses_so {q} why adds may) = lived_orders t p.tender q.tender sent told l adds

lived_obeys : (t : Tended) (p : Stood) (sent : List Msu) (told : List Told) (text : List ℕ) (said : Option PlainSaid) (bytes : List ToldLine) (q : Stood)
    → Lived t sent told p.tender → Obeys text said p bytes q → Lived t sent told q.tender
lived_obeys t p sent told text said _ _ l (does {bytes} {q} what is none_sent there made) =
    lived_there t p q sent told text what.order (links_at what p) bytes l made
lived_obeys t p sent told text said _ _ l (lacks_some what is none_sent lacks) = l
lived_obeys t p sent told text said _ _ l (says_none none_there no_report) =
    lived_same t p.tender (unselected text p).tender sent told l (same_links (is_on (words_of text)) p)

lived_taking : (t : Tended) (p : Stood) (sent : List Msu) (told : List Told) (text : List ℕ) (said : Option PlainSaid) (waiting : List Waited) (bytes : List ToldLine) (v : Stood) (now : List Waited)
    → Lived t sent told p.tender → (made : TakesOrder text said p waiting bytes v now) → Lived t (sent ++ sent_taking made) told v.tender
lived_taking t p sent told text said waiting _ _ _ l (obeyed {bytes} {q} made) = sent_none t q.tender sent told (lived_obeys t p sent told text said bytes q l made)
lived_taking t p sent told text said waiting _ _ _ l (sent_so {bytes} {q} {now} octets says made) = lived_sending t p sent told text octets waiting bytes q now l made
lived_taking t p sent told text said waiting _ _ _ l (report none_there is_told) = sent_none t p.tender sent told l

lived_attending : {a : Stand} (t : Tended) (p : Stood) (sent : List Msu) (told : List Told) (waiting : List Waited) (left : Option (List Timed)) (bytes : List ToldLine) (v : Stood) (last : List Waited)
    (still : Option (List Timed)) {b : Stand} → Lived t sent told p.tender → (made : Attends p waiting left a bytes v last still b) → Lived t (sent ++ sent_attending made) told v.tender
lived_attending t p sent told waiting left _ _ _ _ l (waited {bytes} {q} {now} before tells) = lived_waiting t p sent told waiting bytes q now l before
lived_attending t p sent told waiting left _ _ _ _ l (comes {bytes} {q} {now} {fewer} order more r later last c before next going may made tells) =
    sent_more t r.tender sent (sent_attending before) (sent_taking made) told
    (lived_taking t (marked (given_in order).mark q) (sent ++ sent_attending before) told (given_in order).text (given_in order).said now more r later
    (lived_attending t p sent told waiting left bytes q now fewer l before) made)
lived_attending t p sent told waiting left _ _ _ _ l (looks {bytes} {q} {now} {fewer} more last c before anew tells) = lived_attending t p sent told waiting left bytes q now fewer l before

lived_all : {a : Stand} (t : Tended) (p : Stood) (sent : List Msu) (told : List Told) (waiting : List Waited) (left : Option (List Timed)) (bytes : List ToldLine) (v : Stood) (last : List Waited)
    (still : Option (List Timed)) {b : Stand} → Lived t sent told p.tender → (made : AttendsAll p waiting left a bytes v last still b) → Lived t (sent ++ sent_by_all made) told v.tender
lived_all t p sent told waiting left _ _ _ _ l (none_due {bytes} {q} {now} {fewer} last before none_there) = lived_attending t p sent told waiting left bytes q now fewer l before
lived_all t p sent told waiting left _ _ _ _ l (full {bytes} {q} {now} {fewer} last before many same) = lived_attending t p sent told waiting left bytes q now fewer l before
lived_all t p sent told waiting left _ _ _ _ l (answers_wait {bytes} {q} {now} {fewer} last before many same) = lived_attending t p sent told waiting left bytes q now fewer l before
lived_all t p sent told waiting left _ _ _ _ l (over {bytes} {q} {now} {fewer} before is) = lived_attending t p sent told waiting left bytes q now fewer l before

-- ---- the end of a run

lived_stops : (t s u : Tended) (sent : List Msu) (told : List Told) → Lived t sent told s → StopsAll s u → Lived t sent told u
lived_stops t s u sent told l all = lived_orders t s u sent told l all.adds

lived_departs : (t : Tended) (p q : Stood) (sent : List Msu) (told : List Told) → Lived t sent told p.tender → Departs p q → Lived t sent told q.tender
lived_departs t p _ sent told l (goes_on not_due) = l
lived_departs t p _ sent told l (stops {u} until is due all) = lived_stops t p.tender u sent told l all
lived_departs t p _ sent told l (is_over since is due) = l

-- ---- reports

lived_telling : (t s : Tended) (sent : List Msu) (told : List Told) (bytes : List ToldLine) (v : Tended) → Lived t sent told s → (made : Tells s bytes v) → Lived t sent (told ++ told_in made) v
lived_telling t s sent told _ _ l nothing = told_none t s sent told l
lived_telling t s sent told _ _ l (one {bytes} {u} {w} x before first) =
    told_more t w sent told (told_in before) (report_in x)
    (lived_tells t u w sent (told ++ told_in before) (report_in x) (lived_telling t s sent told bytes u l before) first.reports first.same)

-- ---- lines

lived_passes : (t s v : Tended) (sent : List Msu) (told : List Told) (link ahead : ℕ) (octets out after : List ℕ) (passed : LineChange) (w x : LinkLine) → Lived t sent told s
    → Passes link ahead octets s w out passed v x after → Lived t sent told v
lived_passes t s v sent told link ahead octets out after passed w x l (some heard more hears speaks quiet is) =
    lived_speaks t sent told link (length octets) heard v w.voice x.voice out after (lived_hears t s sent told link octets heard l hears) speaks
lived_passes t s v sent told link ahead octets out after passed w x l (none empty voice waits) = lived_hears t s sent told link _ v l waits.hears

lived_carries : (t s : Tended) (sent : List Msu) (told : List Told) (link ahead : ℕ) (w : LinkLine) (bytes : List ToldLine) (traffic : List Traffic) (v : Tended) (y : LinkLine) → Lived t sent told s
    → Carries link ahead s w bytes traffic v y → Lived t sent told v
lived_carries t s sent told link ahead w _ _ _ _ l (passes {bytes} {traffic} {u} {x} octets is) =
    lived_passes t s u sent told link ahead octets [] is.out is.passed w x l is.is_passed
lived_carries t s sent told link ahead w _ _ _ _ l (misses {u} hears) = lived_hears t s sent told link _ u l hears
lived_carries t s sent told link ahead w _ _ _ _ l ends = l
lived_carries t s sent told link ahead w _ _ _ _ l fails = l
lived_carries t s sent told link ahead w _ _ _ _ l opens = l

lived_lines : (t s : Tended) (sent : List Msu) (told : List Told) (ahead : ℕ) (ws : List LinkLine) (count : ℕ) (bytes : List ToldLine) (traffic : List Traffic) (v : Tended) (ys : List LinkLine)
    → Lived t sent told s → CarriesAll ahead s ws count bytes traffic v ys → Lived t sent told v
lived_lines t s sent told ahead ws _ _ _ _ _ l no_link = l
lived_lines t s sent told ahead ws _ _ _ _ _ l (one_link {link} {bytes} {traffic} {u} {v} {xs} {ys} more others before last) =
    lived_carries t u sent told link ahead last.before more others v last.after (lived_lines t s sent told ahead ws link bytes traffic u xs l before) last.carries

-- ---- rounds

lived_round : {slow : ℕ} (t : Tended) (p q : SetPlace) (sent : List Msu) (told : List Told) (ahead : ℕ) (bytes : List ToldLine) (traffic : List Traffic) (on : Bool) → Lived t sent told p.stood.tender
    → (is : IsRound ahead slow p bytes traffic on q)
    → Lived t (sent ++ sent_by_all is.attends) ((told ++ told_in is.tells.tells) ++ told_in is.tells_more.tells) q.stood.tender
lived_round t p q sent told ahead bytes traffic on l is =
    lived_same t is.last q.stood.tender (sent ++ sent_by_all is.attends) ((told ++ told_in is.tells.tells) ++ told_in is.tells_more.tells)
    (lived_telling t is.departed.tender (sent ++ sent_by_all is.attends) (told ++ told_in is.tells.tells) is.fourth is.last
    (lived_departs t is.obeyed is.departed (sent ++ sent_by_all is.attends) (told ++ told_in is.tells.tells)
    (lived_all t (record p.stood { tender = is.minded }) sent (told ++ told_in is.tells.tells) p.waiting p.left is.third is.obeyed q.waiting q.left
    (lived_minds t is.calm is.minded sent (told ++ told_in is.tells.tells) (waiting_count Message is.moved)
    (lived_telling t is.tended sent told is.second is.calm
    (lived_tends t is.ticked is.tended sent told
    (lived_ticks t is.carried is.ticked sent told
    (lived_lines t p.stood.tender sent told ahead p.wires (length p.wires) is.first traffic is.carried q.wires l is.carries) is.ticks)
    is.tends)
    is.tells.tells)
    is.minds)
    is.attends)
    is.departs)
    is.tells_more.tells)
    (ap (λ (x : Stood). x.tender) is.stood_is)

-- a run is a life of its link set, in which `send` took the messages that were reported as ok
pub lived_along : (ahead : ℕ) (p r : SetPlace) (bytes : List ToldLine) (traffic : List Traffic) (on : Bool) → (run : Rounds ahead p bytes traffic on r)
    → Lived p.stood.tender (sent_along run) (told_along run) r.stood.tender
lived_along ahead p _ _ _ _ begins = lived_none p.stood.tender
lived_along ahead p _ _ _ _ (round {bytes} {traffic} {q} {r} more others on before is) =
    lived_round p.stood.tender q r (sent_along before) (told_along before) ahead more others on (lived_along ahead p q bytes traffic true before) is
