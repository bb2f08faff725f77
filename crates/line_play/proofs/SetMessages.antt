-- The messages for level 3 among the lines reported along a run.
use Rattle.std.proofs.Common.{◌≡◌, ◌≢◌, ◌∙◌, ℕ, ◌+◌, ◌==◌, if◌then◌else◌, Bool, true, false, List, [], ◌∷◌, ◌++◌, append-nil, append_assoc, length, codes, Option, None, Some, refl, sym, ap, subst}
use Rattle.std.specs.Fmt.{decimal}
use Rattle.std.specs.List.{flat_map}
use Rattle.script_ends.specs.MeasureNames.{all_measures}
use Rattle.line_filter.specs.Orders.{Timed, anew_told}
use Rattle.line_filter.specs.Reporting.{ToldLine, Stand, kept}
use Rattle.line_filter.specs.declared.reports.Wait.TheVariants.{Never, Message, Other}
use Rattle.line_tending.specs.Tended.{Tended}
use Rattle.line_tending.specs.Telling.{report_in}
use Rattle.line_tending.specs.Texts.{told_text}
use Rattle.line_tending.specs.declared.told.Told.{Told}
use Rattle.line_tending.specs.declared.told.Told.TheVariants as told
use Rattle.line_tending.specs.declared.link_line.LineChange.{LineChange}
use Rattle.line_tending.specs.declared.link_line.LineChange.TheVariants.{Same, Silent, Back}
use Rattle.line_tending.specs.declared.link_line.LinkLine.{LinkLine}
use Rattle.line_play.specs.LineTraffic.{Traffic}
use Rattle.line_play.specs.SetDoing.{Stood, answered, marked, links_at}
use Rattle.line_play.specs.SetGiven.{PlainSaid, given_in, first_links}
use Rattle.line_play.specs.SetObeying.{ObeysThere, does_so, refuses_so, Obeys, does, lacks_some, says_none}
use Rattle.line_play.specs.SetOrders.{PlainSetOrder, on, links, state, value, measuring, aborted, measures, resetting, send, table, held, unsure, rebalance, reopen, quit, leave}
use Rattle.line_play.specs.SetQueues.{Waited, Tries, leaves, takes, refuses, waits_on, Retries, none_yet, behind, holds, goes, TakesSend, late, crowded, goes_now, waits_first, waits_behind, TakesOrder, obeyed, sent, report}
use Rattle.line_play.specs.SetSaying.{wait_of}
use Rattle.line_play.specs.SetShowing.{told_if, count_told, aborted_told, shown_of, shown_each, shows, held_text}
use Rattle.line_play.specs.SetRounds.{passed_told, late_told, Carries, passes, misses, ends, fails, opens, CarriesAll, no_link as no_line, one_link as one_line, Tells, nothing, one, Attends, waited, comes, looks, AttendsAll, none_due, full, answers_wait, over, SetPlace, IsRound, Rounds, begins, round}
use Rattle.line_play.specs.SetLaws.{told_in, told_along}
use Rattle.line_play.specs.SetMessages.{messages_in, TellMessages, no_report, message, another}

-- ---- lines after others

chosen : (b : Bool) (l : ToldLine) (xs ys zs : List ToldLine) → xs ≡ ys ++ zs → (if b then l ∷ xs else xs) ≡ (if b then l ∷ ys else ys) ++ zs
chosen true l xs ys zs is = ap (λ (ls : List ToldLine). l ∷ ls) is
chosen false l xs ys zs is = is

messages-append : (xs ys : List ToldLine) → messages_in (xs ++ ys) ≡ messages_in xs ++ messages_in ys
messages-append [] ys = refl
messages-append (x ∷ xs) ys = chosen _ x (messages_in (xs ++ ys)) (messages_in xs) (messages_in ys) (messages-append xs ys)

abbrev Quiet : List ToldLine → Type 0
Quiet ls = messages_in ls ≡ []

quiet_then : (xs ys : List ToldLine) → Quiet xs → Quiet ys → Quiet (xs ++ ys)
quiet_then xs ys p q = messages-append xs ys ∙ (ap (λ (ls : List ToldLine). ls ++ messages_in ys) p ∙ q)

quiet_is : (xs ys : List ToldLine) → ys ≡ xs → Quiet xs → Quiet ys
quiet_is xs ys is p = ap messages_in is ∙ p

-- ---- answers

quiet_if : (p : Stood) (text : List ℕ → List ℕ) (o : Option (List ℕ)) → Quiet (told_if p text o)
quiet_if p text None = refl
quiet_if p text (Some line) = refl

quiet_flat : {X : Type 0} (f : X → List ToldLine) → ((x : X) → Quiet (f x)) → (xs : List X) → Quiet (flat_map f xs)
quiet_flat f all [] = refl
quiet_flat f all (x ∷ xs) = quiet_then (f x) (flat_map f xs) (all x) (quiet_flat f all xs)

quiet_shown : (said : PlainSetOrder) (p : Stood) (l : ℕ) → Quiet (shown_of said p l)
quiet_shown (on focus) p l = refl
quiet_shown (links order) p l = refl
quiet_shown (state process) p l = quiet_if p _ _
quiet_shown (value process variable) p l = quiet_if p _ _
quiet_shown (measuring measure) p l = refl
quiet_shown aborted p l = refl
quiet_shown measures p l = quiet_then (flat_map (count_told p l) all_measures) (aborted_told p l) (quiet_flat (count_told p l) (λ m. refl) all_measures) refl
quiet_shown resetting p l = refl
quiet_shown (send octets) p l = refl
quiet_shown table p l = refl
quiet_shown held p l = refl
quiet_shown unsure p l = refl
quiet_shown rebalance p l = refl
quiet_shown reopen p l = refl
quiet_shown quit p l = refl
quiet_shown (leave seconds) p l = refl

quiet_each : (said : PlainSetOrder) (p : Stood) (whom : List ℕ) → Quiet (shown_each said p whom)
quiet_each said p whom = quiet_flat (shown_of said p) (quiet_shown said p) whom

quiet_shows : (said : PlainSetOrder) (whom : List ℕ) (p : Stood) → Quiet (shows said whom p)
quiet_shows (on focus) whom p = quiet_each (on focus) p whom
quiet_shows (links order) whom p = quiet_each (links order) p whom
quiet_shows (state process) whom p = quiet_each (state process) p whom
quiet_shows (value process variable) whom p = quiet_each (value process variable) p whom
quiet_shows (measuring measure) whom p = quiet_each (measuring measure) p whom
quiet_shows aborted whom p = quiet_each aborted p whom
quiet_shows measures whom p = quiet_each measures p whom
quiet_shows resetting whom p = quiet_each resetting p whom
quiet_shows (send octets) whom p = quiet_each (send octets) p whom
quiet_shows table whom p = refl
quiet_shows held whom p = quiet_flat (λ (l : ℕ). answered p (held_text p.tender l)) (λ l. refl) (first_links p.tender.plan.links)
quiet_shows unsure whom p = refl
quiet_shows rebalance whom p = quiet_each rebalance p whom
quiet_shows reopen whom p = quiet_each reopen p whom
quiet_shows quit whom p = quiet_each quit p whom
quiet_shows (leave seconds) whom p = quiet_each (leave seconds) p whom

quiet_there : (text : List ℕ) (what : PlainSetOrder) (whom : List ℕ) (p : Stood) (bytes : List ToldLine) (q : Stood) → ObeysThere text what whom p bytes q → Quiet bytes
quiet_there text what whom p _ _ (does_so {q} may adds changes) = quiet_then (answered q (codes "ok " ++ text)) (shows what whom q) refl (quiet_shows what whom q)
quiet_there text what whom p _ _ (refuses_so why adds may) = refl

quiet_obeys : (text : List ℕ) (said : Option PlainSaid) (p : Stood) (bytes : List ToldLine) (q : Stood) → Obeys text said p bytes q → Quiet bytes
quiet_obeys text said p _ _ (does {bytes} {q} what is none_sent there made) = quiet_there text what.order (links_at what p) p bytes q made
quiet_obeys text said p _ _ (lacks_some what is none_sent lacks) = refl
quiet_obeys text said p _ _ (says_none none_there not_ignored) = refl

quiet_tries : (text octets : List ℕ) (patient : Bool) (p : Stood) (bytes : List ToldLine) (went : Bool) (q : Stood) → Tries text octets patient p bytes went q → Quiet bytes
quiet_tries text octets patient p _ _ _ (leaves ended) = refl
quiet_tries text octets patient p _ _ _ (takes goes_on asks) = refl
quiet_tries text octets patient p _ _ _ (refuses why goes_on asks) = refl
quiet_tries text octets patient p _ _ _ (waits_on goes_on asks) = refl

quiet_retries : (p : Stood) (ws : List Waited) (bytes : List ToldLine) (q : Stood) (stay : List Waited) → Retries p ws bytes q stay → Quiet bytes
quiet_retries p _ _ _ _ none_yet = refl
quiet_retries p _ _ _ _ (behind {ws} {bytes} {q} {stay} w before some_wait) = quiet_retries p ws bytes q stay before
quiet_retries p _ _ _ _ (holds {ws} {bytes} {q} {stay} w more r before none_wait made) =
    quiet_then bytes more (quiet_retries p ws bytes q stay before) (quiet_tries w.text w.octets _ _ more false r made)
quiet_retries p _ _ _ _ (goes {ws} {bytes} {q} {stay} w more r before none_wait made) =
    quiet_then bytes more (quiet_retries p ws bytes q stay before) (quiet_tries w.text w.octets _ _ more true r made)

quiet_sending : (text octets : List ℕ) (p : Stood) (waiting : List Waited) (bytes : List ToldLine) (q : Stood) (now : List Waited) → TakesSend text octets p waiting bytes q now → Quiet bytes
quiet_sending text octets p waiting _ _ _ (late ended) = refl
quiet_sending text octets p waiting _ _ _ (crowded many) = refl
quiet_sending text octets p waiting _ _ _ (goes_now {bytes} {q} none_wait made) = quiet_tries text octets true p bytes true q made
quiet_sending text octets p waiting _ _ _ (waits_first {bytes} {q} none_wait made) = quiet_tries text octets true p bytes false q made
quiet_sending text octets p waiting _ _ _ (waits_behind some_wait few) = refl

quiet_takes : (text : List ℕ) (said : Option PlainSaid) (p : Stood) (waiting : List Waited) (bytes : List ToldLine) (q : Stood) (now : List Waited)
    → TakesOrder text said p waiting bytes q now → Quiet bytes
quiet_takes text said p waiting _ _ _ (obeyed {bytes} {q} made) = quiet_obeys text said p bytes q made
quiet_takes text said p waiting _ _ _ (sent {bytes} {q} {now} octets says made) = quiet_sending text octets p waiting bytes q now made
quiet_takes text said p waiting _ _ _ (report none_there is_told) = refl

quiet_anew : (now : ℕ) (begins_anew : Bool) → Quiet (anew_told now begins_anew)
quiet_anew now true = refl
quiet_anew now false = refl

quiet_attending : {a : Stand} (p : Stood) (waiting : List Waited) (left : Option (List Timed)) (bytes : List ToldLine) (q : Stood) (now : List Waited) (last : Option (List Timed))
    {b : Stand} → Attends p waiting left a bytes q now last b → Quiet bytes
quiet_attending p waiting left _ _ _ _ (waited {bytes} {q} {now} before tells) = quiet_retries p waiting bytes q now before
quiet_attending p waiting left _ _ _ _ (comes {bytes} {q} {now} {fewer} order more r later last c before next going may made tells) =
    quiet_then bytes more (quiet_attending p waiting left bytes q now fewer before) (quiet_takes (given_in order).text (given_in order).said (marked (given_in order).mark q) now more r later made)
quiet_attending p waiting left _ _ _ _ (looks {bytes} {q} {now} {fewer} more last c before anew tells) =
    quiet_then bytes more (quiet_attending p waiting left bytes q now fewer before)
    (quiet_is (anew_told q.tender.ticks anew.begins) more anew.tells (quiet_anew q.tender.ticks anew.begins))

quiet_all : {a : Stand} (p : Stood) (waiting : List Waited) (left : Option (List Timed)) (bytes : List ToldLine) (q : Stood) (now : List Waited) (last : Option (List Timed))
    {b : Stand} → AttendsAll p waiting left a bytes q now last b → Quiet bytes
quiet_all p waiting left _ _ _ _ (none_due {bytes} {q} {now} {fewer} last before none_there) = quiet_attending p waiting left bytes q now fewer before
quiet_all p waiting left _ _ _ _ (full {bytes} {q} {now} {fewer} last before many stays) = quiet_attending p waiting left bytes q now fewer before
quiet_all p waiting left _ _ _ _ (answers_wait {bytes} {q} {now} {fewer} last before many stays) = quiet_attending p waiting left bytes q now fewer before
quiet_all p waiting left _ _ _ _ (over {bytes} {q} {now} {fewer} before ends_it) = quiet_attending p waiting left bytes q now fewer before

-- ---- lines

quiet_passed : (now link : ℕ) (passed : LineChange) → Quiet (passed_told now link passed)
quiet_passed now link Same = refl
quiet_passed now link Silent = refl
quiet_passed now link Back = refl

quiet_carries : (link ahead : ℕ) (t : Tended) (w : LinkLine) (bytes : List ToldLine) (traffic : List Traffic) (u : Tended) (x : LinkLine) → Carries link ahead t w bytes traffic u x
    → Quiet bytes
quiet_carries link ahead t w _ _ _ _ (passes {bytes} {traffic} {u} {x} came is) =
    quiet_is (passed_told u.ticks link is.passed) bytes is.tells (quiet_passed u.ticks link is.passed)
quiet_carries link ahead t w _ _ _ _ (misses hears) = refl
quiet_carries link ahead t w _ _ _ _ ends = refl
quiet_carries link ahead t w _ _ _ _ fails = refl
quiet_carries link ahead t w _ _ _ _ opens = refl

quiet_lines : (ahead : ℕ) (t : Tended) (ws : List LinkLine) (count : ℕ) (bytes : List ToldLine) (traffic : List Traffic) (u : Tended) (xs : List LinkLine)
    → CarriesAll ahead t ws count bytes traffic u xs → Quiet bytes
quiet_lines ahead t ws _ _ _ _ _ no_line = refl
quiet_lines ahead t ws _ _ _ _ _ (one_line {link} {bytes} {traffic} {u} {v} {xs} {ys} more others before last) =
    quiet_then bytes more (quiet_lines ahead t ws link bytes traffic u xs before) (quiet_carries link ahead u last.before more others v last.after last.carries)

late_by : (b : Bool) (now delay : ℕ) → Quiet (if b then [] else kept Never now (codes "late " ++ decimal delay))
late_by true now delay = refl
late_by false now delay = refl

-- ---- the reports of the set

silent : (reports : List Told) (lines : List ToldLine) → TellMessages reports lines → TellMessages (reports ++ []) (lines ++ [])
silent reports lines tells =
    subst (λ (ls : List ToldLine). TellMessages (reports ++ []) ls) (sym (append-nil lines))
    (subst (λ (xs : List Told). TellMessages xs lines) (sym (append-nil reports)) tells)

telling : (reports : List Told) (lines : List ToldLine) (x : Told) (now : ℕ) → TellMessages reports lines
    → TellMessages (reports ++ report_in x) (lines ++ messages_in (kept (wait_of x) now (told_text x)))
telling reports lines (told.Message link m) now tells = message link m now tells
telling reports lines (told.InService link) now tells = subst (λ (ls : List ToldLine). TellMessages (reports ++ told.InService link ∷ []) ls) (sym (append-nil lines)) (another (told.InService link) (λ is. absurd (let e : Never ≡ Message = is in cc)) tells)
telling reports lines (told.Down link reason) now tells = subst (λ (ls : List ToldLine). TellMessages (reports ++ told.Down link reason ∷ []) ls) (sym (append-nil lines)) (another (told.Down link reason) (λ is. absurd (let e : Other ≡ Message = is in cc)) tells)
telling reports lines (told.FarOut link) now tells = subst (λ (ls : List ToldLine). TellMessages (reports ++ told.FarOut link ∷ []) ls) (sym (append-nil lines)) (another (told.FarOut link) (λ is. absurd (let e : Never ≡ Message = is in cc)) tells)
telling reports lines (told.FarBack link) now tells = subst (λ (ls : List ToldLine). TellMessages (reports ++ told.FarBack link ∷ []) ls) (sym (append-nil lines)) (another (told.FarBack link) (λ is. absurd (let e : Never ≡ Message = is in cc)) tells)
telling reports lines (told.Started link) now tells = silent reports lines tells
telling reports lines (told.Changeover link) now tells = silent reports lines tells
telling reports lines (told.Says link kind by_link) now tells = silent reports lines tells
telling reports lines (told.Hears link kind by_link) now tells = silent reports lines tells
telling reports lines (told.Unsure link count) now tells = silent reports lines tells
telling reports lines (told.Diverted link count) now tells = silent reports lines tells
telling reports lines (told.Tested link) now tells = silent reports lines tells
telling reports lines (told.Looped link) now tells = silent reports lines tells
telling reports lines (told.Shared shared) now tells = silent reports lines tells
telling reports lines told.ReaderAway now tells = silent reports lines tells
telling reports lines told.ReaderBack now tells = silent reports lines tells

tells_on : (reports : List Told) (lines : List ToldLine) (t : Tended) (bytes : List ToldLine) (u : Tended) → TellMessages reports lines → (made : Tells t bytes u)
    → TellMessages (reports ++ told_in made) (lines ++ messages_in bytes)
tells_on reports lines t _ _ tells nothing = silent reports lines tells
tells_on reports lines t _ _ tells (one {bytes} {u} {w} x before taking) =
    let so_far = tells_on reports lines t bytes u tells before in
    let more = telling (reports ++ told_in before) (lines ++ messages_in bytes) x w.ticks so_far in
    let line : List ToldLine = kept (wait_of x) w.ticks (told_text x) in
    subst (λ (ls : List ToldLine). TellMessages (reports ++ (told_in before ++ report_in x)) ls)
    (append_assoc lines (messages_in bytes) (messages_in line) ∙ ap (λ (ls : List ToldLine). lines ++ ls) (sym (messages-append bytes line)))
    (subst (λ (xs : List Told). TellMessages xs ((lines ++ messages_in bytes) ++ messages_in line)) (append_assoc reports (told_in before) (report_in x)) more)

-- ---- rounds

-- none of the lines is a message
quiet_on : (reports : List Told) (lines bytes : List ToldLine) → Quiet bytes → TellMessages reports lines → TellMessages reports (lines ++ messages_in bytes)
quiet_on reports lines bytes none tells =
    subst (λ (ls : List ToldLine). TellMessages reports (lines ++ ls)) (sym none) (subst (λ (ls : List ToldLine). TellMessages reports ls) (sym (append-nil lines)) tells)

joined : (a b c d e lines : List ToldLine)
    → ((((lines ++ messages_in a) ++ messages_in b) ++ messages_in c) ++ messages_in d) ++ messages_in e ≡ lines ++ messages_in ((((a ++ b) ++ c) ++ d) ++ e)
joined a b c d e lines =
    let f : (xs ys : List ToldLine) → (lines ++ messages_in xs) ++ messages_in ys ≡ lines ++ messages_in (xs ++ ys) =
    λ xs ys. append_assoc lines (messages_in xs) (messages_in ys) ∙ ap (λ (ls : List ToldLine). lines ++ ls) (sym (messages-append xs ys)) in
    ap (λ (ls : List ToldLine). ((ls ++ messages_in c) ++ messages_in d) ++ messages_in e) (f a b)
    ∙ (ap (λ (ls : List ToldLine). (ls ++ messages_in d) ++ messages_in e) (f (a ++ b) c)
    ∙ (ap (λ (ls : List ToldLine). ls ++ messages_in e) (f ((a ++ b) ++ c) d) ∙ f (((a ++ b) ++ c) ++ d) e))

round_told : {slow : ℕ} (ahead : ℕ) (p q : SetPlace) (reports : List Told) (lines bytes : List ToldLine) (traffic : List Traffic) (goes_on : Bool) → TellMessages reports lines
    → (is : IsRound ahead slow p bytes traffic goes_on q)
    → TellMessages ((reports ++ told_in is.tells.tells) ++ told_in is.tells_more.tells) (lines ++ messages_in bytes)
round_told {slow} ahead p q reports lines bytes traffic goes_on tells is =
    let zeroth : List ToldLine = late_told p.stood.tender.ticks slow in
    let begun = quiet_on reports lines zeroth (late_by (slow == 0) p.stood.tender.ticks slow) tells in
    let carried = quiet_on reports (lines ++ messages_in zeroth) is.first (quiet_lines ahead p.stood.tender p.wires (length p.wires) is.first traffic is.carried q.wires is.carries) begun in
    let told_one = tells_on reports ((lines ++ messages_in zeroth) ++ messages_in is.first) is.tended is.second is.calm carried is.tells.tells in
    let obeyed = quiet_on (reports ++ told_in is.tells.tells) (((lines ++ messages_in zeroth) ++ messages_in is.first) ++ messages_in is.second) is.third
    (quiet_all _ p.waiting p.left is.third _ q.waiting q.left is.attends) told_one in
    let told_two = tells_on (reports ++ told_in is.tells.tells) ((((lines ++ messages_in zeroth) ++ messages_in is.first) ++ messages_in is.second) ++ messages_in is.third)
    is.departed.tender is.fourth is.last obeyed is.tells_more.tells in
    subst (λ (ls : List ToldLine). TellMessages ((reports ++ told_in is.tells.tells) ++ told_in is.tells_more.tells) (lines ++ messages_in ls)) (sym is.are)
    (subst (λ (ls : List ToldLine). TellMessages ((reports ++ told_in is.tells.tells) ++ told_in is.tells_more.tells) ls)
    (joined zeroth is.first is.second is.third is.fourth lines) told_two)

pub told_once : (ahead : ℕ) (p q : SetPlace) (bytes : List ToldLine) (traffic : List Traffic) (goes_on : Bool) → (run : Rounds ahead p bytes traffic goes_on q)
    → TellMessages (told_along run) (messages_in bytes)
told_once ahead p _ _ _ _ begins = no_report
told_once ahead p _ _ _ _ (round {bytes} {traffic} {q} {r} more others goes_on before is) =
    subst (λ (ls : List ToldLine). TellMessages ((told_along before ++ told_in is.tells.tells) ++ told_in is.tells_more.tells) ls) (sym (messages-append bytes more))
    (round_told ahead q r (told_along before) (messages_in bytes) more others goes_on (told_once ahead p q bytes traffic true before) is)
