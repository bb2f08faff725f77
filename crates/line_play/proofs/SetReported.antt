-- The messages that links delivered along a run, and the lines that report them.
use Rattle.std.proofs.Common.{◌≡◌, ◌≢◌, ◌∙◌, ℕ, ◌+◌, if◌then◌else◌, Bool, true, false, List, [], ◌∷◌, ◌++◌, append-nil, append_assoc, true≢false, flat_map, refl, sym, ap, subst}
use Rattle.std.proofs.lemmas.Grind.{flat_map-append}
use Rattle.script_links.specs.resend_store_types.messages.Msu.{Msu}
use Rattle.link_transceiver.specs.declared.signals.LinkStatus.{LinkStatus}
use Rattle.link_transceiver.specs.declared.signals.LinkStatus.TheVariants as status
use Rattle.link_transceiver.specs.declared.signals.Report.{Report}
use Rattle.link_transceiver.specs.declared.signals.Report.TheVariants as report
use Rattle.line_filter.specs.Reporting.{ToldLine, Stand, whole, queued, octets_of, has_to_wait, IsToGo, alone, GoFirst, Queues, went, waits_behind, counted, GoOn, no_line, one_line, go_first, TellsLines}
use Rattle.line_filter.specs.declared.reports.Wait.{Wait}
use Rattle.line_filter.specs.declared.reports.Wait.TheVariants.{Never, Message, Answer, Other}
use Rattle.line_filter.proofs.Reporting.{tells_none, tells_trans, tells_moved}
use Rattle.line_tending.specs.Calling.{Handed}
use Rattle.line_tending.specs.Lives.{Lived}
use Rattle.line_tending.specs.Rounds.{reports_told}
use Rattle.line_tending.specs.Telling.{is_for_user, status_told, report_told}
use Rattle.line_tending.specs.Tended.{Tended}
use Rattle.line_tending.specs.declared.tended_set.TendPlan.{TendPlan}
use Rattle.line_tending.specs.declared.told.Told.{Told}
use Rattle.line_tending.specs.declared.told.Told.TheVariants as told
use Rattle.line_tending.proofs.Lives.{lives_calls, lives_told}
use Rattle.line_play.specs.LineTraffic.{Traffic}
use Rattle.line_play.specs.SetDoing.{Stood}
use Rattle.line_play.specs.SetLaws.{sent_along, told_along}
use Rattle.line_play.specs.SetMessages.{messages_in, TellMessages, no_report, message as message_so, another}
use Rattle.line_play.specs.SetReported.{Delivered, delivered_in, delivered, message_line, ReportEach, no_message, one_message, AreKept, none_kept, one_kept, one_lost, AreWritten, AreReported}
use Rattle.line_play.specs.SetRounds.{late_told, SetPlace, IsRound, Rounds, begins, round}
use Rattle.line_play.specs.SetSaying.{wait_of}
use Rattle.line_play.proofs.SetLaws.{lived_along}
use Rattle.line_play.proofs.SetMessages.{told_once}

-- ---- the first of the lines that wait are written

octets_more : (xs ys : List ToldLine) → octets_of (xs ++ ys) ≡ octets_of xs ++ octets_of ys
octets_more xs ys = flat_map-append (λ (l : ToldLine). l.octets) xs ys

first_then : (gone : List ℕ) (ws : List ToldLine) (mid : List ℕ) (left : List ToldLine) (last : List ℕ) (last_left : List ToldLine) → GoFirst gone ws mid left
    → GoFirst mid left last last_left → GoFirst gone ws last last_left
first_then gone ws mid left last last_left before after = record {
  first = before.first ++ after.first;
  parts = before.parts ∙ (ap (λ (l : List ToldLine). before.first ++ l) after.parts ∙ sym (append_assoc before.first after.first last_left));
  goes =
      after.goes
      ∙ (ap (λ (l : List ℕ). l ++ octets_of after.first) before.goes
      ∙ (append_assoc gone (octets_of before.first) (octets_of after.first)
      ∙ ap (λ (l : List ℕ). gone ++ l) (sym (octets_more before.first after.first))));
}

first_behind : (gone : List ℕ) (ws : List ToldLine) (mid : List ℕ) (left xs : List ToldLine) → GoFirst gone ws mid left → GoFirst gone (ws ++ xs) mid (left ++ xs)
first_behind gone ws mid left xs before = record {
  first = before.first;
  parts = ap (λ (l : List ToldLine). l ++ xs) before.parts ∙ append_assoc before.first left xs;
  goes = before.goes;
}

all_first : (gone : List ℕ) (ws : List ToldLine) (last : List ℕ) → last ≡ gone ++ octets_of ws → GoFirst gone ws last []
all_first gone ws last is = record { first = ws; parts = sym (append-nil ws); goes = is }

-- ---- the lines that are kept

pub record KeptSo (gone : List ℕ) (waits : List ToldLine) (lost : ℕ) (lines : List ToldLine) (later : List ℕ) (left : List ToldLine) (more : ℕ) : Type 0 where
  pub keep : List ToldLine
  pub are : AreKept lost lines keep more
  pub goes : GoFirst gone (waits ++ keep) later left

-- one more line is kept, and the first of those that wait go
keep_one : (gone : List ℕ) (waits keep : List ToldLine) (later : List ℕ) (left : List ToldLine) (x : ToldLine) (last : List ℕ) (last_left : List ToldLine)
    → GoFirst gone (waits ++ keep) later left → GoFirst later (left ++ x ∷ []) last last_left → GoFirst gone (waits ++ (keep ++ x ∷ [])) last last_left
keep_one gone waits keep later left x last last_left before after =
    subst (λ (l : List ToldLine). GoFirst gone l last last_left) (append_assoc waits keep (x ∷ []))
    (first_then gone ((waits ++ keep) ++ x ∷ []) later (left ++ x ∷ []) last last_left (first_behind gone (waits ++ keep) later left (x ∷ []) before) after)

octets_one : (left : List ToldLine) (x : ToldLine) → octets_of (left ++ x ∷ []) ≡ octets_of left ++ x.octets
octets_one left x = octets_more left (x ∷ []) ∙ ap (λ (l : List ℕ). octets_of left ++ l) (append-nil x.octets)

line_kept : (gone : List ℕ) (waits : List ToldLine) (lost : ℕ) (lines : List ToldLine) (later : List ℕ) (left : List ToldLine) (more : ℕ) (line : ToldLine) (last : List ℕ)
    (last_left : List ToldLine) (most : ℕ) → KeptSo gone waits lost lines later left more → Queues line later left more last last_left most
    → KeptSo gone waits lost (lines ++ line ∷ []) last last_left most
line_kept gone waits lost lines later left more line last last_left most before (went text to_go is none zero) =
    let x : ToldLine = record { wait = line.wait; octets = text } in
    let so : last ≡ later ++ octets_of (left ++ x ∷ []) = is ∙ (append_assoc later (octets_of left) text ∙ ap (λ (l : List ℕ). later ++ l) (sym (octets_one left x))) in
    record {
      keep = before.keep ++ x ∷ [];
      are = subst (λ (n : ℕ). AreKept lost (lines ++ line ∷ []) (before.keep ++ x ∷ []) n) (sym zero) (one_kept line text before.are to_go);
      goes = subst (λ (l : List ToldLine). GoFirst gone (waits ++ (before.keep ++ x ∷ [])) last l) (sym none)
          (keep_one gone waits before.keep later left x last [] before.goes (all_first later (left ++ x ∷ []) last so));
    }
line_kept gone waits lost lines later left more line last last_left most before (waits_behind text to_go has first zero) =
    let x : ToldLine = record { wait = line.wait; octets = text } in
    record {
      keep = before.keep ++ x ∷ [];
      are = subst (λ (n : ℕ). AreKept lost (lines ++ line ∷ []) (before.keep ++ x ∷ []) n) (sym zero) (one_kept line text before.are to_go);
      goes = keep_one gone waits before.keep later left x last last_left before.goes first;
    }
line_kept gone waits lost lines later left more line last last_left most before (counted never first one) = record {
  keep = before.keep;
  are = subst (λ (n : ℕ). AreKept lost (lines ++ line ∷ []) before.keep n) (sym one) (one_lost line before.are never);
  goes = first_then gone (waits ++ before.keep) later left last last_left before.goes first;
}

kept_of : (gone : List ℕ) (waits : List ToldLine) (lost : ℕ) (lines : List ToldLine) (later : List ℕ) (left : List ToldLine) (more : ℕ) → GoOn gone waits lost lines later left more
    → KeptSo gone waits lost lines later left more
kept_of gone waits lost _ _ _ _ no_line =
    record { keep = []; are = none_kept; goes = record { first = []; parts = append-nil waits; goes = sym (append-nil gone) } }
kept_of gone waits lost _ _ _ _ (one_line {lines} {later} {left} {more} line last last_left most rest goes) =
    line_kept gone waits lost lines later left more line last last_left most (kept_of gone waits lost lines later left more rest) goes
kept_of gone waits lost _ _ _ _ (go_first {lines} {later} {left} {more} last last_left rest goes) =
    let before : KeptSo gone waits lost lines later left more = kept_of gone waits lost lines later left more rest in
    record { keep = before.keep; are = before.are; goes = first_then gone (waits ++ before.keep) later left last last_left before.goes goes }

-- ---- the messages among the lines that are kept

-- a line, and what is kept of it
pub record OneOf (line keep : ToldLine) : Type 0 where
  pub lost : ℕ
  pub to_go : IsToGo lost line.octets keep.octets
  pub wait : keep.wait ≡ line.wait

abbrev EachOf : List ToldLine → List ToldLine → Type 0
EachOf [] [] = Unit {0}
EachOf [] (k ∷ ks) = ⊥
EachOf (l ∷ ls) [] = ⊥
EachOf (l ∷ ls) (k ∷ ks) = OneOf l k × EachOf ls ks

each_more : (ls ks : List ToldLine) (l k : ToldLine) → EachOf ls ks → OneOf l k → EachOf (ls ++ l ∷ []) (ks ++ k ∷ [])
each_more [] [] l k each last = (last, tt)
each_more [] (x ∷ ks) l k each last = absurd each
each_more (x ∷ ls) [] l k each last = absurd each
each_more (x ∷ ls) (y ∷ ks) l k each last = (each.0, each_more ls ks l k each.1 last)

each_same : (ls : List ToldLine) → EachOf ls ls
each_same [] = tt
each_same (l ∷ ls) = (record { lost = 0; to_go = alone refl refl; wait = refl }, each_same ls)

pub record LastOf (ls : List ToldLine) (l : ToldLine) (ks : List ToldLine) : Type 0 where
  pub before : List ToldLine
  pub last : ToldLine
  pub are : ks ≡ before ++ last ∷ []
  pub each : EachOf ls before
  pub one : OneOf l last

last_of : (ls : List ToldLine) (l : ToldLine) (ks : List ToldLine) → EachOf (ls ++ l ∷ []) ks → LastOf ls l ks
last_of [] l [] each = absurd each
last_of [] l (k ∷ []) each = record { before = []; last = k; are = refl; each = tt; one = each.0 }
last_of [] l (k ∷ x ∷ ks) each = absurd each.1
last_of (x ∷ ls) l [] each = absurd each
last_of (x ∷ ls) l (k ∷ ks) each =
    let rest : LastOf ls l ks = last_of ls l ks each.1 in
    record { before = k ∷ rest.before; last = rest.last; are = ap (λ (ys : List ToldLine). k ∷ ys) rest.are; each = (each.0, rest.each); one = rest.one }

chosen : (b : Bool) (l : ToldLine) (xs ys zs : List ToldLine) → xs ≡ ys ++ zs → (if b then l ∷ xs else xs) ≡ (if b then l ∷ ys else ys) ++ zs
chosen true l xs ys zs is = ap (λ (ls : List ToldLine). l ∷ ls) is
chosen false l xs ys zs is = is

messages_more : (xs ys : List ToldLine) → messages_in (xs ++ ys) ≡ messages_in xs ++ messages_in ys
messages_more [] ys = refl
messages_more (x ∷ xs) ys = chosen _ x (messages_in (xs ++ ys)) (messages_in xs) (messages_in ys) (messages_more xs ys)

-- a line that is no message
message_passed : (ls ks xs ys : List ToldLine) → messages_in xs ≡ [] → messages_in ys ≡ [] → EachOf (messages_in ls) (messages_in ks)
    → EachOf (messages_in (ls ++ xs)) (messages_in (ks ++ ys))
message_passed ls ks xs ys none none_kept_so each =
    let first : messages_in (ls ++ xs) ≡ messages_in ls = messages_more ls xs ∙ (ap (λ (l : List ToldLine). messages_in ls ++ l) none ∙ append-nil (messages_in ls)) in
    let second : messages_in (ks ++ ys) ≡ messages_in ks = messages_more ks ys ∙ (ap (λ (l : List ToldLine). messages_in ks ++ l) none_kept_so ∙ append-nil (messages_in ks)) in
    subst (λ (l : List ToldLine). EachOf l (messages_in (ks ++ ys))) (sym first) (subst (λ (l : List ToldLine). EachOf (messages_in ls) l) (sym second) each)

message_one : (ls ks : List ToldLine) (wait : Wait) (octets text : List ℕ) (lost : ℕ) → IsToGo lost octets text → EachOf (messages_in ls) (messages_in ks)
    → EachOf (messages_in (ls ++ record { wait = wait; octets = octets } ∷ [])) (messages_in (ks ++ record { wait = wait; octets = text } ∷ []))
message_one ls ks Never octets text lost to_go each = message_passed ls ks (record { wait = Never; octets = octets } ∷ []) (record { wait = Never; octets = text } ∷ []) refl refl each
message_one ls ks Answer octets text lost to_go each = message_passed ls ks (record { wait = Answer; octets = octets } ∷ []) (record { wait = Answer; octets = text } ∷ []) refl refl each
message_one ls ks Other octets text lost to_go each = message_passed ls ks (record { wait = Other; octets = octets } ∷ []) (record { wait = Other; octets = text } ∷ []) refl refl each
message_one ls ks Message octets text lost to_go each =
    let l : ToldLine = record { wait = Message; octets = octets } in
    let k : ToldLine = record { wait = Message; octets = text } in
    subst (λ (xs : List ToldLine). EachOf xs (messages_in (ks ++ k ∷ []))) (sym (messages_more ls (l ∷ [])))
    (subst (λ (xs : List ToldLine). EachOf (messages_in ls ++ l ∷ []) xs) (sym (messages_more ks (k ∷ [])))
    (each_more (messages_in ls) (messages_in ks) l k each (record { lost = lost; to_go = to_go; wait = refl })))

-- a line that may be lost is no message
never_message : (wait : Wait) (octets : List ℕ) → has_to_wait wait ≡ false → messages_in (record { wait = wait; octets = octets } ∷ []) ≡ []
never_message Never octets never = refl
never_message Message octets never = absurd (true≢false never)
never_message Answer octets never = refl
never_message Other octets never = refl

messages_kept : (lost : ℕ) (lines keep : List ToldLine) (more : ℕ) → AreKept lost lines keep more → EachOf (messages_in lines) (messages_in keep)
messages_kept lost _ _ _ none_kept = tt
messages_kept lost _ _ _ (one_kept {lines} {keep} {more} line text before to_go) =
    message_one lines keep line.wait line.octets text more to_go (messages_kept lost lines keep more before)
messages_kept lost _ _ _ (one_lost {lines} {keep} {more} line before never) =
    subst (λ (l : List ToldLine). EachOf (messages_in (lines ++ line ∷ [])) (messages_in l)) (append-nil keep)
    (message_passed lines keep (line ∷ []) [] (never_message line.wait line.octets never) refl (messages_kept lost lines keep more before))

-- ---- what was reported is written, or is kept

pub record WrittenSo (a b : Stand) (lines : List ToldLine) : Type 0 where
  pub keep : List ToldLine
  pub written : AreWritten a b lines keep
  pub messages : EachOf (messages_in lines) (messages_in keep)

written_of : (a b : Stand) (lines : List ToldLine) → TellsLines a b lines → WrittenSo a b lines
written_of (whole a) (whole b) lines tells = record { keep = lines; written = (refl, tells); messages = each_same (messages_in lines) }
written_of (whole a) (queued gone waits lost) lines tells = absurd tells
written_of (queued gone waits lost) (whole b) lines tells = absurd tells
written_of (queued gone waits lost) (queued later left more) lines tells =
    let so : KeptSo gone waits lost lines later left more = kept_of gone waits lost lines later left more tells in
    record { keep = so.keep; written = (so.are, so.goes); messages = messages_kept lost lines so.keep more so.are }

round_tells : {slow : ℕ} (ahead : ℕ) (p q : SetPlace) (bytes : List ToldLine) (traffic : List Traffic) (goes_on : Bool) → IsRound ahead slow p bytes traffic goes_on q
    → TellsLines p.reports q.reports bytes
round_tells {slow} ahead p q bytes traffic goes_on is =
    let begun : List ToldLine = (late_told p.stood.tender.ticks slow ++ is.first) ++ is.second in
    let moved : TellsLines p.reports is.moved begun =
    subst (λ (l : List ToldLine). TellsLines p.reports is.moved l) (append-nil begun)
    (tells_trans p.reports is.told is.moved begun [] is.first_told (tells_moved is.told is.moved is.moves)) in
    let attended : TellsLines p.reports is.attended (begun ++ is.third) = tells_trans p.reports is.moved is.attended begun is.third moved is.third_told in
    subst (λ (l : List ToldLine). TellsLines p.reports q.reports l) (sym is.are)
    (tells_trans p.reports is.attended q.reports (begun ++ is.third) is.fourth attended is.fourth_told)

run_tells : (ahead : ℕ) (p q : SetPlace) (bytes : List ToldLine) (traffic : List Traffic) (goes_on : Bool) → Rounds ahead p bytes traffic goes_on q → TellsLines p.reports q.reports bytes
run_tells ahead p _ _ _ _ begins = tells_none p.reports
run_tells ahead p _ _ _ _ (round {bytes} {traffic} {q} {r} more others goes_on before is) =
    tells_trans p.reports q.reports r.reports bytes more (run_tells ahead p q bytes traffic true before) (round_tells ahead q r more others goes_on is)

-- ---- the messages that links delivered

abbrev message_of : Told → List Delivered
message_of (told.Message link m) = record { link = link; message = m } ∷ []
message_of (told.InService link) = []
message_of (told.Down link reason) = []
message_of (told.FarOut link) = []
message_of (told.FarBack link) = []
message_of (told.Started link) = []
message_of (told.Changeover link) = []
message_of (told.Says link kind by_link) = []
message_of (told.Hears link kind by_link) = []
message_of (told.Unsure link count) = []
message_of (told.Diverted link count) = []
message_of (told.Tested link) = []
message_of (told.Looped link) = []
message_of (told.Shared shared) = []
message_of told.ReaderAway = []
message_of told.ReaderBack = []

abbrev messages_of : List Told → List Delivered
messages_of reports = flat_map message_of reports

no_message_of : (x : Told) → wait_of x ≢ Message → message_of x ≡ []
no_message_of (told.Message link m) other = absurd (other refl)
no_message_of (told.InService link) other = refl
no_message_of (told.Down link reason) other = refl
no_message_of (told.FarOut link) other = refl
no_message_of (told.FarBack link) other = refl
no_message_of (told.Started link) other = refl
no_message_of (told.Changeover link) other = refl
no_message_of (told.Says link kind by_link) other = refl
no_message_of (told.Hears link kind by_link) other = refl
no_message_of (told.Unsure link count) other = refl
no_message_of (told.Diverted link count) other = refl
no_message_of (told.Tested link) other = refl
no_message_of (told.Looped link) other = refl
no_message_of (told.Shared shared) other = refl
no_message_of told.ReaderAway other = refl
no_message_of told.ReaderBack other = refl

of_status : (link : ℕ) (s : LinkStatus) → messages_of (status_told link s) ≡ []
of_status link status.InService = refl
of_status link (status.Down reason) = refl
of_status link status.RemoteOut = refl
of_status link status.RemoteBack = refl
of_status link status.Cleared = refl

of_user : (link : ℕ) (m : Msu) (b : Bool) → messages_of (if b then told.Message link m ∷ [] else []) ≡ (if b then record { link = link; message = m } ∷ [] else [])
of_user link m true = refl
of_user link m false = refl

of_report : (p : TendPlan) (link : ℕ) (r : Report) → messages_of (report_told p link r) ≡ delivered_in p link r
of_report p link (report.Message m) = of_user link m (is_for_user p m)
of_report p link (report.Status s) = of_status link s

of_reports : (p : TendPlan) (hs : List Handed) → messages_of (reports_told p hs) ≡ delivered p hs
of_reports p [] = refl
of_reports p (h ∷ hs) =
    flat_map-append message_of (report_told p h.link h.report) (reports_told p hs)
    ∙ (ap (λ (l : List Delivered). l ++ messages_of (reports_told p hs)) (of_report p h.link h.report)
    ∙ ap (λ (l : List Delivered). delivered_in p h.link h.report ++ l) (of_reports p hs))

none_told : (ks : List ToldLine) → EachOf [] ks → ReportEach [] ks
none_told [] each = no_message
none_told (k ∷ ks) each = absurd each

one_told : (d : Delivered) (now : ℕ) (before : List Delivered) (lines : List ToldLine) (k : ToldLine) → ReportEach before lines
    → OneOf (record { wait = Message; octets = message_line now d }) k → ReportEach (before ++ d ∷ []) (lines ++ k ∷ [])
one_told d now before lines k tells one =
    let is : k ≡ record { wait = Message; octets = k.octets } = ap (λ (w : Wait). record { wait = w; octets = k.octets }) one.wait in
    subst (λ (l : ToldLine). ReportEach (before ++ d ∷ []) (lines ++ l ∷ [])) (sym is) (one_message d now one.lost k.octets tells one.to_go)

each_told : (reports : List Told) (lines ks : List ToldLine) → TellMessages reports lines → EachOf lines ks → ReportEach (messages_of reports) ks
each_told _ _ ks no_report each = none_told ks each
each_told _ _ ks (message_so {reports} {lines} link m now tells) each =
    let d : Delivered = record { link = link; message = m } in
    let so : LastOf lines (record { wait = Message; octets = message_line now d }) ks = last_of lines (record { wait = Message; octets = message_line now d }) ks each in
    subst (λ (l : List ToldLine). ReportEach (messages_of (reports ++ told.Message link m ∷ [])) l) (sym so.are)
    (subst (λ (l : List Delivered). ReportEach l (so.before ++ so.last ∷ [])) (sym (flat_map-append message_of reports (told.Message link m ∷ [])))
    (one_told d now (messages_of reports) so.before so.last (each_told reports lines so.before tells so.each) so.one))
each_told _ _ ks (another {reports} {lines} x other tells) each =
    let same : messages_of (reports ++ x ∷ []) ≡ messages_of reports =
    flat_map-append message_of reports (x ∷ [])
    ∙ (ap (λ (l : List Delivered). messages_of reports ++ l) (append-nil (message_of x) ∙ no_message_of x other) ∙ append-nil (messages_of reports)) in
    subst (λ (l : List Delivered). ReportEach l ks) (sym same) (each_told reports lines ks tells each)

-- ---- along a run

-- no report is left after a round
none_left : (ahead : ℕ) (p q : SetPlace) (bytes : List ToldLine) (traffic : List Traffic) (goes_on : Bool) → Rounds ahead p bytes traffic goes_on q → p.stood.tender.reports ≡ []
    → q.stood.tender.reports ≡ []
none_left ahead p _ _ _ _ begins none_yet = none_yet
none_left ahead p _ _ _ _ (round {bytes} {traffic} {q} {r} more others goes_on before is) none_yet =
    ap (λ (x : Stood). x.tender.reports) is.stood_is ∙ is.tells_more.none_left

pub reported_along : (ahead : ℕ) (p q : SetPlace) (bytes : List ToldLine) (traffic : List Traffic) (goes_on : Bool) → (run : Rounds ahead p bytes traffic goes_on q)
    → p.stood.tender.reports ≡ [] → AreReported p.stood.tender q.stood.tender (sent_along run) p.reports q.reports bytes
reported_along ahead p q bytes traffic goes_on run none_yet =
    let t : Tended = p.stood.tender in
    let u : Tended = q.stood.tender in
    let life : Lived t (sent_along run) (told_along run) u = lived_along ahead p q bytes traffic goes_on run in
    let told_is : told_along run ≡ reports_told t.plan life.handed =
    sym (append-nil (told_along run))
    ∙ (ap (λ (l : List Told). told_along run ++ l) (sym (none_left ahead p q bytes traffic goes_on run none_yet))
    ∙ (lives_told t u (sent_along run) life.handed (told_along run) life.lives ∙ ap (λ (l : List Told). l ++ reports_told t.plan life.handed) none_yet)) in
    let so : WrittenSo p.reports q.reports bytes = written_of p.reports q.reports bytes (run_tells ahead p q bytes traffic goes_on run) in
    let each : ReportEach (messages_of (told_along run)) (messages_in so.keep) =
    each_told (told_along run) (messages_in bytes) (messages_in so.keep) (told_once ahead p q bytes traffic goes_on run) so.messages in
    record {
      handed = life.handed;
      calls = lives_calls t u (sent_along run) life.handed (told_along run) life.lives;
      keep = so.keep;
      written = so.written;
      reports = subst (λ (l : List Delivered). ReportEach l (messages_in so.keep)) (ap messages_of told_is ∙ of_reports t.plan life.handed) each;
    }
