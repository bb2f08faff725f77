-- How long orders have waited.
use Rattle.std.proofs.Common.{◌≡◌, ◌∙◌, ℕ, ◌+◌, ◌-◌, ◌^◌, ◌<◌, ◌≤◌, nat_lt, min, Bool, true, false, List, [], ◌∷◌, ◌++◌, length, All, true≢false, refl, sym, ap, subst, arith}
use Rattle.std.proofs.lemmas.Bool.Decides.{nat_tests}
use Rattle.std.proofs.lemmas.List.Elements.{All-nil, All-cons}
use Rattle.script_links.specs.resend_store_types.messages.Msu.{Msu}
use Rattle.line_filter.specs.Reporting.{ToldLine}
use Rattle.line_filter.specs.Speaking.{Voice, fixed, fresh, silent}
use Rattle.line_tending.specs.LinkLines.{GivesNext, Speaks, nothing as no_octet, octet, Hears, no_part, one_part, Passes, some, none, heard_at, SILENT}
use Rattle.line_tending.specs.Rounds.{AddsOrders, AddsHeeded}
use Rattle.line_tending.specs.Tended.{Tended}
use Rattle.line_tending.specs.declared.link_line.LineChange.{LineChange}
use Rattle.line_tending.specs.declared.link_line.LinkLine.{LinkLine}
use Rattle.line_tending.proofs.Doing.{adds_of, heeded_nothing, tends_heeded}
use Rattle.line_play.specs.LineTraffic.{Traffic}
use Rattle.line_play.specs.SetDoing.{Stood, marked}
use Rattle.line_play.specs.SetLeaving.{Departs, goes_on, stops, ends as is_over}
use Rattle.line_play.specs.SetQueues.{Waited, PATIENCE, selection_in, any_of, is_early, PlainSent, taken, refused, held, AsksOf, is_taken, unlabelled, turned_down, is_kept, is_moving, Asks, no_message, is_message, Tries, leaves, takes, refuses, waits_on, Retries, none_yet, behind, holds, goes}
use Rattle.line_play.specs.SetRounds.{Carries, passes, misses, ends, fails, opens, CarriesAll, no_link, one_link, Tells, nothing, one, SetPlace, IsRound}

-- ---- lists

abbrev pub Each : {A : Type 0} → (A → Type 0) → List A → Type 0
Each P [] = Unit {0}
Each P (x ∷ xs) = P x × Each P xs

pub each_more : {A : Type 0} (P : A → Type 0) (xs : List A) (x : A) → Each P xs → P x → Each P (xs ++ x ∷ [])
each_more P [] x before last = (last, tt)
each_more P (y ∷ xs) x before last = (before.0, each_more P xs x before.1 last)

pub each_then : {A : Type 0} (P : A → Type 0) (xs ys : List A) → Each P xs → Each P ys → Each P (xs ++ ys)
each_then P [] ys before after = after
each_then P (x ∷ xs) ys before after = (before.0, each_then P xs ys before.1 after)

pub each_front : {A : Type 0} (P : A → Type 0) (xs : List A) (x : A) → Each P (xs ++ x ∷ []) → Each P xs
each_front P [] x all = tt
each_front P (y ∷ xs) x all = (all.0, each_front P xs x all.1)

pub each_last : {A : Type 0} (P : A → Type 0) (xs : List A) (x : A) → Each P (xs ++ x ∷ []) → P x
each_last P [] x all = all.0
each_last P (y ∷ xs) x all = each_last P xs x all.1

pub each_weaker : {A : Type 0} (P Q : A → Type 0) → ((x : A) → P x → Q x) → (xs : List A) → Each P xs → Each Q xs
each_weaker P Q f [] all = tt
each_weaker P Q f (x ∷ xs) all = (f x all.0, each_weaker P Q f xs all.1)

pub all_of : {A : Type 0} (P : A → Type 0) (xs : List A) → Each P xs → All P xs
all_of P [] all = All-nil P
all_of P (x ∷ xs) all = All-cons P x xs all.0 (all_of P xs all.1)

-- ---- waiting orders

-- it came 5 s ago at most, or less than 5 s ago
pub record Fresh (now : ℕ) (w : Waited) : Type 0 where
  pub came : w.since ≤ now
  pub soon : now ≤ w.since + PATIENCE
  pub small : w.since < 2 ^ 64

pub record Early (now : ℕ) (w : Waited) : Type 0 where
  pub came : w.since ≤ now
  pub soon : now < w.since + PATIENCE
  pub small : w.since < 2 ^ 64

-- each came no earlier than those before it
abbrev pub Rising : List Waited → Type 0
Rising [] = Unit {0}
Rising (w ∷ ws) = Each (λ (v : Waited). w.since ≤ v.since) ws × Rising ws

pub record InTime (now : ℕ) (ws : List Waited) : Type 0 where
  pub rising : Rising ws
  pub early : Each (Early now) ws

pub rising_front : (ws : List Waited) (w : Waited) → Rising (ws ++ w ∷ []) → Rising ws
rising_front [] w all = tt
rising_front (v ∷ ws) w all = (each_front (λ (x : Waited). v.since ≤ x.since) ws w all.0, rising_front ws w all.1)

pub rising_last : (ws : List Waited) (w : Waited) → Rising (ws ++ w ∷ []) → Each (λ (v : Waited). v.since ≤ w.since) ws
rising_last [] w all = tt
rising_last (v ∷ ws) w all = (each_last (λ (x : Waited). v.since ≤ x.since) ws w all.0, rising_last ws w all.1)

pub rising_more : (ws : List Waited) (w : Waited) → Rising ws → Each (λ (v : Waited). v.since ≤ w.since) ws → Rising (ws ++ w ∷ [])
rising_more [] w all low = (tt, tt)
rising_more (v ∷ ws) w all low = (each_more (λ (x : Waited). v.since ≤ x.since) ws w all.0 low.0, rising_more ws w all.1 low.1)

-- one more comes now
pub arrives : (now : ℕ) (ws : List Waited) (w : Waited) → InTime now ws → w.since ≡ now → now < 2 ^ 64 → InTime now (ws ++ w ∷ [])
arrives now ws w before is small =
    let low : Each (λ (v : Waited). v.since ≤ w.since) ws =
    each_weaker (Early now) (λ (v : Waited). v.since ≤ w.since) (λ (v : Waited) (early : Early now v). omega (arith, early.came, is)) ws before.early in
    let early : Early now w = record { came = omega (arith, is); soon = omega (arith, is); small = omega (arith, is, small) } in
    record { rising = rising_more ws w before.rising low; early = each_more (Early now) ws w before.early early }

-- a millisecond later
pub later_by_one : (now next : ℕ) (ws : List Waited) → next ≡ min (2 ^ 64 - 1) (now + 1) → Each (Early now) ws → Each (Fresh next) ws
later_by_one now next ws is all =
    each_weaker (Early now) (Fresh next)
    (λ (w : Waited) (early : Early now w). record { came = omega (arith, is, early.came, early.small); soon = omega (arith, is, early.soon); small = early.small }) ws all

-- it waits after one of its selection, which came no later and is early
early_behind : (now s : ℕ) (ws : List Waited) (w : Waited) → any_of s ws ≡ true → Each (λ (v : Waited). v.since ≤ w.since) ws → Each (Early now) ws → Fresh now w → Early now w
early_behind now s [] w some_wait low early recent = absurd (true≢false (sym some_wait))
early_behind now s (v ∷ ws) w some_wait low early recent =
    record { came = recent.came; soon = omega (arith, early.0.soon, low.0); small = recent.small }

below_by : (n m : ℕ) → nat_lt n m ≡ true → n < m
below_by n m shown = grind (arith, nat_tests)

early_now : (now : ℕ) (w : Waited) → is_early now w ≡ true → now < w.since + PATIENCE
early_now now w shown =
    let so : now < min (2 ^ 64 - 1) (w.since + PATIENCE) = below_by now (min (2 ^ 64 - 1) (w.since + PATIENCE)) shown in
    omega (arith, so)

-- ---- a message is tried

asking_ticks : (m : Msu) (patient : Bool) (t u : Tended) (r : PlainSent) → AsksOf m patient t r u → u.ticks ≡ t.ticks
asking_ticks m patient t _ _ (is_taken room acts) = acts.ticks
asking_ticks m patient t _ _ (unlabelled none_there) = refl
asking_ticks m patient t _ _ (turned_down why fault not_later) = refl
asking_ticks m patient t _ _ (is_kept why patient_so fault later) = refl
asking_ticks m patient t _ _ (is_moving patient_so there) = refl

asked_ticks : (octets : List ℕ) (patient : Bool) (t u : Tended) (r : PlainSent) → Asks octets patient t r u → u.ticks ≡ t.ticks
asked_ticks octets patient t _ _ (no_message none_there) = refl
asked_ticks octets patient t _ _ (is_message {sent} {u} m is asks) = asking_ticks m patient t u sent asks

pub tries_ticks : (text octets : List ℕ) (patient : Bool) (p : Stood) (bytes : List ToldLine) (went : Bool) (q : Stood) → Tries text octets patient p bytes went q
    → q.tender.ticks ≡ p.tender.ticks
tries_ticks text octets patient p _ _ _ (leaves ended) = refl
tries_ticks text octets patient p _ _ _ (takes {u} going asks) = asked_ticks octets patient p.tender u taken asks
tries_ticks text octets patient p _ _ _ (refuses {u} why going asks) = asked_ticks octets patient p.tender u (refused why) asks
tries_ticks text octets patient p _ _ _ (waits_on {u} going asks) = asked_ticks octets patient p.tender u held asks

abbrev is_held : PlainSent → Bool
is_held taken = false
is_held (refused why) = false
is_held held = true

-- only one that may still wait waits on
asking_patient : (m : Msu) (patient : Bool) (t u : Tended) (r : PlainSent) → is_held r ≡ true → AsksOf m patient t r u → patient ≡ true
asking_patient m patient t _ _ is (is_taken room acts) = absurd (true≢false (sym is))
asking_patient m patient t _ _ is (unlabelled none_there) = absurd (true≢false (sym is))
asking_patient m patient t _ _ is (turned_down why fault not_later) = absurd (true≢false (sym is))
asking_patient m patient t _ _ is (is_kept why patient_so fault later) = patient_so
asking_patient m patient t _ _ is (is_moving patient_so there) = patient_so

asked_patient : (octets : List ℕ) (patient : Bool) (t u : Tended) (r : PlainSent) → is_held r ≡ true → Asks octets patient t r u → patient ≡ true
asked_patient octets patient t _ _ is (no_message none_there) = absurd (true≢false (sym is))
asked_patient octets patient t _ _ is (is_message {sent} {u} m message asks) = asking_patient m patient t u sent is asks

tries_patient : (text octets : List ℕ) (patient : Bool) (p : Stood) (bytes : List ToldLine) (went : Bool) (q : Stood) → went ≡ false → Tries text octets patient p bytes went q
    → patient ≡ true
tries_patient text octets patient p _ _ _ is (leaves ended) = absurd (true≢false is)
tries_patient text octets patient p _ _ _ is (takes going asks) = absurd (true≢false is)
tries_patient text octets patient p _ _ _ is (refuses why going asks) = absurd (true≢false is)
tries_patient text octets patient p _ _ _ is (waits_on {u} going asks) = asked_patient octets patient p.tender u held refl asks

-- ---- waiting orders are tried again

pub record StaysSo (now : ℕ) (ws : List Waited) (q : Stood) (stay : List Waited) : Type 0 where
  pub ticks : q.tender.ticks ≡ now
  pub inside : InTime now stay
  pub low : (n : ℕ) → Each (λ (v : Waited). v.since ≤ n) ws → Each (λ (v : Waited). v.since ≤ n) stay

-- one more of them waits on
stays_more : (now : ℕ) (ws : List Waited) (q r : Stood) (stay : List Waited) (w : Waited) → Rising (ws ++ w ∷ []) → StaysSo now ws q stay → r.tender.ticks ≡ now → Early now w
    → StaysSo now (ws ++ w ∷ []) r (stay ++ w ∷ [])
stays_more now ws q r stay w rising before ticks early = record {
  ticks = ticks;
  inside = record {
    rising = rising_more stay w before.inside.rising (before.low w.since (rising_last ws w rising));
    early = each_more (Early now) stay w before.inside.early early;
  };
  low = λ n all.
      each_more (λ (v : Waited). v.since ≤ n) stay w (before.low n (each_front (λ (v : Waited). v.since ≤ n) ws w all)) (each_last (λ (v : Waited). v.since ≤ n) ws w all);
}

pub retries_times : (now : ℕ) (p : Stood) (ws : List Waited) (bytes : List ToldLine) (q : Stood) (stay : List Waited) → Retries p ws bytes q stay → p.tender.ticks ≡ now → Rising ws
    → Each (Fresh now) ws → StaysSo now ws q stay
retries_times now p _ _ _ _ none_yet is rising recent = record { ticks = is; inside = record { rising = tt; early = tt }; low = λ n all. all }
retries_times now p _ _ _ _ (behind {ws} {bytes} {q} {stay} w before some_wait) is rising recent =
    let so : StaysSo now ws q stay = retries_times now p ws bytes q stay before is (rising_front ws w rising) (each_front (Fresh now) ws w recent) in
    stays_more now ws q q stay w rising so so.ticks
    (early_behind now (selection_in w.octets) stay w some_wait (so.low w.since (rising_last ws w rising)) so.inside.early (each_last (Fresh now) ws w recent))
retries_times now p _ _ _ _ (holds {ws} {bytes} {q} {stay} w more r before none_wait tries) is rising recent =
    let so : StaysSo now ws q stay = retries_times now p ws bytes q stay before is (rising_front ws w rising) (each_front (Fresh now) ws w recent) in
    let new : Fresh now w = each_last (Fresh now) ws w recent in
    let shown : is_early q.tender.ticks w ≡ true = tries_patient w.text w.octets (is_early q.tender.ticks w) (marked w.mark q) more false r refl tries in
    let soon : now < w.since + PATIENCE = early_now now w (subst (λ (n : ℕ). is_early n w ≡ true) so.ticks shown) in
    stays_more now ws q r stay w rising so (tries_ticks w.text w.octets (is_early q.tender.ticks w) (marked w.mark q) more false r tries ∙ so.ticks)
    (record { came = new.came; soon = soon; small = new.small })
retries_times now p _ _ _ _ (goes {ws} {bytes} {q} {stay} w more r before none_wait tries) is rising recent =
    let so : StaysSo now ws q stay = retries_times now p ws bytes q stay before is (rising_front ws w rising) (each_front (Fresh now) ws w recent) in
    record {
      ticks = tries_ticks w.text w.octets (is_early q.tender.ticks w) (marked w.mark q) more true r tries ∙ so.ticks;
      inside = so.inside;
      low = λ n all. so.low n (each_front (λ (v : Waited). v.since ≤ n) ws w all);
    }

-- ---- the other parts of a round let no tick pass

pub orders_ticks : (t u : Tended) → AddsOrders t u → u.ticks ≡ t.ticks
orders_ticks t u adds =
    let w : Tended = record u { ordered = t.ordered } in
    (adds_of t w adds).ticks

heeded_ticks : (t u : Tended) → AddsHeeded t u → u.ticks ≡ t.ticks
heeded_ticks t u adds = (adds t (heeded_nothing t)).ticks

hears_ticks : (link : ℕ) (t : Tended) (octets : List ℕ) (u : Tended) → Hears link t octets u → u.ticks ≡ t.ticks
hears_ticks link t _ _ no_part = refl
hears_ticks link t _ _ (one_part {octets} {u} {w} rest left earlier part) =
    heeded_ticks part.middle w part.heeds ∙ ((adds_of u part.middle part.adds).ticks ∙ hears_ticks link t octets u earlier)

gives_ticks : (link : ℕ) (u : Tended) (v : Voice) (gives : ℕ) (w : Tended) (x : Voice) → GivesNext link u v gives w x → w.ticks ≡ u.ticks
gives_ticks link u v gives w x (fixed ready sending same) = ap (λ (y : Tended). y.ticks) same
gives_ticks link u v gives w x (fresh unit ready asks stuffs) = ap (λ (y : Tended). y.ticks) asks.same
gives_ticks link u v gives w x (silent ready asks none_there fills) = ap (λ (y : Tended). y.ticks) asks.same

speaks_ticks : (link count : ℕ) (t : Tended) (v : Voice) (out : List ℕ) (u : Tended) (x : Voice) (after : List ℕ) → Speaks link count t v out u x after → u.ticks ≡ t.ticks
speaks_ticks link _ _ _ _ _ _ _ (no_octet t v out) = refl
speaks_ticks link _ _ _ _ _ _ _ (octet {count} {t} {u} {w} {v} {x} {y} {out} {after} gives earlier next) =
    gives_ticks link u x gives w y next ∙ speaks_ticks link count t v out u x after earlier

passes_ticks : (link ahead : ℕ) (came : List ℕ) (t : Tended) (w : LinkLine) (out : List ℕ) (passed : LineChange) (u : Tended) (x : LinkLine) (after : List ℕ)
    → Passes link ahead came t w out passed u x after → u.ticks ≡ t.ticks
passes_ticks link ahead came t w out passed u x after (some heard more hears speaks quiet is) =
    speaks_ticks link (length came) heard w.voice out u x.voice after speaks ∙ hears_ticks link t came heard hears
passes_ticks link ahead came t w out passed u x after (none empty voice waits) = hears_ticks link t (heard_at x.quiet) u waits.hears

carries_ticks : (link ahead : ℕ) (t : Tended) (w : LinkLine) (bytes : List ToldLine) (traffic : List Traffic) (u : Tended) (x : LinkLine) → Carries link ahead t w bytes traffic u x
    → u.ticks ≡ t.ticks
carries_ticks link ahead t w _ _ _ _ (passes {bytes} {traffic} {u} {x} came is) = passes_ticks link ahead came t w [] is.passed u x is.out is.is_passed
carries_ticks link ahead t w _ _ _ _ (misses {u} hears) = hears_ticks link t SILENT u hears
carries_ticks link ahead t w _ _ _ _ ends = refl
carries_ticks link ahead t w _ _ _ _ fails = refl
carries_ticks link ahead t w _ _ _ _ opens = refl

lines_ticks : (ahead : ℕ) (t : Tended) (ws : List LinkLine) (count : ℕ) (bytes : List ToldLine) (traffic : List Traffic) (u : Tended) (xs : List LinkLine)
    → CarriesAll ahead t ws count bytes traffic u xs → u.ticks ≡ t.ticks
lines_ticks ahead t ws _ _ _ _ _ no_link = refl
lines_ticks ahead t ws _ _ _ _ _ (one_link {link} {bytes} {traffic} {u} {v} {xs} {ys} more others before last) =
    carries_ticks link ahead u last.before more others v last.after last.carries ∙ lines_ticks ahead t ws link bytes traffic u xs before

telling_ticks : (t : Tended) (bytes : List ToldLine) (u : Tended) → Tells t bytes u → u.ticks ≡ t.ticks
telling_ticks t _ _ nothing = refl
telling_ticks t _ _ (one {bytes} {u} {w} x before first) = ap (λ (y : Tended). y.ticks) first.same ∙ telling_ticks t bytes u before

departs_ticks : (p q : Stood) → Departs p q → q.tender.ticks ≡ p.tender.ticks
departs_ticks p _ (goes_on not_due) = refl
departs_ticks p _ (stops {u} until is due all) = orders_ticks p.tender u all.adds
departs_ticks p _ (is_over since is due) = refl

-- the millisecond at which orders are tried in a round
pub minded_ticks : {slow : ℕ} (ahead : ℕ) (p q : SetPlace) (bytes : List ToldLine) (traffic : List Traffic) (on : Bool) → (is : IsRound ahead slow p bytes traffic on q)
    → is.minded.ticks ≡ min (2 ^ 64 - 1) (p.stood.tender.ticks + 1)
minded_ticks ahead p q bytes traffic on is =
    let carried : is.carried.ticks ≡ p.stood.tender.ticks = lines_ticks ahead p.stood.tender p.wires (length p.wires) is.first traffic is.carried q.wires is.carries in
    is.minds.does.ticks
    ∙ (telling_ticks is.tended is.second is.calm is.tells.tells
    ∙ (heeded_ticks is.ticked is.tended (tends_heeded is.ticked is.tended is.tends)
    ∙ (is.ticks.ticks ∙ ap (λ (n : ℕ). min (2 ^ 64 - 1) (n + 1)) carried)))

-- none passes after that
pub last_ticks : {slow : ℕ} (ahead : ℕ) (p q : SetPlace) (bytes : List ToldLine) (traffic : List Traffic) (on : Bool) → (is : IsRound ahead slow p bytes traffic on q)
    → q.stood.tender.ticks ≡ is.obeyed.tender.ticks
last_ticks ahead p q bytes traffic on is =
    ap (λ (x : Stood). x.tender.ticks) is.stood_is
    ∙ (telling_ticks is.departed.tender is.fourth is.last is.tells_more.tells ∙ departs_ticks is.obeyed is.departed is.departs)
