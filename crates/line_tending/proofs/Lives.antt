-- Laws for the history of a set.
use Rattle.std.proofs.Common.{◌≡◌, ◌∙◌, ℕ, List, [], ◌∷◌, ◌++◌, append-nil, append_assoc, Some, refl, sym, ap, subst}
use Rattle.resend_store.specs.declared.messages.Msu.{Msu}
use Rattle.link_group.specs.Set.{LinkSet}
use Rattle.link_group.specs.Ticks.{after_ticks}
use Rattle.line_filter.specs.Speaking.{Voice, fixed, fresh, silent}
use Rattle.line_tending.specs.Calling.{ByCalls}
use Rattle.line_tending.specs.Lives.{Lives, begins, calls, hands, tells, reads, ticks, Lived}
use Rattle.line_tending.specs.Readers.{Minds}
use Rattle.line_tending.specs.Rounds.{Acts, Does, Adds, AddsOrders, Handed, HandsOut, Heeds, nothing, one, reports_told, IsHeeded, AddsHeeded, Tends, Ticks}
use Rattle.line_tending.specs.Telling.{report_told}
use Rattle.line_tending.specs.Tended.{Tended}
use Rattle.line_tending.specs.LinkLines.{GivesNext, Speaks, nothing as no_octet, octet, Hears, no_part, one_part}
use Rattle.line_tending.specs.declared.tended_set.TendPlan.{TendPlan}
use Rattle.line_tending.specs.declared.told.Told.{Told}
use Rattle.line_tending.proofs.Calling.{by_none, by_then, by_more, by_is, by_gives, by_reports, by_ticks}
use Rattle.line_tending.proofs.Doing.{adds_of, heeded_nothing, heeds_then, reports_more, tends_heeded}

-- ---- the set changes only by its calls

pub lives_calls : (t u : Tended) (sent : List Msu) (handed : List Handed) (told : List Told) → Lives t sent handed told u → ByCalls t.set sent handed u.set
lives_calls t _ _ _ _ begins = by_none t.set
lives_calls t _ _ _ _ (calls {sent} {handed} {told} {u} taken d before step) =
    subst (λ (hs : List Handed). ByCalls t.set (sent ++ taken) hs d) (append-nil handed)
    (by_then t.set u.set d sent taken handed [] (lives_calls t u sent handed told before) step)
lives_calls t _ _ _ _ (hands {sent} {handed} {told} {u} h v before out) =
    subst (λ (xs : List Msu). ByCalls t.set xs (handed ++ h ∷ []) v.set) (append-nil sent)
    (by_then t.set u.set v.set sent [] handed (h ∷ []) (lives_calls t u sent handed told before) (by_reports u.set v.set h out.reports))
lives_calls t _ _ _ _ (tells {sent} {handed} {told} {u} reports left news before is) = lives_calls t u sent handed told before
lives_calls t _ _ _ _ (reads {sent} {handed} {told} {u} r os news before) = lives_calls t u sent handed told before
lives_calls t _ _ _ _ (ticks {sent} {handed} {told} {u} w before passes) =
    by_more t.set u.set w.set sent handed (lives_calls t u sent handed told before)
    (by_is u.set w.set (after_ticks 1 u.set) passes.set (by_ticks u.set 1))

-- ---- each report is made once, in the order in which links delivered them

pub lives_plan : (t u : Tended) (sent : List Msu) (handed : List Handed) (told : List Told) → Lives t sent handed told u → u.plan ≡ t.plan
lives_plan t _ _ _ _ begins = refl
lives_plan t _ _ _ _ (calls {sent} {handed} {told} {u} taken d before step) = lives_plan t u sent handed told before
lives_plan t _ _ _ _ (hands {sent} {handed} {told} {u} h v before out) =
    ap (λ (x : Tended). x.plan) out.same ∙ lives_plan t u sent handed told before
lives_plan t _ _ _ _ (tells {sent} {handed} {told} {u} reports left news before is) = lives_plan t u sent handed told before
lives_plan t _ _ _ _ (reads {sent} {handed} {told} {u} r os news before) = lives_plan t u sent handed told before
lives_plan t _ _ _ _ (ticks {sent} {handed} {told} {u} w before passes) =
    ap (λ (x : Tended). x.plan) passes.same ∙ lives_plan t u sent handed told before

pub lives_told : (t u : Tended) (sent : List Msu) (handed : List Handed) (told : List Told) → Lives t sent handed told u
    → told ++ u.reports ≡ t.reports ++ reports_told t.plan handed
lives_told t _ _ _ _ begins = sym (append-nil t.reports)
lives_told t _ _ _ _ (calls {sent} {handed} {told} {u} taken d before step) = lives_told t u sent handed told before
lives_told t _ _ _ _ (hands {sent} {handed} {told} {u} h v before out) =
    let plan_is : v.plan ≡ t.plan = ap (λ (x : Tended). x.plan) out.same ∙ lives_plan t u sent handed told before in
    let more = report_told t.plan h.link h.report in
    ap (λ (xs : List Told). told ++ xs)
    (ap (λ (p : TendPlan). v.reports ++ report_told p h.link h.report) plan_is ∙ ap (λ (x : Tended). x.reports ++ more) out.same)
    ∙ (sym (append_assoc told u.reports more)
    ∙ (ap (λ (xs : List Told). xs ++ more) (lives_told t u sent handed told before)
    ∙ (append_assoc t.reports (reports_told t.plan handed) more ∙ ap (λ (xs : List Told). t.reports ++ xs) (sym (reports_more t.plan handed h)))))
lives_told t _ _ _ _ (tells {sent} {handed} {told} {u} reports left news before is) =
    append_assoc told reports left ∙ (ap (λ (xs : List Told). told ++ xs) (sym is) ∙ lives_told t u sent handed told before)
lives_told t _ _ _ _ (reads {sent} {handed} {told} {u} r os news before) = lives_told t u sent handed told before
lives_told t _ _ _ _ (ticks {sent} {handed} {told} {u} w before passes) =
    ap (λ (x : Tended). told ++ x.reports) passes.same ∙ lives_told t u sent handed told before

-- ---- continuing a history

pub lived_none : (t : Tended) → Lived t [] [] t
lived_none t = record { handed = []; lives = begins }

-- Calls of the set, in which `send` took these messages, and nothing else changed.
pub lived_calls : (t u w : Tended) (sent : List Msu) (told : List Told) (taken : List Msu) → Lived t sent told u → ByCalls u.set taken [] w.set → w ≡ record u { set = w.set }
    → Lived t (sent ++ taken) told w
lived_calls t u w sent told taken before step same =
    subst (λ (x : Tended). Lived t (sent ++ taken) told x) (sym same) (record { handed = before.handed; lives = calls taken w.set before.lives step })

-- Calls in which no message was taken.
pub lived_none_taken : (t u w : Tended) (sent : List Msu) (told : List Told) → Lived t sent told u → ByCalls u.set [] [] w.set → w ≡ record u { set = w.set }
    → Lived t sent told w
lived_none_taken t u w sent told before step same =
    subst (λ (xs : List Msu). Lived t xs told w) (append-nil sent) (lived_calls t u w sent told [] before step same)

same_but_set : (u w : Tended) → w.plan ≡ u.plan → w.ticks ≡ u.ticks → w.reports ≡ u.reports → w.reader ≡ u.reader → w.news ≡ u.news → w.ordered ≡ u.ordered → w ≡ record u { set = w.set }
same_but_set u w plan_is ticks_are reports_are reader_is news_are ordered_is =
    λ i. record { set = w.set; plan = plan_is i; ticks = ticks_are i; reports = reports_are i; reader = reader_is i; news = news_are i; ordered = ordered_is i }

pub lived_adds : (t u w : Tended) (sent : List Msu) (told : List Told) → Lived t sent told u → Adds u w → Lived t sent told w
lived_adds t u w sent told before adds =
    let d : Does u w = adds_of u w adds in
    lived_none_taken t u w sent told before d.calls (same_but_set u w d.plan d.ticks d.reports d.reader d.news d.ordered)

-- Orders of level 3 were noted.
pub lived_orders : (t u w : Tended) (sent : List Msu) (told : List Told) → Lived t sent told u → AddsOrders u w → Lived t sent told w
lived_orders t u w sent told before adds =
    let calm : Lived t sent told (record w { ordered = u.ordered }) = lived_adds t u (record w { ordered = u.ordered }) sent told before adds in
    let again : record (record w { ordered = u.ordered }) { reader = w.reader; ordered = w.ordered; news = w.news } ≡ w = refl in
    subst (λ (x : Tended). Lived t sent told x) again (record { handed = calm.handed; lives = reads w.reader w.ordered w.news calm.lives })

-- `send` took messages.
pub lived_sends : (t u w : Tended) (sent : List Msu) (told : List Told) (taken : List Msu) → Lived t sent told u → Acts taken [] u w → Lived t (sent ++ taken) told w
lived_sends t u w sent told taken before acts =
    lived_calls t u w sent told taken before acts.calls (same_but_set u w acts.plan acts.ticks (acts.reports ∙ append-nil u.reports) acts.reader acts.news acts.ordered)

pub lived_ticks : (t u w : Tended) (sent : List Msu) (told : List Told) → Lived t sent told u → Ticks u w → Lived t sent told w
lived_ticks t u w sent told before passes = record { handed = before.handed; lives = ticks w before.lives passes }

-- ---- links are heeded

abbrev with_more : Tended → LinkSet → List Handed → Tended
with_more s d hs = record s { set = d; reports = s.reports ++ reports_told s.plan hs }

heeds_on : (t s u : Tended) (sent : List Msu) (handed : List Handed) (told : List Told) (hs : List Handed) → Lives t sent handed told s → Heeds s hs u
    → Lives t sent (handed ++ hs) told (with_more s u.set hs)
heeds_on t s _ sent handed told _ before (nothing {u} first) =
    subst (λ (gone : List Handed). Lives t sent gone told (with_more s u.set [])) (sym (append-nil handed))
    (subst (λ (xs : List Told). Lives t sent handed told (record s { set = u.set; reports = xs })) (sym (append-nil s.reports))
    (subst (λ (xs : List Msu). Lives t xs handed told (record s { set = u.set })) (append-nil sent) (calls [] u.set before first)))
heeds_on t s _ sent handed told _ before (one {hs} {u} {v} {w} h earlier out behind) =
    let so_far : Lives t sent (handed ++ hs) told (with_more s u.set hs) = heeds_on t s u sent handed told hs before earlier in
    let mid : Tended = with_more s v.set hs in
    let out_so : HandsOut h (with_more s u.set hs) mid = record { reports = out.reports; same = refl } in
    let more : List Told = report_told s.plan h.link h.report in
    let told_so : (s.reports ++ reports_told s.plan hs) ++ more ≡ s.reports ++ reports_told s.plan (hs ++ h ∷ []) =
    append_assoc s.reports (reports_told s.plan hs) more ∙ ap (λ (xs : List Told). s.reports ++ xs) (sym (reports_more s.plan hs h)) in
    let step : Lives t sent ((handed ++ hs) ++ h ∷ []) told (record s { set = v.set; reports = (s.reports ++ reports_told s.plan hs) ++ more }) =
    hands h mid so_far out_so in
    let last : Lives t (sent ++ []) ((handed ++ hs) ++ h ∷ []) told (record s { set = w.set; reports = (s.reports ++ reports_told s.plan hs) ++ more }) =
    calls [] w.set step behind in
    subst (λ (xs : List Told). Lives t sent (handed ++ (hs ++ h ∷ [])) told (record s { set = w.set; reports = xs })) told_so
    (subst (λ (gone : List Handed). Lives t sent gone told (record s { set = w.set; reports = (s.reports ++ reports_told s.plan hs) ++ more }))
    (append_assoc handed hs (h ∷ []))
    (subst
    (λ (xs : List Msu). Lives t xs ((handed ++ hs) ++ h ∷ []) told (record s { set = w.set; reports = (s.reports ++ reports_told s.plan hs) ++ more }))
    (append-nil sent) last))

heeded_is : (u w : Tended) (hs : List Handed) → w.plan ≡ u.plan → w.ticks ≡ u.ticks → w.reports ≡ u.reports ++ reports_told u.plan hs → w.reader ≡ u.reader
    → w.news ≡ u.news → w.ordered ≡ u.ordered → w ≡ with_more u w.set hs
heeded_is u w hs plan_is ticks_are reports_are reader_is news_are ordered_is =
    λ i. record { set = w.set; plan = plan_is i; ticks = ticks_are i; reports = reports_are i; reader = reader_is i; news = news_are i; ordered = ordered_is i }

pub lived_heeds : (t u w : Tended) (sent : List Msu) (told : List Told) → Lived t sent told u → AddsHeeded u w → Lived t sent told w
lived_heeds t u w sent told before adds =
    let h : IsHeeded u w = adds u (heeded_nothing u) in
    let middle : Tended = record w { ordered = u.ordered } in
    let calm : Lived t sent told middle =
    subst (λ (x : Tended). Lived t sent told x) (sym (heeded_is u middle h.handed h.plan h.ticks h.reports h.reader h.news refl))
    (record {
      handed = before.handed ++ h.handed;
      lives = heeds_on t u middle sent before.handed told h.handed before.lives (heeds_then u w middle h.handed h.heeds (by_none w.set));
    }) in
    let again : record (record w { ordered = u.ordered }) { reader = w.reader; ordered = w.ordered; news = w.news } ≡ w = refl in
    subst (λ (x : Tended). Lived t sent told x) again (record { handed = calm.handed; lives = reads w.reader w.ordered w.news calm.lives })

pub lived_tends : (t u w : Tended) (sent : List Msu) (told : List Told) → Lived t sent told u → Tends u w → Lived t sent told w
lived_tends t u w sent told before tends = lived_heeds t u w sent told before (tends_heeded u w tends)

-- ---- lines

pub lived_hears : (t s : Tended) (sent : List Msu) (told : List Told) (link : ℕ) (octets : List ℕ) (w : Tended) → Lived t sent told s → Hears link s octets w → Lived t sent told w
lived_hears t s sent told link _ _ before no_part = before
lived_hears t s sent told link _ _ before (one_part {octets} {u} {w} rest left earlier part) =
    lived_heeds t part.middle w sent told (lived_adds t u part.middle sent told (lived_hears t s sent told link octets u before earlier) part.adds) part.heeds

lived_gives : (t u w : Tended) (sent : List Msu) (told : List Told) (link : ℕ) (v x : Voice) (gives : ℕ) → Lived t sent told u → GivesNext link u v gives w x
    → Lived t sent told w
lived_gives t u w sent told link v x gives before (fixed ready sending same) = subst (λ (y : Tended). Lived t sent told y) (sym same) before
lived_gives t u w sent told link v x gives before (fresh unit ready asks stuffs) =
    lived_none_taken t u w sent told before (by_gives u.set w.set link _ asks.sent) asks.same
lived_gives t u w sent told link v x gives before (silent ready asks none_there fills) =
    lived_none_taken t u w sent told before (by_gives u.set w.set link _ asks.sent) asks.same

pub lived_speaks : (first : Tended) (sent : List Msu) (told : List Told) (link count : ℕ) (s w : Tended) (v x : Voice) (out after : List ℕ) → Lived first sent told s
    → Speaks link count s v out w x after → Lived first sent told w
lived_speaks first sent told link _ _ _ _ _ _ _ before (no_octet s v out) = before
lived_speaks first sent told link _ _ _ _ _ _ _ before (octet {count} {t} {u} {w} {v} {x} {y} {out} {after} gives earlier next) =
    lived_gives first u w sent told link x y gives (lived_speaks first sent told link count t u v x out after before earlier) next

-- ---- reports taken

pub lived_tells : (t u w : Tended) (sent : List Msu) (told reports : List Told) → Lived t sent told u → u.reports ≡ reports ++ w.reports
    → w ≡ record u { reports = w.reports; news = w.news } → Lived t sent (told ++ reports) w
lived_tells t u w sent told reports before is same =
    subst (λ (x : Tended). Lived t sent (told ++ reports) x) (sym same) (record { handed = before.handed; lives = tells reports w.reports w.news before.lives is })

-- ---- the reader

pub lived_minds : (t u w : Tended) (sent : List Msu) (told : List Told) (messages : ℕ) → Lived t sent told u → Minds messages u w → Lived t sent told w
lived_minds t u w sent told messages before minds =
    let middle : Tended = record w { reader = u.reader; news = u.news } in
    let calm : Lived t sent told middle =
    lived_none_taken t u middle sent told before minds.does.calls
    (same_but_set u middle minds.does.plan minds.does.ticks minds.does.reports minds.does.reader minds.does.news minds.does.ordered) in
    let again : record (record w { reader = u.reader; news = u.news }) { reader = w.reader; ordered = w.ordered; news = w.news } ≡ w = refl in
    subst (λ (x : Tended). Lived t sent told x) again (record { handed = calm.handed; lives = reads w.reader w.ordered w.news calm.lives })
