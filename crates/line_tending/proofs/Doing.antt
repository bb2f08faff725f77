-- The steps of the rules, one after another.
use Rattle.std.proofs.Common.{◌≡◌, ◌∙◌, ℕ, ◌≤◌, Bool, length, List, [], ◌∷◌, ◌++◌, append-nil, append_assoc, replicate, Result, Ok, Err, OnOk, refl, sym, ap, subst, arith}
use Rattle.std.proofs.lemmas.Grind.{flat_map-append}
use Rattle.link_group.specs.Set.{LinkSet}
use Rattle.line_tending.specs.Calling.{ByCalls}
use Rattle.line_tending.specs.Orders.{nothing_ordered, ordered_after, ordered_along}
use Rattle.line_tending.specs.Telling.{report_told}
use Rattle.line_tending.specs.Tended.{Tended, IsNewTended}
use Rattle.line_tending.specs.Rounds.{Acts, Does, Adds, AddsOrders, Handed, HandsOut, Heeds, nothing, one, reports_told, IsTaken, IsHeeded, AddsHeeded, HeedsEach, no_link, one_link, Tends}
use Rattle.line_tending.specs.declared.ends.Ends.{Ends}
use Rattle.line_tending.specs.declared.ordered.Ordered.{Ordered}
use Rattle.line_tending.specs.declared.reader.Reader.TheVariants.{Here}
use Rattle.line_tending.specs.declared.tended_set.TendPlan.{TendPlan}
use Rattle.line_tending.specs.declared.told.Told.{Told}
use Rattle.line_tending.proofs.Calling.{by_none, by_both, by_is}

pub does_nothing : (t : Tended) → Does t t
does_nothing t = record { calls = by_none t.set; plan = refl; ticks = refl; reports = refl; reader = refl; news = refl; ordered = refl }

pub does_then : (s t u : Tended) → Does s t → Does t u → Does s u
does_then s t u h k = record {
  calls = by_both s.set t.set u.set h.calls k.calls;
  plan = k.plan ∙ h.plan;
  ticks = k.ticks ∙ h.ticks;
  reports = k.reports ∙ h.reports;
  reader = k.reader ∙ h.reader;
  news = k.news ∙ h.news;
  ordered = k.ordered ∙ h.ordered;
}

pub adds_nothing : (t : Tended) → Adds t t
adds_nothing t = λ first h. h

pub adds_same : (t u : Tended) → u ≡ t → Adds t u
adds_same t u same = λ first h. subst (λ (x : Tended). Does first x) (sym same) h

pub adds_then : (s t u : Tended) → Adds s t → Adds t u → Adds s u
adds_then s t u h k = λ first d. k first (h first d)

pub adds_does : (t u : Tended) → Does t u → Adds t u
adds_does t u d = λ first h. does_then first t u h d

-- A call of the set.
pub adds_call : (t : Tended) (d : LinkSet) → ByCalls t.set [] [] d → Adds t (record t { set = d })
adds_call t d calls = adds_does t (record t { set = d }) (record { calls = calls; plan = refl; ticks = refl; reports = refl; reader = refl; news = refl; ordered = refl })

pub adds_is : (t : Tended) (d e : LinkSet) → d ≡ e → ByCalls t.set [] [] e → Adds t (record t { set = d })
adds_is t d e is calls = adds_call t d (by_is t.set d e is calls)

pub adds_of : (t u : Tended) → Adds t u → Does t u
adds_of t u adds = adds t (does_nothing t)

pub acts_of : (t u : Tended) → Adds t u → Acts [] [] t u
acts_of t u adds =
    let d : Does t u = adds_of t u adds in
    record { calls = d.calls; plan = d.plan; ticks = d.ticks; reports = d.reports ∙ sym (append-nil t.reports); reader = d.reader; news = d.news; ordered = d.ordered }

-- A report that isn't passed on.
pub acts_quiet : (t u : Tended) (tells : List Told) → tells ≡ [] → Adds t u → Acts [] tells t u
acts_quiet t u tells none adds = subst (λ (xs : List Told). Acts [] xs t u) (sym none) (acts_of t u adds)

pub acts_adds : (s t u : Tended) (tells : List Told) → Acts [] tells s t → Adds t u → Acts [] tells s u
acts_adds s t u tells acts adds =
    let d : Does t u = adds_of t u adds in
    record {
      calls = by_both s.set t.set u.set acts.calls d.calls;
      plan = d.plan ∙ acts.plan;
      ticks = d.ticks ∙ acts.ticks;
      reports = d.reports ∙ acts.reports;
      reader = d.reader ∙ acts.reader;
      news = d.news ∙ acts.news;
      ordered = d.ordered ∙ acts.ordered;
    }

-- A call of the set, after which an order of level 3 was noted, or none.
pub adds_orders : (t u w : Tended) → Adds t u → w ≡ record u { ordered = w.ordered } → AddsOrders t w
adds_orders t u w adds same =
    let d : Does t u = adds_of t u adds in
    let back : record u { ordered = t.ordered } ≡ record w { ordered = t.ordered } = ap (λ (x : Tended). record x { ordered = t.ordered }) (sym same) in
    let first : u ≡ record u { ordered = t.ordered } = λ i. record u { ordered = d.ordered i } in
    subst (λ (x : Tended). Adds t x) (first ∙ back) adds

pub orders_nothing : (t : Tended) → AddsOrders t t
orders_nothing t = adds_nothing t

pub orders_of : (t u : Tended) → Adds t u → AddsOrders t u
orders_of t u adds = adds_orders t u u adds refl

pub orders_then : (s t u : Tended) → AddsOrders s t → AddsOrders t u → AddsOrders s u
orders_then s t u h k =
    let d : Does t (record u { ordered = t.ordered }) = adds_of t (record u { ordered = t.ordered }) k in
    let more : Does (record t { ordered = s.ordered }) (record u { ordered = s.ordered }) =
    record { calls = d.calls; plan = d.plan; ticks = d.ticks; reports = d.reports; reader = d.reader; news = d.news; ordered = refl } in
    λ first before. does_then first (record t { ordered = s.ordered }) (record u { ordered = s.ordered }) (h first before) more

-- A new set, after links were admitted or not.
pub new_tended : (ends : Ends) (tests : Bool) (set : LinkSet) (links : ℕ) (reports news : List Told) (os : List Ordered) (t : Tended) → links ≡ length set.links → reports ≡ [] → news ≡ []
    → os ≡ replicate 16 nothing_ordered
    → Adds (record { set = set; plan = record { ends = ends; tests = tests; links = links }; ticks = 0; reports = reports; reader = Here; news = news; ordered = os }) t
    → IsNewTended ends tests set t
new_tended ends tests set links reports news os t links_is none no_news nothing_yet adds =
    let old : Tended = record { set = set; plan = record { ends = ends; tests = tests; links = links }; ticks = 0; reports = reports; reader = Here; news = news; ordered = os } in
    let d : Does old t = adds_of old t adds in
    record {
      calls = d.calls;
      plan = d.plan ∙ ap (λ (n : ℕ). record { ends = ends; tests = tests; links = n }) links_is;
      ticks = d.ticks;
      reports = d.reports ∙ none;
      reader = d.reader;
      news = d.news ∙ no_news;
      ordered = d.ordered ∙ nothing_yet;
    }

-- ---- reports

pub heeds_then : (s t u : Tended) (hs : List Handed) → Heeds s hs t → ByCalls t.set [] [] u.set → Heeds s hs u
heeds_then s _ x _ (nothing {u} first) calls = nothing (by_both s.set u.set x.set first calls)
heeds_then s _ x _ (one {hs} {u} {v} {w} h before out behind) calls = one h before out (by_both v.set w.set x.set behind calls)

pub heeded_nothing : (t : Tended) → IsHeeded t t
heeded_nothing t = record { handed = []; heeds = nothing (by_none t.set); plan = refl; ticks = refl; reports = sym (append-nil t.reports); reader = refl; news = refl; ordered = refl }

pub heeded_then : (s t u : Tended) → IsHeeded s t → Does t u → IsHeeded s u
heeded_then s t u h d = record {
  handed = h.handed;
  heeds = heeds_then s t u h.handed h.heeds d.calls;
  plan = d.plan ∙ h.plan;
  ticks = d.ticks ∙ h.ticks;
  reports = d.reports ∙ h.reports;
  reader = d.reader ∙ h.reader;
  news = d.news ∙ h.news;
  ordered = d.ordered ∙ h.ordered;
}

pub adds_heeded_then : (s t u : Tended) → IsHeeded s t → Adds t u → IsHeeded s u
adds_heeded_then s t u h adds = heeded_then s t u h (adds_of t u adds)

pub adds_heeded : (t u : Tended) → Adds t u → AddsHeeded t u
adds_heeded t u adds = λ first h. adds_heeded_then first t u h adds

pub reports_more : (p : TendPlan) (hs : List Handed) (h : Handed) → reports_told p (hs ++ h ∷ []) ≡ reports_told p hs ++ report_told p h.link h.report
reports_more p hs h =
    flat_map-append (λ (x : Handed). report_told p x.link x.report) hs (h ∷ [])
    ∙ ap (λ (xs : List Told). reports_told p hs ++ xs) (append-nil (report_told p h.link h.report))

along_more : (os : List Ordered) (hs : List Handed) (h : Handed) → ordered_along os (hs ++ h ∷ []) ≡ ordered_after h (ordered_along os hs)
along_more os [] h = refl
along_more os (x ∷ hs) h = along_more (ordered_after x os) hs h

pub heeded_one : (s t u w : Tended) (h : Handed) → IsHeeded s t → HandsOut h t u → IsTaken h u w → IsHeeded s w
heeded_one s t u w h before out acts =
    let plan_is : u.plan ≡ s.plan = ap (λ (x : Tended). x.plan) out.same ∙ before.plan in
    record {
      handed = before.handed ++ h ∷ [];
      heeds = one h before.heeds out acts.calls;
      plan = acts.plan ∙ plan_is;
      ticks = acts.ticks ∙ (ap (λ (x : Tended). x.ticks) out.same ∙ before.ticks);
      reports =
          acts.reports
          ∙ (ap (λ (xs : List Told). xs ++ report_told u.plan h.link h.report) (ap (λ (x : Tended). x.reports) out.same ∙ before.reports)
          ∙ (append_assoc s.reports (reports_told s.plan before.handed) (report_told u.plan h.link h.report)
          ∙ (ap (λ (p : TendPlan). s.reports ++ (reports_told s.plan before.handed ++ report_told p h.link h.report)) plan_is
          ∙ ap (λ (xs : List Told). s.reports ++ xs) (sym (reports_more s.plan before.handed h)))));
      reader = acts.reader ∙ (ap (λ (x : Tended). x.reader) out.same ∙ before.reader);
      news = acts.news ∙ (ap (λ (x : Tended). x.news) out.same ∙ before.news);
      ordered =
          acts.ordered
          ∙ (ap (λ (os : List Ordered). ordered_after h os) (ap (λ (x : Tended). x.ordered) out.same ∙ before.ordered)
          ∙ sym (along_more s.ordered before.handed h));
    }

-- A report, after what was ordered of its link was noted.
pub taken_by : {A E : Type 0} (r : Result A E) (h : Handed) (t m w : Tended) (ts : List Told) → m ≡ record t { ordered = ordered_after h t.ordered }
    → report_told t.plan h.link h.report ≡ ts → OnOk r (Acts [] ts m w) → OnOk r (IsTaken h t w)
taken_by (Err e) h t m w ts same told acts = tt
taken_by (Ok a) h t m w ts same told acts =
    subst (λ (xs : List Told). Acts [] xs (record t { ordered = ordered_after h t.ordered }) w) (sym told) (subst (λ (x : Tended). Acts [] ts x w) same acts)

-- ---- all links

-- As many links as there are.
pub each_all : (t u : Tended) (count gone : ℕ) → HeedsEach t gone u → gone ≤ count → count ≤ gone → HeedsEach t count u
each_all t u count gone heeds most least =
    let whole : gone ≡ count = omega arith in
    subst (λ (n : ℕ). HeedsEach t n u) whole heeds

each_heeded : (t u : Tended) (count : ℕ) → HeedsEach t count u → AddsHeeded t u
each_heeded t _ _ no_link = λ first h. h
each_heeded t _ _ (one_link {count} {u} {w} before adds told) = λ first h. adds first (each_heeded t u count before first h)

pub tends_heeded : (t u : Tended) → Tends t u → AddsHeeded t u
tends_heeded t u tends = λ first h. adds_heeded_then first tends.heeded u (each_heeded t tends.heeded t.plan.links tends.heeds first h) tends.adds

-- The links were heeded, and the rules took four steps.
pub tends_in_steps : (t heeded u v w x : Tended) → HeedsEach t t.plan.links heeded → Adds heeded u → Adds u v → Adds v w → Adds w x → Tends t x
tends_in_steps t heeded u v w x heeds first second third last = record {
  heeded = heeded;
  heeds = heeds;
  adds = λ start d. last start (third start (second start (first start d)));
}
