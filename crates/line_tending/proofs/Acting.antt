-- The effect of a call of the set, however it ends, on a set that manages itself.
use Rattle.std.proofs.Common.{◌≡◌, ◌∙◌, ℕ, ◌<◌, ◌≤◌, Bool, true, false, if◌then◌else◌, List, [], ◌∷◌, ◌++◌, append-nil, length, Option, None, Some, is_some, Result, Ok, Err, is_ok, OnOk, OnErr, IfOk, IfErr, IfSome, refl, sym, ap, subst, arith}
use Rattle.std.specs.Prelude.{◌↔◌}
use Rattle.std.proofs.lemmas.Bool.{true≢false}
use Rattle.std.proofs.lemmas.Grind.{flat_map-append}
use Rattle.resend_store.specs.declared.messages.Msu.{Msu}
use Rattle.su_octets.specs.declared.units.Unit.{Unit}
use Rattle.link_transceiver.specs.declared.signals.Report.{Report}
use Rattle.group_changeover.specs.Sharing.{selection_of}
use Rattle.group_changeover.specs.Limits.{SELECTIONS}
use Rattle.group_changeover.specs.Bound.{is_bound}
use Rattle.group_changeover.specs.declared.errors.AbandonError.{AbandonError}
use Rattle.group_changeover.specs.declared.errors.BindError.{BindError}
use Rattle.group_changeover.specs.declared.errors.FailError.{FailError}
use Rattle.group_changeover.specs.declared.errors.LinkError.{LinkError}
use Rattle.group_changeover.specs.declared.errors.LinkError.TheVariants.{NoLink}
use Rattle.group_changeover.specs.declared.errors.RebalanceError.{RebalanceError}
use Rattle.group_changeover.specs.declared.errors.RetrieveError.{RetrieveError}
use Rattle.link_group.specs.OneLink.{fault_of, retrieve_refusal, abandon_refusal}
use Rattle.link_group.specs.Doing.{Listened, Sent, Reported}
use Rattle.link_group.specs.declared.commanding.CommandError.{CommandError}
use Rattle.link_group.specs.Set.{LinkSet, points_of, send_fault, sent, bind_fault_at, bound_at}
use Rattle.link_group.specs.Changing.{fail_fault, after_failure, retrieve_fault_at, after_retrieve, abandon_fault_at, after_abandon}
use Rattle.link_group.specs.Diverting.{after_divert}
use Rattle.link_group.specs.Placing.{rebalance_fault, rebalanced}
use Rattle.link_group.specs.Lines.{ByLink, ByCommand, after_admission, IsCommandError}
use Rattle.line_tending.specs.Telling.{report_in, reports_in, news_by, news_in}
use Rattle.line_tending.specs.Calling.{ByCalls}
use Rattle.line_tending.specs.Tended.{Tended}
use Rattle.line_tending.specs.Rounds.{Acts, Adds, HandsOut, HasTold}
use Rattle.line_tending.specs.declared.told.Told.{Told}
use Rattle.line_tending.specs.declared.ordered.Ordered.{Ordered}
use Rattle.line_tending.specs.declared.reader.Reader.{Reader}
use Rattle.line_tending.specs.declared.tended_set.TendPlan.{TendPlan}
use Rattle.line_tending.proofs.Calling.{by_none, by_sends, by_binds, by_fails, by_retrieves, by_abandons, by_diverts, by_rebalances, by_listens, by_gives, by_asks, by_commands, by_command_error, by_admits}
use Rattle.line_tending.proofs.Doing.{adds_call, adds_is}

pub adds_admit : {A E : Type 0} (t : Tended) (d : LinkSet) (l : ℕ) (way : Bool) (r : Result A E)
    → OnOk r (d ≡ after_admission t.set l way) → OnErr r (d ≡ t.set) → Adds t (record t { set = d })
adds_admit t d l way (Ok v) ok err = adds_is t d (after_admission t.set l way) ok (by_admits t.set l way)
adds_admit t d l way (Err e) ok err = adds_is t d t.set err (by_none t.set)

pub adds_bind : {A : Type 0} (t : Tended) (d : LinkSet) (l : ℕ) (m : Msu) (r : Result A BindError) → is_bound (points_of t.set) m ≡ true
    → fault_of r ≡ bind_fault_at t.set l → OnOk r (d ≡ bound_at t.set l m) → OnErr r (d ≡ t.set) → Adds t (record t { set = d })
adds_bind t d l m (Ok v) bound fault ok err = adds_is t d (bound_at t.set l m) ok (by_binds t.set l m (sym fault) bound)
adds_bind t d l m (Err e) bound fault ok err = adds_is t d t.set err (by_none t.set)

pub adds_failure : {A : Type 0} (t : Tended) (d : LinkSet) (l : ℕ) (r : Result A FailError)
    → fault_of r ≡ fail_fault t.set l → OnOk r (d ≡ after_failure t.set l) → OnErr r (d ≡ t.set) → Adds t (record t { set = d })
adds_failure t d l (Ok v) fault ok err = adds_is t d (after_failure t.set l) ok (by_fails t.set l (sym fault))
adds_failure t d l (Err e) fault ok err = adds_is t d t.set err (by_none t.set)

pub adds_retrieve : {A : Type 0} (t : Tended) (d : LinkSet) (l : ℕ) (r : Result A RetrieveError)
    → retrieve_refusal r ≡ retrieve_fault_at t.set l → OnOk r (d ≡ after_retrieve t.set l) → OnErr r (d ≡ t.set) → Adds t (record t { set = d })
adds_retrieve t d l (Ok v) fault ok err = adds_is t d (after_retrieve t.set l) ok (by_retrieves t.set l (sym fault))
adds_retrieve t d l (Err e) fault ok err = adds_is t d t.set err (by_none t.set)

pub adds_abandon : {A : Type 0} (t : Tended) (d : LinkSet) (l : ℕ) (r : Result A AbandonError)
    → abandon_refusal r ≡ abandon_fault_at t.set l → OnOk r (d ≡ after_abandon t.set l) → OnErr r (d ≡ t.set) → Adds t (record t { set = d })
adds_abandon t d l (Ok v) fault ok err = adds_is t d (after_abandon t.set l) ok (by_abandons t.set l (sym fault))
adds_abandon t d l (Err e) fault ok err = adds_is t d t.set err (by_none t.set)

pub adds_divert : (t : Tended) (d : LinkSet) (l : ℕ) → d ≡ after_divert t.set l → Adds t (record t { set = d })
adds_divert t d l is = adds_is t d (after_divert t.set l) is (by_diverts t.set l)

pub adds_rebalance : {A : Type 0} (t : Tended) (d : LinkSet) (r : Result A RebalanceError)
    → fault_of r ≡ rebalance_fault t.set → OnOk r (d ≡ rebalanced t.set) → OnErr r (d ≡ t.set) → Adds t (record t { set = d })
adds_rebalance t d (Ok v) fault ok err = adds_is t d (rebalanced t.set) ok (by_rebalances t.set (sym fault))
adds_rebalance t d (Err e) fault ok err = adds_is t d t.set err (by_none t.set)

pub rebalanced_so : (t : Tended) (d : LinkSet) → d ≡ rebalanced t.set → record t { set = d } ≡ record t { set = rebalanced t.set }
rebalanced_so t d is = ap (λ (x : LinkSet). record t { set = x }) is

pub on_ok_so : {A E P : Type 0} (r : Result A E) → P → OnOk r P
on_ok_so (Ok v) p = p
on_ok_so (Err e) p = tt

pub adds_command : {A : Type 0} (t : Tended) (d : LinkSet) (l : ℕ) (command : _) (r : Result A CommandError)
    → OnOk r (ByCommand command l t.set d) → IfErr r (IsCommandError command l t.set d) → Adds t (record t { set = d })
adds_command t d l command (Ok v) ok err = adds_call t d (by_commands t.set d l command ok)
adds_command t d l command (Err e) ok err = adds_call t d (by_command_error t.set d l command e err)

pub adds_octets : {E : Type 0} (t : Tended) (d : LinkSet) (l : ℕ) (octets : List ℕ) (r : Result ℕ E)
    → IfOk r (λ (taken : ℕ). ByLink (Listened octets taken) l t.set d) → OnErr r (d ≡ t.set) → Adds t (record t { set = d })
adds_octets t d l octets (Ok taken) ok err = adds_call t d (by_listens t.set d l octets taken ok)
adds_octets t d l octets (Err e) ok err = adds_is t d t.set err (by_none t.set)

pub adds_unit : {E : Type 0} (t : Tended) (d : LinkSet) (l : ℕ) (r : Result (Option Unit) E)
    → IfOk r (λ (unit : Option Unit). ByLink (Sent unit) l t.set d) → OnErr r (d ≡ t.set) → Adds t (record t { set = d })
adds_unit t d l (Ok unit) ok err = adds_call t d (by_gives t.set d l unit ok)
adds_unit t d l (Err e) ok err = adds_is t d t.set err (by_none t.set)

-- ---- a report, if there is one

pub hands_out : (t : Tended) (d : LinkSet) (l : ℕ) (o : Option Report) → ByLink (Reported o) l t.set d
    → IfSome o (λ (report : Report). HandsOut (record { link = l; report = report }) t (record t { set = d }))
hands_out t d l None did = tt
hands_out t d l (Some report) did = record { reports = did; same = refl }

pub adds_report : (t : Tended) (d : LinkSet) (l : ℕ) (o : Option Report) → is_some o ≡ false → ByLink (Reported o) l t.set d → Adds t (record t { set = d })
adds_report t d l None none_there did = adds_call t d (by_asks t.set d l did)
adds_report t d l (Some report) none_there did = absurd (true≢false none_there)

pub has_told : (c : LinkSet) (t : Tended) (l : ℕ) (o : Option Report) → is_some o ≡ false → ByLink (Reported o) l c t.set → HasTold l t
has_told c t l None none_there did = record { before = c; none_left = did }
has_told c t l (Some report) none_there did = absurd (true≢false none_there)

-- A link that doesn't exist isn't asked.
pub not_there : {A P : Type 0} (r : Result A LinkError) (e : LinkError) (c d : LinkSet) (l : ℕ) → r ≡ Err e
    → ((r ≡ Err NoLink) ↔ (length c.links ≤ l)) → d ≡ c → l < length d.links → P
not_there r NoLink c d l is fault same there =
    let past : length c.links ≤ l = fault.0 is in
    let links_are : length d.links ≡ length c.links = ap (λ (x : LinkSet). length x.links) same in
    absurd (omega arith)

-- ---- queued reports

pub told_more : (told : List Told) (x : Told) → reports_in (told ++ x ∷ []) ≡ reports_in told ++ report_in x
told_more told x = flat_map-append report_in told (x ∷ []) ∙ ap (λ (xs : List Told). reports_in told ++ xs) (append-nil (report_in x))

pub news_more : (told : List Told) (x : Told) → news_in (told ++ x ∷ []) ≡ news_in told ++ news_by x
news_more told x = flat_map-append news_by told (x ∷ []) ∙ ap (λ (xs : List Told). news_in told ++ xs) (append-nil (news_by x))

-- A report that says nothing of the reader.
no_news_more : (told after : List Told) (x : Told) → after ≡ told ++ x ∷ [] → news_by x ≡ [] → news_in after ≡ news_in told
no_news_more told after x is none = ap news_in is ∙ (news_more told x ∙ (ap (λ (xs : List Told). news_in told ++ xs) none ∙ append-nil (news_in told)))

no_report_more : (told after : List Told) (x : Told) → after ≡ told ++ x ∷ [] → report_in x ≡ [] → reports_in after ≡ reports_in told
no_report_more told after x is none = ap reports_in is ∙ (told_more told x ∙ (ap (λ (xs : List Told). reports_in told ++ xs) none ∙ append-nil (reports_in told)))

-- A pushed report is the last one.
pub told_pushed : {A E : Type 0} (r : Result A E) (told after : List Told) (x : Told) (v : A) → r ≡ Ok v
    → after ≡ (if is_ok r then told ++ x ∷ [] else told) → after ≡ told ++ x ∷ []
told_pushed {A} {E} r told after x v is items = items ∙ ap (λ (o : Result A E). if is_ok o then told ++ x ∷ [] else told) is

-- One more report is queued last.
pub acts_report : (c : LinkSet) (plan : TendPlan) (ticks : ℕ) (told after : List Told) (x : Told) (reader : Reader) (os : List Ordered) → news_by x ≡ [] → after ≡ told ++ x ∷ []
    → Acts [] (report_in x) (record { set = c; plan = plan; ticks = ticks; reports = reports_in told; reader = reader; news = news_in told; ordered = os })
    (record { set = c; plan = plan; ticks = ticks; reports = reports_in after; reader = reader; news = news_in after; ordered = os })
acts_report c plan ticks told after x reader os none is = record {
  calls = by_none c;
  plan = refl;
  ticks = refl;
  reports = ap reports_in is ∙ told_more told x;
  reader = refl;
  news = no_news_more told after x is none;
  ordered = refl;
}

-- One more report about the reader is queued last.
pub news_report : (c : LinkSet) (plan : TendPlan) (ticks : ℕ) (told after : List Told) (x : Told) (reader : Reader) (os : List Ordered) → report_in x ≡ []
    → after ≡ told ++ x ∷ []
    → ◌≡◌ {A = Tended} (record { set = c; plan = plan; ticks = ticks; reports = reports_in after; reader = reader; news = news_in after; ordered = os })
    (record { set = c; plan = plan; ticks = ticks; reports = reports_in told; reader = reader; news = news_in told ++ news_by x; ordered = os })
news_report c plan ticks told after x reader os none is =
    let reports_are : reports_in after ≡ reports_in told = no_report_more told after x is none in
    let news_are : news_in after ≡ news_in told ++ news_by x = ap news_in is ∙ news_more told x in
    λ i. record { set = c; plan = plan; ticks = ticks; reports = reports_are i; reader = reader; news = news_are i; ordered = os }

-- `send` took a message.
pub acts_send : (t : Tended) (d : LinkSet) (m : Msu) → send_fault t.set m ≡ None → selection_of m < SELECTIONS → d ≡ sent t.set m
    → Acts (m ∷ []) [] t (record t { set = d })
acts_send t d m free small is = record {
  calls = subst (λ (x : LinkSet). ByCalls t.set (m ∷ []) [] x) (sym is) (by_sends t.set m free small);
  plan = refl;
  ticks = refl;
  reports = sym (append-nil t.reports);
  reader = refl;
  news = refl;
  ordered = refl;
}
