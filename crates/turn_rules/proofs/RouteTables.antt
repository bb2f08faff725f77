-- The table of routes holds exactly the paths of a draft.
use Rattle.std.proofs.Common.{◌≡◌, ℕ, ◌+◌, ◌<◌, ◌≤◌, Bool, true, false, ◌&&◌, ◌||◌, eqb, List, [], ◌∷◌, ◌++◌, length, map, replicate, refl, sym, ap, ◌∙◌, subst, arith, inl, inr}
use Rattle.std.specs.Prelude.{ltb, ◌↔◌, slice_index_or, slice_set, All, Any, Contains}
use Rattle.std.specs.List.{list_any, flat_map}
use Rattle.std.proofs.lemmas.Bool.{and_parts, and_from, cases_eq, cases_Bool, eq-eqb, ne_eqb, eqb-true, ltb-true, ltb-false}
use Rattle.std.proofs.lemmas.List.Folds.{list_any-append, Any-from_list_any, list_any-from_Any}
use Rattle.std.proofs.lemmas.List.{get_or-set_same, get_or-set_other, get_or-replicate, get_or_default, length-replicate}
use Rattle.std.proofs.Math.ListN.{get_or-eq_default}
use Rattle.std.proofs.Math.Bool.{or-false}
use Rattle.turn_code.specs.declared.input.Party.{Party}
use Rattle.turn_code.specs.declared.input.Party.TheVariants.{Environment, Process}
use Rattle.turn_code.specs.declared.numbers.SignalNumber.{SignalNumber}
use Rattle.turn_code.specs.declared.draft.DraftProcess.{DraftProcess}
use Rattle.turn_code.specs.declared.draft.DraftRoute.{DraftRoute}
use Rattle.turn_code.specs.declared.draft.Draft.{Draft}
use Rattle.turn_code.specs.Routes.{IsProcess, IsPartyOf, the_process, Takes, Reaches, Answers}
use Rattle.turn_code.specs.Rules.{KeepsSetLimits}
use Rattle.turn_rules.specs.Parties.{seat, holds}
use Rattle.turn_rules.specs.RouteTables.{none, listed, is_process, Mention, mentions_of, is_sent, is_brought, Tells, ComesFrom}
use Rattle.turn_rules.specs.declared.party_set.PartySet.{PartySet}
use Rattle.turn_rules.specs.declared.route_table.Row.{Row}
use Rattle.turn_rules.specs.declared.route_table.RouteTable.{RouteTable}
use Rattle.turn_rules.proofs.PartySets.{holds_none, there_from, there_to, same_party, seat_small}

-- ---- the empty set

replicated : (n i : ℕ) (s : PartySet) → slice_index_or (replicate n s) i s ≡ s
replicated n i s = elim (cases_Bool (ltb i n)) [
  | inl below ↦ get_or-replicate n i s s (ltb-true i n below)
  | inr above ↦ let past : n ≤ i = ltb-false i n above in get_or-eq_default (replicate n s) s (omega (arith, length-replicate n s))
]

pub no_sets : (n b : ℕ) → holds (slice_index_or (replicate 256 none) n none) b ≡ false
no_sets n b = ap (λ s. holds s b) (replicated 256 n none) ∙ holds_none b

pub no_rows : (row : Row) → ((n b : ℕ) → holds (slice_index_or row.sets n none) b ≡ false) → (p n b : ℕ) → p < 16
    → holds (slice_index_or (slice_index_or (replicate 16 row) p (record { sets = [] })).sets n none) b ≡ false
no_rows row empty p n b low =
    ap (λ (r : Row). holds (slice_index_or r.sets n none) b) (get_or-replicate 16 p row (record { sets = [] }) low) ∙ empty n b

-- ---- one party is added

or_and_false : (a b : Bool) → a ≡ (a || (false && b))
or_and_false true b = refl
or_and_false false b = refl

pub set_one : (sets : List PartySet) (s k n b : ℕ) (new : PartySet) → s < length sets
    → holds new b ≡ (holds (slice_index_or sets s none) b || eqb k b)
    → holds (slice_index_or (slice_set sets s new) n none) b ≡ (holds (slice_index_or sets n none) b || (eqb s n && eqb k b))
set_one sets s k n b new there told = elim (cases_eq n s) [
  | inl e ↦
      ap (λ m. holds (slice_index_or (slice_set sets s new) m none) b) e
      ∙ (ap (λ t. holds t b) (get_or-set_same sets s new none there)
      ∙ (told
      ∙ (ap (λ m. holds (slice_index_or sets m none) b || eqb k b) (sym e)
      ∙ ap (λ c. holds (slice_index_or sets n none) b || (c && eqb k b)) (sym (eq-eqb s n (sym e))))))
  | inr ne ↦
      ap (λ t. holds t b) (get_or-set_other sets s n new none ne)
      ∙ (or_and_false (holds (slice_index_or sets n none) b) (eqb k b)
      ∙ ap (λ c. holds (slice_index_or sets n none) b || (c && eqb k b)) (sym (ne_eqb s n (λ e. ne (sym e)))))
]

pub any_push : (f : Mention → Bool) (ms : List Mention) (m : Mention) → list_any f (ms ++ m ∷ []) ≡ (list_any f ms || f m)
any_push f ms m = list_any-append f ms (m ∷ []) ∙ ap (λ b. list_any f ms || b) (or-false (f m))

-- ---- from mentions of signals to paths

pub any_paths : (f : Mention → Bool) (rs : List DraftRoute) → list_any f (flat_map mentions_of rs) ≡ list_any (λ r. list_any f (mentions_of r)) rs
any_paths f [] = refl
any_paths f (r ∷ rs) =
    list_any-append f (mentions_of r) (flat_map mentions_of rs) ∙ ap (λ b. list_any f (mentions_of r) || b) (any_paths f rs)

any_map : (g : SignalNumber → Mention) (f : Mention → Bool) (ns : List SignalNumber) → list_any f (map g ns) ≡ list_any (λ n. f (g n)) ns
any_map g f [] = refl
any_map g f (n ∷ ns) = ap (λ b. f (g n) || b) (any_map g f ns)

same_signal : (s n : SignalNumber) → s.0 ≡ n.0 → s ≡ n
same_signal s n e = ap (λ k. record { 0 = k }) e

-- a path mentions signal n, and its ends are the right ones
signals_from : (ns : List SignalNumber) (n : SignalNumber) (a c : Bool) → list_any (λ s. a && (eqb s.0 n.0 && c)) ns ≡ true
    → (a ≡ true) × Contains ns n × (c ≡ true)
signals_from ns n a c h =
    let found = Any-from_list_any (λ (s : SignalNumber). a && (eqb s.0 n.0 && c)) ns h in
    let s = found.1 in
    let own = and_parts a (eqb s.0 n.0 && c) found.4 in
    let rest = and_parts (eqb s.0 n.0) c own.1 in
    let same : s ≡ n = same_signal s n (eqb-true s.0 n.0 rest.0) in (
      own.0,
      (found.0, found.2, subst (λ (u : SignalNumber). slice_index_or ns found.0 u ≡ u) same found.3),
      rest.1,
    )

signals_to : (ns : List SignalNumber) (n : SignalNumber) (a c : Bool) → a ≡ true → Contains ns n → c ≡ true
    → list_any (λ s. a && (eqb s.0 n.0 && c)) ns ≡ true
signals_to ns n a c own there other =
    list_any-from_Any (λ (s : SignalNumber). a && (eqb s.0 n.0 && c)) ns
    (there.0, n, there.1, there.2, and_from a (eqb n.0 n.0 && c) own (and_from (eqb n.0 n.0) c (eq-eqb n.0 n.0 refl) other))

process_from : (p : ℕ) (x : Party) → is_process p x ≡ true → IsProcess p x
process_from p Environment h = cc
process_from p (Process q) h = eqb-true q.0 p h

process_to : (p : ℕ) (x : Party) → IsProcess p x → is_process p x ≡ true
process_to p Environment h = absurd h
process_to p (Process q) h = eq-eqb q.0 p h

as_the : (p : ℕ) (x : Party) → IsProcess p x → x ≡ the_process p
as_the p Environment h = absurd h
as_the p (Process q) h = ap the_process h

-- the declared parties that a process reaches
pub reached_from : (ps : List DraftProcess) (rs : List DraftRoute) (p : ℕ) (n : SignalNumber) (x : Party) → length ps ≤ 16
    → (list_any (is_sent p n.0 (seat x)) (flat_map mentions_of rs) && ltb (seat x) (1 + length ps)) ≡ true
    → IsPartyOf ps x × Reaches rs p x n
reached_from ps rs p n x few h =
    let any = list_any (is_sent p n.0 (seat x)) (flat_map mentions_of rs) in
    let low = ltb (seat x) (1 + length ps) in
    let both = and_parts any low h in
    let within : low ≡ true = both.1 in
    let found = Any-from_list_any (λ (r : DraftRoute). list_any (is_sent p n.0 (seat x)) (mentions_of r)) rs
    (sym (any_paths (is_sent p n.0 (seat x)) rs) ∙ both.0) in
    let r = found.1 in
    let parts = signals_from r.signals n (is_process p r.from) (eqb (seat r.to) (seat x))
    (sym (any_map (λ (s : SignalNumber). record { from = r.from; to = r.to; signal = s }) (is_sent p n.0 (seat x)) r.signals) ∙ found.4) in (
      there_from ps x few within,
      (
        found.0,
        r,
        found.2,
        found.3,
        record {
          from = as_the p r.from (process_from p r.from parts.0);
          to = same_party x r.to (seat_small ps x few within) (eqb-true (seat r.to) (seat x) parts.2);
          signal = parts.1;
        },
      ),
    )

pub reached_to : (ps : List DraftProcess) (rs : List DraftRoute) (p : ℕ) (n : SignalNumber) (x : Party) → length ps ≤ 16
    → IsPartyOf ps x × Reaches rs p x n
    → (list_any (is_sent p n.0 (seat x)) (flat_map mentions_of rs) && ltb (seat x) (1 + length ps)) ≡ true
reached_to ps rs p n x few h =
    let r = h.1.1 in
    let takes : Takes p x n r = h.1.4 in
    let test = signals_to r.signals n (is_process p r.from) (eqb (seat r.to) (seat x)) (process_to p r.from (subst (IsProcess p) (sym takes.from) refl)) takes.signal
    (eq-eqb (seat r.to) (seat x) (ap seat takes.to)) in
    and_from (list_any (is_sent p n.0 (seat x)) (flat_map mentions_of rs)) (ltb (seat x) (1 + length ps))
    (any_paths (is_sent p n.0 (seat x)) rs
    ∙ list_any-from_Any (λ (r : DraftRoute). list_any (is_sent p n.0 (seat x)) (mentions_of r)) rs
    (h.1.0, r, h.1.2, h.1.3, any_map (λ (s : SignalNumber). record { from = r.from; to = r.to; signal = s }) (is_sent p n.0 (seat x)) r.signals ∙ test))
    (there_to ps x few h.0)

-- the parties that may have sent a signal
pub sender_from : (rs : List DraftRoute) (p : ℕ) (n : SignalNumber) (b : ℕ)
    → list_any (is_brought p n.0 b) (flat_map mentions_of rs) ≡ true → Any (ComesFrom b p n) rs
sender_from rs p n b h =
    let found = Any-from_list_any (λ (r : DraftRoute). list_any (is_brought p n.0 b) (mentions_of r)) rs (sym (any_paths (is_brought p n.0 b) rs) ∙ h) in
    let r = found.1 in
    let parts = signals_from r.signals n (is_process p r.to) (eqb (seat r.from) b)
    (sym (any_map (λ (s : SignalNumber). record { from = r.from; to = r.to; signal = s }) (is_brought p n.0 b) r.signals) ∙ found.4) in (
      found.0,
      r,
      found.2,
      found.3,
      record {
        from = eqb-true (seat r.from) b parts.2;
        to = process_from p r.to parts.0;
        signal = parts.1;
      },
    )

pub sender_to : (rs : List DraftRoute) (p : ℕ) (n : SignalNumber) (b : ℕ)
    → Any (ComesFrom b p n) rs → list_any (is_brought p n.0 b) (flat_map mentions_of rs) ≡ true
sender_to rs p n b h =
    let r = h.1 in
    let comes : ComesFrom b p n r = h.4 in
    let test = signals_to r.signals n (is_process p r.to) (eqb (seat r.from) b) (process_to p r.to comes.to) comes.signal
    (eq-eqb (seat r.from) b comes.from) in
    any_paths (is_brought p n.0 b) rs
    ∙ list_any-from_Any (λ (r : DraftRoute). list_any (is_brought p n.0 b) (mentions_of r)) rs
    (h.0, r, h.2, h.3, any_map (λ (s : SignalNumber). record { from = r.from; to = r.to; signal = s }) (is_brought p n.0 b) r.signals ∙ test)

-- each possible sender is reached if each path is answered, and the other way round
module _ (ps : List DraftProcess) (rs : List DraftRoute) (p : ℕ) (m n : SignalNumber) (senders reached : PartySet)
    (sent : (b : ℕ) → (holds senders b ≡ true) ↔ Any (ComesFrom b p m) rs)
    (reaches : (x : Party) → (holds reached (seat x) ≡ true) ↔ (IsPartyOf ps x × Reaches rs p x n)) where
  pub answered_from : ((b : ℕ) → holds senders b ≡ true → holds reached b ≡ true) → All (Answers ps rs p m n) rs
  answered_from within k d low =
      let r = slice_index_or rs k d in
      λ to contains.
      (reaches r.from).0 (within (seat r.from) ((sent (seat r.from)).1
      (k, r, low, get_or_default rs k r d low, record { from = refl; to = to; signal = contains })))

  pub answered_to : All (Answers ps rs p m n) rs → (b : ℕ) → holds senders b ≡ true → holds reached b ≡ true
  answered_to all b one =
      let found = (sent b).0 one in
      let r = found.1 in
      let comes : ComesFrom b p m r = found.4 in
      let answers : Answers ps rs p m n r = subst (Answers ps rs p m n) found.3 (all found.0 r found.2) in
      subst (λ c. holds reached c ≡ true) comes.from ((reaches r.from).1 (answers comes.to comes.signal))

-- the result of a look-up, in a draft equal to the indexed one
module _ (t : RouteTable) (inside d : Draft) (seen : inside ≡ d) (tells : Tells t (flat_map mentions_of inside.routes)) (limits : KeepsSetLimits d)
    (p : ℕ) (low : p < length d.processes) (n : SignalNumber) where
  few : length d.processes ≤ 16
  few = limits.processes

  row : p < 16
  row = omega arith

  told : Tells t (flat_map mentions_of d.routes)
  told = subst (λ (x : Draft). Tells t (flat_map mentions_of x.routes)) seen tells

  pub senders_are : (found : PartySet) → found ≡ listed t.senders p n.0 → (b : ℕ) → (holds found b ≡ true) ↔ Any (ComesFrom b p n) d.routes
  senders_are found is b =
      let e : holds found b ≡ list_any (is_brought p n.0 b) (flat_map mentions_of d.routes) = ap (λ s. holds s b) is ∙ told.senders p n.0 b row in
      (λ h. sender_from d.routes p n b (sym e ∙ h), λ h. e ∙ sender_to d.routes p n b h)

  pub reached_are : (found there both : PartySet) (count : ℕ) → found ≡ listed t.receivers p n.0 → count ≡ length inside.processes
      → ((b : ℕ) → holds there b ≡ ltb b (1 + count)) → ((b : ℕ) → holds both b ≡ (holds found b && holds there b))
      → (x : Party) → (holds both (seat x) ≡ true) ↔ (IsPartyOf d.processes x × Reaches d.routes p x n)
  reached_are found there both count is counted first all x =
      let one : holds found (seat x) ≡ list_any (is_sent p n.0 (seat x)) (flat_map mentions_of d.routes) =
      ap (λ s. holds s (seat x)) is ∙ told.receivers p n.0 (seat x) row in
      let size : count ≡ length d.processes = counted ∙ ap (λ (y : Draft). length y.processes) seen in
      let other : holds there (seat x) ≡ ltb (seat x) (1 + length d.processes) = first (seat x) ∙ ap (λ k. ltb (seat x) (1 + k)) size in
      let e : holds both (seat x) ≡ (list_any (is_sent p n.0 (seat x)) (flat_map mentions_of d.routes) && ltb (seat x) (1 + length d.processes)) =
      all (seat x) ∙ (λ i. one i && other i) in
      (λ h. reached_from d.processes d.routes p n x few (sym e ∙ h), λ h. e ∙ reached_to d.processes d.routes p n x few h)
