-- Places in queues.
use Rattle.std.proofs.Common.{◌≡◌, ℕ, zero, suc, ◌+◌, ◌<◌, ◌≤◌, Bool, true, false, cond, ltb, List, [], ◌∷◌, ◌++◌, length, get_or, drop, Option, Some, None, refl, sym, ap, subst, ◌∙◌, arith}
use Rattle.std.specs.Option.{option_map}
use Rattle.std.specs.List.{remove}
use Rattle.std.proofs.lemmas.List.{at_drop_more, at_drop_all}
use Rattle.resend_store.specs.declared.messages.Msu.{Msu}
use Rattle.m3ua_gateway.specs.Life.{is_of, first_of, without_first}
use Rattle.std.specs.List.{list_any}
use Rattle.std.specs.Prelude.{not, ◌&&◌}
use Rattle.m3ua_gateway.specs.declared.states.State.{State}
use Rattle.m3ua_gateway.specs.declared.states.State.TheVariants as state
use Rattle.m3ua_gateway.specs.declared.table.Action.{Action}
use Rattle.m3ua_gateway.specs.declared.table.Happening.{Happening}
use Rattle.m3ua_gateway.specs.States.{server_in, is_pending, is_active}
use Rattle.m3ua_gateway.specs.Table.{step}
use Rattle.m3ua_gateway.specs.Life.{Holds, Life, standing, lived, happens, comes, delivers, takes, drops, is_release, is_loss, strange_in, after_delivery, while_pending, after_taking, after_dropping, is_fit, MOST_KEPT, GREATEST, counted, Account, account_with, account_after, result_of}
use Rattle.m3ua_gateway.specs.Holding.{place_of, dropped_in}
use Rattle.m3ua_gateway.proofs.MovingLaws.{messages_moved}

pub record Stands (s : ℕ) (ms : List Msu) (i : ℕ) (d : Msu) : Type 0 where
  pub there : i < length ms
  pub first : first_of s ms ≡ Some (get_or ms i d)
  pub others : remove ms i ≡ without_first s ms

deeper : (s : ℕ) (m : Msu) (ms : List Msu) (i : ℕ) (d : Msu) (o : Option ℕ) → place_of s ms ≡ o → ((k : ℕ) → place_of s ms ≡ Some k → Stands s ms k d)
    → option_map suc o ≡ Some i → (i < length (m ∷ ms)) × (first_of s ms ≡ Some (get_or (m ∷ ms) i d)) × (remove (m ∷ ms) i ≡ m ∷ without_first s ms)
deeper s m ms i d None at hyp e = absurd cc
deeper s m ms i d (Some k) at hyp e =
    let here = hyp k at in
    let is : suc k ≡ i = cc in
    subst (λ (j : ℕ). (j < length (m ∷ ms)) × (first_of s ms ≡ Some (get_or (m ∷ ms) j d)) × (remove (m ∷ ms) j ≡ m ∷ without_first s ms)) is
    (omega (arith, here.there), here.first, ap (λ (xs : List Msu). m ∷ xs) here.others)

stands_by : (b : Bool) (s : ℕ) (m : Msu) (ms : List Msu) (i : ℕ) (d : Msu) → ((k : ℕ) → place_of s ms ≡ Some k → Stands s ms k d)
    → cond b (Some 0) (option_map suc (place_of s ms)) ≡ Some i
    → (i < length (m ∷ ms)) × (cond b (Some m) (first_of s ms) ≡ Some (get_or (m ∷ ms) i d)) × (remove (m ∷ ms) i ≡ cond b ms (m ∷ without_first s ms))
stands_by true s m ms zero d hyp e = (omega arith, refl, refl)
stands_by true s m ms (suc k) d hyp e = absurd cc
stands_by false s m ms i d hyp e = deeper s m ms i d (place_of s ms) refl hyp e

pub stands : (s : ℕ) (ms : List Msu) (i : ℕ) (d : Msu) → place_of s ms ≡ Some i → Stands s ms i d
stands s [] i d e = absurd cc
stands s (m ∷ ms) i d e =
    let all = stands_by (is_of s m) s m ms i d (λ k at. stands s ms k d at) e in
    record { there = all.0; first = all.1; others = all.2 }

mapped : (o : Option ℕ) → option_map suc o ≡ None → o ≡ None
mapped None e = refl
mapped (Some k) e = absurd cc

nowhere_by : (b : Bool) (s : ℕ) (m : Msu) (ms : List Msu) → (place_of s ms ≡ None → (first_of s ms ≡ None) × (without_first s ms ≡ ms))
    → cond b (Some 0) (option_map suc (place_of s ms)) ≡ None → (cond b (Some m) (first_of s ms) ≡ None) × (cond b ms (m ∷ without_first s ms) ≡ m ∷ ms)
nowhere_by true s m ms hyp e = absurd cc
nowhere_by false s m ms hyp e =
    let here = hyp (mapped (place_of s ms) e) in
    (here.0, ap (λ (xs : List Msu). m ∷ xs) here.1)

pub nowhere : (s : ℕ) (ms : List Msu) → place_of s ms ≡ None → (first_of s ms ≡ None) × (without_first s ms ≡ ms)
nowhere s [] e = (refl, refl)
nowhere s (m ∷ ms) e = nowhere_by (is_of s m) s m ms (nowhere s ms) e

none_by : (b : Bool) (s : ℕ) (m : Msu) (ms : List Msu) → (first_of s ms ≡ None → without_first s ms ≡ ms)
    → cond b (Some m) (first_of s ms) ≡ None → cond b ms (m ∷ without_first s ms) ≡ m ∷ ms
none_by true s m ms hyp e = absurd cc
none_by false s m ms hyp e = ap (λ (xs : List Msu). m ∷ xs) (hyp e)

none_first : (s : ℕ) (ms : List Msu) → first_of s ms ≡ None → without_first s ms ≡ ms
none_first s [] e = refl
none_first s (m ∷ ms) e = none_by (is_of s m) s m ms (none_first s ms) e

-- ---- accounts

pub same_account : (h k : Holds) (m n p q : ℕ) → h ≡ k → m ≡ n → p ≡ q → ◌≡◌ {A = Account} (record { holds = h; lost = m; refused = p }) (record { holds = k; lost = n; refused = q })
same_account h k m n p q holds lost refused =
    ap (λ (x : Holds). record { holds = x; lost = m; refused = p }) holds ∙ ap (λ (x : ℕ). record { holds = k; lost = x; refused = p }) lost
    ∙ ap (λ (x : ℕ). record { holds = k; lost = n; refused = x }) refused

pub same_count : (n : ℕ) → n ≤ GREATEST → n ≡ counted (n + 0)
same_count n le = omega arith

no_more : (n : ℕ) → n ≤ GREATEST → n ≡ counted (n + (0 + 0))
no_more n few = omega arith

took : (a : Account) (s : ℕ) (o : Option Msu) → first_of s a.holds.waiting ≡ o → a.lost ≤ GREATEST → a.refused ≤ GREATEST
    → ◌≡◌ {A = Account} (record { holds = record { state = a.holds.state; kept = a.holds.kept; waiting = without_first s a.holds.waiting }; lost = a.lost; refused = a.refused }) (account_with a (after_taking (standing a.holds) s o))
took a s None e lost refused =
    same_account (record { state = a.holds.state; kept = a.holds.kept; waiting = without_first s a.holds.waiting }) a.holds a.lost (counted (a.lost + 0)) a.refused (counted (a.refused + (0 + 0)))
    (ap (λ (x : List Msu). record { state = a.holds.state; kept = a.holds.kept; waiting = x }) (none_first s a.holds.waiting e)) (omega arith) (omega arith)
took a s (Some m) e lost refused =
    same_account (record { state = a.holds.state; kept = a.holds.kept; waiting = without_first s a.holds.waiting }) (record { state = a.holds.state; kept = a.holds.kept; waiting = without_first s a.holds.waiting })
    a.lost (counted (a.lost + 0)) a.refused (counted (a.refused + (0 + 0))) refl (omega arith) (omega arith)

pub taken : (a : Account) (s : ℕ) → a.lost ≤ GREATEST → a.refused ≤ GREATEST
    → ◌≡◌ {A = Account} (record { holds = record { state = a.holds.state; kept = a.holds.kept; waiting = without_first s a.holds.waiting }; lost = a.lost; refused = a.refused }) (account_after a (takes s))
unfolding lived
taken a s lost refused = took a s (first_of s a.holds.waiting) refl lost refused

dropped_by : (a : Account) (s : ℕ) (o : Option Msu) → first_of s a.holds.waiting ≡ o → a.lost ≤ GREATEST
    → ◌≡◌ {A = Account} (record { holds = record { state = a.holds.state; kept = a.holds.kept; waiting = without_first s a.holds.waiting }; lost = a.lost; refused = counted (a.refused + dropped_in o) }) (account_with a (after_dropping (standing a.holds) s o))
dropped_by a s None e lost =
    same_account (record { state = a.holds.state; kept = a.holds.kept; waiting = without_first s a.holds.waiting }) a.holds a.lost (counted (a.lost + 0)) (counted (a.refused + 0)) (counted (a.refused + (0 + 0)))
    (ap (λ (x : List Msu). record { state = a.holds.state; kept = a.holds.kept; waiting = x }) (none_first s a.holds.waiting e)) (omega arith) (omega arith)
dropped_by a s (Some m) e lost =
    same_account (record { state = a.holds.state; kept = a.holds.kept; waiting = without_first s a.holds.waiting }) (record { state = a.holds.state; kept = a.holds.kept; waiting = without_first s a.holds.waiting })
    a.lost (counted (a.lost + 0)) (counted (a.refused + 1)) (counted (a.refused + (1 + 0))) refl (omega arith) (omega arith)

pub dropped : (a : Account) (s : ℕ) (o : Option Msu) → first_of s a.holds.waiting ≡ o → a.lost ≤ GREATEST
    → ◌≡◌ {A = Account} (record { holds = record { state = a.holds.state; kept = a.holds.kept; waiting = without_first s a.holds.waiting }; lost = a.lost; refused = counted (a.refused + dropped_in o) }) (account_after a (drops s))
unfolding lived
dropped a s o e lost = dropped_by a s o e lost ∙ ap (λ (x : Option Msu). account_with a (after_dropping (standing a.holds) s x)) (sym e)

pub dropped_none : (a : Account) (s : ℕ) → first_of s a.holds.waiting ≡ None → a.lost ≤ GREATEST → a.refused ≤ GREATEST
    → ◌≡◌ {A = Account} (record { holds = record { state = a.holds.state; kept = a.holds.kept; waiting = without_first s a.holds.waiting }; lost = a.lost; refused = a.refused }) (account_after a (drops s))
dropped_none a s e lost refused =
    ap (λ (n : ℕ). record { holds = record { state = a.holds.state; kept = a.holds.kept; waiting = without_first s a.holds.waiting }; lost = a.lost; refused = n }) (same_count a.refused refused)
    ∙ dropped a s None e lost

pub same_without : (a : Account) (s : ℕ) → without_first s a.holds.waiting ≡ a.holds.waiting
    → a ≡ record { holds = record { state = a.holds.state; kept = a.holds.kept; waiting = without_first s a.holds.waiting }; lost = a.lost; refused = a.refused }
same_without a s e = ap (λ (x : List Msu). record { holds = record { state = a.holds.state; kept = a.holds.kept; waiting = x }; lost = a.lost; refused = a.refused }) (sym e)

-- ---- what is kept

twice : (b c : Bool) (kept : List Msu) → cond c [] (cond b [] kept) ≡ cond b [] (cond c [] kept)
twice true true kept = refl
twice true false kept = refl
twice false c kept = refl

lost_both : (q : Bool) → true ≡ (not q && false) → ⊥
lost_both true e = absurd cc
lost_both false e = absurd cc

both : (p q a : Bool) → true ≡ (p && a) → true ≡ (p && (not q && not a)) → ⊥
both true q true e f = lost_both q f
both true q false e f = absurd cc
both false q a e f = absurd cc

apart : (b c p q a : Bool) (kept : List Msu) → b ≡ (p && a) → c ≡ (p && (not q && not a)) → cond c (length kept) 0 ≡ length (cond b [] (cond c kept []))
apart true true p q a kept is_b is_c = absurd (both p q a is_b is_c)
apart true false p q a kept is_b is_c = refl
apart false true p q a kept is_b is_c = refl
apart false false p q a kept is_b is_c = refl

pub happened : (a : Account) (e : Happening) (s : State) (actions : List Action) (release lose : Bool) (kept : List Msu) (lost refused : ℕ) → (s, actions) ≡ step a.holds.state e
    → release ≡ (is_pending (server_in a.holds.state) && is_active s) → lose ≡ (is_pending (server_in a.holds.state) && (not (is_pending (server_in s)) && not (is_active s)))
    → kept ≡ cond lose [] (cond release [] a.holds.kept) → lost ≡ counted (a.lost + cond lose (length a.holds.kept) 0) → refused ≡ counted (a.refused + strange_in e)
    → ◌≡◌ {A = Account} (record { holds = record { state = s; kept = kept; waiting = a.holds.waiting }; lost = lost; refused = refused }) (account_after a (happens e))
unfolding lived
happened a e s actions release lose kept lost refused at at_release at_lose at_kept at_lost at_refused =
    let to : State = (step a.holds.state e).0 in
    let R : Bool = list_any is_release (step a.holds.state e).1 in
    let L : Bool = list_any is_loss (step a.holds.state e).1 in
    let state : s ≡ (step a.holds.state e).0 = ap (λ (x : State × List Action). x.0) at in
    let is_r : release ≡ list_any is_release (step a.holds.state e).1 = at_release ∙ ap (λ (x : State). is_pending (server_in a.holds.state) && is_active x) state ∙ sym (messages_moved a.holds.state e).0 in
    let is_l : lose ≡ list_any is_loss (step a.holds.state e).1 =
    at_lose ∙ ap (λ (x : State). is_pending (server_in a.holds.state) && (not (is_pending (server_in x)) && not (is_active x))) state ∙ sym (messages_moved a.holds.state e).1 in
    let left : kept ≡ cond R [] (cond L [] a.holds.kept) =
    at_kept ∙ ap (λ (x : Bool). cond lose [] (cond x [] a.holds.kept)) is_r ∙ ap (λ (x : Bool). cond x [] (cond R [] a.holds.kept)) is_l ∙ twice R L a.holds.kept in
    let gone : cond {A = ℕ} lose (length a.holds.kept) 0 ≡ length (cond R [] (cond L a.holds.kept [])) =
    ap (λ (x : Bool). cond {A = ℕ} x (length a.holds.kept) 0) is_l
    ∙ apart R L (is_pending (server_in a.holds.state)) (is_pending (server_in (step a.holds.state e).0)) (is_active (step a.holds.state e).0) a.holds.kept (messages_moved a.holds.state e).0 (messages_moved a.holds.state e).1 in
    same_account (record { state = s; kept = kept; waiting = a.holds.waiting }) (record { state = to; kept = cond R [] (cond L [] a.holds.kept); waiting = a.holds.waiting })
    lost (counted (a.lost + length (cond R [] (cond L a.holds.kept [])))) refused (counted (a.refused + (0 + (0 + strange_in e))))
    (ap (λ (x : State). record { state = x; kept = kept; waiting = a.holds.waiting }) state ∙ ap (λ (x : List Msu). record { state = to; kept = x; waiting = a.holds.waiting }) left)
    (at_lost ∙ ap (λ (n : ℕ). counted (a.lost + n)) gone) (at_refused ∙ omega arith)

-- what is sent, by the test that the code makes
pub released : (a : Account) (e : Happening) (s : State) (actions : List Action) (release b : Bool) → (s, actions) ≡ step a.holds.state e
    → release ≡ (is_pending (server_in a.holds.state) && is_active s) → release ≡ b → cond b a.holds.kept [] ≡ (result_of a (happens e)).sent
unfolding lived
released a e s actions release b at at_release is =
    let state : s ≡ (step a.holds.state e).0 = ap (λ (x : State × List Action). x.0) at in
    let test : b ≡ list_any is_release (step a.holds.state e).1 =
    sym is ∙ at_release ∙ ap (λ (x : State). is_pending (server_in a.holds.state) && is_active x) state ∙ sym (messages_moved a.holds.state e).0 in
    ap (λ (x : Bool). cond x a.holds.kept []) test

-- ---- DATA

abbrev gate : State → List Msu → List Msu → ℕ → ℕ → Account
gate s kept waiting lost refused = record { holds = record { state = s; kept = kept; waiting = waiting }; lost = lost; refused = refused }

pub came_active : (s : State) (kept waiting more : List Msu) (lost refused : ℕ) (m : Msu) → is_active s ≡ true → more ≡ waiting ++ m ∷ [] → lost ≤ GREATEST → refused ≤ GREATEST
    → gate s kept more lost refused ≡ account_after (gate s kept waiting lost refused) (comes m)
unfolding lived
came_active state.Down kept waiting more lost refused m active at few_lost few_refused = absurd cc
came_active state.Inactive kept waiting more lost refused m active at few_lost few_refused = absurd cc
came_active state.DownPending kept waiting more lost refused m active at few_lost few_refused = absurd cc
came_active state.InactivePending kept waiting more lost refused m active at few_lost few_refused = absurd cc
came_active state.Active kept waiting more lost refused m active at few_lost few_refused =
    same_account (record { state = state.Active; kept = kept; waiting = more }) (record { state = state.Active; kept = kept; waiting = waiting ++ m ∷ [] }) lost (counted (lost + 0)) refused (counted (refused + (0 + 0)))
    (ap (λ (x : List Msu). record { state = state.Active; kept = kept; waiting = x }) at) (omega arith) (omega arith)

refused_in : (h : Holds) (lost refused count : ℕ) → count ≡ counted (refused + 1) → lost ≤ GREATEST
    → ◌≡◌ {A = Account} (record { holds = h; lost = lost; refused = count }) (record { holds = h; lost = counted (lost + 0); refused = counted (refused + (1 + 0)) })
refused_in h lost refused count at few_lost = same_account h h lost (counted (lost + 0)) count (counted (refused + (1 + 0))) refl (omega arith) (at ∙ omega arith)

pub came_idle : (s : State) (kept waiting : List Msu) (lost refused count : ℕ) (m : Msu) → is_active s ≡ false → count ≡ counted (refused + 1) → lost ≤ GREATEST
    → gate s kept waiting lost count ≡ account_after (gate s kept waiting lost refused) (comes m)
unfolding lived
came_idle state.Active kept waiting lost refused count m idle at few_lost = absurd cc
came_idle state.Down kept waiting lost refused count m idle at few_lost = refused_in (record { state = state.Down; kept = kept; waiting = waiting }) lost refused count at few_lost
came_idle state.Inactive kept waiting lost refused count m idle at few_lost = refused_in (record { state = state.Inactive; kept = kept; waiting = waiting }) lost refused count at few_lost
came_idle state.DownPending kept waiting lost refused count m idle at few_lost = refused_in (record { state = state.DownPending; kept = kept; waiting = waiting }) lost refused count at few_lost
came_idle state.InactivePending kept waiting lost refused count m idle at few_lost = refused_in (record { state = state.InactivePending; kept = kept; waiting = waiting }) lost refused count at few_lost

-- ---- what the set delivers

pub lost_one : (a : Account) (m : Msu) (n : ℕ) → n ≡ counted (a.lost + 1) → a.refused ≤ GREATEST
    → ◌≡◌ {A = Account} (record { holds = a.holds; lost = n; refused = a.refused }) (account_with a (after_delivery (standing a.holds) m state.Down))
lost_one a m n at few = same_account a.holds a.holds n (counted (a.lost + 1)) a.refused (counted (a.refused + (0 + 0))) refl at (omega arith)

pub sent_one : (a : Account) (m : Msu) → a.lost ≤ GREATEST → a.refused ≤ GREATEST → a ≡ account_with a (after_delivery (standing a.holds) m state.Active)
sent_one a m few_lost few_refused = same_account a.holds a.holds a.lost (counted (a.lost + 0)) a.refused (counted (a.refused + (0 + 0))) refl (omega arith) (omega arith)

abbrev put : Bool → Life → Msu → Life
put b l m = cond b (record l { holds = record l.holds { kept = l.holds.kept ++ m ∷ [] }; delivered = l.delivered ++ m ∷ [] }) (record l { delivered = l.delivered ++ m ∷ []; lost = l.lost ++ m ∷ [] })

put_one : (b : Bool) (a : Account) (m : Msu) → a.refused ≤ GREATEST
    → ◌≡◌ {A = Account} (record { holds = (put b (standing a.holds) m).holds; lost = counted (a.lost + length (put b (standing a.holds) m).lost); refused = a.refused }) (account_with a (put b (standing a.holds) m))
put_one true a m few = ap (λ (n : ℕ). record { holds = (put true (standing a.holds) m).holds; lost = counted (a.lost + length (put true (standing a.holds) m).lost); refused = n }) (no_more a.refused few)
put_one false a m few = ap (λ (n : ℕ). record { holds = (put false (standing a.holds) m).holds; lost = counted (a.lost + length (put false (standing a.holds) m).lost); refused = n }) (no_more a.refused few)

pub kept_one : (a : Account) (m : Msu) → a.refused ≤ GREATEST
    → ◌≡◌ {A = Account} (record { holds = (while_pending (standing a.holds) m).holds; lost = counted (a.lost + length (while_pending (standing a.holds) m).lost); refused = a.refused }) (account_with a (while_pending (standing a.holds) m))
kept_one a m few = put_one (ltb (length a.holds.kept) MOST_KEPT) a m few

put_sent : (b : Bool) (h : Holds) (m : Msu) → [] ≡ (put b (standing h) m).sent
put_sent true h m = refl
put_sent false h m = refl

pub kept_sent : (h : Holds) (m : Msu) → [] ≡ (while_pending (standing h) m).sent
kept_sent h m = put_sent (ltb (length h.kept) MOST_KEPT) h m

-- the delivery in a state, by tests on the state
pub when_active : (l : Life) (m : Msu) (s : State) → is_active s ≡ true → after_delivery l m state.Active ≡ after_delivery l m s
when_active l m state.Down e = absurd cc
when_active l m state.Inactive e = absurd cc
when_active l m state.Active e = refl
when_active l m state.DownPending e = absurd cc
when_active l m state.InactivePending e = absurd cc

pub when_pending : (l : Life) (m : Msu) (s : State) → is_pending (server_in s) ≡ true → while_pending l m ≡ after_delivery l m s
when_pending l m state.Down e = absurd cc
when_pending l m state.Inactive e = absurd cc
when_pending l m state.Active e = absurd cc
when_pending l m state.DownPending e = refl
when_pending l m state.InactivePending e = refl

pub when_idle : (l : Life) (m : Msu) (s : State) → is_active s ≡ false → is_pending (server_in s) ≡ false → after_delivery l m state.Down ≡ after_delivery l m s
when_idle l m state.Down e f = refl
when_idle l m state.Inactive e f = refl
when_idle l m state.Active e f = absurd cc
when_idle l m state.DownPending e f = absurd cc
when_idle l m state.InactivePending e f = absurd cc

pub when_labelled : (a : Account) (m : Msu) (b : Bool) → is_fit m ≡ b → after_delivery (standing a.holds) m (cond b a.holds.state state.Down) ≡ result_of a (delivers m)
unfolding lived
when_labelled a m b e = ap (λ (x : Bool). after_delivery (standing a.holds) m (cond x a.holds.state state.Down)) (sym e)

-- ---- the search for a place

shifted : (i : ℕ) (o : Option ℕ) → option_map (λ k. k + i) (option_map suc o) ≡ option_map (λ k. k + (i + 1)) o
shifted i None = refl
shifted i (Some k) = let same : suc k + i ≡ k + (i + 1) = omega arith in ap (λ (n : ℕ). Some n) same

place_cons : (s : ℕ) (ms : List Msu) (i : ℕ) (d : Msu) → i < length ms → place_of s (drop i ms) ≡ cond (is_of s (get_or ms i d)) (Some 0) (option_map suc (place_of s (drop (i + 1) ms)))
place_cons s ms i d lt = at_drop_more (place_of s) ms i d lt

pub place_on : (s : ℕ) (ms : List Msu) (i : ℕ) (d : Msu) → i < length ms → is_of s (get_or ms i d) ≡ false
    → option_map (λ k. k + i) (place_of s (drop i ms)) ≡ place_of s ms → option_map (λ k. k + (i + 1)) (place_of s (drop (i + 1) ms)) ≡ place_of s ms
place_on s ms i d lt other so_far =
    let here : place_of s (drop i ms) ≡ option_map suc (place_of s (drop (i + 1) ms)) = place_cons s ms i d lt ∙ ap (λ (b : Bool). cond b (Some 0) (option_map suc (place_of s (drop (i + 1) ms)))) other in
    sym (shifted i (place_of s (drop (i + 1) ms))) ∙ ap (option_map (λ k. k + i)) (sym here) ∙ so_far

pub place_here : (s : ℕ) (ms : List Msu) (i : ℕ) (d : Msu) → i < length ms → is_of s (get_or ms i d) ≡ true
    → option_map (λ k. k + i) (place_of s (drop i ms)) ≡ place_of s ms → Some i ≡ place_of s ms
place_here s ms i d lt same so_far =
    let here : place_of s (drop i ms) ≡ Some 0 = place_cons s ms i d lt ∙ ap (λ (b : Bool). cond b (Some 0) (option_map suc (place_of s (drop (i + 1) ms)))) same in
    let at : i ≡ 0 + i = omega arith in
    ap (λ (n : ℕ). Some n) at ∙ ap (option_map (λ k. k + i)) (sym here) ∙ so_far

pub place_end : (s : ℕ) (ms : List Msu) (i : ℕ) → length ms ≤ i → option_map (λ k. k + i) (place_of s (drop i ms)) ≡ place_of s ms → None ≡ place_of s ms
place_end s ms i le so_far =
    let none : place_of s (drop i ms) ≡ None = at_drop_all (place_of s) ms i le in
    ap (option_map (λ k. k + i)) (sym none) ∙ so_far
