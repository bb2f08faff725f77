-- What becomes of messages in a life.
use Rattle.std.proofs.Common.{◌≡◌, ℕ, ◌+◌, ◌≤◌, Bool, true, false, cond, ltb, List, [], ◌∷◌, ◌++◌, length, Option, Some, None, refl, sym, ap, subst, ◌∙◌, append_assoc, arith}
use Rattle.std.specs.List.{count_by, list_any}
use Rattle.std.specs.Prelude.{not, ◌&&◌, ◌==◌}
use Rattle.std.proofs.lemmas.Bool.{ltb-true}
use Rattle.std.proofs.lemmas.List.{append-nil, length-append}
use Rattle.std.proofs.lemmas.List.Sums.{sum_by-append, sum_by_push, sum_by-cons}
use Rattle.resend_store.specs.declared.messages.Msu.{Msu}
use Rattle.m3ua_gateway.specs.declared.states.State.{State}
use Rattle.m3ua_gateway.specs.declared.states.State.TheVariants as state
use Rattle.m3ua_gateway.specs.declared.table.Action.{Action}
use Rattle.m3ua_gateway.specs.Table.{step}
use Rattle.m3ua_gateway.specs.Life.{Holds, Deed, happens, comes, delivers, takes, drops, Life, standing, joined, counted, Account, account_of, strange_in, is_release, is_loss, Within, none, same, more, after_happening, after_coming, after_delivery, is_fit, is_unfit, for_delivery, after_taking, after_dropping, is_of, first_of, without_first, lived, life_of, is_data, IsUpward, IsDownward, IsInOrder, AreFit, IsEachData, IsKept, MOST_KEPT}
use Rattle.m3ua_gateway.specs.States.{server_in, is_pending, is_active}
use Rattle.m3ua_gateway.specs.Laws.{Followed}
use Rattle.m3ua_gateway.proofs.MovingLaws.{messages_moved}
use Rattle.m3ua_gateway.specs.declared.table.Happening.{Happening}
use Rattle.m3ua_gateway.specs.declared.table.Happening.TheVariants as happening

-- a message as a count
abbrev one : (Msu → Bool) → Msu → ℕ
one test m = cond (test m) 1 0

push : (test : Msu → Bool) (ms : List Msu) (m : Msu) → count_by test (ms ++ m ∷ []) ≡ count_by test ms + one test m
push test ms m = sum_by_push (λ x. cond (test x) 1 0) ms m

join : (test : Msu → Bool) (ms ns : List Msu) → count_by test (ms ++ ns) ≡ count_by test ms + count_by test ns
join test ms ns = sum_by-append (λ x. cond (test x) 1 0) ms ns

-- ---- upward

moves : (b c : Bool) (test : Msu → Bool) (sent kept lost : List Msu)
    → count_by test (sent ++ cond b kept []) + count_by test (cond b [] (cond c [] kept)) + count_by test (lost ++ cond b [] (cond c kept []))
    ≡ count_by test sent + count_by test kept + count_by test lost
moves true c test sent kept lost = omega (arith, join test sent kept, join test lost [])
moves false true test sent kept lost = omega (arith, join test sent [], join test lost kept)
moves false false test sent kept lost = omega (arith, join test sent [], join test lost [])

up_happening : (l : Life) (s : State) (actions : List Action) (n : ℕ) → IsUpward l → IsUpward (after_happening l s actions n)
up_happening l s actions n h test = h test ∙ sym (moves (list_any is_release actions) (list_any is_loss actions) test l.sent l.holds.kept l.lost)

up_coming : (l : Life) (m : Msu) (s : State) → IsUpward l → IsUpward (after_coming l m s)
up_coming l m state.Down h test = h test
up_coming l m state.Inactive h test = h test
up_coming l m state.Active h test = h test
up_coming l m state.DownPending h test = h test
up_coming l m state.InactivePending h test = h test

up_pending : (b : Bool) (l : Life) (m : Msu) → IsUpward l
    → IsUpward (cond b (record l { holds = record l.holds { kept = l.holds.kept ++ m ∷ [] }; delivered = l.delivered ++ m ∷ [] }) (record l { delivered = l.delivered ++ m ∷ []; lost = l.lost ++ m ∷ [] }))
up_pending true l m h test = omega (arith, h test, push test l.delivered m, push test l.holds.kept m)
up_pending false l m h test = omega (arith, h test, push test l.delivered m, push test l.lost m)

up_delivery : (l : Life) (m : Msu) (s : State) → IsUpward l → IsUpward (after_delivery l m s)
up_delivery l m state.Down h test = omega (arith, h test, push test l.delivered m, push test l.lost m)
up_delivery l m state.Inactive h test = omega (arith, h test, push test l.delivered m, push test l.lost m)
up_delivery l m state.Active h test = omega (arith, h test, push test l.delivered m, push test l.sent m)
up_delivery l m state.DownPending h test = up_pending (ltb (length l.holds.kept) MOST_KEPT) l m h test
up_delivery l m state.InactivePending h test = up_pending (ltb (length l.holds.kept) MOST_KEPT) l m h test

up_taking : (l : Life) (n : ℕ) (o : Option Msu) → IsUpward l → IsUpward (after_taking l n o)
up_taking l n None h test = h test
up_taking l n (Some m) h test = h test

up_dropping : (l : Life) (n : ℕ) (o : Option Msu) → IsUpward l → IsUpward (after_dropping l n o)
up_dropping l n None h test = h test
up_dropping l n (Some m) h test = h test

up_lived : (l : Life) (d : Deed) → IsUpward l → IsUpward (lived l d)
unfolding lived
up_lived l (happens h) up = up_happening l (step l.holds.state h).0 (step l.holds.state h).1 (strange_in h) up
up_lived l (comes m) up = up_coming l m l.holds.state up
up_lived l (delivers m) up = up_delivery l m (for_delivery m l.holds.state) up
up_lived l (takes n) up = up_taking l n (first_of n l.holds.waiting) up
up_lived l (drops n) up = up_dropping l n (first_of n l.holds.waiting) up

pub upward : (ds : List Deed) → IsUpward (life_of ds)
upward [] = λ test. refl
upward (d ∷ ds) = up_lived (life_of ds) d (upward ds)

-- ---- downward

-- a message that waits is the first of its selection, or among the others
split_by : (b : Bool) (test : Msu → Bool) (n : ℕ) (m k : Msu) (ms : List Msu)
    → (first_of n ms ≡ Some k → count_by test ms ≡ one test k + count_by test (without_first n ms))
    → cond b (Some m) (first_of n ms) ≡ Some k → count_by test (m ∷ ms) ≡ one test k + count_by test (cond b ms (m ∷ without_first n ms))
split_by true test n m k ms hyp e =
    let same : m ≡ k = cc in
    sum_by-cons (λ x. cond (test x) 1 0) m ms ∙ ap (λ (x : Msu). one test x + count_by test ms) same
split_by false test n m k ms hyp e = omega (arith, sum_by-cons (λ x. cond (test x) 1 0) m ms, sum_by-cons (λ x. cond (test x) 1 0) m (without_first n ms), hyp e)

split : (test : Msu → Bool) (n : ℕ) (ms : List Msu) (k : Msu) → first_of n ms ≡ Some k → count_by test ms ≡ one test k + count_by test (without_first n ms)
split test n [] k e = absurd cc
split test n (m ∷ ms) k e = split_by (is_of n m) test n m k ms (split test n ms k) e

down_happening : (l : Life) (s : State) (actions : List Action) (n : ℕ) → IsDownward l → IsDownward (after_happening l s actions n)
down_happening l s actions n h test = h test

down_coming : (l : Life) (m : Msu) (s : State) → IsDownward l → IsDownward (after_coming l m s)
down_coming l m state.Down h test = omega (arith, h test, push test l.came m, push test l.refused m)
down_coming l m state.Inactive h test = omega (arith, h test, push test l.came m, push test l.refused m)
down_coming l m state.Active h test = omega (arith, h test, push test l.came m, push test l.holds.waiting m)
down_coming l m state.DownPending h test = omega (arith, h test, push test l.came m, push test l.refused m)
down_coming l m state.InactivePending h test = omega (arith, h test, push test l.came m, push test l.refused m)

down_pending : (b : Bool) (l : Life) (m : Msu) → IsDownward l
    → IsDownward (cond b (record l { holds = record l.holds { kept = l.holds.kept ++ m ∷ [] }; delivered = l.delivered ++ m ∷ [] }) (record l { delivered = l.delivered ++ m ∷ []; lost = l.lost ++ m ∷ [] }))
down_pending true l m h test = h test
down_pending false l m h test = h test

down_delivery : (l : Life) (m : Msu) (s : State) → IsDownward l → IsDownward (after_delivery l m s)
down_delivery l m state.Down h test = h test
down_delivery l m state.Inactive h test = h test
down_delivery l m state.Active h test = h test
down_delivery l m state.DownPending h test = down_pending (ltb (length l.holds.kept) MOST_KEPT) l m h test
down_delivery l m state.InactivePending h test = down_pending (ltb (length l.holds.kept) MOST_KEPT) l m h test

down_taking : (l : Life) (n : ℕ) (o : Option Msu) → first_of n l.holds.waiting ≡ o → IsDownward l → IsDownward (after_taking l n o)
down_taking l n None e h test = h test
down_taking l n (Some m) e h test = omega (arith, h test, push test l.taken m, split test n l.holds.waiting m e)

down_dropping : (l : Life) (n : ℕ) (o : Option Msu) → first_of n l.holds.waiting ≡ o → IsDownward l → IsDownward (after_dropping l n o)
down_dropping l n None e h test = h test
down_dropping l n (Some m) e h test = omega (arith, h test, push test l.refused m, split test n l.holds.waiting m e)

down_lived : (l : Life) (d : Deed) → IsDownward l → IsDownward (lived l d)
unfolding lived
down_lived l (happens h) down = down_happening l (step l.holds.state h).0 (step l.holds.state h).1 (strange_in h) down
down_lived l (comes m) down = down_coming l m l.holds.state down
down_lived l (delivers m) down = down_delivery l m (for_delivery m l.holds.state) down
down_lived l (takes n) down = down_taking l n (first_of n l.holds.waiting) refl down
down_lived l (drops n) down = down_dropping l n (first_of n l.holds.waiting) refl down

pub downward : (ds : List Deed) → IsDownward (life_of ds)
downward [] = λ test. refl
downward (d ∷ ds) = down_lived (life_of ds) d (downward ds)

-- ---- what is kept

kept_by : (b c p q a : Bool) (kept : List Msu) → b ≡ (p && a) → c ≡ (p && (not q && not a)) → (a ≡ true → q ≡ false) → (p ≡ false → kept ≡ []) → length kept ≤ MOST_KEPT
    → (q ≡ false → cond b [] (cond c [] kept) ≡ []) × (length (cond b [] (cond c [] kept)) ≤ MOST_KEPT)
kept_by true c p q a kept is_b is_c apart empty few = (λ _. refl, omega arith)
kept_by false true p q a kept is_b is_c apart empty few = (λ _. refl, omega arith)
kept_by false false true true a kept is_b is_c apart empty few = (λ e. absurd cc, few)
kept_by false false true false true kept is_b is_c apart empty few = absurd cc
kept_by false false true false false kept is_b is_c apart empty few = absurd cc
kept_by false false false q a kept is_b is_c apart empty few = (λ _. empty refl, few)

active_apart : (s : State) → is_active s ≡ true → is_pending (server_in s) ≡ false
active_apart state.Down e = absurd cc
active_apart state.Inactive e = absurd cc
active_apart state.Active e = refl
active_apart state.DownPending e = absurd cc
active_apart state.InactivePending e = absurd cc

kept_happening : (l : Life) (h : Happening) (n : ℕ) → IsKept l → IsKept (after_happening l (step l.holds.state h).0 (step l.holds.state h).1 n)
kept_happening l h n k =
    kept_by (list_any is_release (step l.holds.state h).1) (list_any is_loss (step l.holds.state h).1) (is_pending (server_in l.holds.state)) (is_pending (server_in (step l.holds.state h).0)) (is_active (step l.holds.state h).0) l.holds.kept
    (messages_moved l.holds.state h).0 (messages_moved l.holds.state h).1 (active_apart (step l.holds.state h).0) k.0 k.1

kept_coming : (l : Life) (m : Msu) (s : State) → IsKept l → IsKept (after_coming l m s)
kept_coming l m state.Down k = k
kept_coming l m state.Inactive k = k
kept_coming l m state.Active k = k
kept_coming l m state.DownPending k = k
kept_coming l m state.InactivePending k = k

kept_pending : (b : Bool) (l : Life) (m : Msu) → b ≡ ltb (length l.holds.kept) MOST_KEPT → is_pending (server_in l.holds.state) ≡ true → IsKept l
    → IsKept (cond b (record l { holds = record l.holds { kept = l.holds.kept ++ m ∷ [] }; delivered = l.delivered ++ m ∷ [] }) (record l { delivered = l.delivered ++ m ∷ []; lost = l.lost ++ m ∷ [] }))
kept_pending true l m at pending k =
    (λ e. absurd (let both : true ≡ false = sym pending ∙ e in cc), omega (arith, ltb-true _ _ (sym at), length-append l.holds.kept (m ∷ [])))
kept_pending false l m at pending k = k

kept_delivery : (l : Life) (m : Msu) (s : State) → l.holds.state ≡ s → IsKept l → IsKept (after_delivery l m s)
kept_delivery l m state.Down at k = k
kept_delivery l m state.Inactive at k = k
kept_delivery l m state.Active at k = k
kept_delivery l m state.DownPending at k = kept_pending (ltb (length l.holds.kept) MOST_KEPT) l m refl (ap (λ (s : State). is_pending (server_in s)) at) k
kept_delivery l m state.InactivePending at k = kept_pending (ltb (length l.holds.kept) MOST_KEPT) l m refl (ap (λ (s : State). is_pending (server_in s)) at) k

kept_labelled : (b : Bool) (l : Life) (m : Msu) → IsKept l → IsKept (after_delivery l m (cond b l.holds.state state.Down))
kept_labelled true l m k = kept_delivery l m l.holds.state refl k
kept_labelled false l m k = k

kept_taking : (l : Life) (n : ℕ) (o : Option Msu) → IsKept l → IsKept (after_taking l n o)
kept_taking l n None k = k
kept_taking l n (Some m) k = k

kept_dropping : (l : Life) (n : ℕ) (o : Option Msu) → IsKept l → IsKept (after_dropping l n o)
kept_dropping l n None k = k
kept_dropping l n (Some m) k = k

kept_lived : (l : Life) (d : Deed) → IsKept l → IsKept (lived l d)
unfolding lived
kept_lived l (happens h) k = kept_happening l h (strange_in h) k
kept_lived l (comes m) k = kept_coming l m l.holds.state k
kept_lived l (delivers m) k = kept_labelled (is_fit m) l m k
kept_lived l (takes n) k = kept_taking l n (first_of n l.holds.waiting) k
kept_lived l (drops n) k = kept_dropping l n (first_of n l.holds.waiting) k

-- ---- order

within_same : (ms : List Msu) → Within ms ms
within_same [] = none []
within_same (m ∷ ms) = same m ms ms (within_same ms)

pub within_later : (ms ns : List Msu) (m : Msu) → Within ms ns → Within ms (ns ++ m ∷ [])
within_later _ _ m (none ns) = none (ns ++ m ∷ [])
within_later _ _ m (same n ms ns w) = same n ms (ns ++ m ∷ []) (within_later ms ns m w)
within_later _ _ m (more n ms ns w) = more n ms (ns ++ m ∷ []) (within_later ms ns m w)

within_end : (ns : List Msu) (m : Msu) → Within (m ∷ []) (ns ++ m ∷ [])
within_end [] m = same m [] [] (none [])
within_end (n ∷ ns) m = more n (m ∷ []) (ns ++ m ∷ []) (within_end ns m)

pub within_push : (ms ns : List Msu) (m : Msu) → Within ms ns → Within (ms ++ m ∷ []) (ns ++ m ∷ [])
within_push _ _ m (none ns) = within_end ns m
within_push _ _ m (same n ms ns w) = same n (ms ++ m ∷ []) (ns ++ m ∷ []) (within_push ms ns m w)
within_push _ _ m (more n ms ns w) = more n (ms ++ m ∷ []) (ns ++ m ∷ []) (within_push ms ns m w)

within_part : (ms ks ns xs : List Msu) → Within xs ns → xs ≡ ms ++ ks → Within ms ns
within_part [] ks ns xs w e = none ns
within_part (m ∷ ms) ks _ _ (none ns) e = absurd cc
within_part (m ∷ ms) ks _ _ (same n xs ns w) e =
    let heads : n ≡ m = cc in
    let tails : xs ≡ ms ++ ks = cc in
    subst (λ (x : Msu). Within (x ∷ ms) (n ∷ ns)) heads (same n ms ns (within_part ms ks ns xs w tails))
within_part (m ∷ ms) ks _ _ (more n xs ns w) e = more n (m ∷ ms) ns (within_part (m ∷ ms) ks ns xs w e)

within_front : (ms ks ns : List Msu) → Within (ms ++ ks) ns → Within ms ns
within_front ms ks ns w = within_part ms ks ns (ms ++ ks) w refl

order_by : (b c : Bool) (sent kept delivered : List Msu) → Within (sent ++ kept) delivered → Within ((sent ++ cond b kept []) ++ cond b [] (cond c [] kept)) delivered
order_by true c sent kept delivered w = subst (λ (ms : List Msu). Within ms delivered) (sym (append-nil (sent ++ kept))) w
order_by false true sent kept delivered w = subst (λ (ms : List Msu). Within ms delivered) (sym (append-nil (sent ++ []) ∙ append-nil sent)) (within_front sent kept delivered w)
order_by false false sent kept delivered w = subst (λ (ms : List Msu). Within (ms ++ kept) delivered) (sym (append-nil sent)) w

order_coming : (l : Life) (m : Msu) (s : State) → IsInOrder l → IsInOrder (after_coming l m s)
order_coming l m state.Down w = w
order_coming l m state.Inactive w = w
order_coming l m state.Active w = w
order_coming l m state.DownPending w = w
order_coming l m state.InactivePending w = w

order_pending : (b : Bool) (l : Life) (m : Msu) → IsInOrder l
    → IsInOrder (cond b (record l { holds = record l.holds { kept = l.holds.kept ++ m ∷ [] }; delivered = l.delivered ++ m ∷ [] }) (record l { delivered = l.delivered ++ m ∷ []; lost = l.lost ++ m ∷ [] }))
order_pending true l m w = subst (λ (ms : List Msu). Within ms (l.delivered ++ m ∷ [])) (append_assoc l.sent l.holds.kept (m ∷ [])) (within_push (l.sent ++ l.holds.kept) l.delivered m w)
order_pending false l m w = within_later (l.sent ++ l.holds.kept) l.delivered m w

order_active : (sent kept delivered : List Msu) (m : Msu) → kept ≡ [] → Within (sent ++ kept) delivered → Within ((sent ++ m ∷ []) ++ kept) (delivered ++ m ∷ [])
order_active sent kept delivered m empty w =
    let before : Within sent delivered = within_front sent kept delivered w in
    let now : (sent ++ m ∷ []) ++ kept ≡ sent ++ m ∷ [] = ap (λ (ks : List Msu). (sent ++ m ∷ []) ++ ks) empty ∙ append-nil (sent ++ m ∷ []) in
    subst (λ (ms : List Msu). Within ms (delivered ++ m ∷ [])) (sym now) (within_push sent delivered m before)

order_delivery : (l : Life) (m : Msu) (s : State) → l.holds.state ≡ s → IsKept l → IsInOrder l → IsInOrder (after_delivery l m s)
order_delivery l m state.Down at k w = within_later (l.sent ++ l.holds.kept) l.delivered m w
order_delivery l m state.Inactive at k w = within_later (l.sent ++ l.holds.kept) l.delivered m w
order_delivery l m state.Active at k w = order_active l.sent l.holds.kept l.delivered m (k.0 (ap (λ (s : State). is_pending (server_in s)) at)) w
order_delivery l m state.DownPending at k w = order_pending (ltb (length l.holds.kept) MOST_KEPT) l m w
order_delivery l m state.InactivePending at k w = order_pending (ltb (length l.holds.kept) MOST_KEPT) l m w

order_labelled : (b : Bool) (l : Life) (m : Msu) → IsKept l → IsInOrder l → IsInOrder (after_delivery l m (cond b l.holds.state state.Down))
order_labelled true l m k w = order_delivery l m l.holds.state refl k w
order_labelled false l m k w = within_later (l.sent ++ l.holds.kept) l.delivered m w

order_taking : (l : Life) (n : ℕ) (o : Option Msu) → IsInOrder l → IsInOrder (after_taking l n o)
order_taking l n None w = w
order_taking l n (Some m) w = w

order_dropping : (l : Life) (n : ℕ) (o : Option Msu) → IsInOrder l → IsInOrder (after_dropping l n o)
order_dropping l n None w = w
order_dropping l n (Some m) w = w

order_lived : (l : Life) (d : Deed) → IsKept l → IsInOrder l → IsInOrder (lived l d)
unfolding lived
order_lived l (happens h) k w = order_by (list_any is_release (step l.holds.state h).1) (list_any is_loss (step l.holds.state h).1) l.sent l.holds.kept l.delivered w
order_lived l (comes m) k w = order_coming l m l.holds.state w
order_lived l (delivers m) k w = order_labelled (is_fit m) l m k w
order_lived l (takes n) k w = order_taking l n (first_of n l.holds.waiting) w
order_lived l (drops n) k w = order_dropping l n (first_of n l.holds.waiting) w

pub kept : (ds : List Deed) → IsKept (life_of ds)
kept [] = (λ _. refl, omega arith)
kept (d ∷ ds) = kept_lived (life_of ds) d (kept ds)

pub in_order : (ds : List Deed) → IsInOrder (life_of ds)
in_order [] = none []
in_order (d ∷ ds) = order_lived (life_of ds) d (kept ds) (in_order ds)

-- ---- labels

label_by : (b c : Bool) (test : Msu → Bool) (sent kept : List Msu) → count_by test sent + count_by test kept ≡ 0
    → count_by test (sent ++ cond b kept []) + count_by test (cond b [] (cond c [] kept)) ≡ 0
label_by true c test sent kept h = omega (arith, join test sent kept, h)
label_by false true test sent kept h = omega (arith, join test sent [], h)
label_by false false test sent kept h = omega (arith, join test sent [], h)

label_coming : (l : Life) (m : Msu) (s : State) → AreFit l → AreFit (after_coming l m s)
label_coming l m state.Down h = h
label_coming l m state.Inactive h = h
label_coming l m state.Active h = h
label_coming l m state.DownPending h = h
label_coming l m state.InactivePending h = h

label_pending : (b : Bool) (l : Life) (m : Msu) → is_unfit m ≡ false → AreFit l
    → AreFit (cond b (record l { holds = record l.holds { kept = l.holds.kept ++ m ∷ [] }; delivered = l.delivered ++ m ∷ [] }) (record l { delivered = l.delivered ++ m ∷ []; lost = l.lost ++ m ∷ [] }))
label_pending true l m has h = omega (arith, h, push is_unfit l.holds.kept m, ap (λ (b : Bool). cond {A = ℕ} b 1 0) has)
label_pending false l m has h = h

label_delivery : (l : Life) (m : Msu) (s : State) → is_unfit m ≡ false → AreFit l → AreFit (after_delivery l m s)
label_delivery l m state.Down has h = h
label_delivery l m state.Inactive has h = h
label_delivery l m state.Active has h = omega (arith, h, push is_unfit l.sent m, ap (λ (b : Bool). cond {A = ℕ} b 1 0) has)
label_delivery l m state.DownPending has h = label_pending (ltb (length l.holds.kept) MOST_KEPT) l m has h
label_delivery l m state.InactivePending has h = label_pending (ltb (length l.holds.kept) MOST_KEPT) l m has h

label_labelled : (b : Bool) (l : Life) (m : Msu) → is_fit m ≡ b → AreFit l → AreFit (after_delivery l m (cond b l.holds.state state.Down))
label_labelled true l m has h = label_delivery l m l.holds.state (ap not has) h
label_labelled false l m has h = h

label_taking : (l : Life) (n : ℕ) (o : Option Msu) → AreFit l → AreFit (after_taking l n o)
label_taking l n None h = h
label_taking l n (Some m) h = h

label_dropping : (l : Life) (n : ℕ) (o : Option Msu) → AreFit l → AreFit (after_dropping l n o)
label_dropping l n None h = h
label_dropping l n (Some m) h = h

label_lived : (l : Life) (d : Deed) → AreFit l → AreFit (lived l d)
unfolding lived
label_lived l (happens h) k = label_by (list_any is_release (step l.holds.state h).1) (list_any is_loss (step l.holds.state h).1) is_unfit l.sent l.holds.kept k
label_lived l (comes m) k = label_coming l m l.holds.state k
label_lived l (delivers m) k = label_labelled (is_fit m) l m refl k
label_lived l (takes n) k = label_taking l n (first_of n l.holds.waiting) k
label_lived l (drops n) k = label_dropping l n (first_of n l.holds.waiting) k

pub labelled : (ds : List Deed) → AreFit (life_of ds)
labelled [] = refl
labelled (d ∷ ds) = label_lived (life_of ds) d (labelled ds)

-- ---- each DATA

all_counted : (ms : List Msu) → count_by (λ _. true) ms ≡ length ms
all_counted [] = refl
all_counted (m ∷ ms) = omega (arith, sum_by-cons (λ (x : Msu). cond {A = ℕ} true 1 0) m ms, all_counted ms)

one_less : (n : ℕ) (ms : List Msu) (k : Msu) → first_of n ms ≡ Some k → length ms ≡ 1 + length (without_first n ms)
one_less n ms k e = omega (arith, split (λ _. true) n ms k e, all_counted ms, all_counted (without_first n ms))

abbrev data_total : Life → ℕ
data_total l = length l.taken + length l.holds.waiting + (length l.refused + l.strange)

nothing_more : (l : Life) → data_total l ≡ 0 + data_total l
nothing_more l = omega arith

data_happening : (h : Happening) → cond {A = ℕ} (strange_in h == 1) 1 0 ≡ strange_in h
data_happening happening.Ended = refl
data_happening happening.Expired = refl
data_happening happening.Up = refl
data_happening happening.Down = refl
data_happening happening.Active = refl
data_happening happening.ActiveWithOthers = refl
data_happening happening.Inactive = refl
data_happening happening.InactiveWithOthers = refl
data_happening happening.Data = refl
data_happening happening.OtherData = refl
data_happening happening.LongData = refl
data_happening happening.StrayData = refl
data_happening happening.RefusedData = refl
data_happening happening.Stray = refl
data_happening happening.OtherMode = refl
data_happening happening.Beat = refl
data_happening happening.Audit = refl
data_happening happening.Register = refl
data_happening happening.Congestion = refl
data_happening happening.Error = refl
data_happening happening.Other = refl
data_happening happening.Refused = refl
data_happening happening.Reach = refl

data_coming : (l : Life) (m : Msu) (s : State) → data_total (after_coming l m s) ≡ 1 + data_total l
data_coming l m state.Down = omega (arith, length-append l.refused (m ∷ []))
data_coming l m state.Inactive = omega (arith, length-append l.refused (m ∷ []))
data_coming l m state.Active = omega (arith, length-append l.holds.waiting (m ∷ []))
data_coming l m state.DownPending = omega (arith, length-append l.refused (m ∷ []))
data_coming l m state.InactivePending = omega (arith, length-append l.refused (m ∷ []))

data_pending : (b : Bool) (l : Life) (m : Msu)
    → data_total (cond b (record l { holds = record l.holds { kept = l.holds.kept ++ m ∷ [] }; delivered = l.delivered ++ m ∷ [] }) (record l { delivered = l.delivered ++ m ∷ []; lost = l.lost ++ m ∷ [] })) ≡ data_total l
data_pending true l m = refl
data_pending false l m = refl

data_delivery : (l : Life) (m : Msu) (s : State) → data_total (after_delivery l m s) ≡ data_total l
data_delivery l m state.Down = refl
data_delivery l m state.Inactive = refl
data_delivery l m state.Active = refl
data_delivery l m state.DownPending = data_pending (ltb (length l.holds.kept) MOST_KEPT) l m
data_delivery l m state.InactivePending = data_pending (ltb (length l.holds.kept) MOST_KEPT) l m

data_taking : (l : Life) (n : ℕ) (o : Option Msu) → first_of n l.holds.waiting ≡ o → data_total (after_taking l n o) ≡ data_total l
data_taking l n None e = refl
data_taking l n (Some m) e = omega (arith, length-append l.taken (m ∷ []), one_less n l.holds.waiting m e)

data_dropping : (l : Life) (n : ℕ) (o : Option Msu) → first_of n l.holds.waiting ≡ o → data_total (after_dropping l n o) ≡ data_total l
data_dropping l n None e = refl
data_dropping l n (Some m) e = omega (arith, length-append l.refused (m ∷ []), one_less n l.holds.waiting m e)

data_lived : (l : Life) (d : Deed) → data_total (lived l d) ≡ cond {A = ℕ} (is_data d) 1 0 + data_total l
unfolding lived
data_lived l (happens h) = omega (arith, data_happening h)
data_lived l (comes m) = data_coming l m l.holds.state
data_lived l (delivers m) = data_delivery l m (for_delivery m l.holds.state) ∙ nothing_more l
data_lived l (takes n) = data_taking l n (first_of n l.holds.waiting) refl ∙ nothing_more l
data_lived l (drops n) = data_dropping l n (first_of n l.holds.waiting) refl ∙ nothing_more l

pub each_data : (ds : List Deed) → IsEachData ds
each_data [] = refl
each_data (d ∷ ds) = sum_by-cons (λ x. cond (is_data x) 1 0) d ds ∙ ap (λ (n : ℕ). cond {A = ℕ} (is_data d) 1 0 + n) (each_data ds) ∙ sym (data_lived (life_of ds) d)

-- ---- what a gateway knows

rebuilt : (x y : Life) → x.holds ≡ y.holds → x.delivered ≡ y.delivered → x.sent ≡ y.sent → x.lost ≡ y.lost → x.came ≡ y.came → x.taken ≡ y.taken → x.refused ≡ y.refused → x.strange ≡ y.strange → x ≡ y
rebuilt x y holds delivered sent lost came taken refused strange =
    ap (λ (v : Holds). record { holds = v; delivered = x.delivered; sent = x.sent; lost = x.lost; came = x.came; taken = x.taken; refused = x.refused; strange = x.strange }) holds
    ∙ ap (λ (v : List Msu). record { holds = y.holds; delivered = v; sent = x.sent; lost = x.lost; came = x.came; taken = x.taken; refused = x.refused; strange = x.strange }) delivered
    ∙ ap (λ (v : List Msu). record { holds = y.holds; delivered = y.delivered; sent = v; lost = x.lost; came = x.came; taken = x.taken; refused = x.refused; strange = x.strange }) sent
    ∙ ap (λ (v : List Msu). record { holds = y.holds; delivered = y.delivered; sent = y.sent; lost = v; came = x.came; taken = x.taken; refused = x.refused; strange = x.strange }) lost
    ∙ ap (λ (v : List Msu). record { holds = y.holds; delivered = y.delivered; sent = y.sent; lost = y.lost; came = v; taken = x.taken; refused = x.refused; strange = x.strange }) came
    ∙ ap (λ (v : List Msu). record { holds = y.holds; delivered = y.delivered; sent = y.sent; lost = y.lost; came = y.came; taken = v; refused = x.refused; strange = x.strange }) taken
    ∙ ap (λ (v : List Msu). record { holds = y.holds; delivered = y.delivered; sent = y.sent; lost = y.lost; came = y.came; taken = y.taken; refused = v; strange = x.strange }) refused
    ∙ ap (λ (v : ℕ). record { holds = y.holds; delivered = y.delivered; sent = y.sent; lost = y.lost; came = y.came; taken = y.taken; refused = y.refused; strange = v }) strange

end : (ms : List Msu) → ms ≡ ms ++ []
end ms = sym (append-nil ms)

join_nothing : (l : Life) → l ≡ joined l (standing l.holds)
join_nothing l = rebuilt l (joined l (standing l.holds)) refl (end l.delivered) (end l.sent) (end l.lost) (end l.came) (end l.taken) (end l.refused) (omega arith)

join_happening : (l : Life) (s : State) (actions : List Action) (n : ℕ) → after_happening l s actions n ≡ joined l (after_happening (standing l.holds) s actions n)
join_happening l s actions n = rebuilt (after_happening l s actions n) (joined l (after_happening (standing l.holds) s actions n)) refl (end l.delivered) refl refl (end l.came) (end l.taken) (end l.refused) (omega arith)

join_coming : (l : Life) (m : Msu) (s : State) → after_coming l m s ≡ joined l (after_coming (standing l.holds) m s)
join_coming l m state.Down = rebuilt (after_coming l m state.Down) (joined l (after_coming (standing l.holds) m state.Down)) refl (end l.delivered) (end l.sent) (end l.lost) refl (end l.taken) refl (omega arith)
join_coming l m state.Inactive = rebuilt (after_coming l m state.Inactive) (joined l (after_coming (standing l.holds) m state.Inactive)) refl (end l.delivered) (end l.sent) (end l.lost) refl (end l.taken) refl (omega arith)
join_coming l m state.Active = rebuilt (after_coming l m state.Active) (joined l (after_coming (standing l.holds) m state.Active)) refl (end l.delivered) (end l.sent) (end l.lost) refl (end l.taken) (end l.refused) (omega arith)
join_coming l m state.DownPending = rebuilt (after_coming l m state.DownPending) (joined l (after_coming (standing l.holds) m state.DownPending)) refl (end l.delivered) (end l.sent) (end l.lost) refl (end l.taken) refl (omega arith)
join_coming l m state.InactivePending = rebuilt (after_coming l m state.InactivePending) (joined l (after_coming (standing l.holds) m state.InactivePending)) refl (end l.delivered) (end l.sent) (end l.lost) refl (end l.taken) refl (omega arith)

abbrev put : Bool → Life → Msu → Life
put b l m = cond b (record l { holds = record l.holds { kept = l.holds.kept ++ m ∷ [] }; delivered = l.delivered ++ m ∷ [] }) (record l { delivered = l.delivered ++ m ∷ []; lost = l.lost ++ m ∷ [] })

join_put : (b : Bool) (l : Life) (m : Msu) → put b l m ≡ joined l (put b (standing l.holds) m)
join_put true l m = rebuilt (put true l m) (joined l (put true (standing l.holds) m)) refl refl (end l.sent) (end l.lost) (end l.came) (end l.taken) (end l.refused) (omega arith)
join_put false l m = rebuilt (put false l m) (joined l (put false (standing l.holds) m)) refl refl (end l.sent) refl (end l.came) (end l.taken) (end l.refused) (omega arith)

join_delivery : (l : Life) (m : Msu) (s : State) → after_delivery l m s ≡ joined l (after_delivery (standing l.holds) m s)
join_delivery l m state.Down = rebuilt (after_delivery l m state.Down) (joined l (after_delivery (standing l.holds) m state.Down)) refl refl (end l.sent) refl (end l.came) (end l.taken) (end l.refused) (omega arith)
join_delivery l m state.Inactive = rebuilt (after_delivery l m state.Inactive) (joined l (after_delivery (standing l.holds) m state.Inactive)) refl refl (end l.sent) refl (end l.came) (end l.taken) (end l.refused) (omega arith)
join_delivery l m state.Active = rebuilt (after_delivery l m state.Active) (joined l (after_delivery (standing l.holds) m state.Active)) refl refl refl (end l.lost) (end l.came) (end l.taken) (end l.refused) (omega arith)
join_delivery l m state.DownPending = join_put (ltb (length l.holds.kept) MOST_KEPT) l m
join_delivery l m state.InactivePending = join_put (ltb (length l.holds.kept) MOST_KEPT) l m

join_taking : (l : Life) (n : ℕ) (o : Option Msu) → after_taking l n o ≡ joined l (after_taking (standing l.holds) n o)
join_taking l n None = join_nothing l
join_taking l n (Some m) = rebuilt (after_taking l n (Some m)) (joined l (after_taking (standing l.holds) n (Some m))) refl (end l.delivered) (end l.sent) (end l.lost) (end l.came) refl (end l.refused) (omega arith)

join_dropping : (l : Life) (n : ℕ) (o : Option Msu) → after_dropping l n o ≡ joined l (after_dropping (standing l.holds) n o)
join_dropping l n None = join_nothing l
join_dropping l n (Some m) = rebuilt (after_dropping l n (Some m)) (joined l (after_dropping (standing l.holds) n (Some m))) refl (end l.delivered) (end l.sent) (end l.lost) (end l.came) (end l.taken) refl (omega arith)

join_lived : (l : Life) (d : Deed) → lived l d ≡ joined l (lived (standing l.holds) d)
unfolding lived
join_lived l (happens h) = join_happening l (step l.holds.state h).0 (step l.holds.state h).1 (strange_in h)
join_lived l (comes m) = join_coming l m l.holds.state
join_lived l (delivers m) = join_delivery l m (for_delivery m l.holds.state)
join_lived l (takes n) = join_taking l n (first_of n l.holds.waiting)
join_lived l (drops n) = join_dropping l n (first_of n l.holds.waiting)

accounts : (l x : Life) → account_of (joined l x) ≡ record {
  holds = x.holds;
  lost = counted (counted (length l.lost) + length x.lost);
  refused = counted (counted (length l.refused + l.strange) + (length x.refused + x.strange));
}
accounts l x =
    let lost : counted (length (l.lost ++ x.lost)) ≡ counted (counted (length l.lost) + length x.lost) = omega (arith, length-append l.lost x.lost) in
    let refused : counted (length (l.refused ++ x.refused) + (l.strange + x.strange)) ≡ counted (counted (length l.refused + l.strange) + (length x.refused + x.strange)) = omega (arith, length-append l.refused x.refused) in
    let first : ◌≡◌ {A = Account} (account_of (joined l x)) (record {
      holds = x.holds;
      lost = counted (counted (length l.lost) + length x.lost);
      refused = counted (length (l.refused ++ x.refused) + (l.strange + x.strange));
    }) = ap (λ (n : ℕ). record { holds = x.holds; lost = n; refused = counted (length (l.refused ++ x.refused) + (l.strange + x.strange)) }) lost in
    first ∙ ap (λ (n : ℕ). record { holds = x.holds; lost = counted (counted (length l.lost) + length x.lost); refused = n }) refused

pub followed : Followed
followed ds d = (join_lived (life_of ds) d, ap account_of (join_lived (life_of ds) d) ∙ accounts (life_of ds) (lived (standing (life_of ds).holds) d))
