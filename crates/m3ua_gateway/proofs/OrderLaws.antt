-- What the set took and what waits is in the order in which it came.
use Rattle.std.proofs.Common.{◌≡◌, ℕ, Bool, true, false, cond, ltb, List, [], ◌∷◌, ◌++◌, length, Option, Some, None, refl, sym, ap, subst, ◌∙◌, append_assoc}
use Rattle.std.specs.List.{filter}
use Rattle.std.proofs.lemmas.Bool.{eqb-true, eq-eqb}
use Rattle.std.proofs.lemmas.List.{append-nil}
use Rattle.resend_store.specs.declared.messages.Msu.{Msu}
use Rattle.m3ua_gateway.specs.declared.states.State.{State}
use Rattle.m3ua_gateway.specs.declared.states.State.TheVariants as state
use Rattle.m3ua_gateway.specs.Life.{Deed, happens, comes, delivers, takes, drops, Life, Within, none, same, more, after_coming, after_delivery, for_delivery, after_taking, after_dropping, selection_in, is_of, first_of, without_first, lived, life_of, IsInOrderDown, MOST_KEPT}
use Rattle.m3ua_gateway.proofs.LifeLaws.{within_later, within_push}

abbrev one : ℕ → Msu → List Msu
one s m = cond (is_of s m) (m ∷ []) []

grow : (b : Bool) (k : Msu) (xs ys zs : List Msu) → xs ≡ ys ++ zs → cond b (k ∷ xs) xs ≡ cond b (k ∷ ys) ys ++ zs
grow true k xs ys zs e = ap (λ (ms : List Msu). k ∷ ms) e
grow false k xs ys zs e = e

of_push : (s : ℕ) (ms : List Msu) (m : Msu) → filter (is_of s) (ms ++ m ∷ []) ≡ filter (is_of s) ms ++ one s m
of_push s [] m = refl
of_push s (k ∷ ms) m = grow (is_of s k) k (filter (is_of s) (ms ++ m ∷ [])) (filter (is_of s) ms) (one s m) (of_push s ms m)

-- ---- the first message of a selection, among those of any selection

found_by : (b : Bool) (n : ℕ) (k m : Msu) (ms : List Msu) → is_of n k ≡ b → (first_of n ms ≡ Some m → is_of n m ≡ true) → cond b (Some k) (first_of n ms) ≡ Some m → is_of n m ≡ true
found_by true n k m ms at hyp e =
    let same : k ≡ m = cc in
    subst (λ (x : Msu). is_of n x ≡ true) same at
found_by false n k m ms at hyp e = hyp e

found : (n : ℕ) (ms : List Msu) (m : Msu) → first_of n ms ≡ Some m → is_of n m ≡ true
found n [] m e = absurd cc
found n (k ∷ ms) m e = found_by (is_of n k) n k m ms refl (found n ms m) e

apart : (a b : Bool) (k m : Msu) (xs ys : List Msu) → (a ≡ true → b ≡ true → ⊥) → xs ≡ cond b (m ∷ []) [] ++ ys → cond a (k ∷ xs) xs ≡ cond b (m ∷ []) [] ++ cond a (k ∷ ys) ys
apart true true k m xs ys never e = absurd (never refl refl)
apart true false k m xs ys never e = ap (λ (ms : List Msu). k ∷ ms) e
apart false b k m xs ys never e = e

head : (b : Bool) (k : Msu) (xs : List Msu) → cond b (k ∷ xs) xs ≡ cond b (k ∷ []) [] ++ xs
head true k xs = refl
head false k xs = refl

clash : (s n : ℕ) (k m : Msu) → is_of n k ≡ false → is_of n m ≡ true → is_of s k ≡ true → is_of s m ≡ true → ⊥
clash s n k m other this a b =
    let of_k : selection_in k.sif.items ≡ s = eqb-true _ _ a in
    let of_m : selection_in m.sif.items ≡ s = eqb-true _ _ b in
    let wanted : selection_in m.sif.items ≡ n = eqb-true _ _ this in
    let both : is_of n k ≡ true = eq-eqb _ _ (of_k ∙ sym of_m ∙ wanted) in
    let wrong : true ≡ false = sym both ∙ other in cc

moved_by : (b : Bool) (s n : ℕ) (k m : Msu) (ms : List Msu) → is_of n k ≡ b → (first_of n ms ≡ Some m → filter (is_of s) ms ≡ one s m ++ filter (is_of s) (without_first n ms))
    → cond b (Some k) (first_of n ms) ≡ Some m → filter (is_of s) (k ∷ ms) ≡ one s m ++ filter (is_of s) (cond b ms (k ∷ without_first n ms))
moved_by true s n k m ms at hyp e =
    let same : k ≡ m = cc in
    head (is_of s k) k (filter (is_of s) ms) ∙ ap (λ (x : Msu). one s x ++ filter (is_of s) ms) same
moved_by false s n k m ms at hyp e =
    apart (is_of s k) (is_of s m) k m (filter (is_of s) ms) (filter (is_of s) (without_first n ms)) (clash s n k m at (found n ms m e)) (hyp e)

moved : (s n : ℕ) (ms : List Msu) (m : Msu) → first_of n ms ≡ Some m → filter (is_of s) ms ≡ one s m ++ filter (is_of s) (without_first n ms)
moved s n [] m e = absurd cc
moved s n (k ∷ ms) m e = moved_by (is_of n k) s n k m ms refl (moved s n ms m) e

-- ---- orders

both : (b : Bool) (m : Msu) (xs ys : List Msu) → Within xs ys → Within (xs ++ cond b (m ∷ []) []) (ys ++ cond b (m ∷ []) [])
both true m xs ys w = within_push xs ys m w
both false m xs ys w = subst (λ (ms : List Msu). Within ms (ys ++ [])) (sym (append-nil xs)) (subst (λ (ms : List Msu). Within xs ms) (sym (append-nil ys)) w)

later : (b : Bool) (m : Msu) (xs ys : List Msu) → Within xs ys → Within xs (ys ++ cond b (m ∷ []) [])
later true m xs ys w = within_later xs ys m w
later false m xs ys w = subst (λ (ms : List Msu). Within xs ms) (sym (append-nil ys)) w

within_less : (xs : List Msu) (m : Msu) (ys ns zs : List Msu) → Within zs ns → zs ≡ xs ++ m ∷ ys → Within (xs ++ ys) ns
within_less [] m ys _ _ (none ns) e = absurd cc
within_less [] m ys _ _ (same n zs ns w) e =
    let tails : zs ≡ ys = cc in
    more n ys ns (subst (λ (ms : List Msu). Within ms ns) tails w)
within_less [] m ys _ _ (more n zs ns w) e = more n ys ns (within_less [] m ys ns zs w e)
within_less (x ∷ xs) m ys _ _ (none ns) e = absurd cc
within_less (x ∷ xs) m ys _ _ (same n zs ns w) e =
    let heads : n ≡ x = cc in
    let tails : zs ≡ xs ++ m ∷ ys = cc in
    subst (λ (k : Msu). Within (k ∷ (xs ++ ys)) (n ∷ ns)) heads (same n (xs ++ ys) ns (within_less xs m ys ns zs w tails))
within_less (x ∷ xs) m ys _ _ (more n zs ns w) e = more n (x ∷ (xs ++ ys)) ns (within_less (x ∷ xs) m ys ns zs w e)

less : (b : Bool) (m : Msu) (xs ys ns : List Msu) → Within (xs ++ (cond b (m ∷ []) [] ++ ys)) ns → Within (xs ++ ys) ns
less true m xs ys ns w = within_less xs m ys ns (xs ++ m ∷ ys) w refl
less false m xs ys ns w = w

-- ---- deeds

later_came : (l : Life) (m : Msu) (n : ℕ) → Within (filter (is_of n) l.taken ++ filter (is_of n) l.holds.waiting) (filter (is_of n) l.came)
    → Within (filter (is_of n) l.taken ++ filter (is_of n) l.holds.waiting) (filter (is_of n) (l.came ++ m ∷ []))
later_came l m n w =
    subst (λ (ms : List Msu). Within (filter (is_of n) l.taken ++ filter (is_of n) l.holds.waiting) ms) (sym (of_push n l.came m))
    (later (is_of n m) m (filter (is_of n) l.taken ++ filter (is_of n) l.holds.waiting) (filter (is_of n) l.came) w)

down_coming : (l : Life) (m : Msu) (s : State) → IsInOrderDown l → IsInOrderDown (after_coming l m s)
down_coming l m state.Active w n =
    let here = both (is_of n m) m (filter (is_of n) l.taken ++ filter (is_of n) l.holds.waiting) (filter (is_of n) l.came) (w n) in
    let joined : (filter (is_of n) l.taken ++ filter (is_of n) l.holds.waiting) ++ one n m ≡ filter (is_of n) l.taken ++ filter (is_of n) (l.holds.waiting ++ m ∷ []) =
    append_assoc (filter (is_of n) l.taken) (filter (is_of n) l.holds.waiting) (one n m) ∙ ap (λ (ms : List Msu). filter (is_of n) l.taken ++ ms) (sym (of_push n l.holds.waiting m)) in
    subst (λ (ms : List Msu). Within (filter (is_of n) l.taken ++ filter (is_of n) (l.holds.waiting ++ m ∷ [])) ms) (sym (of_push n l.came m))
    (subst (λ (ms : List Msu). Within ms (filter (is_of n) l.came ++ one n m)) joined here)
down_coming l m state.Down w n = later_came l m n (w n)
down_coming l m state.Inactive w n = later_came l m n (w n)
down_coming l m state.DownPending w n = later_came l m n (w n)
down_coming l m state.InactivePending w n = later_came l m n (w n)

down_pending : (b : Bool) (l : Life) (m : Msu) → IsInOrderDown l
    → IsInOrderDown (cond b (record l { holds = record l.holds { kept = l.holds.kept ++ m ∷ [] }; delivered = l.delivered ++ m ∷ [] }) (record l { delivered = l.delivered ++ m ∷ []; lost = l.lost ++ m ∷ [] }))
down_pending true l m w = w
down_pending false l m w = w

down_delivery : (l : Life) (m : Msu) (s : State) → IsInOrderDown l → IsInOrderDown (after_delivery l m s)
down_delivery l m state.Down w = w
down_delivery l m state.Inactive w = w
down_delivery l m state.Active w = w
down_delivery l m state.DownPending w = down_pending (ltb (length l.holds.kept) MOST_KEPT) l m w
down_delivery l m state.InactivePending w = down_pending (ltb (length l.holds.kept) MOST_KEPT) l m w

down_taking : (l : Life) (k : ℕ) (o : Option Msu) → first_of k l.holds.waiting ≡ o → IsInOrderDown l → IsInOrderDown (after_taking l k o)
down_taking l k None e w n = w n
down_taking l k (Some m) e w n =
    let others : List Msu = filter (is_of n) (without_first k l.holds.waiting) in
    let joined : filter (is_of n) l.taken ++ filter (is_of n) l.holds.waiting ≡ filter (is_of n) (l.taken ++ m ∷ []) ++ filter (is_of n) (without_first k l.holds.waiting) =
    ap (λ (ms : List Msu). filter (is_of n) l.taken ++ ms) (moved n k l.holds.waiting m e) ∙ sym (append_assoc (filter (is_of n) l.taken) (one n m) others)
    ∙ ap (λ (ms : List Msu). ms ++ filter (is_of n) (without_first k l.holds.waiting)) (sym (of_push n l.taken m)) in
    subst (λ (ms : List Msu). Within ms (filter (is_of n) l.came)) joined (w n)

down_dropping : (l : Life) (k : ℕ) (o : Option Msu) → first_of k l.holds.waiting ≡ o → IsInOrderDown l → IsInOrderDown (after_dropping l k o)
down_dropping l k None e w n = w n
down_dropping l k (Some m) e w n =
    less (is_of n m) m (filter (is_of n) l.taken) (filter (is_of n) (without_first k l.holds.waiting)) (filter (is_of n) l.came)
    (subst (λ (ms : List Msu). Within (filter (is_of n) l.taken ++ ms) (filter (is_of n) l.came)) (moved n k l.holds.waiting m e) (w n))

down_lived : (l : Life) (d : Deed) → IsInOrderDown l → IsInOrderDown (lived l d)
unfolding lived
down_lived l (happens h) w = w
down_lived l (comes m) w = down_coming l m l.holds.state w
down_lived l (delivers m) w = down_delivery l m (for_delivery m l.holds.state) w
down_lived l (takes n) w = down_taking l n (first_of n l.holds.waiting) refl w
down_lived l (drops n) w = down_dropping l n (first_of n l.holds.waiting) refl w

pub in_order_down : (ds : List Deed) → IsInOrderDown (life_of ds)
in_order_down [] = λ n. none []
in_order_down (d ∷ ds) = down_lived (life_of ds) d (in_order_down ds)
