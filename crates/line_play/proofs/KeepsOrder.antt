-- Some elements of a list, in its order.
use Rattle.std.proofs.Common.{◌≡◌, List, [], ◌∷◌, ◌++◌, append-nil, append_assoc, refl, sym, subst}
use Rattle.line_play.specs.SetLaws.{InOrder, nothing_left, skips, keeps}

pub all_in_order : {A : Type 0} (xs : List A) → InOrder xs xs
all_in_order [] = nothing_left
all_in_order (x ∷ xs) = keeps x (all_in_order xs)

pub none_in_order : {A : Type 0} (xs : List A) → InOrder [] xs
none_in_order [] = nothing_left
none_in_order (x ∷ xs) = skips x (none_in_order xs)

pub trans_in_order : {A : Type 0} (xs ys zs : List A) → InOrder xs ys → InOrder ys zs → InOrder xs zs
trans_in_order xs _ _ some nothing_left = some
trans_in_order xs _ _ some (skips z more) = skips z (trans_in_order xs _ _ some more)
trans_in_order _ _ _ (skips y some) (keeps _ more) = skips y (trans_in_order _ _ _ some more)
trans_in_order _ _ _ (keeps y some) (keeps _ more) = keeps y (trans_in_order _ _ _ some more)

-- the same elements before both and after both
pub in_front : {A : Type 0} (ws xs ys : List A) → InOrder xs ys → InOrder (ws ++ xs) (ws ++ ys)
in_front [] xs ys some = some
in_front (w ∷ ws) xs ys some = keeps w (in_front ws xs ys some)

pub joined_in_order : {A : Type 0} (xs ys vs ws : List A) → InOrder xs ys → InOrder vs ws → InOrder (xs ++ vs) (ys ++ ws)
joined_in_order _ _ vs ws nothing_left more = more
joined_in_order _ _ vs ws (skips {xs} {ys} y some) more = skips y (joined_in_order xs ys vs ws some more)
joined_in_order _ _ vs ws (keeps {xs} {ys} y some) more = keeps y (joined_in_order xs ys vs ws some more)

pub behind_both : {A : Type 0} (xs ys zs : List A) → InOrder xs ys → InOrder (xs ++ zs) (ys ++ zs)
behind_both xs ys zs some = joined_in_order xs ys zs zs some (all_in_order zs)

-- The last elements are dropped.
pub front_in_order : {A : Type 0} (xs ys zs : List A) → InOrder (xs ++ ys) zs → InOrder xs zs
front_in_order {A} xs ys zs some = trans_in_order xs (xs ++ ys) zs (subst (λ (ws : List A). InOrder ws (xs ++ ys)) (append-nil xs) (in_front xs [] ys (none_in_order ys))) some

-- A part waits after the part that left, and so on.
pub goes_on : {A : Type 0} (gone left all came more still next : List A) → InOrder (gone ++ left) (all ++ came) → InOrder (more ++ still) (left ++ next)
    → InOrder ((gone ++ more) ++ still) (all ++ (came ++ next))
goes_on {A} gone left all came more still next before after =
    let first : InOrder (gone ++ (more ++ still)) (gone ++ (left ++ next)) = in_front gone (more ++ still) (left ++ next) after in
    let second : InOrder ((gone ++ left) ++ next) ((all ++ came) ++ next) = behind_both (gone ++ left) (all ++ came) next before in
    let both : InOrder (gone ++ (more ++ still)) ((all ++ came) ++ next) =
    trans_in_order (gone ++ (more ++ still)) (gone ++ (left ++ next)) ((all ++ came) ++ next) first
    (subst (λ (ws : List A). InOrder ws ((all ++ came) ++ next)) (append_assoc gone left next) second) in
    subst (λ (ws : List A). InOrder ws (all ++ (came ++ next))) (sym (append_assoc gone more still))
    (subst (λ (ws : List A). InOrder (gone ++ (more ++ still)) ws) (append_assoc all came next) both)
