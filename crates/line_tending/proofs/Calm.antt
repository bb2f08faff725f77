-- Whether a changeover goes on.
use Rattle.std.proofs.Common.{◌≡◌, ◌∙◌, ℕ, zero, suc, ◌+◌, ◌≤◌, ◌||◌, Bool, true, false, List, [], ◌∷◌, ◌++◌, length, take, get_or, Option, None, Some, slice_get, refl, sym, ap, arith}
use Rattle.std.specs.List.{list_any}
use Rattle.std.proofs.lemmas.List.{take_more, take_all}
use Rattle.std.proofs.lemmas.Option.{none-some, slice_get_within, get_or_from_slice_get}
use Rattle.link_group.specs.OneLink.{is_changing}
use Rattle.link_group.specs.Tables.{changing_by}
use Rattle.link_group.specs.declared.link.Link.{Link}

either : (a b c : Bool) → (a || b) ≡ false → (b ≡ false → c ≡ false) → (a || c) ≡ false
either true b c h more = h
either false b c h more = more h

any_behind : (ks : List Link) (k : Link) → list_any is_changing ks ≡ false → is_changing k ≡ false → list_any is_changing (ks ++ k ∷ []) ≡ false
any_behind [] k before last = ap (λ (b : Bool). b || false) last
any_behind (x ∷ ks) k before last =
    either (is_changing x) (list_any is_changing ks) (list_any is_changing (ks ++ k ∷ [])) before (λ rest. any_behind ks k rest last)

any_there : (ks : List Link) (n : ℕ) (k : Link) → slice_get ks n ≡ Some k → list_any is_changing (take n ks) ≡ false → is_changing k ≡ false
    → list_any is_changing (take (n + 1) ks) ≡ false
any_there ks n k there before last =
    let more : take (n + 1) ks ≡ take n ks ++ get_or ks n k ∷ [] = take_more ks n k (slice_get_within ks n k there) in
    let is : get_or ks n k ≡ k = get_or_from_slice_get ks n k k there in
    ap (list_any is_changing) (more ∙ ap (λ (x : Link). take n ks ++ x ∷ []) is) ∙ any_behind (take n ks) k before last

none_past : (ks : List Link) (n : ℕ) → slice_get ks n ≡ None → length ks ≤ n
none_past [] n there = omega arith
none_past (x ∷ ks) zero there = absurd (none-some x (sym there))
none_past (x ∷ ks) (suc n) there = omega (arith, none_past ks n there)

any_by : (ks : List Link) (n : ℕ) (o : Option Link) → slice_get ks n ≡ o → list_any is_changing (take n ks) ≡ false → changing_by o ≡ false
    → list_any is_changing (take (n + 1) ks) ≡ false
any_by ks n None there before last =
    let past : length ks ≤ n = none_past ks n there in
    ap (list_any is_changing) (take_all (n + 1) ks (omega arith) ∙ sym (take_all n ks past)) ∙ before
any_by ks n (Some k) there before last = any_there ks n k there before last

-- One more link.
pub any_more : (ks : List Link) (n : ℕ) → list_any is_changing (take n ks) ≡ false → changing_by (slice_get ks n) ≡ false
    → list_any is_changing (take (n + 1) ks) ≡ false
any_more ks n before last = any_by ks n (slice_get ks n) refl before last

-- All links.
pub any_all : (ks : List Link) (n : ℕ) → length ks ≤ n → list_any is_changing (take n ks) ≡ false → list_any is_changing ks ≡ false
any_all ks n past before = sym (ap (list_any is_changing) (take_all n ks past)) ∙ before
