-- How a run of a set ends.
use Rattle.std.proofs.Common.{◌≡◌, ◌∙◌, ◌⊎◌, inl, inr, ℕ, ◌+◌, ◌-◌, ◌^◌, ◌<◌, ◌≤◌, ◌&&◌, ◌||◌, zero, suc, nat_lt, min, Bool, true, false, List, [], ◌∷◌, ◌++◌, Option, None, Some, Result, Ok, Err, OnOk, IfOk, IsNone, true≢false, refl, sym, ap, subst, arith}
use Rattle.std.proofs.lemmas.Bool.Decides.{nat_tests}
use Rattle.std.proofs.lemmas.List.Folds.{list_any-append}
use Rattle.std.specs.List.{list_any}
use Rattle.link_group.specs.declared.commanding.CommandError.{CommandError}
use Rattle.link_processes.specs.declared.commands.Command.TheVariants.{Stop}
use Rattle.line_tending.specs.Rounds.{AddsOrders}
use Rattle.line_tending.specs.Tended.{Tended}
use Rattle.line_play.specs.declared.set.state.Ending.{Ending}
use Rattle.line_play.specs.declared.set.state.Ending.TheVariants.{Stays, Leaves, Stops, Over}
use Rattle.line_play.specs.SetDoing.{Stood, TriesEach}
use Rattle.line_play.specs.SetGiven.{first_links}
use Rattle.line_play.specs.SetLeaving.{keeps_some, any_keeps, LINGER, StopsAll, NotDue, Departs, goes_on, stops, ends}

-- none of the first `count` links, and one more
pub none_more : (t : Tended) (l k : ℕ) → k ≡ suc l → list_any (keeps_some t) (first_links l) ≡ false → keeps_some t l ≡ false
    → list_any (keeps_some t) (first_links k) ≡ false
none_more t l k is before more =
    ap (λ (n : ℕ). list_any (keeps_some t) (first_links n)) is
    ∙ (list_any-append (keeps_some t) (first_links l) (l ∷ []) ∙ (ap (λ (b : Bool). b || (keeps_some t l || false)) before ∙ ap (λ (b : Bool). b || false) more))

or_last : (x y : Bool) → y ≡ true → (x || (y || false)) ≡ true
or_last true y some = refl
or_last false true some = refl
or_last false false some = absurd (true≢false (sym some))

or_first : (x y : Bool) → x ≡ true → (x || y) ≡ true
or_first true y some = refl
or_first false y some = absurd (true≢false (sym some))

some_at : (t : Tended) (l d k : ℕ) → k ≡ suc (l + d) → keeps_some t l ≡ true → list_any (keeps_some t) (first_links k) ≡ true
some_at t l zero k is some =
    let last : k ≡ suc l = omega (arith, is) in
    ap (λ (n : ℕ). list_any (keeps_some t) (first_links n)) last
    ∙ (list_any-append (keeps_some t) (first_links l) (l ∷ []) ∙ or_last (list_any (keeps_some t) (first_links l)) (keeps_some t l) some)
some_at t l (suc d) k is some =
    let before : l + suc d ≡ suc (l + d) = omega arith in
    ap (λ (n : ℕ). list_any (keeps_some t) (first_links n)) is
    ∙ (list_any-append (keeps_some t) (first_links (l + suc d)) ((l + suc d) ∷ [])
    ∙ or_first (list_any (keeps_some t) (first_links (l + suc d))) (keeps_some t (l + suc d) || false) (some_at t l d (l + suc d) before some))

pub some_among : (t : Tended) (l n m : ℕ) → l < n → n ≡ m → keeps_some t l ≡ true → list_any (keeps_some t) (first_links m) ≡ true
some_among t l n m small all some =
    let is : m ≡ suc (l + (n - (l + 1))) = omega (arith, small, all) in
    some_at t l (n - (l + 1)) m is some

pub none_among : (t : Tended) (n m : ℕ) → n ≡ m → list_any (keeps_some t) (first_links n) ≡ false → list_any (keeps_some t) (first_links m) ≡ false
none_among t n m all none_so = sym (ap (λ (k : ℕ). list_any (keeps_some t) (first_links k)) all) ∙ none_so

-- ---- the acts that are due

pub stopped : (t u : Tended) (whom : List ℕ) (first : Option CommandError) → whom ≡ first_links t.plan.links → AddsOrders t u → TriesEach Stop t whom u first
    → StopsAll t u
stopped t u whom first is adds each = record { adds = adds; first = first; each = subst (λ (ls : List ℕ). TriesEach Stop t ls u first) is each }

ticks_below : (n until : ℕ) → nat_lt n until ≡ true → n < until
ticks_below n until shown = grind (arith, nat_tests)

ticks_past : (n until : ℕ) → nat_lt n until ≡ false → until ≤ n
ticks_past n until denied = grind (arith, nat_tests)

due_with : (n until : ℕ) (x y : Bool) → nat_lt n until ≡ x → (x && y) ≡ false → (y ≡ false) ⊎ (until ≤ n)
due_with n until true y is none_so = inl none_so
due_with n until false y is none_so = inr (ticks_past n until is)

due_by : (n until : ℕ) (y : Bool) → (nat_lt n until && y) ≡ false → (y ≡ false) ⊎ (until ≤ n)
due_by n until y none_so = due_with n until (nat_lt n until) y refl none_so

both_of : (x y : Bool) → (x && y) ≡ true → (x ≡ true) × (y ≡ true)
both_of true y both = (refl, both)
both_of false y both = absurd (true≢false (sym both))

pub still_so : (p : Stood) (until : ℕ) (b : Bool) → p.ending ≡ Leaves until → b ≡ (nat_lt p.tender.ticks until && any_keeps p.tender) → b ≡ true → Departs p p
still_so p until b is b_is shown =
    let parts = both_of (nat_lt p.tender.ticks until) (any_keeps p.tender) (sym b_is ∙ shown) in
    goes_on (subst (λ (e : Ending). NotDue e p.tender) (sym is) (parts.1, ticks_below p.tender.ticks until parts.0))

pub stops_so : (p : Stood) (u : Tended) (until end : ℕ) (b : Bool) → p.ending ≡ Leaves until → b ≡ (nat_lt p.tender.ticks until && any_keeps p.tender) → b ≡ false
    → end ≡ min (2 ^ 64 - 1) (p.tender.ticks + LINGER) → StopsAll p.tender u → Departs p (record p { tender = u; ending = Stops end })
stops_so p u until end b is b_is denied end_is all =
    subst (λ (n : ℕ). Departs p (record p { tender = u; ending = Stops n })) (sym end_is)
    (stops until is (due_by p.tender.ticks until (any_keeps p.tender) (sym b_is ∙ denied)) all)

pub early_so : (p : Stood) (since : ℕ) (b : Bool) → p.ending ≡ Stops since → b ≡ nat_lt p.tender.ticks since → b ≡ true → Departs p p
early_so p since b is b_is shown = goes_on (subst (λ (e : Ending). NotDue e p.tender) (sym is) (ticks_below p.tender.ticks since (sym b_is ∙ shown)))

pub ends_so : (p : Stood) (since : ℕ) (b : Bool) → p.ending ≡ Stops since → b ≡ nat_lt p.tender.ticks since → b ≡ false → Departs p (record p { ending = Over })
ends_so p since b is b_is denied = ends since is (ticks_past p.tender.ticks since (sym b_is ∙ denied))

pub nothing_due : (p : Stood) (e : Ending) → p.ending ≡ e → NotDue e p.tender → Departs p p
nothing_due p e is due = goes_on (subst (λ (x : Ending). NotDue x p.tender) (sym is) due)

pub at_rest : (p : Stood) → (p.ending ≡ Stays) ⊎ (p.ending ≡ Over) → Departs p p
at_rest p (inl is) = nothing_due p Stays is tt
at_rest p (inr is) = nothing_due p Over is tt
