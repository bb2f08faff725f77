-- The bits that the gate adds to the content.
use Rattle.std.proofs.Common.{◌≡◌, ℕ, ◌-◌, ◌≤◌, zero, suc, Bool, true, false, Option, Some, None, List, [], ◌∷◌, ◌++◌, length, drop, refl, sym, ap, ◌∙◌, arith, subst}
use Rattle.std.specs.Prelude.{nat_lt, unwrap_or, is_some}
use Rattle.std.specs.Option.{option_map}
use Rattle.bit_line.specs.Stuffing.{taken_out}
use Rattle.bit_line.specs.Flags.{ends_flag, since_flag, inside, MOST_BITS}
use Rattle.bit_line.specs.Deframing.{LetsIn, Holds, seventh, latest}
use Rattle.bit_line.specs.declared.gate.Gate.{Gate}
use Rattle.bit_line.proofs.FlagLaws.{since_flag-flag, since_flag-other, part_of, seventh-is}

none_of : (s : Option (List Bool)) → is_some s ≡ false → s ≡ None
none_of None none = refl
none_of (Some c) none = absurd (let e : true ≡ false = none in cc)

some_of : (s : Option (List Bool)) → is_some s ≡ true → (c : List Bool) × (s ≡ Some c)
some_of None some = absurd (let e : false ≡ true = some in cc)
some_of (Some c) some = (c, refl)

pub inside-none : (h : List Bool) → since_flag h ≡ None → inside h ≡ []
unfolding inside
inside-none h none = ap (λ s. drop 7 (unwrap_or s [])) none

pub inside-some : (h c : List Bool) → since_flag h ≡ Some c → inside h ≡ drop 7 c
unfolding inside
inside-some h c some = ap (λ s. drop 7 (unwrap_or s [])) some

pub latest-some : (h c : List Bool) → since_flag h ≡ Some c → latest h ≡ c
latest-some h c some = ap (λ s. unwrap_or s []) some

abbrev nothing_yet : List Bool
nothing_yet = []

drop_none : (n : ℕ) → drop n (nothing_yet) ≡ []
drop_none zero = refl
drop_none (suc n) = refl

drop_few : (n : ℕ) (c : List Bool) → length c ≤ n → drop n c ≡ []
drop_few n [] few = drop_none n
drop_few zero (b ∷ c) few = absurd (omega arith)
drop_few (suc n) (b ∷ c) few = drop_few n c (omega arith)

pub unseen-inside : (h : List Bool) (g : Gate) → LetsIn h g → g.seen ≡ false → inside h ≡ []
unseen-inside h g lets none = inside-none h (none_of (since_flag h) (sym lets.seen ∙ none))

pub seen_by : (h : List Bool) (g : Gate) → LetsIn h g → g.seen ≡ true → (c : List Bool) × (since_flag h ≡ Some c)
seen_by h g lets some = some_of (since_flag h) (sym lets.seen ∙ some)

pub waiting-inside : (h : List Bool) (g : Gate) → LetsIn h g → g.seen ≡ true → (g.wait ≡ 0 → ⊥) → inside h ≡ []
waiting-inside h g lets some waits =
    let since : (c : List Bool) × (since_flag h ≡ Some c) = seen_by h g lets some in
    let few : length since.0 ≤ 7 = omega (arith, lets.wait, ap length (latest-some h since.0 since.1), waits) in
    inside-some h since.0 since.1 ∙ drop_few 7 since.0 few

-- ---- before the first flag
pub lets-none : (g : Gate) → g.seen ≡ false → g.wait ≡ 7 → LetsIn [] g
unfolding since_flag
lets-none g seen wait = record { seen = seen; wait = wait; content = λ some zero_wait. absurd (let e : false ≡ true = sym seen ∙ some in cc) }

pub pass-unseen : (b : Bool) (h : List Bool) (g : Gate) → ends_flag (b ∷ h) ≡ false → g.seen ≡ false → LetsIn h g → LetsIn (b ∷ h) g
pass-unseen b h g other none lets =
    let nothing : since_flag h ≡ None = none_of (since_flag h) (sym lets.seen ∙ none) in
    let still : since_flag (b ∷ h) ≡ None = since_flag-other b h other ∙ ap (λ s. option_map (λ c. b ∷ c) s) nothing in
    record {
      seen = lets.seen ∙ ap is_some (nothing ∙ sym still);
      wait = lets.wait ∙ ap (λ s. 7 - length (unwrap_or s [])) (nothing ∙ sym still);
      content = λ some zero_wait. absurd (let e : false ≡ true = sym none ∙ some in cc);
    }

-- ---- after a flag
more_since : (b : Bool) (h c : List Bool) → ends_flag (b ∷ h) ≡ false → since_flag h ≡ Some c → since_flag (b ∷ h) ≡ Some (b ∷ c)
more_since b h c other some = since_flag-other b h other ∙ ap (λ s. option_map (λ d. b ∷ d) s) some

seen_still : (b : Bool) (h c : List Bool) (seen : Bool) → seen ≡ true → since_flag (b ∷ h) ≡ Some (b ∷ c) → seen ≡ is_some (since_flag (b ∷ h))
seen_still b h c seen was some = was ∙ ap is_some (sym some)

wait_after : (b : Bool) (h c : List Bool) (old new : ℕ) → old ≡ 7 - length c → new ≡ old - 1 → since_flag (b ∷ h) ≡ Some (b ∷ c) → new ≡ 7 - length (latest (b ∷ h))
wait_after b h c old new was next some =
    let count : new ≡ 7 - suc (length c) = omega arith in
    count ∙ ap (λ d. 7 - length d) (sym (latest-some (b ∷ h) (b ∷ c) some))

pub pass-late : (b late : Bool) (h : List Bool) (old new : Gate) → ends_flag (b ∷ h) ≡ false → late ≡ seventh h → old.seen ≡ true → old.wait ≡ 0
    → new.seen ≡ old.seen → new.wait ≡ old.wait → ((c : List Bool) → Holds c old.content → Holds (late ∷ c) new.content) → LetsIn h old → LetsIn (b ∷ h) new
pass-late b late h old new other is_late some ready same_seen same_wait pushed lets =
    let since : (c : List Bool) × (since_flag h ≡ Some c) = seen_by h old lets some in
    let c : List Bool = since.0 in
    let more : since_flag (b ∷ h) ≡ Some (b ∷ c) = more_since b h c other since.1 in
    let was : old.wait ≡ 7 - length c = lets.wait ∙ ap (λ d. 7 - length d) (latest-some h c since.1) in
    let enough : 7 ≤ length c = omega (arith, was, ready) in
    let part : (rest : List Bool) × (h ≡ c ++ rest) = part_of h c since.1 in
    let next : inside (b ∷ h) ≡ late ∷ inside h =
    inside-some (b ∷ h) (b ∷ c) more ∙ seventh-is c part.0 enough
    ∙ ap (λ x. x ∷ drop 7 c) (ap seventh (sym part.1) ∙ sym is_late) ∙ ap (λ d. late ∷ d) (sym (inside-some h c since.1)) in
    let P : List Bool → Type 0 = λ d. Holds d new.content in
    record {
      seen = seen_still b h c new.seen (same_seen ∙ some) more;
      wait = wait_after b h c old.wait new.wait was (omega (arith, same_wait, ready)) more;
      content = λ seen zero_wait. subst P (sym next) (pushed (inside h) (lets.content some ready));
    }

pub pass-last : (b : Bool) (h : List Bool) (old new : Gate) → ends_flag (b ∷ h) ≡ false → old.seen ≡ true → new.seen ≡ old.seen → new.wait ≡ old.wait - 1
    → (old.wait ≡ 0 → ⊥) → new.wait ≡ 0 → Holds [] new.content → LetsIn h old → LetsIn (b ∷ h) new
pass-last b h old new other some same_seen next_wait waits ready cleared lets =
    let since : (c : List Bool) × (since_flag h ≡ Some c) = seen_by h old lets some in
    let c : List Bool = since.0 in
    let more : since_flag (b ∷ h) ≡ Some (b ∷ c) = more_since b h c other since.1 in
    let was : old.wait ≡ 7 - length c = lets.wait ∙ ap (λ d. 7 - length d) (latest-some h c since.1) in
    let few : length c ≤ 6 = omega (arith, was, waits) in
    let nothing : inside (b ∷ h) ≡ [] = inside-some (b ∷ h) (b ∷ c) more ∙ drop_few 6 c few in
    let P : List Bool → Type 0 = λ d. Holds d new.content in
    record {
      seen = seen_still b h c new.seen (same_seen ∙ some) more;
      wait = wait_after b h c old.wait new.wait was next_wait more;
      content = λ seen zero_wait. subst P (sym nothing) cleared;
    }

pub pass-waiting : (b : Bool) (h : List Bool) (old new : Gate) → ends_flag (b ∷ h) ≡ false → old.seen ≡ true → new.seen ≡ old.seen → new.wait ≡ old.wait - 1
    → (new.wait ≡ 0 → ⊥) → LetsIn h old → LetsIn (b ∷ h) new
pass-waiting b h old new other some same_seen next_wait waits lets =
    let since : (c : List Bool) × (since_flag h ≡ Some c) = seen_by h old lets some in
    let c : List Bool = since.0 in
    let more : since_flag (b ∷ h) ≡ Some (b ∷ c) = more_since b h c other since.1 in
    let was : old.wait ≡ 7 - length c = lets.wait ∙ ap (λ d. 7 - length d) (latest-some h c since.1) in
    record {
      seen = seen_still b h c new.seen (same_seen ∙ some) more;
      wait = wait_after b h c old.wait new.wait was next_wait more;
      content = λ seen zero_wait. absurd (waits zero_wait);
    }

-- ---- at a flag
pub closes-gate : (h : List Bool) (g : Gate) → ends_flag (false ∷ h) ≡ true → g.seen ≡ true → g.wait ≡ 7 → LetsIn (false ∷ h) g
closes-gate h g ends seen wait =
    let fresh : since_flag (false ∷ h) ≡ Some [] = since_flag-flag false h ends in
    record {
      seen = seen ∙ ap is_some (sym fresh);
      wait = wait ∙ ap (λ d. 7 - length d) (sym (latest-some (false ∷ h) [] fresh));
      content = λ some zero_wait. absurd (let e : g.wait ≡ 7 = wait in omega (arith, e, zero_wait));
    }

-- ---- more bits than a unit has
pub over-none : (h : List Bool) → inside h ≡ [] → false ≡ nat_lt MOST_BITS (length (taken_out (inside h)))
unfolding taken_out
over-none h none = ap (λ d. nat_lt MOST_BITS (length (taken_out d))) (sym none)
