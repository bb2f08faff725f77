-- Room and ticks at the links of a set, link by link.
use Rattle.std.proofs.Common.{◌≡◌, ℕ, ◌+◌, ◌<◌, ◌-◌, ◌^◌, ◌||◌, min, zero, suc, Bool, true, false, Option, Some, None, List, [], ◌∷◌, ◌++◌, length, map, take, drop, get_or, slice_set, refl, sym, ap, ◌∙◌, arith}
use Rattle.std.specs.Prelude.{All, if◌then◌else◌, sum_by}
use Rattle.std.specs.List.{list_any}
use Rattle.std.proofs.lemmas.List.{drop_more, drop_all}
use Rattle.std.proofs.lemmas.List.Elements.{All-map}
use Rattle.std.proofs.lemmas.List.Folds.{list_any_more}
use Rattle.std.proofs.lemmas.List.Sums.{sum_by-drop_more}
use Rattle.actor_machine.specs.declared.reply.Refusal.{Refusal}
use Rattle.link_processes.specs.declared.processes.Processes.{Processes}
use Rattle.link_processes.specs.Machine.{with_book, tidied, is_low, offered, tick_refusal}
use Rattle.actor_machine.specs.Ledger.{ask, rebased}
use Rattle.actor_machine.specs.Step.{Says}
use Rattle.actor_machine.specs.declared.event.Event.TheVariants.{Advance}
use Rattle.actor_machine.specs.declared.reply.Reply.TheVariants as reply
use Rattle.link_term.specs.Term.{Term, with_processes}
use Rattle.group_changeover.specs.declared.availability.Availability.{Availability}
use Rattle.group_changeover.specs.Availability.{waits}
use Rattle.link_group.specs.declared.link.Link.{Link}
use Rattle.link_group.specs.Doing.{came_first}
use Rattle.link_group.specs.Ticking.{roomy, HasRoom, LacksRoom, first_some, first_refusal, passed, due_in, due_at, all_due}
use Rattle.link_group.proofs.Numbered.{there-is}

-- ---- room

low_by : (t : Processes) (b : Bool) → is_low t ≡ b → is_low (if b then with_book t (rebased t.book) else t) ≡ false
unfolding rebased
low_by t true e = refl
low_by t false e = e

low_after : (t : Processes) → is_low (tidied t) ≡ false
unfolding tidied
low_after t = low_by t (is_low t) refl

pub all_roomy : (ks : List Link) → All HasRoom (map roomy ks)
all_roomy ks = All-map HasRoom roomy ks (λ i d lt. low_after (get_or ks i d).terminal.processes)

-- a terminal with room stays the same
pub tidy_already : (t : Processes) → is_low t ≡ false → tidied t ≡ t
unfolding tidied
tidy_already t e = ap (λ (b : Bool). if b then with_book t (rebased t.book) else t) e

pub due_is : (n : ℕ) (t : Processes) (due : ℕ) → is_low t ≡ false → Says (reply.Passed due) ≡ (ask (tidied t).book (Advance n)).answer → due ≡ due_in (ask t.book (Advance n)).answer
due_is n t due room is = ap due_in (is ∙ ap (λ (u : Processes). (ask u.book (Advance n)).answer) (tidy_already t room))

-- a terminal with room makes none
pub passes : (n : ℕ) (k : Link) (new : Term) (availability : Availability) → is_low k.terminal.processes ≡ false → new ≡ with_processes k.terminal (offered (Advance n) (tidied k.terminal.processes))
    → availability ≡ waits n k.availability → record { points = k.points; terminal = new; availability = availability; hand = k.hand } ≡ passed n k
passes n k new availability room is m =
    let same : new ≡ with_processes k.terminal (offered (Advance n) k.terminal.processes) = is ∙ ap (λ (u : Processes). with_processes k.terminal (offered (Advance n) u)) (tidy_already k.terminal.processes room) in
    rw (same, m) refl

-- ---- link after link

-- changes of the links before a place leave the one at that place
pub get_over : (f : Link → Link) (ks : List Link) (n : ℕ) (d : Link) → n < length ks → get_or (map f (take n ks) ++ drop n ks) n d ≡ get_or ks n d
get_over f [] n d h = absurd (omega (arith, h))
get_over f (k ∷ ks) zero d h = refl
get_over f (k ∷ ks) (suc n) d h = get_over f ks n d (omega (arith, h))

set_same : (ks : List Link) (n : ℕ) (d : Link) → n < length ks → slice_set ks n (get_or ks n d) ≡ ks
set_same [] n d h = absurd (omega (arith, h))
set_same (k ∷ ks) zero d h = refl
set_same (k ∷ ks) (suc n) d h = ap (λ (xs : List Link). k ∷ xs) (set_same ks n d (omega (arith, h)))

pub lacks_room : (old ks : List Link) (n : ℕ) (k new : Link) → n < length old → n < length ks → ks ≡ map roomy (take n old) ++ drop n old → k ≡ get_or ks n k → new ≡ k → is_low k.terminal.processes ≡ true
    → LacksRoom old (slice_set ks n new)
lacks_room old ks n k new h within is here same low =
    let stood : k ≡ get_or old n k = here ∙ ap (λ (xs : List Link). get_or xs n k) is ∙ get_over roomy old n k h in
    record {
      front = n;
      lacking = k;
      there = there-is old n k h ∙ ap (λ (x : Link). Some x) (sym stood);
      low = low;
      links = ap (slice_set ks n) (same ∙ here) ∙ set_same ks n k within ∙ is;
    }

-- ---- whether ticks can pass

some_none : (r : Refusal) → Some r ≡ None → ⊥
some_none r e = cc

front_none : (a b : Option Refusal) → first_some a b ≡ None → a ≡ None
front_none None b e = refl
front_none (Some r) b e = absurd (some_none r e)

rest_none : (a b : Option Refusal) → first_some a b ≡ None → b ≡ None
rest_none None b e = e
rest_none (Some r) b e = absurd (some_none r e)

pub none_at : (n : ℕ) (ks : List Link) (i : ℕ) (d : Link) → i < length ks → first_refusal n ks ≡ None → tick_refusal n (get_or ks i d).terminal.processes ≡ None
unfolding first_refusal
none_at n [] i d h e = absurd (omega (arith, h))
none_at n (k ∷ ks) zero d h e = front_none (tick_refusal n k.terminal.processes) (first_refusal n ks) e
none_at n (k ∷ ks) (suc i) d h e = none_at n ks i d (omega (arith, h)) (rest_none (tick_refusal n k.terminal.processes) (first_refusal n ks) e)

one_more : (n : ℕ) (k : Link) (ks : List Link) → first_refusal n (k ∷ ks) ≡ first_some (tick_refusal n k.terminal.processes) (first_refusal n ks)
unfolding first_refusal
one_more n k ks = refl

at_place : (n : ℕ) (ks : List Link) (i : ℕ) (k : Link) (r : Option Refusal) → i < length ks → k ≡ get_or ks i k → r ≡ tick_refusal n k.terminal.processes
    → first_refusal n (drop i ks) ≡ first_some r (first_refusal n (drop (i + 1) ks))
at_place n ks i k r h here is =
    ap (first_refusal n) (drop_more ks i k h ∙ ap (λ (x : Link). x ∷ drop (i + 1) ks) (sym here)) ∙ one_more n k (drop (i + 1) ks)
    ∙ ap (λ (x : Option Refusal). first_some x (first_refusal n (drop (i + 1) ks))) (sym is)

pub none_here : (n : ℕ) (ks : List Link) (i : ℕ) (k : Link) (whole : Option Refusal) → i < length ks → k ≡ get_or ks i k → None ≡ tick_refusal n k.terminal.processes
    → first_refusal n (drop i ks) ≡ whole → first_refusal n (drop (i + 1) ks) ≡ whole
none_here n ks i k whole h here is so = sym (at_place n ks i k None h here is) ∙ so

pub found_here : (n : ℕ) (ks : List Link) (i : ℕ) (k : Link) (r : Refusal) (whole : Option Refusal) → i < length ks → k ≡ get_or ks i k → Some r ≡ tick_refusal n k.terminal.processes
    → first_refusal n (drop i ks) ≡ whole → Some r ≡ whole
found_here n ks i k r whole h here is so = sym (at_place n ks i k (Some r) h here is) ∙ so

pub none_left : (n : ℕ) (ks : List Link) (i : ℕ) (whole : Option Refusal) → length ks ≡ i → first_refusal n (drop i ks) ≡ whole → None ≡ whole
unfolding first_refusal
none_left n ks i whole e so = sym (ap (first_refusal n) (drop_all i ks (omega (arith, e)))) ∙ so

-- ---- how many timers are due

add : (a b x m : ℕ) → min m (min (a + x) m + b) ≡ min m (a + (x + b))
add a b x m = omega arith

pub due_more : (n : ℕ) (ks : List Link) (i : ℕ) (k : Link) (due x new : ℕ) → i < length ks → k ≡ get_or ks i k → x ≡ due_at n k → new ≡ min (due + x) (2 ^ 64 - 1)
    → min (2 ^ 64 - 1) (due + sum_by (due_at n) (drop i ks)) ≡ all_due n ks → min (2 ^ 64 - 1) (new + sum_by (due_at n) (drop (i + 1) ks)) ≡ all_due n ks
due_more n ks i k due x new h here is grown so =
    let rest : ℕ = sum_by (due_at n) (drop (i + 1) ks) in
    let whole : sum_by (due_at n) (drop i ks) ≡ x + rest = sum_by-drop_more (due_at n) ks i k h ∙ ap (λ (j : Link). due_at n j + rest) (sym here) ∙ ap (λ (y : ℕ). y + rest) (sym is) in
    ap (λ (y : ℕ). min (2 ^ 64 - 1) (y + rest)) grown ∙ add due rest x (2 ^ 64 - 1) ∙ ap (λ (y : ℕ). min (2 ^ 64 - 1) (due + y)) (sym whole) ∙ so

pub due_none : (n : ℕ) (ks : List Link) → min (2 ^ 64 - 1) (0 + sum_by (due_at n) ks) ≡ all_due n ks
unfolding all_due
due_none n ks = let plain : 0 + sum_by (due_at n) ks ≡ sum_by (due_at n) ks = omega arith in ap (λ (y : ℕ). min (2 ^ 64 - 1) y) plain

pub due_last : (n : ℕ) (ks : List Link) (i due : ℕ) → length ks ≡ i → due < 2 ^ 64 → min (2 ^ 64 - 1) (due + sum_by (due_at n) (drop i ks)) ≡ all_due n ks → due ≡ all_due n ks
due_last n ks i due e fits so =
    let none : sum_by (due_at n) (drop i ks) ≡ 0 = ap (sum_by (due_at n)) (drop_all i ks (omega (arith, e))) in
    let same : due ≡ min (2 ^ 64 - 1) (due + 0) = omega (arith, fits) in
    same ∙ ap (λ (y : ℕ). min (2 ^ 64 - 1) (due + y)) (sym none) ∙ so

-- ---- the link at a place, while those before it have changed

pub stands_here : (f : Link → Link) (ks new : List Link) (i : ℕ) (k : Link) → i < length ks → new ≡ map f (take i ks) ++ drop i ks → k ≡ get_or new i k → k ≡ get_or ks i k
stands_here f ks new i k h is here = here ∙ ap (λ (xs : List Link). get_or xs i k) is ∙ get_over f ks i k h

pub room_here : (f : Link → Link) (ks new : List Link) (i : ℕ) (k : Link) → i < length ks → new ≡ map f (take i ks) ++ drop i ks → k ≡ get_or new i k → All HasRoom ks
    → is_low k.terminal.processes ≡ false
room_here f ks new i k h is here room = ap (λ (x : Link). is_low x.terminal.processes) (stands_here f ks new i k h is here) ∙ room i k h

pub may_here : (n : ℕ) (f : Link → Link) (ks new : List Link) (i : ℕ) (k : Link) → i < length ks → new ≡ map f (take i ks) ++ drop i ks → k ≡ get_or new i k
    → first_refusal n ks ≡ None → tick_refusal n k.terminal.processes ≡ None
may_here n f ks new i k h is here may = ap (λ (x : Link). tick_refusal n x.terminal.processes) (stands_here f ks new i k h is here) ∙ none_at n ks i k h may

-- ---- whether one came into service for the first time

pub first_more : (f : Link → Link) (ks new : List Link) (i : ℕ) (k : Link) (before after : Bool) → i < length ks → new ≡ map f (take i ks) ++ drop i ks → k ≡ get_or new i k
    → before ≡ list_any came_first (take i ks) → after ≡ (before || came_first k) → after ≡ list_any came_first (take (i + 1) ks)
first_more f ks new i k before after h is here was so =
    let stood : k ≡ get_or ks i k = stands_here f ks new i k h is here in
    so ∙ ap (λ (b : Bool). b || came_first k) was ∙ ap (λ (x : Link). list_any came_first (take i ks) || came_first x) stood
    ∙ sym (list_any_more came_first ks i k h)
