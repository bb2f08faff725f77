-- What an order to a link set changes.
use Rattle.std.proofs.Common.{◌≡◌, ◌∙◌, ℕ, ◌+◌, ◌<◌, ◌≤◌, nat_lt, Bool, true, false, List, [], ◌∷◌, ◌++◌, length, take, get_or, codes, slice_get, slice_set, Option, None, Some, option_map, Result, Ok, Err, OnOk, IfOk, IfSome, IsSome, IsNone, unwrap_or, true≢false, refl, sym, ap, subst, arith}
use Rattle.std.proofs.lemmas.Bool.Decides.{nat_tests}
use Rattle.std.proofs.lemmas.List.{take_all, take_more}
use Rattle.std.proofs.lemmas.Option.{none-some, same_Some}
use Rattle.actor_machine.specs.Ledger.{Ledger}
use Rattle.link_group.specs.Printed.{rebalance_error_text}
use Rattle.link_group.specs.declared.commanding.CommandError.{CommandError}
use Rattle.script_ends.specs.Answers.{actor_named, state_line, value_line}
use Rattle.script_ends.specs.Term.{Term}
use Rattle.link_processes.specs.declared.commands.Command.{Command}
use Rattle.link_group.specs.Commanding.{is_start, command_error_text}
use Rattle.link_group.specs.Lines.{ByCommand}
use Rattle.link_group.specs.Links.{read_at}
use Rattle.link_group.specs.Placing.{rebalance_fault, rebalanced}
use Rattle.link_group.specs.Reading.{book_of, terminal_of}
use Rattle.line_tending.specs.Giving.{IsOther, IsDisobeyed}
use Rattle.line_tending.specs.Orders.{after_order}
use Rattle.line_tending.specs.Readers.{is_put_off}
use Rattle.line_tending.specs.Rounds.{AddsOrders}
use Rattle.line_tending.specs.declared.ordered.Ordered.{Ordered}
use Rattle.link_group.specs.Set.{LinkSet}
use Rattle.line_tending.specs.Tended.{Tended}
use Rattle.line_tending.proofs.Doing.{orders_nothing}
use Rattle.line_tending.specs.group_changeover_types.errors.RebalanceError.{RebalanceError}
use Rattle.line_play.specs.SetDoing.{Stood, IsNoLink, ObeysAt, waits, put_off, gives, TriesAt, disobeys, TriesEach, one_command, Commands, terminal_at, reset_to, reset_at, Resets, none_reset, one_reset, Looks, Rebalances, NoFocus, NoRebalance, NoCommand, NotShown, IsShowable, MayShow, state_at, value_at, Changes}
use Rattle.line_play.specs.SetCounting.{begun_at}
use Rattle.line_play.specs.SetOrders.{plain_set_order, is_send}
use Rattle.line_play.specs.declared.set.measures.Since.{Since}
use Rattle.line_play.specs.declared.set.orders.Focus.{Focus}
use Rattle.line_play.specs.declared.set.orders.Focus.TheVariants.{Nothing}
use Rattle.line_play.specs.declared.set.orders.SetOrder.{SetOrder}
use Rattle.line_play.specs.declared.set.orders.SetOrder.TheVariants as order

-- the text reported as a refusal
pub why_so : {A E : Type 0} (r : Result (Option A) E) (f : A → List ℕ) (text : List ℕ) (P : List ℕ → Type 0) → P text → IfOk r (λ (o : Option A). IfSome o (λ (a : A). f a ≡ text))
    → IfOk r (λ (o : Option A). IfSome o (λ (a : A). P (f a)))
why_so (Ok (Some a)) f text P h same = subst P (sym same) h
why_so (Ok None) f text P h same = tt
why_so (Err e) f text P h same = tt

obeys_by : (command : Command) (l : ℕ) (t u : Tended) (starts later : Bool) → is_start command ≡ starts → is_put_off t.reader command ≡ later
    → (is_start command ≡ true → u ≡ t) → (is_put_off t.reader command ≡ true → u ≡ record t { ordered = u.ordered })
    → (is_start command ≡ false → u.ordered ≡ after_order l command t.ordered)
    → (is_start command ≡ false → is_put_off t.reader command ≡ false → ByCommand command l t.set u.set) → ObeysAt command l t u
obeys_by command l t u true later starts is start kept noted other = waits starts (start starts)
obeys_by command l t u false true starts is start kept noted other = put_off is (kept is ∙ ap (λ (os : List Ordered). record t { ordered = os }) (noted starts))
obeys_by command l t u false false starts is start kept noted other = gives starts is (other starts is) (noted starts)

pub obeys_at : (said command : Command) (l : ℕ) (t u : Tended) → said ≡ command → (is_start said ≡ true → u ≡ t)
    → (is_put_off t.reader said ≡ true → u ≡ record t { ordered = u.ordered }) → (is_start said ≡ false → u.ordered ≡ after_order l said t.ordered)
    → (is_start said ≡ false → is_put_off t.reader said ≡ false → ByCommand said l t.set u.set) → ObeysAt command l t u
obeys_at said command l t u same start kept noted other =
    subst (λ (k : Command). ObeysAt k l t u) same (obeys_by said l t u (is_start said) (is_put_off t.reader said) refl refl start kept noted other)

-- one more element of a list
pub more_at : {A : Type 0} (xs : List A) (i : ℕ) (x : A) → i < length xs → x ≡ get_or xs i x → take i xs ++ x ∷ [] ≡ take (i + 1) xs
more_at xs i x within is = ap (λ y. take i xs ++ y ∷ []) is ∙ sym (take_more xs i x within)

-- a link that doesn't obey
pub disobeyed_at : {E : Type 0} (r : Result (Option CommandError) E) (said command : Command) (l : ℕ) (t u : Tended) (first : Option CommandError) (e : CommandError)
    → said ≡ command → IsDisobeyed said l t u e → IfOk r (λ (o : Option CommandError). o ≡ Some (unwrap_or first e)) → OnOk r (IsOther e)
    → IfOk r (λ (o : Option CommandError). TriesAt command l t first u o)
disobeyed_at (Ok o) said command l t u first e same why is other =
    subst (λ (x : Option CommandError). TriesAt command l t first u x) (sym is) (disobeys e other (subst (λ (k : Command). IsDisobeyed k l t u e) same why))
disobeyed_at (Err x) said command l t u first e same why is other = tt

pub tries_more : (command : Command) (ls : List ℕ) (i l : ℕ) (t u w : Tended) (first last : Option CommandError) → i < length ls → l ≡ get_or ls i l
    → TriesEach command t (take i ls) u first → TriesAt command l u first w last → TriesEach command t (take (i + 1) ls) w last
tries_more command ls i l t u w first last within is before more =
    subst (λ (xs : List ℕ). TriesEach command t xs w last) (more_at ls i l within is) (one_command l before more)

pub tries_all : (command : Command) (ls : List ℕ) (i : ℕ) (t u : Tended) (first : Option CommandError) → length ls ≤ i → TriesEach command t (take i ls) u first
    → TriesEach command t ls u first
tries_all command ls i t u first all each = subst (λ (xs : List ℕ). TriesEach command t xs u first) (take_all i ls all) each

-- the links that an order addresses
pub commanded : {A E : Type 0} (r : Result (Option A) E) (command : Command) (whom : List ℕ) (p : Stood) (u : Tended) (first : Option CommandError)
    → TriesEach command p.tender whom u first → IfOk r (λ (o : Option A). IsNone o → first ≡ None)
    → IfOk r (λ (o : Option A). IsNone o → Commands command whom p (record p { tender = u }))
commanded (Ok o) command whom p u first tries none =
    λ shown. record { each = subst (λ (x : Option CommandError). TriesEach command p.tender whom u x) (none shown) tries; same = refl }
commanded (Err e) command whom p u first tries none = tt

pub not_commanded : {A E : Type 0} (r : Result (Option A) E) (f : A → List ℕ) (command : Command) (whom : List ℕ) (p : Stood) (u : Tended) (first : Option CommandError)
    → TriesEach command p.tender whom u first → IfOk r (λ (o : Option A). IfSome o (λ (a : A). option_map command_error_text first ≡ Some (f a)))
    → IfOk r (λ (o : Option A). IfSome o (λ (a : A). NoCommand command whom p (f a) (record p { tender = u })))
not_commanded (Ok (Some a)) f command whom p u None tries is = absurd (none-some (f a) is)
not_commanded (Ok (Some a)) f command whom p u (Some error) tries is =
    record { error = error; each = tries; why_is = sym (same_Some (command_error_text error) (f a) is); same = refl }
not_commanded (Ok None) f command whom p u first tries is = tt
not_commanded (Err e) f command whom p u first tries is = tt

-- the counts restart for links `first` to `last` - 1 of those that the order addresses
pub reset_none : (l : ℕ) (p : Stood) → terminal_at p.tender l ≡ None → p ≡ reset_at l p
reset_none l p none_there = λ i. record p { since = ap (λ (o : Option Term). reset_to l o p.since) (sym none_there) i }

pub reset_some : (l : ℕ) (p : Stood) (t : Term) (ss : List Since) → terminal_at p.tender l ≡ Some t → ss ≡ slice_set p.since l (begun_at t) → record p { since = ss } ≡ reset_at l p
reset_some l p t ss there is = λ i. record p { since = (is ∙ ap (λ (o : Option Term). reset_to l o p.since) (sym there)) i }

pub reset_more : (p : Stood) (ls : List ℕ) (i l : ℕ) (q r : Stood) → i < length ls → l ≡ get_or ls i l → Resets p (take i ls) q → r ≡ reset_at l q
    → Resets p (take (i + 1) ls) r
reset_more p ls i l q r within there before is =
    subst (λ (xs : List ℕ). Resets p xs r) (more_at ls i l within there)
    (subst (λ (x : Stood). Resets p (take i ls ++ l ∷ []) x) (sym is) (one_reset l before))

pub reset_all : (p : Stood) (ls : List ℕ) (i : ℕ) (q : Stood) → length ls ≤ i → Resets p (take i ls) q → Resets p ls q
reset_all p ls i q all before = subst (λ (xs : List ℕ). Resets p xs q) (take_all i ls all) before

resets_still : (p : Stood) (ls : List ℕ) (q : Stood) → Resets p ls q → q.tender ≡ p.tender
resets_still p _ _ none_reset = refl
resets_still p _ _ (one_reset {ls} {q} l before) = resets_still p ls q before

pub reset_adds : (whom : List ℕ) (p q : Stood) → Resets p whom q → AddsOrders p.tender q.tender
reset_adds whom p q each = subst (λ (t : Tended). AddsOrders p.tender t) (sym (resets_still p whom q each)) (orders_nothing p.tender)

there_in : (l links len : ℕ) → len ≡ links → nat_lt l len ≡ true → links ≤ l → ⊥
there_in l links len same there past = absurd (let small : l < len = grind (arith, nat_tests) in omega (arith, small, same, past))

no_focus : (focus : Focus) (p : Stood) → IsNoLink focus p.tender → NoFocus focus p (codes "K1 NoLink") (record p { focus = Nothing })
no_focus focus p none_there = record { none_there = none_there; why_is = refl; none_selected = refl }

pub refused_focus : {A E : Type 0} (r : Result (Option A) E) (f : A → List ℕ) (focus : Focus) (p : Stood) → IsNoLink focus p.tender
    → IfOk r (λ (o : Option A). IfSome o (λ (a : A). f a ≡ codes "K1 NoLink"))
    → IfOk r (λ (o : Option A). IfSome o (λ (a : A). NoFocus focus p (f a) (record p { focus = Nothing })))
refused_focus r f focus p none_there told_so =
    why_so r f (codes "K1 NoLink") (λ (w : List ℕ). NoFocus focus p w (record p { focus = Nothing })) (no_focus focus p none_there) told_so

pub looks : (focus : Focus) (p : Stood) (u : Tended) → (IsNoLink focus p.tender → ⊥) → u ≡ p.tender → Looks focus p (record p { tender = u; focus = focus })
looks focus p u there same = record { there = there; is = λ i. record p { tender = same i; focus = focus } }

pub rebalances : (p : Stood) (u : Tended) → None ≡ rebalance_fault p.tender.set → u ≡ record p.tender { set = rebalanced p.tender.set }
    → Rebalances p (record p { tender = u })
rebalances p u fault is = record { may = sym fault; is = λ i. record p { tender = is i } }

no_rebalance : (p : Stood) (u : Tended) (error : RebalanceError) → Some error ≡ rebalance_fault p.tender.set → u ≡ p.tender
    → NoRebalance p (rebalance_error_text error) (record p { tender = u })
no_rebalance p u error fault same = record { error = error; fault = sym fault; why_is = refl; same = λ i. record p { tender = same i } }

pub refused_rebalance : {A E : Type 0} (r : Result (Option A) E) (f : A → List ℕ) (p : Stood) (u : Tended) (error : RebalanceError) → Some error ≡ rebalance_fault p.tender.set
    → u ≡ p.tender → IfOk r (λ (o : Option A). IfSome o (λ (a : A). f a ≡ rebalance_error_text error))
    → IfOk r (λ (o : Option A). IfSome o (λ (a : A). NoRebalance p (f a) (record p { tender = u })))
refused_rebalance r f p u error fault same told_so =
    why_so r f (rebalance_error_text error) (λ (w : List ℕ). NoRebalance p w (record p { tender = u })) (no_rebalance p u error fault same) told_so

-- the reason why a link doesn't obey a command
pub refused_fault : {A E : Type 0} (r : Result (Option A) E) (f : A → List ℕ) (error : CommandError)
    → IfOk r (λ (o : Option A). IfSome o (λ (a : A). f a ≡ command_error_text error))
    → IfOk r (λ (o : Option A). IfSome o (λ (a : A). option_map command_error_text (Some error) ≡ Some (f a)))
refused_fault r f error told_so = why_so r f (command_error_text error) (λ (w : List ℕ). option_map command_error_text (Some error) ≡ Some w) refl told_so

-- the file of reports wasn't opened again
pub not_reopened : {A E : Type 0} (r : Result (Option A) E) (f : A → List ℕ) (p : Stood) → IfOk r (λ (o : Option A). IfSome o (λ (a : A). f a ≡ codes "F2 NoFile"))
    → IfOk r (λ (o : Option A). IfSome o (λ (a : A). (f a ≡ codes "F2 NoFile") × (p ≡ p)))
not_reopened (Ok (Some a)) f p why = (why, refl)
not_reopened (Ok None) f p why = tt
not_reopened (Err e) f p why = tt

-- a refused question changes nothing
pub refused_line : {A E : Type 0} (r : Result (Option A) E) (f : A → List ℕ) (line : Option (List ℕ)) (p : Stood)
    → IfOk r (λ (o : Option A). IfSome o (λ (a : A). line ≡ Some (codes "refused " ++ f a))) → IfOk r (λ (o : Option A). IfSome o (λ (a : A). NotShown line p (f a) p))
refused_line (Ok (Some a)) f line p refused = record { refused = refused; same = refl }
refused_line (Ok None) f line p refused = tt
refused_line (Err e) f line p refused = tt

-- all questions except those about an actor's state or a variable are always answered
pub may_show : (s : SetOrder) (whom : List ℕ) (t : Tended) → ((p : _) → s ≡ order.State p → ⊥) → ((p v : _) → s ≡ order.Value p v → ⊥) → MayShow (plain_set_order s) whom t
may_show (order.On focus) whom t not_state not_value = tt
may_show (order.Link obeyed) whom t not_state not_value = tt
may_show (order.State process) whom t not_state not_value = absurd (not_state process refl)
may_show (order.Value process variable) whom t not_state not_value = absurd (not_value process variable refl)
may_show (order.Measure measure) whom t not_state not_value = tt
may_show order.Aborted whom t not_state not_value = tt
may_show order.Measures whom t not_state not_value = tt
may_show order.Reset whom t not_state not_value = tt
may_show (order.Send octets) whom t not_state not_value = tt
may_show order.Table whom t not_state not_value = tt
may_show order.Held whom t not_state not_value = tt
may_show order.Unsure whom t not_state not_value = tt
may_show order.Rebalance whom t not_state not_value = tt
may_show order.Reopen whom t not_state not_value = tt
may_show order.Quit whom t not_state not_value = tt
may_show (order.Leave seconds) whom t not_state not_value = tt

-- the line of a link that exists; none of a link that doesn't
pub line_refused : {A E : Type 0} (r : Result (Option A) E) (f : A → List ℕ) (line : List ℕ) (there : Option (List ℕ)) → there ≡ Some line
    → IfOk r (λ (o : Option A). IfSome o (λ (a : A). line ≡ codes "refused " ++ f a)) → IfOk r (λ (o : Option A). IfSome o (λ (a : A). there ≡ Some (codes "refused " ++ f a)))
line_refused (Ok (Some a)) f line there is refused = is ∙ ap (λ (xs : List ℕ). Some xs) refused
line_refused (Ok None) f line there is refused = tt
line_refused (Err e) f line there is refused = tt

pub line_shown : {A E : Type 0} (r : Result (Option A) E) (line : List ℕ) (there : Option (List ℕ)) → there ≡ Some line
    → IfOk r (λ (o : Option A). IsNone o → (why : List ℕ) → line ≡ codes "refused " ++ why → ⊥) → IfOk r (λ (o : Option A). IsNone o → IsShowable there)
line_shown (Ok o) line there is shown = λ none why refused. shown none why (same_Some line (codes "refused " ++ why) (sym is ∙ refused))
line_shown (Err e) line there is shown = tt

pub nowhere_shown : (there : Option (List ℕ)) → there ≡ None → IsShowable there
nowhere_shown there none_there = λ why refused. none-some (codes "refused " ++ why) (sym none_there ∙ refused)

-- the line of a link that exists
pub there_line : (at : ℕ → Option (List ℕ)) (line text : List ℕ) (l k : ℕ) → Some line ≡ at l → l ≡ k → text ≡ line → at k ≡ Some text
there_line at line text l k there place is = sym (there ∙ ap at place) ∙ ap (λ (xs : List ℕ). Some xs) (sym is)

pub there_none : (at : ℕ → Option (List ℕ)) (l k : ℕ) → None ≡ at l → l ≡ k → at k ≡ None
there_none at l k none_there place = sym (none_there ∙ ap at place)

book_at : (c : LinkSet) (b : Option Ledger) (t : Tended) (l : ℕ) → c ≡ t.set → b ≡ read_at book_of (slice_get c.links l) → b ≡ read_at book_of (slice_get t.set.links l)
book_at c b t l same there = there ∙ ap (λ (s : LinkSet). read_at book_of (slice_get s.links l)) same

pub state_there : (process : List ℕ) (c : LinkSet) (b : Ledger) (line : List ℕ) (t : Tended) (l : ℕ) → c ≡ t.set → Some b ≡ read_at book_of (slice_get c.links l)
    → line ≡ state_line b (actor_named b process) → Some line ≡ state_at process t l
state_there process c b line t l same there is =
    ap (λ (xs : List ℕ). Some xs) is ∙ ap (option_map (λ (x : Ledger). state_line x (actor_named x process))) (book_at c (Some b) t l same there)

pub state_nowhere : (process : List ℕ) (c : LinkSet) (t : Tended) (l : ℕ) → c ≡ t.set → None ≡ read_at book_of (slice_get c.links l) → None ≡ state_at process t l
state_nowhere process c t l same there = ap (option_map (λ (x : Ledger). state_line x (actor_named x process))) (book_at c None t l same there)

pub value_there : (process variable : List ℕ) (c : LinkSet) (b : Ledger) (line : List ℕ) (t : Tended) (l : ℕ) → c ≡ t.set → Some b ≡ read_at book_of (slice_get c.links l)
    → line ≡ value_line b variable (actor_named b process) → Some line ≡ value_at process variable t l
value_there process variable c b line t l same there is =
    ap (λ (xs : List ℕ). Some xs) is ∙ ap (option_map (λ (x : Ledger). value_line x variable (actor_named x process))) (book_at c (Some b) t l same there)

pub value_nowhere : (process variable : List ℕ) (c : LinkSet) (t : Tended) (l : ℕ) → c ≡ t.set → None ≡ read_at book_of (slice_get c.links l) → None ≡ value_at process variable t l
value_nowhere process variable c t l same there = ap (option_map (λ (x : Ledger). value_line x variable (actor_named x process))) (book_at c None t l same there)

pub terminal_there : (c : LinkSet) (o : Option Term) (t : Tended) (l : ℕ) → c ≡ t.set → o ≡ read_at terminal_of (slice_get c.links l) → o ≡ terminal_at t l
terminal_there c o t l same there = there ∙ ap (λ (s : LinkSet). read_at terminal_of (slice_get s.links l)) same

-- a question changes nothing
pub still : (s : SetOrder) (whom : List ℕ) (p : Stood) → is_send (plain_set_order s) ≡ false → ((f : _) → s ≡ order.On f → ⊥) → ((o : _) → s ≡ order.Link o → ⊥)
    → (s ≡ order.Reset → ⊥) → (s ≡ order.Rebalance → ⊥) → (s ≡ order.Quit → ⊥) → ((n : _) → s ≡ order.Leave n → ⊥) → Changes (plain_set_order s) whom p p
still (order.On focus) whom p none_there not_on not_link not_reset not_rebalance not_quit not_leave = absurd (not_on focus refl)
still (order.Link obeyed) whom p none_there not_on not_link not_reset not_rebalance not_quit not_leave = absurd (not_link obeyed refl)
still (order.State process) whom p none_there not_on not_link not_reset not_rebalance not_quit not_leave = refl
still (order.Value process variable) whom p none_there not_on not_link not_reset not_rebalance not_quit not_leave = refl
still (order.Measure measure) whom p none_there not_on not_link not_reset not_rebalance not_quit not_leave = refl
still order.Aborted whom p none_there not_on not_link not_reset not_rebalance not_quit not_leave = refl
still order.Measures whom p none_there not_on not_link not_reset not_rebalance not_quit not_leave = refl
still order.Reset whom p none_there not_on not_link not_reset not_rebalance not_quit not_leave = absurd (not_reset refl)
still (order.Send octets) whom p none_there not_on not_link not_reset not_rebalance not_quit not_leave = absurd (true≢false none_there)
still order.Table whom p none_there not_on not_link not_reset not_rebalance not_quit not_leave = refl
still order.Held whom p none_there not_on not_link not_reset not_rebalance not_quit not_leave = refl
still order.Unsure whom p none_there not_on not_link not_reset not_rebalance not_quit not_leave = refl
still order.Rebalance whom p none_there not_on not_link not_reset not_rebalance not_quit not_leave = absurd (not_rebalance refl)
still order.Reopen whom p none_there not_on not_link not_reset not_rebalance not_quit not_leave = refl
still order.Quit whom p none_there not_on not_link not_reset not_rebalance not_quit not_leave = absurd (not_quit refl)
still (order.Leave seconds) whom p none_there not_on not_link not_reset not_rebalance not_quit not_leave = absurd (not_leave seconds refl)

-- a property that holds for every result of a call
pub where_none : {A E : Type 0} (r : Result (Option A) E) (P : Type 0) → P → IfOk r (λ (o : Option A). IsNone o → P)
where_none (Ok o) P h = λ none. h
where_none (Err e) P h = tt

pub where_some : {A E : Type 0} (r : Result (Option A) E) (P : Type 0) → P → IfOk r (λ (o : Option A). IsSome o → P)
where_some (Ok o) P h = λ some. h
where_some (Err e) P h = tt
