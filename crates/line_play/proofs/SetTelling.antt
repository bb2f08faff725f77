-- The lines that a link set reports, one by one.
use Rattle.std.proofs.Common.{◌≡◌, ◌∙◌, ℕ, suc, ◌+◌, ◌<◌, ◌≤◌, List, [], ◌∷◌, ◌++◌, length, take, codes, slice_get, unwrap_or, Option, None, Some, Result, Ok, Err, OnOk, refl, sym, ap, subst, arith}
use Rattle.std.proofs.lemmas.List.{take_all, take_more, flat_map_more}
use Rattle.std.proofs.lemmas.Result.{on_ok_weaker}
use Rattle.std.specs.Fmt.{decimal}
use Rattle.std.specs.List.{flat_map}
use Rattle.script_links.specs.resend_store_types.measures.Measure.{Measure}
use Rattle.line_filter.specs.Desks.{Told as TellsSuch}
use Rattle.line_filter.specs.Reporting.{Stand, ToldLine, TellsLines, kept}
use Rattle.line_filter.specs.declared.reports.Wait.{Wait}
use Rattle.line_filter.proofs.Reporting.{tells_none, tells_trans}
use Rattle.link_group.specs.Links.{read_at}
use Rattle.link_group.specs.Reading.{held_count, sent_count}
use Rattle.link_group.specs.Set.{LinkSet}
use Rattle.line_tending.specs.Tended.{Tended}
use Rattle.line_tending.specs.Texts.{told_text}
use Rattle.line_tending.specs.declared.told.Told.{Told}
use Rattle.line_play.specs.SetDoing.{Stood, answered}
use Rattle.line_play.specs.SetGiven.{first_links}
use Rattle.line_play.specs.SetOrders.{PlainSetOrder, plain_set_order}
use Rattle.line_play.specs.SetShowing.{count_text, told_if, shown_of, shown_each, held_text, unsure_text, shown_held, shows}
use Rattle.line_play.specs.declared.set.orders.SetOrder.{SetOrder}
use Rattle.line_play.specs.declared.set.orders.SetOrder.TheVariants as order
use Rattle.line_play.proofs.SetDoing.{more_at}
use Rattle.line_play.specs.SetSaying.{wait_of}
use Rattle.line_play.specs.SetRounds.{Takes, Tells, nothing, one, TellsAll}
use lib.ListN.{get_or}

-- a reported line, with its millisecond and its text replaced by equal ones
pub told_as : {A E : Type 0} (r : Result A E) (a b : Stand) (wait : Wait) (now later : ℕ) (text bytes : List ℕ) → now ≡ later → text ≡ bytes
    → OnOk r (TellsLines a b (kept wait now text)) → OnOk r (TellsLines a b (kept wait later bytes))
told_as r a b wait now later text bytes now_is text_is line =
    subst (λ (n : ℕ). OnOk r (TellsLines a b (kept wait n bytes))) now_is (subst (λ (xs : List ℕ). OnOk r (TellsLines a b (kept wait now xs))) text_is line)

-- the same line of an answer, with equal text
pub answered_as : {A E : Type 0} (r : Result A E) (a b : Stand) (p : Stood) (text bytes : List ℕ) → text ≡ bytes
    → OnOk r (TellsLines a b (answered p text)) → OnOk r (TellsLines a b (answered p bytes))
answered_as r a b p text bytes text_is line = subst (λ (xs : List ℕ). OnOk r (TellsLines a b (answered p xs))) text_is line

-- a property that holds however a call ends
pub ok_so : {A E : Type 0} (r : Result A E) (P : Type 0) → P → OnOk r P
ok_so (Ok v) P h = h
ok_so (Err e) P h = tt

-- ---- answers to orders

-- a line of a link, if the link exists
pub told_there : {A E : Type 0} (r : Result A E) (a b : Stand) (p : Stood) (text : List ℕ → List ℕ) (line said : List ℕ) (o : Option (List ℕ)) → Some line ≡ o → said ≡ line
    → OnOk r (TellsLines a b (answered p (text said))) → OnOk r (TellsLines a b (told_if p text o))
told_there r a b p text line said o there is line_told =
    subst (λ (x : Option (List ℕ)). OnOk r (TellsLines a b (told_if p text x))) there
    (subst (λ (xs : List ℕ). OnOk r (TellsLines a b (answered p (text xs)))) is line_told)

pub told_nowhere : (a : Stand) (p : Stood) (text : List ℕ → List ℕ) (o : Option (List ℕ)) → None ≡ o → TellsLines a a (told_if p text o)
told_nowhere a p text o none_there = subst (λ (x : Option (List ℕ)). TellsLines a a (told_if p text x)) none_there (tells_none a)

pub count_line : (name word text : List ℕ) (l count n : ℕ) → name ≡ word → count ≡ n
    → text ≡ decimal l ++ (codes " measure " ++ (name ++ (codes " " ++ decimal count))) → text ≡ count_text word l n
count_line name word text l count n same is are = are ∙ (ap (λ (xs : List ℕ). count_text xs l count) same ∙ ap (λ (k : ℕ). count_text word l k) is)

-- one more measurement
pub counts_more : (f : Measure → List ToldLine) (all : List Measure) (i : ℕ) (m : Measure) (a b c : Stand) → i < length all → m ≡ get_or all i m
    → TellsLines a b (flat_map f (take i all)) → TellsLines b c (f m) → TellsLines a c (flat_map f (take (i + 1) all))
counts_more f all i m a b c within is before line =
    subst (TellsLines a c) (flat_map_more f [] (take i all) m ∙ ap (flat_map f) (ap (λ (y : Measure). take i all ++ y ∷ []) is ∙ sym (take_more all i m within)))
    (tells_trans a b c (flat_map f (take i all)) (f m) before line)

pub then_told : {A E : Type 0} (r : Result A E) (a b c : Stand) (xs ys : List ToldLine) → TellsLines a b xs → OnOk r (TellsLines b c ys) → OnOk r (TellsLines a c (xs ++ ys))
then_told r a b c xs ys first second = on_ok_weaker r (λ (more : TellsLines b c ys). tells_trans a b c xs ys first more) second

-- one more link
pub links_more : (f : ℕ → List ToldLine) (all : List ℕ) (i l : ℕ) (a b c : Stand) → i < length all → l ≡ get_or all i l
    → TellsLines a b (flat_map f (take i all)) → TellsLines b c (f l) → TellsLines a c (flat_map f (take (i + 1) all))
links_more f all i l a b c within is before line =
    subst (TellsLines a c) (flat_map_more f [] (take i all) l ∙ ap (flat_map f) (more_at all i l within is))
    (tells_trans a b c (flat_map f (take i all)) (f l) before line)

pub links_all : (f : ℕ → List ToldLine) (all : List ℕ) (i : ℕ) (a b : Stand) → length all ≤ i → TellsLines a b (flat_map f (take i all)) → TellsLines a b (flat_map f all)
links_all f all i a b whole before = subst (λ (ls : List ℕ). TellsLines a b (flat_map f ls)) (take_all i all whole) before

-- other orders ask links nothing
pub shown_none : (s : SetOrder) (p : Stood) (l : ℕ) (a : Stand) → ((x : _) → s ≡ order.State x → ⊥) → ((x y : _) → s ≡ order.Value x y → ⊥)
    → ((m : _) → s ≡ order.Measure m → ⊥) → (s ≡ order.Aborted → ⊥) → (s ≡ order.Measures → ⊥) → TellsLines a a (shown_of (plain_set_order s) p l)
shown_none (order.On focus) p l a not_state not_value not_measure not_aborted not_measures = tells_none a
shown_none (order.Link obeyed) p l a not_state not_value not_measure not_aborted not_measures = tells_none a
shown_none (order.State process) p l a not_state not_value not_measure not_aborted not_measures = absurd (not_state process refl)
shown_none (order.Value process variable) p l a not_state not_value not_measure not_aborted not_measures = absurd (not_value process variable refl)
shown_none (order.Measure measure) p l a not_state not_value not_measure not_aborted not_measures = absurd (not_measure measure refl)
shown_none order.Aborted p l a not_state not_value not_measure not_aborted not_measures = absurd (not_aborted refl)
shown_none order.Measures p l a not_state not_value not_measure not_aborted not_measures = absurd (not_measures refl)
shown_none order.Reset p l a not_state not_value not_measure not_aborted not_measures = tells_none a
shown_none (order.Send octets) p l a not_state not_value not_measure not_aborted not_measures = tells_none a
shown_none order.Table p l a not_state not_value not_measure not_aborted not_measures = tells_none a
shown_none order.Held p l a not_state not_value not_measure not_aborted not_measures = tells_none a
shown_none order.Unsure p l a not_state not_value not_measure not_aborted not_measures = tells_none a
shown_none order.Rebalance p l a not_state not_value not_measure not_aborted not_measures = tells_none a
shown_none order.Reopen p l a not_state not_value not_measure not_aborted not_measures = tells_none a
shown_none order.Quit p l a not_state not_value not_measure not_aborted not_measures = tells_none a
shown_none (order.Leave seconds) p l a not_state not_value not_measure not_aborted not_measures = tells_none a

-- ---- answers about the link set

pub held_is : (c d : LinkSet) (l held : ℕ) (o : Option ℕ) → held ≡ unwrap_or o 0 → o ≡ read_at held_count (slice_get c.links l) → c ≡ d
    → held ≡ unwrap_or (read_at held_count (slice_get d.links l)) 0
held_is c d l held o is read same =
    is ∙ ap (λ (x : Option ℕ). unwrap_or x 0) (read ∙ ap (λ (s : LinkSet). read_at held_count (slice_get s.links l)) same)

pub sent_is : (c d : LinkSet) (l sent : ℕ) (o : Option ℕ) → sent ≡ unwrap_or o 0 → o ≡ read_at sent_count (slice_get c.links l) → c ≡ d
    → sent ≡ unwrap_or (read_at sent_count (slice_get d.links l)) 0
sent_is c d l sent o is read same =
    is ∙ ap (λ (x : Option ℕ). unwrap_or x 0) (read ∙ ap (λ (s : LinkSet). read_at sent_count (slice_get s.links l)) same)

pub held_line : (t : Tended) (l held sent : ℕ) (text : List ℕ) → held ≡ unwrap_or (read_at held_count (slice_get t.set.links l)) 0
    → sent ≡ unwrap_or (read_at sent_count (slice_get t.set.links l)) 0
    → text ≡ decimal l ++ (codes " held " ++ (decimal held ++ (codes " sent " ++ decimal sent))) → text ≡ held_text t l
held_line t l held sent text held_so sent_so are =
    are
    ∙ (ap (λ (n : ℕ). decimal l ++ (codes " held " ++ (decimal n ++ (codes " sent " ++ decimal sent)))) held_so
    ∙ ap (λ (n : ℕ). decimal l ++ (codes " held " ++ (decimal (unwrap_or (read_at held_count (slice_get t.set.links l)) 0) ++ (codes " sent " ++ decimal n)))) sent_so)

pub unsure_line : (t : Tended) (c : LinkSet) (count : ℕ) → count ≡ c.unsure → c ≡ t.set → codes "unsure " ++ decimal count ≡ unsure_text t
unsure_line t c count is same = ap (λ (n : ℕ). codes "unsure " ++ decimal n) (is ∙ ap (λ (s : LinkSet). s.unsure) same)

pub held_none : (p : Stood) (a : Stand) → TellsLines a a (shown_held p 0)
held_none p a = tells_none a

next_held : (p : Stood) (l k : ℕ) → k ≡ suc l → shown_held p k ≡ shown_held p l ++ answered p (held_text p.tender l)
next_held p l k is =
    ap (shown_held p) is ∙ sym (flat_map_more (λ (n : ℕ). answered p (held_text p.tender n)) [] (first_links l) l)

pub held_more : (p : Stood) (l : ℕ) (a b c : Stand) → TellsLines a b (shown_held p l) → TellsLines b c (answered p (held_text p.tender l))
    → TellsLines a c (shown_held p (l + 1))
held_more p l a b c before line =
    subst (TellsLines a c) (sym (next_held p l (l + 1) (omega arith))) (tells_trans a b c (shown_held p l) (answered p (held_text p.tender l)) before line)

pub held_all : (p : Stood) (l count : ℕ) (a b : Stand) → l ≡ count → TellsLines a b (shown_held p l) → TellsLines a b (shown_held p count)
held_all p l count a b all before = subst (λ (n : ℕ). TellsLines a b (shown_held p n)) all before

lines_are : (s : SetOrder) (whom : List ℕ) (p : Stood) → (s ≡ order.Table → ⊥) → (s ≡ order.Unsure → ⊥) → (s ≡ order.Held → ⊥)
    → shown_each (plain_set_order s) p whom ≡ shows (plain_set_order s) whom p
lines_are (order.On focus) whom p not_table not_unsure not_held = refl
lines_are (order.Link obeyed) whom p not_table not_unsure not_held = refl
lines_are (order.State process) whom p not_table not_unsure not_held = refl
lines_are (order.Value process variable) whom p not_table not_unsure not_held = refl
lines_are (order.Measure measure) whom p not_table not_unsure not_held = refl
lines_are order.Aborted whom p not_table not_unsure not_held = refl
lines_are order.Measures whom p not_table not_unsure not_held = refl
lines_are order.Reset whom p not_table not_unsure not_held = refl
lines_are (order.Send octets) whom p not_table not_unsure not_held = refl
lines_are order.Table whom p not_table not_unsure not_held = absurd (not_table refl)
lines_are order.Held whom p not_table not_unsure not_held = absurd (not_held refl)
lines_are order.Unsure whom p not_table not_unsure not_held = absurd (not_unsure refl)
lines_are order.Rebalance whom p not_table not_unsure not_held = refl
lines_are order.Reopen whom p not_table not_unsure not_held = refl
lines_are order.Quit whom p not_table not_unsure not_held = refl
lines_are (order.Leave seconds) whom p not_table not_unsure not_held = refl

pub lines_shown : {A E : Type 0} (r : Result A E) (s : SetOrder) (whom : List ℕ) (p : Stood) (a b : Stand)
    → (s ≡ order.Table → ⊥) → (s ≡ order.Unsure → ⊥) → (s ≡ order.Held → ⊥) → OnOk r (TellsLines a b (shown_each (plain_set_order s) p whom))
    → OnOk r (TellsLines a b (shows (plain_set_order s) whom p))
lines_shown r s whom p a b not_table not_unsure not_held lines =
    subst (λ (xs : List ToldLine). OnOk r (TellsLines a b xs)) (lines_are s whom p not_table not_unsure not_held) lines

-- ---- reports of the link set

pub tells_nothing : (t : Tended) (a : Stand) → TellsSuch (λ bytes. Tells t bytes t) a a
tells_nothing t a = record { bytes = []; are = nothing; tells = tells_none a }

pub tells_more : (t u w : Tended) (a b c : Stand) (x : Told) (now : ℕ) → TellsSuch (λ bytes. Tells t bytes u) a b → Takes u x w → now ≡ w.ticks
    → TellsLines b c (kept (wait_of x) now (told_text x)) → TellsSuch (λ bytes. Tells t bytes w) a c
tells_more t u w a b c x now before takes now_is line = record {
  bytes = before.bytes ++ kept (wait_of x) w.ticks (told_text x);
  are = one x before.are takes;
  tells = tells_trans a b c before.bytes (kept (wait_of x) w.ticks (told_text x)) before.tells (subst (λ (n : ℕ). TellsLines b c (kept (wait_of x) n (told_text x))) now_is line);
}

pub tells_all : (t u w : Tended) (a b : Stand) → TellsSuch (λ bytes. Tells t bytes u) a b → u.reports ≡ [] → u.news ≡ [] → w ≡ u
    → TellsSuch (λ bytes. TellsAll t bytes w) a b
tells_all t u w a b before none_left no_news same =
    subst (λ (x : Tended). TellsSuch (λ bytes. TellsAll t bytes x) a b) (sym same)
    (record { bytes = before.bytes; are = record { tells = before.are; none_left = none_left; no_news = no_news }; tells = before.tells })
