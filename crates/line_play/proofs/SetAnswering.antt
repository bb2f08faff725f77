-- The answer to an order.
use Rattle.std.proofs.Common.{◌≡◌, ◌∙◌, ℕ, ◌+◌, ◌==◌, if◌then◌else◌, Bool, true, false, List, [], ◌∷◌, ◌++◌, map, codes, Option, None, Some, true≢false, refl, sym, ap, subst}
use Rattle.std.specs.List.{flat_map}
use Rattle.std.proofs.lemmas.Option.{none-some, same_Some}
use Rattle.std.proofs.lemmas.List.Elements.{All-nil}
use Rattle.script_links.specs.resend_store_types.messages.Msu.{Msu}
use Rattle.script_ends.specs.MeasureNames.{measure_word, all_measures}
use Rattle.script_ends.specs.resend_store_types.measures.Measure.{Measure}
use Rattle.script_ends.specs.TermAnswers.{IsMessageOf}
use Rattle.script_lines.specs.Words.{words_of}
use Rattle.line_filter.specs.Reporting.{ToldLine, kind_of}
use Rattle.line_filter.specs.declared.reports.Wait.{Wait}
use Rattle.line_filter.specs.declared.reports.Wait.TheVariants.{Answer}
use Rattle.line_tending.specs.Tended.{Tended}
use Rattle.line_play.specs.SetAnswers.{Asked, asked_by, answers_in, Bears, IsAnswer, says_ok, says_refused, taken_by}
use Rattle.line_play.specs.SetDoing.{Stood, answered, links_at, Resets, none_reset, one_reset, Changes, Refuses}
use Rattle.line_play.specs.SetGiven.{PlainSaid, is_ignored, is_on, first_links}
use Rattle.line_play.specs.SetLaws.{octets_by, octets_said, octets_of, sent_asking, sent_of, sent_trying}
use Rattle.line_play.specs.SetObeying.{refusal_line, ObeysThere, does_so, refuses_so, Obeys, does, lacks_some, says_none, unselected_by, unselected, BAD_LINE}
use Rattle.line_play.specs.SetDoing.{NO_LINK, state_at, value_at}
use Rattle.line_play.specs.SetOrders.{PlainSetOrder, is_send, on, links, state, value, measuring, aborted, measures, resetting, send, table, held as holding, unsure, rebalance, reopen, quit, leave}
use Rattle.line_play.specs.SetQueues.{PlainSent, taken, refused, held, AsksOf, is_taken, unlabelled, turned_down, is_kept, is_moving, Asks, no_message, is_message, LEAVING, Tries, leaves, takes, refuses, waits_on, SaysSend}
use Rattle.line_play.specs.SetShowing.{told_if, count_told, aborted_told, shown_of, shown_each, shows, held_text, table_of, unsure_text, count_text, ABORTED, counted, aborted_at, state_text, value_text}
use Rattle.line_play.proofs.SetTimes.{Each, each_then, all_of, orders_ticks}

-- ---- lines that bear a mark

bears_one : (p : Stood) (text : List ℕ) → Each (Bears p.mark) (answered p text)
bears_one p text = (record { now = p.tender.ticks; text = text; wait = refl; octets = refl }, tt)

bears_if : (p : Stood) (text : List ℕ → List ℕ) (o : Option (List ℕ)) → Each (Bears p.mark) (told_if p text o)
bears_if p text None = tt
bears_if p text (Some line) = bears_one p (text line)

bears_flat : {X : Type 0} (mark : List ℕ) (f : X → List ToldLine) → ((x : X) → Each (Bears mark) (f x)) → (xs : List X) → Each (Bears mark) (flat_map f xs)
bears_flat mark f all [] = tt
bears_flat mark f all (x ∷ xs) = each_then (Bears mark) (f x) (flat_map f xs) (all x) (bears_flat mark f all xs)

bears_shown : (said : PlainSetOrder) (p : Stood) (l : ℕ) → Each (Bears p.mark) (shown_of said p l)
bears_shown (on focus) p l = tt
bears_shown (links order) p l = tt
bears_shown (state process) p l = bears_if p (state_text process l) (state_at process p.tender l)
bears_shown (value process variable) p l = bears_if p (value_text process variable l) (value_at process variable p.tender l)
bears_shown (measuring measure) p l = bears_one p (count_text (measure_word measure) l (counted measure p l))
bears_shown aborted p l = bears_one p (count_text ABORTED l (aborted_at p l))
bears_shown measures p l =
    each_then (Bears p.mark) (flat_map (count_told p l) all_measures) (aborted_told p l)
    (bears_flat p.mark (count_told p l) (λ (m : Measure). bears_one p (count_text (measure_word m) l (counted m p l))) all_measures)
    (bears_one p (count_text ABORTED l (aborted_at p l)))
bears_shown resetting p l = tt
bears_shown (send octets) p l = tt
bears_shown table p l = tt
bears_shown holding p l = tt
bears_shown unsure p l = tt
bears_shown rebalance p l = tt
bears_shown reopen p l = tt
bears_shown quit p l = tt
bears_shown (leave seconds) p l = tt

bears_each : (said : PlainSetOrder) (p : Stood) (whom : List ℕ) → Each (Bears p.mark) (shown_each said p whom)
bears_each said p whom = bears_flat p.mark (shown_of said p) (bears_shown said p) whom

bears_shows : (said : PlainSetOrder) (whom : List ℕ) (p : Stood) → Each (Bears p.mark) (shows said whom p)
bears_shows (on focus) whom p = bears_each (on focus) p whom
bears_shows (links order) whom p = bears_each (links order) p whom
bears_shows (state process) whom p = bears_each (state process) p whom
bears_shows (value process variable) whom p = bears_each (value process variable) p whom
bears_shows (measuring measure) whom p = bears_each (measuring measure) p whom
bears_shows aborted whom p = bears_each aborted p whom
bears_shows measures whom p = bears_each measures p whom
bears_shows resetting whom p = bears_each resetting p whom
bears_shows (send octets) whom p = bears_each (send octets) p whom
bears_shows table whom p = bears_one p (table_of p.tender)
bears_shows holding whom p = bears_flat p.mark (λ (l : ℕ). answered p (held_text p.tender l)) (λ (l : ℕ). bears_one p (held_text p.tender l)) (first_links p.tender.plan.links)
bears_shows unsure whom p = bears_one p (unsure_text p.tender)
bears_shows rebalance whom p = bears_each rebalance p whom
bears_shows reopen whom p = bears_each reopen p whom
bears_shows quit whom p = bears_each quit p whom
bears_shows (leave seconds) whom p = bears_each (leave seconds) p whom

-- such lines are lines of answers
answers_all : (mark : List ℕ) (ls : List ToldLine) → Each (Bears mark) ls → answers_in ls ≡ ls
answers_all mark [] all = refl
answers_all mark (l ∷ ls) all =
    ap (λ (w : Wait). if kind_of w == kind_of Answer then l ∷ answers_in ls else answers_in ls) all.0.wait
    ∙ ap (λ (xs : List ToldLine). l ∷ xs) (answers_all mark ls all.1)

-- ---- the answer to an order

pub record OneAnswer (o : Asked) (at : ℕ) (sent : List Msu) (bytes : List ToldLine) : Type 0 where
  pub ok : Bool
  pub is : IsAnswer (record { order = o; ok = ok; at = at }) bytes
  pub all : answers_in bytes ≡ bytes
  pub taken_are : map octets_of sent ≡ taken_by (record { order = o; ok = ok; at = at })

abbrev order_of : List ℕ → List ℕ → List (List ℕ) → ℕ → Asked
order_of mark text octets at = record { mark = mark; text = text; octets = octets; at = at }

-- it is refused
pub refusal_of : (p : Stood) (text : List ℕ) (octets : List (List ℕ)) (at : ℕ) (why : List ℕ) → OneAnswer (order_of p.mark text octets at) p.tender.ticks [] (refusal_line p text why)
refusal_of p text octets at why = record {
  ok = false;
  is = says_refused (order_of p.mark text octets at) p.tender.ticks why;
  all = refl;
  taken_are = refl;
}

-- it is obeyed, and sends no message
obeyed_so : (p : Stood) (text : List ℕ) (at : ℕ) (what : PlainSetOrder) (whom : List ℕ)
    → OneAnswer (order_of p.mark text [] at) p.tender.ticks [] (answered p (codes "ok " ++ text) ++ shows what whom p)
obeyed_so p text at what whom =
    let more : List ToldLine = shows what whom p in
    let bears : Each (Bears p.mark) more = bears_shows what whom p in
    record {
      ok = true;
      is = says_ok (order_of p.mark text [] at) p.tender.ticks more (all_of (Bears p.mark) more bears);
      all = answers_all p.mark (answered p (codes "ok " ++ text) ++ more) (each_then (Bears p.mark) (answered p (codes "ok " ++ text)) more (bears_one p (codes "ok " ++ text)) bears);
      taken_are = refl;
    }

-- ---- a message is tried

abbrev is_taken_so : PlainSent → Bool
is_taken_so taken = true
is_taken_so (refused why) = false
is_taken_so held = false

asking_sent : (m : Msu) (patient : Bool) (t u : Tended) (r : PlainSent) → (made : AsksOf m patient t r u) → sent_asking made ≡ (if is_taken_so r then m ∷ [] else [])
asking_sent m patient t _ _ (is_taken room acts) = refl
asking_sent m patient t _ _ (unlabelled none_there) = refl
asking_sent m patient t _ _ (turned_down why fault not_later) = refl
asking_sent m patient t _ _ (is_kept why patient_so fault later) = refl
asking_sent m patient t _ _ (is_moving patient_so there) = refl

octets_if : (octets : List ℕ) (m : Msu) (b : Bool) → IsMessageOf octets m → map octets_of (if b then m ∷ [] else []) ≡ (if b then octets ∷ [] else [])
octets_if octets m true is = ap (λ (o : List ℕ). o ∷ []) (sym is)
octets_if octets m false is = refl

asked_sent : (octets : List ℕ) (patient : Bool) (t u : Tended) (r : PlainSent) → (made : Asks octets patient t r u)
    → map octets_of (sent_of made) ≡ (if is_taken_so r then octets ∷ [] else [])
asked_sent octets patient t _ _ (no_message none_there) = refl
asked_sent octets patient t _ _ (is_message {sent} {u} m is asks) = ap (map octets_of) (asking_sent m patient t u sent asks) ∙ octets_if octets m (is_taken_so sent) is

-- it leaves: it is taken or refused
pub tried_one : (text octets : List ℕ) (patient : Bool) (p : Stood) (bytes : List ToldLine) (went : Bool) (q : Stood) (at : ℕ) → went ≡ true
    → (made : Tries text octets patient p bytes went q) → OneAnswer (order_of p.mark text (octets ∷ []) at) q.tender.ticks (sent_trying made) bytes
tried_one text octets patient p _ _ _ at is (leaves ended) = refusal_of p text (octets ∷ []) at LEAVING
tried_one text octets patient p _ _ _ at is (takes {u} going asks) = record {
  ok = true;
  is = says_ok (order_of p.mark text (octets ∷ []) at) u.ticks [] (All-nil (Bears p.mark));
  all = refl;
  taken_are = asked_sent octets patient p.tender u taken asks;
}
tried_one text octets patient p _ _ _ at is (refuses {u} why going asks) = record {
  ok = false;
  is = says_refused (order_of p.mark text (octets ∷ []) at) u.ticks why;
  all = refl;
  taken_are = asked_sent octets patient p.tender u (refused why) asks;
}
tried_one text octets patient p _ _ _ at is (waits_on going asks) = absurd (true≢false (sym is))

-- it waits on
pub record WaitsSo (p q : Stood) (sent : List Msu) (bytes : List ToldLine) : Type 0 where
  pub bytes_are : bytes ≡ []
  pub sent_is : map octets_of sent ≡ []
  pub mark_is : q.mark ≡ p.mark

pub tried_none : (text octets : List ℕ) (patient : Bool) (p : Stood) (bytes : List ToldLine) (went : Bool) (q : Stood) → went ≡ false
    → (made : Tries text octets patient p bytes went q) → WaitsSo p q (sent_trying made) bytes
tried_none text octets patient p _ _ _ is (leaves ended) = absurd (true≢false is)
tried_none text octets patient p _ _ _ is (takes going asks) = absurd (true≢false is)
tried_none text octets patient p _ _ _ is (refuses why going asks) = absurd (true≢false is)
tried_none text octets patient p _ _ _ is (waits_on {u} going asks) =
    record { bytes_are = refl; sent_is = asked_sent octets patient p.tender u held asks; mark_is = refl }

-- ---- an order that sends no message

resets_mark : (p : Stood) (ls : List ℕ) (q : Stood) → Resets p ls q → q.mark ≡ p.mark
resets_mark p _ _ none_reset = refl
resets_mark p _ _ (one_reset {ls} {q} l before) = resets_mark p ls q before

same_mark : (p q : Stood) → q ≡ p → q.mark ≡ p.mark
same_mark p q same = ap (λ (x : Stood). x.mark) same

changes_mark : (what : PlainSetOrder) (whom : List ℕ) (p q : Stood) → Changes what whom p q → q.mark ≡ p.mark
changes_mark (on focus) whom p q changes = ap (λ (x : Stood). x.mark) changes.is
changes_mark (links order) whom p q changes = ap (λ (x : Stood). x.mark) changes.same
changes_mark (state process) whom p q changes = same_mark p q changes
changes_mark (value process variable) whom p q changes = same_mark p q changes
changes_mark (measuring measure) whom p q changes = same_mark p q changes
changes_mark aborted whom p q changes = same_mark p q changes
changes_mark measures whom p q changes = same_mark p q changes
changes_mark resetting whom p q changes = resets_mark p whom q changes
changes_mark (send octets) whom p q changes = absurd changes
changes_mark table whom p q changes = same_mark p q changes
changes_mark holding whom p q changes = same_mark p q changes
changes_mark unsure whom p q changes = same_mark p q changes
changes_mark rebalance whom p q changes = ap (λ (x : Stood). x.mark) changes.is
changes_mark reopen whom p q changes = same_mark p q changes
changes_mark quit whom p q changes = ap (λ (x : Stood). x.mark) changes
changes_mark (leave seconds) whom p q changes = ap (λ (x : Stood). x.mark) changes

refuses_mark : (what : PlainSetOrder) (whom : List ℕ) (p : Stood) (why : List ℕ) (q : Stood) → Refuses what whom p why q → q.mark ≡ p.mark
refuses_mark (on focus) whom p why q may = ap (λ (x : Stood). x.mark) may.none_selected
refuses_mark (links order) whom p why q may = ap (λ (x : Stood). x.mark) may.same
refuses_mark (state process) whom p why q may = same_mark p q may.same
refuses_mark (value process variable) whom p why q may = same_mark p q may.same
refuses_mark (measuring measure) whom p why q may = absurd may
refuses_mark aborted whom p why q may = absurd may
refuses_mark measures whom p why q may = absurd may
refuses_mark resetting whom p why q may = absurd may
refuses_mark (send octets) whom p why q may = absurd may
refuses_mark table whom p why q may = absurd may
refuses_mark holding whom p why q may = absurd may
refuses_mark unsure whom p why q may = absurd may
refuses_mark rebalance whom p why q may = same_mark p q may.same
refuses_mark reopen whom p why q may = same_mark p q may.1
refuses_mark quit whom p why q may = absurd may
refuses_mark (leave seconds) whom p why q may = absurd may

none_sent_by : (what : PlainSetOrder) → is_send what ≡ false → octets_by what ≡ []
none_sent_by (on focus) is = refl
none_sent_by (links order) is = refl
none_sent_by (state process) is = refl
none_sent_by (value process variable) is = refl
none_sent_by (measuring measure) is = refl
none_sent_by aborted is = refl
none_sent_by measures is = refl
none_sent_by resetting is = refl
none_sent_by (send octets) is = absurd (true≢false is)
none_sent_by table is = refl
none_sent_by holding is = refl
none_sent_by unsure is = refl
none_sent_by rebalance is = refl
none_sent_by reopen is = refl
none_sent_by quit is = refl
none_sent_by (leave seconds) is = refl

there_one : (text : List ℕ) (what : PlainSetOrder) (whom : List ℕ) (p : Stood) (bytes : List ToldLine) (q : Stood) (at : ℕ) → ObeysThere text what whom p bytes q
    → OneAnswer (order_of p.mark text [] at) q.tender.ticks [] bytes
there_one text what whom p _ _ at (does_so {q} may adds changes) =
    subst (λ (m : List ℕ). OneAnswer (order_of m text [] at) q.tender.ticks [] (answered q (codes "ok " ++ text) ++ shows what whom q)) (changes_mark what whom p q changes)
    (obeyed_so q text at what whom)
there_one text what whom p _ _ at (refuses_so {q} why adds may) =
    subst (λ (m : List ℕ). OneAnswer (order_of m text [] at) q.tender.ticks [] (refusal_line q text why)) (refuses_mark what whom p why q may) (refusal_of q text [] at why)

there_ticks : (text : List ℕ) (what : PlainSetOrder) (whom : List ℕ) (p : Stood) (bytes : List ToldLine) (q : Stood) → ObeysThere text what whom p bytes q
    → q.tender.ticks ≡ p.tender.ticks
there_ticks text what whom p _ _ (does_so {q} may adds changes) = orders_ticks p.tender q.tender adds
there_ticks text what whom p _ _ (refuses_so {q} why adds may) = orders_ticks p.tender q.tender adds

unselected_mark : (is : Bool) (p : Stood) → (unselected_by is p).mark ≡ p.mark
unselected_mark true p = refl
unselected_mark false p = refl

unselected_ticks : (is : Bool) (p : Stood) → (unselected_by is p).tender.ticks ≡ p.tender.ticks
unselected_ticks true p = refl
unselected_ticks false p = refl

pub obeyed_ticks : (text : List ℕ) (said : Option PlainSaid) (p : Stood) (bytes : List ToldLine) (q : Stood) → Obeys text said p bytes q → q.tender.ticks ≡ p.tender.ticks
obeyed_ticks text said p _ _ (does {bytes} {q} what is none_sent there made) = there_ticks text what.order (links_at what p) p bytes q made
obeyed_ticks text said p _ _ (lacks_some what is none_sent lacks) = refl
obeyed_ticks text said p _ _ (says_none none_there no_report) = unselected_ticks (is_on (words_of text)) p

-- the order that these words are, and its answer
pub record ObeyedSo (text : List ℕ) (said : Option PlainSaid) (p : Stood) (at now : ℕ) (bytes : List ToldLine) : Type 0 where
  pub order : Asked
  pub octets : order.octets ≡ []
  pub at_is : order.at ≡ at
  pub asked : asked_by said (is_ignored p.mark text) (order_of p.mark text (octets_said said) at) ≡ order ∷ []
  pub one : OneAnswer order now [] bytes

meant : (said : Option PlainSaid) (what : PlainSaid) (ignored : Bool) (mark text : List ℕ) (at : ℕ) → said ≡ Some what → is_send what.order ≡ false
    → asked_by said ignored (order_of mark text (octets_said said) at) ≡ order_of mark text [] at ∷ []
meant None what ignored mark text at is none_sent = absurd (none-some what is)
meant (Some given) what ignored mark text at is none_sent =
    ap (λ (os : List (List ℕ)). order_of mark text os at ∷ []) (ap (λ (s : PlainSaid). octets_by s.order) (same_Some given what is) ∙ none_sent_by what.order none_sent)

meant_none : (said : Option PlainSaid) (ignored : Bool) (mark text : List ℕ) (at : ℕ) → said ≡ None → ignored ≡ false
    → asked_by said ignored (order_of mark text (octets_said said) at) ≡ order_of mark text [] at ∷ []
meant_none None true mark text at none_there is = absurd (true≢false is)
meant_none None false mark text at none_there is = refl
meant_none (Some given) ignored mark text at none_there is = absurd (none-some given (sym none_there))

pub obeyed_one : (text : List ℕ) (said : Option PlainSaid) (p : Stood) (bytes : List ToldLine) (q : Stood) (at : ℕ) → Obeys text said p bytes q
    → ObeyedSo text said p at q.tender.ticks bytes
obeyed_one text said p _ _ at (does {bytes} {q} what is none_sent there made) = record {
  order = order_of p.mark text [] at;
  octets = refl;
  at_is = refl;
  asked = meant said what (is_ignored p.mark text) p.mark text at is none_sent;
  one = there_one text what.order (links_at what p) p bytes q at made;
}
obeyed_one text said p _ _ at (lacks_some what is none_sent lacks) = record {
  order = order_of p.mark text [] at;
  octets = refl;
  at_is = refl;
  asked = meant said what (is_ignored p.mark text) p.mark text at is none_sent;
  one = refusal_of p text [] at NO_LINK;
}
obeyed_one text said p _ _ at (says_none none_there no_report) =
    let q : Stood = unselected text p in
    record {
      order = order_of p.mark text [] at;
      octets = refl;
      at_is = refl;
      asked = meant_none said (is_ignored p.mark text) p.mark text at none_there no_report;
      one = subst (λ (m : List ℕ). OneAnswer (order_of m text [] at) q.tender.ticks [] (refusal_line q text BAD_LINE)) (unselected_mark (is_on (words_of text)) p)
          (refusal_of q text [] at BAD_LINE);
    }

-- ---- an order that sends a message

pub meant_send : (octets : List ℕ) (said : Option PlainSaid) (ignored : Bool) (mark text : List ℕ) (at : ℕ) → SaysSend octets said
    → asked_by said ignored (order_of mark text (octets_said said) at) ≡ order_of mark text (octets ∷ []) at ∷ []
meant_send octets None ignored mark text at says = absurd (none-some (send octets) says)
meant_send octets (Some given) ignored mark text at says =
    ap (λ (os : List (List ℕ)). order_of mark text os at ∷ []) (ap octets_by (same_Some given.order (send octets) says))

-- ignored words are no order
pub meant_nothing : (said : Option PlainSaid) (ignored : Bool) (order : Asked) → said ≡ None → ignored ≡ true → asked_by said ignored order ≡ []
meant_nothing None true order none_there is = refl
meant_nothing None false order none_there is = absurd (true≢false (sym is))
meant_nothing (Some given) ignored order none_there is = absurd (none-some given (sym none_there))
