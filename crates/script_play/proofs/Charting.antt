-- A chart: one more turn.
use Rattle.std.proofs.Common.{◌≡◌, ◌∙◌, ℕ, zero, suc, ◌+◌, ◌*◌, Bool, true, false, not, List, [], ◌∷◌, ◌++◌, length, map, take, drop, append-nil, append_assoc, get_or, ◌<◌, ◌≤◌, eqb-true, Option, Some, None, arith, refl, sym, ap, subst}
use Rattle.std.specs.Prelude.{◌||◌, ◌&&◌, ◌==◌, filter, is_none, is_some, option_map, slice_get, if◌then◌else◌, codes}
use Rattle.std.specs.List.{list_any, flat_map}
use Rattle.std.specs.Fmt.{decimal}
use Rattle.std.proofs.lemmas.Bool.{and_parts, false≢true, ne_eqb}
use Rattle.std.proofs.lemmas.Option.{same_Some, slice_get-get_or, get_or_from_slice_get}
use Rattle.std.proofs.lemmas.List.{length-append, length-map, length-take-le, map-append, take_all, take_more}
use Rattle.std.proofs.lemmas.List.Elements.{filter-append}
use Rattle.std.proofs.lemmas.Grind.{flat_map-append}
use Rattle.turn_code.specs.Outcome.{Outcome}
use Rattle.turn_code.specs.declared.draft.Draft.{Draft}
use Rattle.turn_code.specs.declared.effect.Effect.{Effect}
use Rattle.turn_code.specs.declared.draft.DraftProcess.{DraftProcess}
use Rattle.turn_code.specs.declared.input.Address.{Address}
use Rattle.turn_code.specs.declared.input.Place.{Place}
use Rattle.turn_check.specs.Named.{instances_at, instances_of}
use Rattle.script_lines.specs.Replies.{sender_text}
use Rattle.actor_machine.specs.Names.{same_actor, named, instances_from, names_from, counts_of, actors_of}
use Rattle.script_seen.specs.Told.{lost_at}
use Rattle.script_seen.specs.Turn.{Turn, outcome_of}
use Rattle.script_seen.specs.Watched.{Notice, TurnEnd, IsEnd, Throw, ends, throws, turns_in}
use Rattle.actor_machine.specs.declared.name.ActorName.{ActorName}
use Rattle.actor_machine.specs.declared.reply.Lost.{Lost}
use Rattle.actor_machine.specs.declared.reply.Report.{Report}
use Rattle.script_seen.specs.declared.turns.Ended.{Ended}
use Rattle.script_play.specs.Charted.{time_text, row_text, rows_text, came_text, box_text, outs_text, timing_of, is_in, is_sender, gets, get_it, came_from_outside, goes_outside, has_outside, is_drawn, last_clock, end_of, takes_part, are_none, after_heads, drawn_columns, columns_of, chart_of, chart_text, COLUMN, head_of, heads, behind_each, stacked, below_each, note_of, beside, Charts, IsDrawn, TakesPart, HasMore, HasColumns}
use Rattle.script_play.specs.declared.charts.Chart.{Chart}
use Rattle.script_play.specs.declared.charts.Cut.{Cut}
use Rattle.script_play.specs.declared.columns.Columns.{Columns}

-- ---- truth values

or_none : (a : Bool) → (a || false) ≡ a
or_none true = refl
or_none false = refl

or_more : (a b c : Bool) → (a || (b || c)) ≡ ((a || b) || c)
or_more true b c = refl
or_more false b c = refl

any_more : {A : Type 0} (p : A → Bool) (xs : List A) (x : A) → list_any p (xs ++ x ∷ []) ≡ (list_any p xs || p x)
any_more p [] x = or_none (p x)
any_more p (y ∷ ys) x = ap (λ (b : Bool). p y || b) (any_more p ys x) ∙ or_more (p y) (list_any p ys) (p x)

-- ---- which turns are drawn

pub same_cut : (a b : Cut) → ((a.first == b.first) && (a.last == b.last)) ≡ true → a ≡ b
same_cut a b same =
    let parts = and_parts (a.first == b.first) (a.last == b.last) same in
    let first : a.first ≡ b.first = eqb-true a.first b.first parts.0 in
    let last : a.last ≡ b.last = eqb-true a.last b.last parts.1 in
    λ i. record { first = first i; last = last i }

-- ---- rows

clock_more : (last : Option ℕ) (ts : List TurnEnd) (t : TurnEnd) → last_clock last (ts ++ t ∷ []) ≡ Some t.clock
clock_more last [] t = refl
clock_more last (s ∷ ts) t = clock_more (Some s.clock) ts t

rows_more : (d : Draft) (last : Option ℕ) (ts : List TurnEnd) (t : TurnEnd)
    → rows_text d last (ts ++ t ∷ []) ≡ rows_text d last ts ++ (time_text (last_clock last ts) t.clock ++ row_text d t)
rows_more d last [] t = append-nil (time_text last t.clock ++ row_text d t)
rows_more d last (s ∷ ts) t =
    ap (λ (r : List ℕ). (time_text last s.clock ++ row_text d s) ++ r) (rows_more d (Some s.clock) ts t)
    ∙ sym (append_assoc (time_text last s.clock ++ row_text d s) (rows_text d (Some s.clock) ts) (time_text (last_clock (Some s.clock) ts) t.clock ++ row_text d t))

-- the value handed to a watcher is the turn that ended
end_is : (e : Ended) (t : TurnEnd) → IsEnd e t → end_of e t.outcome ≡ t
end_is e t i =
    let made : ℕ → ActorName → Turn → Report → TurnEnd = λ c m w r. record { clock = c; me = m; turn = w; outcome = t.outcome; report = r } in
    ap (λ c. made c e.me e.done e.report) i.clock
    ∙ (ap (λ m. made t.clock m e.done e.report) i.me
    ∙ (ap (λ w. made t.clock t.me w e.report) i.turn ∙ ap (λ r. made t.clock t.me t.turn r) i.report))

-- one more turn is drawn
drawn_more : (d : Draft) (ts : List TurnEnd) (t : TurnEnd) (c m n : Chart) → TakesPart (λ x. is_in d x t) (has_outside t) c m
    → n.rows.items ≡ m.rows.items ++ (time_text m.clock t.clock ++ row_text d t) → n ≡ record m { rows = n.rows; clock = Some t.clock } → IsDrawn d ts c
    → IsDrawn d (ts ++ t ∷ []) n
drawn_more d ts t c m n part rows same k =
    let actors : n.actors ≡ m.actors = ap (λ (x : Chart). x.actors) same in
    let clock : m.clock ≡ last_clock None ts = part.clock ∙ k.clock in
    record {
      rows = rows
          ∙ (ap (λ r. r.items ++ (time_text m.clock t.clock ++ row_text d t)) part.rows
          ∙ (ap (λ (r : List ℕ). r ++ (time_text m.clock t.clock ++ row_text d t)) k.rows
          ∙ (ap (λ (o : Option ℕ). rows_text d None ts ++ (time_text o t.clock ++ row_text d t)) clock ∙ sym (rows_more d None ts t))));
      clock = ap (λ (x : Chart). x.clock) same ∙ sym (clock_more None ts t);
      outside = ap (λ (x : Chart). x.environment) same
          ∙ (part.environment ∙ (ap (λ (b : Bool). b || has_outside t) k.outside ∙ sym (any_more has_outside ts t)));
      actors = λ x.
          ap (λ a. takes_part a.items x) actors
          ∙ (part.actors x ∙ (ap (λ (b : Bool). b || is_in d x t) (k.actors x) ∙ sym (any_more (is_in d x) ts t)));
    }

drawn_all : (d : Draft) (all : List TurnEnd) (t : TurnEnd) (c n : Chart) (b : Bool) → is_drawn c.cut t ≡ b → IsDrawn d (filter (is_drawn c.cut) all ++ (if b then t ∷ [] else [])) n
    → n.cut ≡ c.cut → Charts d (all ++ t ∷ []) n
drawn_all d all t c n b is k same =
    let L : Bool → Type 0 = λ x. IsDrawn d (filter (is_drawn c.cut) all ++ (if x then t ∷ [] else [])) n in
    let P : List TurnEnd → Type 0 = λ ts. IsDrawn d ts n in
    let Q : _ → Type 0 = λ cut. IsDrawn d (filter (is_drawn cut) (all ++ t ∷ [])) n in
    subst Q (sym same) (subst P (sym (filter-append (is_drawn c.cut) all (t ∷ []))) (subst L (sym is) k))

-- the turn isn't selected for drawing
pub not_drawn : (d : Draft) (e : Ended) (c : Chart) → ((o : Outcome) → outcome_of e.done ≡ Some o → false ≡ is_drawn c.cut (end_of e o)) → (ts : List TurnEnd) (t : TurnEnd)
    → IsEnd e t → Charts d ts c → Charts d (ts ++ t ∷ []) c
not_drawn d e c is ts t i k =
    let D : TurnEnd → Type 0 = λ x. is_drawn c.cut x ≡ false in
    let P : List TurnEnd → Type 0 = λ l. IsDrawn d l c in
    drawn_all d ts t c c false (subst D (end_is e t i) (sym (is t.outcome i.outcome))) (subst P (sym (append-nil (filter (is_drawn c.cut) ts))) k) refl

-- the turn is selected for drawing
pub is_drawn_too : (d : Draft) (e : Ended) (c m n : Chart) → ((o : Outcome) → outcome_of e.done ≡ Some o → true ≡ is_drawn c.cut (end_of e o))
    → ((o : Outcome) → outcome_of e.done ≡ Some o → TakesPart (λ x. is_in d x (end_of e o)) (has_outside (end_of e o)) c m)
    → ((o : Outcome) → outcome_of e.done ≡ Some o → n.rows.items ≡ m.rows.items ++ (time_text m.clock e.clock ++ row_text d (end_of e o)))
    → n ≡ record m { rows = n.rows; clock = Some e.clock } → (ts : List TurnEnd) (t : TurnEnd) → IsEnd e t → Charts d ts c → Charts d (ts ++ t ∷ []) n
is_drawn_too d e c m n is part rows same ts t i k =
    let s : TurnEnd = end_of e t.outcome in
    let D : TurnEnd → Type 0 = λ x. is_drawn c.cut x ≡ true in
    let P : TurnEnd → Type 0 = λ x. IsDrawn d (filter (is_drawn c.cut) ts ++ x ∷ []) n in
    let drawn : IsDrawn d (filter (is_drawn c.cut) ts ++ s ∷ []) n =
    drawn_more d (filter (is_drawn c.cut) ts) s c m n (part t.outcome i.outcome) (rows t.outcome i.outcome) same k in
    drawn_all d ts t c n true (subst D (end_is e t i) (sym (is t.outcome i.outcome))) (subst P (end_is e t i) drawn)
    (ap (λ (x : Chart). x.cut) same ∙ (part t.outcome i.outcome).cut)

-- ---- the watcher's notices

turns_end : (ns : List Notice) (t : TurnEnd) → turns_in ns ++ t ∷ [] ≡ turns_in (ns ++ ends t ∷ [])
turns_end [] t = refl
turns_end (ends s ∷ ns) t = ap (λ (ts : List TurnEnd). s ∷ ts) (turns_end ns t)
turns_end (throws x ∷ ns) t = turns_end ns t

turns_more : (ns : List Notice) (x : Throw) → turns_in ns ≡ turns_in (ns ++ throws x ∷ [])
turns_more [] x = refl
turns_more (ends s ∷ ns) x = ap (λ (ts : List TurnEnd). s ∷ ts) (turns_more ns x)
turns_more (throws y ∷ ns) x = turns_more ns x

pub charts_end : (d : Draft) (ns : List Notice) (t : TurnEnd) (c : Chart) → Charts d (turns_in ns ++ t ∷ []) c → Charts d (turns_in (ns ++ ends t ∷ [])) c
charts_end d ns t c k = let P : List TurnEnd → Type 0 = λ ts. Charts d ts c in subst P (turns_end ns t) k

pub charts_throw : (d : Draft) (ns : List Notice) (x : Throw) (c : Chart) → Charts d (turns_in ns) c → Charts d (turns_in (ns ++ throws x ∷ [])) c
charts_throw d ns x c k = let P : List TurnEnd → Type 0 = λ ts. Charts d ts c in subst P (turns_more ns x) k

-- ---- the participants

same_actors : (x y : ActorName) → same_actor x y ≡ true → x ≡ y
same_actors x y e = by_process (x.process.0 == y.process.0) refl e
  where
    by_process : (b : Bool) → (x.process.0 == y.process.0) ≡ b → (if b then x.instance.0 == y.instance.0 else false) ≡ true → x ≡ y
    by_process true f e =
        let p : x.process.0 ≡ y.process.0 = eqb-true x.process.0 y.process.0 f in
        let k : x.instance.0 ≡ y.instance.0 = eqb-true x.instance.0 y.instance.0 e in
        λ i. record { process = record { 0 = p i }; instance = record { 0 = k i } }
    by_process false f e = absurd (false≢true e)

is_there : (a b : Bool) → (b ≡ true → a ≡ true) → a ≡ (a || b)
is_there true b so = refl
is_there false true so = so refl
is_there false false so = refl

-- an actor that participates already
pub entered_already : (xs : List ActorName) (actor : ActorName) → takes_part xs actor ≡ true → (x : ActorName)
    → takes_part xs x ≡ (takes_part xs x || same_actor actor x)
entered_already xs actor has x =
    is_there (takes_part xs x) (same_actor actor x)
    (λ same. let P : ActorName → Type 0 = λ y. takes_part xs y ≡ true in subst P (same_actors actor x same) has)

-- one more participant
pub entered_new : (xs : List ActorName) (actor x : ActorName) → takes_part (xs ++ actor ∷ []) x ≡ (takes_part xs x || same_actor actor x)
entered_new xs actor x = any_more (λ y. same_actor y x) xs actor

-- no participant
pub nobody : (a : Bool) → a ≡ (a || false)
nobody a = sym (or_none a)

-- one set of participants after another
pub both_part : (P Q : ActorName → Bool) (a b : Bool) (c m n : Chart) → TakesPart P a c m → TakesPart Q b m n → TakesPart (λ x. P x || Q x) (a || b) c n
both_part P Q a b c m n p q = record {
  actors = λ x.
      q.actors x ∙ (ap (λ (y : Bool). y || Q x) (p.actors x) ∙ sym (or_more (takes_part c.actors.items x) (P x) (Q x)));
  environment = q.environment ∙ (ap (λ (y : Bool). y || b) p.environment ∙ sym (or_more c.environment a b));
  rows = q.rows ∙ p.rows;
  clock = q.clock ∙ p.clock;
  cut = q.cut ∙ p.cut;
}

pub part_as : (P Q : ActorName → Bool) (a b : Bool) (c n : Chart) → ((x : ActorName) → P x ≡ Q x) → a ≡ b → TakesPart P a c n → TakesPart Q b c n
part_as P Q a b c n same out p = record {
  actors = λ x. p.actors x ∙ ap (λ (y : Bool). takes_part c.actors.items x || y) (same x);
  environment = p.environment ∙ ap (λ (y : Bool). c.environment || y) out;
  rows = p.rows;
  clock = p.clock;
  cut = p.cut;
}

pub none_part : (c : Chart) → TakesPart (λ x. false) false c c
none_part c = record {
  actors = λ x. nobody (takes_part c.actors.items x);
  environment = nobody c.environment;
  rows = refl;
  clock = refl;
  cut = refl;
}

effects_are : (x : Option Outcome) (o : Outcome) (es : List Effect) → option_map (λ (y : Outcome). y.progress.effects) x ≡ Some es → x ≡ Some o
    → es ≡ o.progress.effects
effects_are x o es part is = same_Some es o.progress.effects (sym part ∙ ap (option_map (λ (y : Outcome). y.progress.effects)) is)

-- the participants of a turn
pub all_enter : (d : Draft) (e : Ended) (from : Option Address) (lost : List Lost) (es : List Effect) (c m k n : Chart) → from ≡ e.done.input.sender
    → lost ≡ e.report.lost.items → option_map (λ (y : Outcome). y.progress.effects) (outcome_of e.done) ≡ Some es → TakesPart (same_actor e.me) false c m
    → TakesPart (is_sender from) (came_from_outside from) m k → TakesPart (get_it d e.me lost 0 es) (list_any goes_outside es) k n → (o : Outcome)
    → outcome_of e.done ≡ Some o → TakesPart (λ x. is_in d x (end_of e o)) (has_outside (end_of e o)) c n
all_enter d e from lost es c m k n sent gone part own sender others o ran =
    let E : List Effect → Type 0 =
    λ l. TakesPart (λ x. same_actor e.me x || (is_sender e.done.input.sender x || get_it d e.me e.report.lost.items 0 l x))
    (came_from_outside e.done.input.sender || list_any goes_outside l) c n in
    let S : Option Address → Type 0 = λ x. TakesPart (is_sender x) (came_from_outside x) m k in
    let L : List Lost → Type 0 = λ l. TakesPart (get_it d e.me l 0 es) (list_any goes_outside es) k n in
    subst E (effects_are (outcome_of e.done) o es part ran)
    (both_part (same_actor e.me) (λ x. is_sender e.done.input.sender x || get_it d e.me e.report.lost.items 0 es x) false
    (came_from_outside e.done.input.sender || list_any goes_outside es) c m n own
    (both_part (is_sender e.done.input.sender) (get_it d e.me e.report.lost.items 0 es) (came_from_outside e.done.input.sender) (list_any goes_outside es) m k n
    (subst S sent sender) (subst L gone others)))

-- ---- one more effect

gets_more : (d : Draft) (me : ActorName) (lost : List Lost) (k : ℕ) (es : List Effect) (e : Effect) (x : ActorName)
    → get_it d me lost k (es ++ e ∷ []) x ≡ (get_it d me lost k es x || gets d me (is_some (lost_at lost (k + length es))) e x)
gets_more d me lost k [] e x =
    or_none (gets d me (is_some (lost_at lost k)) e x)
    ∙ ap (λ (j : ℕ). gets d me (is_some (lost_at lost j)) e x) (let f : k ≡ k + 0 = omega arith in f)
gets_more d me lost k (y ∷ es) e x =
    ap (λ (b : Bool). gets d me (is_some (lost_at lost k)) y x || b)
    (gets_more d me lost (k + 1) es e x
    ∙ ap (λ (j : ℕ). get_it d me lost (k + 1) es x || gets d me (is_some (lost_at lost j)) e x) (let f : k + 1 + length es ≡ k + suc (length es) = omega arith in f))
    ∙ or_more (gets d me (is_some (lost_at lost k)) y x) (get_it d me lost (k + 1) es x) (gets d me (is_some (lost_at lost (k + suc (length es)))) e x)

pub effect_more : (d : Draft) (me : ActorName) (lost : List Lost) (es : List Effect) (i : ℕ) (e : Effect) (is_lost : Bool) (c m n : Chart) → i < length es
    → get_or es i e ≡ e → is_lost ≡ is_some (lost_at lost i) → TakesPart (get_it d me lost 0 (take i es)) (list_any goes_outside (take i es)) c m
    → TakesPart (gets d me is_lost e) (goes_outside e) m n
    → TakesPart (get_it d me lost 0 (take (i + 1) es)) (list_any goes_outside (take (i + 1) es)) c n
effect_more d me lost es i e is_lost c m n within is how p q =
    let few : length (take i es) ≡ i = length-take-le i es (omega (arith, within)) in
    let all : take i es ++ e ∷ [] ≡ take (i + 1) es = sym (take_more es i e within ∙ ap (λ (y : Effect). take i es ++ y ∷ []) is) in
    let P : List Effect → Type 0 = λ l. TakesPart (get_it d me lost 0 l) (list_any goes_outside l) c n in
    let B : Bool → Type 0 = λ b. TakesPart (gets d me b e) (goes_outside e) m n in
    let place : i ≡ 0 + length (take i es) = omega (arith, few) in
    let here : is_lost ≡ is_some (lost_at lost (0 + length (take i es))) = how ∙ ap (λ (j : ℕ). is_some (lost_at lost j)) place in
    subst P all
    (part_as _ _ _ _ c n (λ x. sym (gets_more d me lost 0 (take i es) e x)) (sym (any_more goes_outside (take i es) e))
    (both_part (get_it d me lost 0 (take i es)) (gets d me (is_some (lost_at lost (0 + length (take i es)))) e) (list_any goes_outside (take i es)) (goes_outside e)
    c m n p (subst B here q)))

pub all_effects : (d : Draft) (me : ActorName) (lost : List Lost) (es : List Effect) (i : ℕ) (c n : Chart) → length es ≤ i
    → TakesPart (get_it d me lost 0 (take i es)) (list_any goes_outside (take i es)) c n → TakesPart (get_it d me lost 0 es) (list_any goes_outside es) c n
all_effects d me lost es i c n over p =
    let P : List Effect → Type 0 = λ l. TakesPart (get_it d me lost 0 l) (list_any goes_outside l) c n in subst P (take_all i es over) p

-- ---- the rows of a turn

five_pieces : (a t c b o n r s u v w : List ℕ) → r ≡ a ++ t → s ≡ r ++ c → u ≡ s ++ b → v ≡ u ++ o → w ≡ v ++ n → w ≡ a ++ (t ++ (c ++ b ++ o ++ n))
five_pieces a t c b o n r s u v w p q h k l =
    l
    ∙ (ap (λ (x : List ℕ). x ++ n) (k ∙ ap (λ (x : List ℕ). x ++ o) (h ∙ ap (λ (x : List ℕ). x ++ b) (q ∙ ap (λ (x : List ℕ). x ++ c) p)))
    ∙ simp append_assoc)

pub turn_rows : (d : Draft) (e : Ended) (turn : Turn) (place : Place) (lost : List Lost) (es : List Effect) (last : Option ℕ) (a r s u v w : List ℕ)
    → turn ≡ e.done → place ≡ e.done.place → lost ≡ e.report.lost.items → option_map (λ (y : Outcome). y.progress.effects) (outcome_of e.done) ≡ Some es
    → r ≡ a ++ time_text last e.clock → s ≡ r ++ came_text d e.me turn turn.place → u ≡ s ++ box_text d e.me place e.report.end
    → v ≡ u ++ outs_text d e.me lost 0 es → w ≡ v ++ note_of d e.me (flat_map (timing_of d e.me.process.0 e.clock) es) → (o : Outcome)
    → outcome_of e.done ≡ Some o → w ≡ a ++ (time_text last e.clock ++ row_text d (end_of e o))
turn_rows d e turn place lost es last a r s u v w is stood gone part p q h k l o ran =
    let E : List Effect → Type 0 =
    λ x. w ≡ a ++ (time_text last e.clock ++ (came_text d e.me e.done e.done.place ++ box_text d e.me e.done.place e.report.end
    ++ outs_text d e.me e.report.lost.items 0 x ++ note_of d e.me (flat_map (timing_of d e.me.process.0 e.clock) x))) in
    let T : Turn → Type 0 = λ x. s ≡ r ++ came_text d e.me x x.place in
    let P : Place → Type 0 = λ x. u ≡ s ++ box_text d e.me x e.report.end in
    let L : List Lost → Type 0 = λ x. v ≡ u ++ outs_text d e.me x 0 es in
    subst E (effects_are (outcome_of e.done) o es part ran)
    (five_pieces a (time_text last e.clock) (came_text d e.me e.done e.done.place) (box_text d e.me e.done.place e.report.end)
    (outs_text d e.me e.report.lost.items 0 es) (note_of d e.me (flat_map (timing_of d e.me.process.0 e.clock) es)) r s u v w p (subst T is q) (subst P stood h)
    (subst L gone k) l)

-- ---- columns

more_text : (xs ys : List (List ℕ)) → behind_each (xs ++ ys) ≡ behind_each xs ++ behind_each ys
more_text xs ys = flat_map-append (λ n. codes ", " ++ head_of n) xs ys

pub none_more : (c : Columns) → HasMore [] c c
none_more c = record { text = sym (append-nil c.text.items); count = omega arith }

-- columns after columns
pub more_behind : (xs ys : List (List ℕ)) (a b c : Columns) → HasMore xs a b → HasMore ys b c → HasMore (xs ++ ys) a c
more_behind xs ys a b c p q = record {
  text = q.text
      ∙ (ap (λ (t : List ℕ). t ++ behind_each ys) p.text
      ∙ (append_assoc a.text.items (behind_each xs) (behind_each ys) ∙ ap (λ (t : List ℕ). a.text.items ++ t) (sym (more_text xs ys))));
  count = omega (arith, p.count, q.count, length-append xs ys);
}

pub columns_with : (xs ys : List (List ℕ)) (b c : Columns) → HasColumns xs b → HasMore ys b c → HasColumns (xs ++ ys) c
columns_with xs ys b c p q = record {
  text = q.text ∙ (ap (λ (t : List ℕ). t ++ behind_each ys) p.text ∙ sym (more_text xs ys));
  count = omega (arith, p.count, q.count, length-append xs ys);
}

instances_length : (p k n : ℕ) → length (instances_from p k n) ≡ n
instances_length p k zero = refl
instances_length p k (suc n) = ap (λ (m : ℕ). suc m) (instances_length p (suc k) n)

instance_at : (p k n i : ℕ) (x : ActorName) → i < n → get_or (instances_from p k n) i x ≡ named p (k + i)
instance_at p k zero i x within = absurd (omega (arith, within))
instance_at p k (suc n) zero x within = ap (named p) (let e : k ≡ k + 0 = omega arith in e)
instance_at p k (suc n) (suc i) x within =
    instance_at p (suc k) n i x (omega (arith, within)) ∙ ap (named p) (let e : suc k + i ≡ k + suc i = omega arith in e)

-- the participants among these actors, as columns
abbrev pub chosen : Draft → List ActorName → List ActorName → List (List ℕ)
chosen d xs names = map (sender_text d) (filter (takes_part xs) names)

chosen_more : (d : Draft) (xs names others : List ActorName) → chosen d xs (names ++ others) ≡ chosen d xs names ++ chosen d xs others
chosen_more d xs names others =
    ap (map (sender_text d)) (filter-append (takes_part xs) names others)
    ∙ map-append (sender_text d) (filter (takes_part xs) names) (filter (takes_part xs) others)

pub more_names : (d : Draft) (xs names others all : List ActorName) (a b c : Columns) → all ≡ names ++ others → HasMore (chosen d xs names) a b
    → HasMore (chosen d xs others) b c → HasMore (chosen d xs all) a c
more_names d xs names others all a b c is p q =
    let P : List (List ℕ) → Type 0 = λ ns. HasMore ns a c in
    subst P (sym (ap (chosen d xs) is ∙ chosen_more d xs names others)) (more_behind (chosen d xs names) (chosen d xs others) a b c p q)

-- one more instance
pub instance_more : (d : Draft) (xs : List ActorName) (p n i k : ℕ) (a b c : Columns) → i < n → k ≡ i + 1
    → HasMore (chosen d xs (take i (instances_from p 1 n))) a b → HasMore (chosen d xs (named p k ∷ [])) b c
    → HasMore (chosen d xs (take (i + 1) (instances_from p 1 n))) a c
instance_more d xs p n i k a b c within is q r =
    let all : List ActorName = instances_from p 1 n in
    let far : i < length all = omega (arith, within, instances_length p 1 n) in
    let this : get_or all i (named p k) ≡ named p k =
    instance_at p 1 n i (named p k) within ∙ ap (named p) (let e : 1 + i ≡ k = omega (arith, is) in e) in
    more_names d xs (take i all) (named p k ∷ []) (take (i + 1) all) a b c
    (take_more all i (named p k) far ∙ ap (λ (y : ActorName). take i all ++ y ∷ []) this) q r

pub all_instances : (d : Draft) (xs : List ActorName) (p n i : ℕ) (a b : Columns) → n ≤ i → HasMore (chosen d xs (take i (instances_from p 1 n))) a b
    → HasMore (chosen d xs (instances_from p 1 n)) a b
all_instances d xs p n i a b over q =
    let P : List ActorName → Type 0 = λ l. HasMore (chosen d xs l) a b in
    subst P (take_all i (instances_from p 1 n) (omega (arith, over, instances_length p 1 n))) q

names_more : (p : ℕ) (ns : List ℕ) (n : ℕ) → names_from p (ns ++ n ∷ []) ≡ names_from p ns ++ instances_from (p + length ns) 1 n
names_more p [] n =
    append-nil (instances_from p 1 n) ∙ ap (λ (q : ℕ). instances_from q 1 n) (let e : p ≡ p + 0 = omega arith in e)
names_more p (m ∷ ns) n =
    ap (λ (xs : List ActorName). instances_from p 1 m ++ xs)
    (names_more (suc p) ns n ∙ ap (λ (q : ℕ). names_from (suc p) ns ++ instances_from q 1 n) (let e : suc p + length ns ≡ p + suc (length ns) = omega arith in e))
    ∙ sym (append_assoc (instances_from p 1 m) (names_from (suc p) ns) (instances_from (p + suc (length ns)) 1 n))

-- process number i of a set
record OneProcess (ps : List DraftProcess) (i : ℕ) : Type 0 where
  process : DraftProcess
  is : slice_get ps i ≡ Some process

one_process : (ps : List DraftProcess) (i : ℕ) → i < length ps → OneProcess ps i
one_process [] i within = absurd (omega (arith, within))
one_process (y ∷ ys) i within = record { process = get_or (y ∷ ys) i y; is = slice_get-get_or (y ∷ ys) i y within }

-- the instances of one more process
pub process_more : (d : Draft) (xs : List ActorName) (i n : ℕ) (a b c : Columns) → i < length d.processes → n ≡ i
    → HasMore (chosen d xs (actors_of (take i d.processes))) a b → HasMore (chosen d xs (instances_from n 1 (instances_at d n))) b c
    → HasMore (chosen d xs (actors_of (take (i + 1) d.processes))) a c
process_more d xs i n a b c within number p q =
    let ps : List DraftProcess = d.processes in
    let one : OneProcess ps i = one_process ps i within in
    let x : DraftProcess = one.process in
    let N : ℕ → Type 0 = λ k. HasMore (chosen d xs (instances_from k 1 (instances_at d k))) b c in
    let K : ℕ → Type 0 = λ k. HasMore (chosen d xs (instances_from i 1 k)) b c in
    let ns : List ℕ = counts_of (take i ps) in
    let few : length ns ≡ i = length-map (take i ps) (λ (y : DraftProcess). y.instances) ∙ length-take-le i ps (omega (arith, within)) in
    let place : 0 + length ns ≡ i = omega (arith, few) in
    let all : actors_of (take (i + 1) ps) ≡ actors_of (take i ps) ++ instances_from i 1 x.instances =
    ap actors_of (take_more ps i x within ∙ ap (λ (y : DraftProcess). take i ps ++ y ∷ []) (get_or_from_slice_get ps i x x one.is))
    ∙ (ap (names_from 0) (map-append (λ (y : DraftProcess). y.instances) (take i ps) (x ∷ []))
    ∙ (names_more 0 ns x.instances ∙ ap (λ (k : ℕ). names_from 0 ns ++ instances_from k 1 x.instances) place)) in
    more_names d xs (actors_of (take i ps)) (instances_from i 1 x.instances) (actors_of (take (i + 1) ps)) a b c all p
    (subst K (ap instances_of one.is) (subst N number q))

pub all_processes : (d : Draft) (xs : List ActorName) (ps : List DraftProcess) (i : ℕ) (a b : Columns) → length ps ≤ i
    → HasMore (chosen d xs (actors_of (take i ps))) a b → HasMore (chosen d xs (actors_of ps)) a b
all_processes d xs ps i a b over q =
    let P : List DraftProcess → Type 0 = λ l. HasMore (chosen d xs (actors_of l)) a b in subst P (take_all i ps over) q

-- an actor that participates, or doesn't
pub chosen_one : (d : Draft) (xs : List ActorName) (actor : ActorName) (a b : Columns) → takes_part xs actor ≡ true → HasMore (sender_text d actor ∷ []) a b
    → HasMore (chosen d xs (actor ∷ [])) a b
chosen_one d xs actor a b has more =
    let F : Bool → Type 0 = λ t. HasMore (map (sender_text d) (if t then actor ∷ [] else [])) a b in subst F (sym has) more

pub chosen_none : (d : Draft) (xs : List ActorName) (actor : ActorName) (a : Columns) → takes_part xs actor ≡ false → HasMore (chosen d xs (actor ∷ [])) a a
chosen_none d xs actor a not_there =
    let F : Bool → Type 0 = λ t. HasMore (map (sender_text d) (if t then actor ∷ [] else [])) a a in subst F (sym not_there) (none_more a)

-- ---- notes

has_text : (more : List ℕ) → (length (92 ∷ 110 ∷ more) == 0) ≡ false
has_text more =
    ne_eqb (length (92 ∷ 110 ∷ more)) 0
    (λ e. let f : suc (suc (length more)) ≡ 0 = e in absurd (omega (arith, f)))

pub nothing_noted : (d : Draft) (me : ActorName) (lines : List (List ℕ)) (a text : List ℕ) → text ≡ below_each lines → (length text == 0) ≡ true
    → a ≡ a ++ note_of d me lines
nothing_noted d me [] a text is none = sym (append-nil a)
nothing_noted d me (line ∷ lines) a text is none =
    let L : List ℕ → Type 0 = λ t. (length t == 0) ≡ true in
    absurd (false≢true (sym (has_text (line ++ below_each lines)) ∙ subst L is none))

pub is_noted : (d : Draft) (me : ActorName) (lines : List (List ℕ)) (a b text more : List ℕ) → text ≡ below_each lines → (length text == 0) ≡ false
    → more ≡ drop 2 text → b ≡ a ++ beside d me (codes " note ") more → b ≡ a ++ note_of d me lines
is_noted d me [] a b text more is some behind r =
    let L : List ℕ → Type 0 = λ t. (length t == 0) ≡ false in absurd (false≢true (sym (subst L is some)))
is_noted d me (line ∷ lines) a b text more is some behind r =
    r ∙ ap (λ (t : List ℕ). a ++ beside d me (codes " note ") t) (behind ∙ ap (λ (t : List ℕ). drop 2 t) is)

-- ---- the head of a chart

pub heads_are : (names : List (List ℕ)) → drop 2 (behind_each names) ≡ heads names
heads_are [] = refl
heads_are (name ∷ names) = refl

-- an answer and its negation
pub none_told : (o : Option ℕ) (r : Bool) → is_some o ≡ not r → r ≡ is_none o
none_told None true is = refl
none_told None false is = is
none_told (Some n) true is = is
none_told (Some n) false is = refl

none_yet : (last : ℕ) (ts : List TurnEnd) → is_none (last_clock (Some last) ts) ≡ false
none_yet last [] = refl
none_yet last (t ∷ ts) = none_yet t.clock ts

no_turns : (ts : List TurnEnd) → is_none (last_clock None ts) ≡ are_none ts
no_turns [] = refl
no_turns (t ∷ ts) = none_yet t.clock ts

same_chosen : (P Q : ActorName → Bool) (xs : List ActorName) → ((x : ActorName) → P x ≡ Q x) → filter P xs ≡ filter Q xs
same_chosen P Q [] same = refl
same_chosen P Q (x ∷ xs) same =
    ap (λ (b : Bool). if b then x ∷ filter P xs else filter P xs) (same x)
    ∙ ap (λ (l : List ActorName). if Q x then x ∷ l else l) (same_chosen P Q xs same)

-- the columns are those of the turns that were drawn
pub columns_are : (d : Draft) (ts : List TurnEnd) (c : Chart) → IsDrawn d ts c
    → columns_of d (c.environment || is_none c.clock) c.actors.items ≡ drawn_columns d ts
columns_are d ts c k =
    let outside : (c.environment || is_none c.clock) ≡ (list_any has_outside ts || are_none ts) =
    ap (λ (b : Bool). b || is_none c.clock) k.outside ∙ ap (λ (b : Bool). list_any has_outside ts || b) (ap (λ (o : Option ℕ). is_none o) k.clock ∙ no_turns ts) in
    ap (λ (b : Bool). columns_of d b c.actors.items) outside
    ∙ ap (λ (l : List ActorName). (if list_any has_outside ts || are_none ts then codes "ENV" ∷ [] else []) ++ map (sender_text d) l)
    (same_chosen (takes_part c.actors.items) (λ x. list_any (is_in d x) ts) (actors_of d.processes) k.actors)

-- the chart of the turns that were drawn
chart_is : (d : Draft) (cut own : Cut) (ts : List TurnEnd) (c : Chart) (cs : Columns) (width : ℕ) (heads_text : List ℕ) → own ≡ cut → c.cut ≡ own
    → HasColumns (columns_of d (c.environment || is_none c.clock) c.actors.items) cs → width ≡ COLUMN * cs.count → heads_text ≡ drop 2 cs.text.items → Charts d ts c
    → codes "msc {\n  width=\"" ++ decimal width ++ codes "\", arcgradient=\"0\";\n  " ++ heads_text ++ after_heads (is_none c.clock) ++ c.rows.items
    ++ codes "}\n" ≡ chart_text d cut ts
chart_is d cut own ts c cs width heads_text same is columns_have wide heads_have k =
    let ds : List TurnEnd = filter (is_drawn c.cut) ts in
    let names : columns_of d (c.environment || is_none c.clock) c.actors.items ≡ drawn_columns d ds = columns_are d ds c k in
    let W : width ≡ COLUMN * length (drawn_columns d ds) =
    wide ∙ ap (λ (n : ℕ). COLUMN * n) (columns_have.count ∙ ap (λ (l : List (List ℕ)). length l) names) in
    let H : heads_text ≡ heads (drawn_columns d ds) =
    heads_have ∙ (ap (λ (t : List ℕ). drop 2 t) (columns_have.text ∙ ap behind_each names) ∙ heads_are (drawn_columns d ds)) in
    let C : chart_of d ds ≡ chart_text d cut ts = ap (λ (x : Cut). chart_of d (filter (is_drawn x) ts)) (is ∙ same) in
    let E : is_none c.clock ≡ are_none ds = ap (λ (o : Option ℕ). is_none o) k.clock ∙ no_turns ds in
    let made : ℕ → List ℕ → Bool → List ℕ → List ℕ =
    λ n h none r. codes "msc {\n  width=\"" ++ decimal n ++ codes "\", arcgradient=\"0\";\n  " ++ h ++ after_heads none ++ r ++ codes "}\n" in
    ap (λ (n : ℕ). made n heads_text (is_none c.clock) c.rows.items) W
    ∙ (ap (λ (h : List ℕ). made (COLUMN * length (drawn_columns d ds)) h (is_none c.clock) c.rows.items) H
    ∙ (ap (λ (none : Bool). made (COLUMN * length (drawn_columns d ds)) (heads (drawn_columns d ds)) none c.rows.items) E
    ∙ (ap (λ (r : List ℕ). made (COLUMN * length (drawn_columns d ds)) (heads (drawn_columns d ds)) (are_none ds) r) k.rows ∙ C)))

pub columns_made : (d : Draft) (has out : Bool) (ys xs : List ActorName) (a b : Columns) → has ≡ out → ys ≡ xs
    → HasColumns (if has then codes "ENV" ∷ [] else []) a → HasMore (chosen d ys (actors_of d.processes)) a b → HasColumns (columns_of d out xs) b
columns_made d has out ys xs a b same actors first more =
    let B : Bool → Type 0 = λ x. HasColumns ((if x then codes "ENV" ∷ [] else []) ++ chosen d ys (actors_of d.processes)) b in
    let A : List ActorName → Type 0 = λ l. HasColumns ((if out then codes "ENV" ∷ [] else []) ++ chosen d l (actors_of d.processes)) b in
    subst A actors (subst B same (columns_with (if has then codes "ENV" ∷ [] else []) (chosen d ys (actors_of d.processes)) a b first more))

seven_pieces : (m n a h s r e q u v w x y z : List ℕ) → q ≡ m → u ≡ q ++ n → v ≡ u ++ a → w ≡ v ++ h → x ≡ w ++ s → y ≡ x ++ r → z ≡ y ++ e
    → z ≡ m ++ n ++ a ++ h ++ s ++ r ++ e
seven_pieces m n a h s r e q u v w x y z is1 is2 is3 is4 is5 is6 is7 =
    let f : List ℕ → List ℕ → List ℕ = λ l k. l ++ k in
    is7 ∙ ap (λ l. f l e) (is6 ∙ ap (λ l. f l r) (is5 ∙ ap (λ l. f l s) (is4 ∙ ap (λ l. f l h) (is3 ∙ ap (λ l. f l a) (is2 ∙ ap (λ l. f l n) is1)))))

-- the whole text, piece by piece
pub chart_made : (d : Draft) (cut own : Cut) (ts : List TurnEnd) (c : Chart) (cs : Columns) (width : ℕ) (has_none : Bool) (heads_text rows q u v w x y z : List ℕ) → own ≡ cut
    → c.cut ≡ own → HasColumns (columns_of d (c.environment || is_none c.clock) c.actors.items) cs → width ≡ COLUMN * cs.count
    → heads_text ≡ drop 2 cs.text.items → rows ≡ c.rows.items → has_none ≡ is_none c.clock → q ≡ codes "msc {\n  width=\"" → u ≡ q ++ decimal width
    → v ≡ u ++ codes "\", arcgradient=\"0\";\n  " → w ≡ v ++ heads_text → x ≡ w ++ after_heads has_none → y ≡ x ++ rows → z ≡ y ++ codes "}\n" → Charts d ts c
    → z ≡ chart_text d cut ts
chart_made d cut own ts c cs width has_none heads_text rows q u v w x y z same is columns_have wide heads_have drawn none is1 is2 is3 is4 is5 is6 is7 k =
    let R : List ℕ → Type 0 = λ r. y ≡ x ++ r in
    let N : Bool → Type 0 = λ b. x ≡ w ++ after_heads b in
    seven_pieces (codes "msc {\n  width=\"") (decimal width) (codes "\", arcgradient=\"0\";\n  ") heads_text (after_heads (is_none c.clock)) c.rows.items (codes "}\n") q u v w x y z is1 is2
    is3 is4 (subst N none is5) (subst R drawn is6) is7
    ∙ chart_is d cut own ts c cs width heads_text same is columns_have wide heads_have k
