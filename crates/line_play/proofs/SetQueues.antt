-- Waiting messages that are tried again, and arriving ones.
use Rattle.std.proofs.Common.{◌≡◌, ◌∙◌, ◌||◌, ℕ, zero, suc, ◌+◌, ◌-◌, ◌^◌, ◌<◌, ◌≤◌, ◌==◌, nat_le, min, Bool, true, false, cond, List, [], ◌∷◌, ◌++◌, append-nil, append_assoc, length-append, length-drop, length, take, drop, get_or, replicate, Option, None, Some, Result, Ok, Err, OnOk, IfOk, true≢false, refl, sym, ap, subst, arith}
use Rattle.std.specs.Prelude.{slice_set}
use Rattle.std.proofs.lemmas.Bool.Decides.{nat_tests}
use Rattle.std.proofs.lemmas.Result.{on_ok_weaker}
use Rattle.std.proofs.lemmas.List.{take_all, drop_more, at_drop_all, length-set, get_or_default, get_or-set_other, get_or-set_same}
use Rattle.std.proofs.lemmas.List.Folds.{list_any-append}
use Rattle.std.proofs.lemmas.List.Sums.{sum_by-cons}
use Rattle.line_filter.specs.Desks.{Told as TellsSuch}
use Rattle.line_filter.specs.Reporting.{ToldLine, Stand, TellsLines}
use Rattle.line_filter.proofs.Reporting.{tells_none, tells_trans}
use Rattle.line_play.proofs.SetDoing.{more_at}
use Rattle.line_play.specs.SetDoing.{Stood}
use Rattle.line_play.specs.SetGiven.{PlainSaid, is_ignored}
use Rattle.line_play.specs.SetObeying.{Obeys, says_none, unselected, refusal_line, BAD_LINE}
use Rattle.line_play.specs.SetQueues.{Waited, is_of, any_of, count_of, selection_in, is_blocked, stays, LEAVING, FULL, MOST_OF_SELECTION, SaysSend, Tries, TriesOf, Retries, none_yet, behind, holds, goes, RetriesFirst, none_there, first_behind, first_holds, first_goes, waits_as, TakesSend, late, crowded, goes_now, waits_first, waits_behind, TakesOrder, obeyed, sent, report}

-- ---- waiting messages, one after another

-- So many were tried: the others stand before those that wait on, whose selections are marked.
pub record Retried (all : List Waited) (p : Stood) (i : ℕ) (blocked : List Bool) (now : List Waited) (q : Stood) (a b : Stand) : Type 0 where
  pub stay : List Waited
  pub queue : now ≡ drop i all ++ stay
  pub marks : (s : ℕ) → s < 16 → is_blocked blocked s ≡ any_of s stay
  pub count : length blocked ≡ 16
  pub tries : TellsSuch (λ bytes. Retries p (take i all) bytes q stay) a b

none_marked : (n s : ℕ) → get_or (replicate n false) s false ≡ false
none_marked zero s = refl
none_marked (suc n) zero = refl
none_marked (suc n) (suc s) = none_marked n s

pub retried_none : (all : List Waited) (p : Stood) (a : Stand) → Retried all p 0 (replicate 16 false) all p a a
retried_none all p a = record {
  stay = [];
  queue = sym (append-nil all);
  marks = λ s small. none_marked 16 s;
  count = refl;
  tries = record { bytes = []; are = none_yet; tells = tells_none a };
}

or_false : (x : Bool) → (x || false) ≡ x
or_false true = refl
or_false false = refl

or_true : (x : Bool) → (x || true) ≡ true
or_true true = refl
or_true false = refl

-- one more waits on
any_more : (s : ℕ) (stay : List Waited) (w : Waited) → any_of s (stay ++ w ∷ []) ≡ (any_of s stay || is_of s w)
any_more s stay w = list_any-append (is_of s) stay (w ∷ []) ∙ ap (λ (b : Bool). any_of s stay || b) (or_false (is_of s w))

same_by : (x y : ℕ) (b : Bool) → b ≡ (x == y) → b ≡ true → x ≡ y
same_by x y b is shown = grind (arith, nat_tests)

other_by : (x y : ℕ) (b : Bool) → b ≡ (x == y) → b ≡ false → x ≡ y → ⊥
other_by x y b is denied same = let e : (x == y) ≡ true = grind (arith, nat_tests) in absurd (true≢false (sym e ∙ (sym is ∙ denied)))

marks_behind : (s : ℕ) (stay : List Waited) (w : Waited) (b : Bool) → b ≡ is_of s w → any_of (selection_in w.octets) stay ≡ true
    → any_of s stay ≡ any_of s (stay ++ w ∷ [])
marks_behind s stay w true is marked_so =
    let same : selection_in w.octets ≡ s = same_by (selection_in w.octets) s true is refl in
    let there : any_of s stay ≡ true = subst (λ (n : ℕ). any_of n stay ≡ true) same marked_so in
    there ∙ sym (any_more s stay w ∙ ap (λ (x : Bool). x || is_of s w) there)
marks_behind s stay w false is marked_so = sym (any_more s stay w ∙ (ap (λ (x : Bool). any_of s stay || x) (sym is) ∙ or_false (any_of s stay)))

marks_held : (blocked : List Bool) (s : ℕ) (stay : List Waited) (w : Waited) (b : Bool) → b ≡ is_of s w → length blocked ≡ 16 → selection_in w.octets < 16
    → is_blocked blocked s ≡ any_of s stay → is_blocked (slice_set blocked (selection_in w.octets) true) s ≡ any_of s (stay ++ w ∷ [])
marks_held blocked s stay w true is count small before =
    let same : selection_in w.octets ≡ s = same_by (selection_in w.octets) s true is refl in
    let set_so : get_or (slice_set blocked (selection_in w.octets) true) (selection_in w.octets) false ≡ true =
    get_or-set_same blocked (selection_in w.octets) true false (omega (arith, count, small)) in
    subst (λ (n : ℕ). get_or (slice_set blocked (selection_in w.octets) true) n false ≡ true) same set_so
    ∙ sym (any_more s stay w ∙ (ap (λ (x : Bool). any_of s stay || x) (sym is) ∙ or_true (any_of s stay)))
marks_held blocked s stay w false is count small before =
    get_or-set_other blocked (selection_in w.octets) s true false (λ e. other_by (selection_in w.octets) s false is refl (sym e))
    ∙ (before ∙ sym (any_more s stay w ∙ (ap (λ (x : Bool). any_of s stay || x) (sym is) ∙ or_false (any_of s stay))))

-- the first of those not yet tried
first_of : (all : List Waited) (i : ℕ) (stay : List Waited) (w : Waited) (rest : List Waited) → i < length all → w ∷ rest ≡ drop i all ++ stay
    → (w ≡ get_or all i w) × (rest ≡ drop (i + 1) all ++ stay)
first_of all i stay w rest within is =
    let e : w ∷ rest ≡ get_or all i w ∷ (drop (i + 1) all ++ stay) = is ∙ ap (λ (l : List Waited). l ++ stay) (drop_more all i w within) in
    (ap (λ (l : List Waited). get_or l 0 w) e, ap (λ (l : List Waited). drop 1 l) e)

-- the messages after the others then
moved_behind : (all : List Waited) (i : ℕ) (stay rest : List Waited) (w : Waited) → rest ≡ drop (i + 1) all ++ stay → rest ++ w ∷ [] ≡ drop (i + 1) all ++ (stay ++ w ∷ [])
moved_behind all i stay rest w is = ap (λ (l : List Waited). l ++ w ∷ []) is ∙ append_assoc (drop (i + 1) all) stay (w ∷ [])

some_left : (all : List Waited) (i : ℕ) (stay : List Waited) → i < length all → [] ≡ drop i all ++ stay → ⊥
some_left all i stay within is =
    let e : 0 ≡ length (drop i all ++ stay) = ap length is in
    absurd (omega (arith, e, within, length-append (drop i all) stay, length-drop i all))

-- one more of those tried
next_of : (all : List Waited) (p : Stood) (i : ℕ) (w : Waited) (bytes : List ToldLine) (q : Stood) (stay : List Waited) → i < length all → w ≡ get_or all i w
    → Retries p (take i all ++ w ∷ []) bytes q stay → Retries p (take (i + 1) all) bytes q stay
next_of all p i w bytes q stay within is made = subst (λ (l : List Waited). Retries p l bytes q stay) (more_at all i w within is) made

retried_by : (all : List Waited) (p : Stood) (i : ℕ) (blocked : List Bool) (stay now : List Waited) (q : Stood) (bytes : List ToldLine) (a b c : Stand) (more : List ToldLine) (r : Stood)
    (marks : List Bool) (later : List Waited) → i < length all → now ≡ drop i all ++ stay → ((s : ℕ) → s < 16 → is_blocked blocked s ≡ any_of s stay) → length blocked ≡ 16
    → Retries p (take i all) bytes q stay → TellsLines a b bytes → RetriesFirst blocked q now more r marks later → TellsLines b c more → Retried all p (i + 1) marks later r a c
retried_by all p i blocked stay _ q bytes a b c _ _ _ _ within queue so count before tells none_there more_tells = absurd (some_left all i stay within queue)
retried_by all p i blocked stay _ q bytes a b c _ _ _ _ within queue so count before tells (first_behind w rest small marked_so) more_tells =
    let there = first_of all i stay w rest within queue in
    let waits_on : any_of (selection_in w.octets) stay ≡ true = sym (so (selection_in w.octets) small) ∙ marked_so in
    record {
      stay = stay ++ w ∷ [];
      queue = moved_behind all i stay rest w there.1;
      marks = λ s few. so s few ∙ marks_behind s stay w (is_of s w) refl waits_on;
      count = count;
      tries = record {
        bytes = bytes;
        are = next_of all p i w bytes q (stay ++ w ∷ []) within there.0 (behind w before waits_on);
        tells = subst (TellsLines a c) (append-nil bytes) (tells_trans a b c bytes [] tells more_tells);
      };
    }
retried_by all p i blocked stay _ s lines a b c _ _ _ _ within queue so count before tells (first_holds {bytes} {q} w rest small unmarked tried) more_tells =
    let there = first_of all i stay w rest within queue in
    let none_wait : any_of (selection_in w.octets) stay ≡ false = sym (so (selection_in w.octets) small) ∙ unmarked in
    record {
      stay = stay ++ w ∷ [];
      queue = moved_behind all i stay rest w there.1;
      marks = λ n few. marks_held blocked n stay w (is_of n w) refl count small (so n few);
      count = length-set blocked (selection_in w.octets) true ∙ count;
      tries = record {
        bytes = lines ++ bytes;
        are = next_of all p i w (lines ++ bytes) q (stay ++ w ∷ []) within there.0 (holds w bytes q before none_wait tried);
        tells = tells_trans a b c lines bytes tells more_tells;
      };
    }
retried_by all p i blocked stay _ s lines a b c _ _ _ _ within queue so count before tells (first_goes {bytes} {q} w rest small unmarked tried) more_tells =
    let there = first_of all i stay w rest within queue in
    let none_wait : any_of (selection_in w.octets) stay ≡ false = sym (so (selection_in w.octets) small) ∙ unmarked in
    record {
      stay = stay;
      queue = there.1;
      marks = so;
      count = count;
      tries = record {
        bytes = lines ++ bytes;
        are = next_of all p i w (lines ++ bytes) q stay within there.0 (goes w bytes q before none_wait tried);
        tells = tells_trans a b c lines bytes tells more_tells;
      };
    }

pub retried_more : (all : List Waited) (p : Stood) (i : ℕ) (blocked marks : List Bool) (now later : List Waited) (q r : Stood) (a b c : Stand) → i < length all
    → Retried all p i blocked now q a b → TellsSuch (λ bytes. RetriesFirst blocked q now bytes r marks later) b c → Retried all p (i + 1) marks later r a c
retried_more all p i blocked marks now later q r a b c within so_far more =
    retried_by all p i blocked so_far.stay now q so_far.tries.bytes a b c more.bytes r marks later within so_far.queue so_far.marks so_far.count so_far.tries.are so_far.tries.tells
    more.are more.tells

-- all were tried
pub retried_all : (all : List Waited) (p : Stood) (i : ℕ) (blocked : List Bool) (now : List Waited) (q : Stood) (a b : Stand) → length all ≤ i
    → Retried all p i blocked now q a b → TellsSuch (λ bytes. Retries p all bytes q now) a b
retried_all all p i blocked now q a b whole so_far =
    let left : now ≡ so_far.stay = so_far.queue ∙ at_drop_all (λ (l : List Waited). l ++ so_far.stay) all i whole in
    record {
      bytes = so_far.tries.bytes;
      are =
          subst (λ (l : List Waited). Retries p all so_far.tries.bytes q l) (sym left)
          (subst (λ (l : List Waited). Retries p l so_far.tries.bytes q so_far.stay) (take_all i all whole) so_far.tries.are);
      tells = so_far.tries.tells;
    }

-- ---- the first message

pub first_none : (blocked : List Bool) (p : Stood) (old new : List Waited) (a : Stand) → old ≡ [] → new ≡ old
    → TellsSuch (λ bytes. RetriesFirst blocked p old bytes p blocked new) a a
first_none blocked p old new a none_left same = record {
  bytes = [];
  are =
      subst (λ (l : List Waited). RetriesFirst blocked p l [] p blocked new) (sym none_left)
      (subst (λ (l : List Waited). RetriesFirst blocked p [] [] p blocked l) (sym (same ∙ none_left)) none_there);
  tells = tells_none a;
}

pub first_some : {A E : Type 0} (r : Result A E) (blocked marks : List Bool) (p q : Stood) (w : Waited) (old rest new : List Waited) (a b : Stand) → old ≡ w ∷ rest
    → OnOk r (TellsSuch (λ bytes. RetriesFirst blocked p (w ∷ rest) bytes q marks new) a b) → OnOk r (TellsSuch (λ bytes. RetriesFirst blocked p old bytes q marks new) a b)
first_some r blocked marks p q w old rest new a b there made =
    subst (λ (l : List Waited). OnOk r (TellsSuch (λ bytes. RetriesFirst blocked p l bytes q marks new) a b)) (sym there) made

-- by the computed selection
unmarked_at : (blocked : List Bool) (w : Waited) (s : ℕ) (x : Bool) → s ≡ selection_in w.octets → is_blocked blocked s ≡ x
    → is_blocked blocked (selection_in w.octets) ≡ x
unmarked_at blocked w s x is shown = subst (λ (n : ℕ). is_blocked blocked n ≡ x) is shown

pub first_waits_behind : {A E : Type 0} (r : Result A E) (blocked : List Bool) (p : Stood) (w : Waited) (old rest new : List Waited) (s : ℕ) (a : Stand)
    → old ≡ w ∷ rest → s ≡ selection_in w.octets → s < 16 → is_blocked blocked s ≡ true → OnOk r (new ≡ rest ++ w ∷ [])
    → OnOk r (TellsSuch (λ bytes. RetriesFirst blocked p old bytes p blocked new) a a)
first_waits_behind r blocked p w old rest new s a there is small shown put =
    on_ok_weaker r
    (λ (e : new ≡ rest ++ w ∷ []). record {
      bytes = [];
      are =
          subst (λ (l : List Waited). RetriesFirst blocked p l [] p blocked new) (sym there)
          (subst (λ (l : List Waited). RetriesFirst blocked p (w ∷ rest) [] p blocked l) (sym e)
          (first_behind w rest (subst (λ (n : ℕ). n < 16) is small) (unmarked_at blocked w s true is shown)));
      tells = tells_none a;
    })
    put

pub first_went : (blocked : List Bool) (p q : Stood) (w : Waited) (old rest : List Waited) (s : ℕ) (went : Bool) (a c : Stand)
    → old ≡ w ∷ rest → s ≡ selection_in w.octets → s < 16 → is_blocked blocked s ≡ false → went ≡ true
    → TellsSuch (λ bytes. TriesOf w p bytes went q) a c → TellsSuch (λ bytes. RetriesFirst blocked p old bytes q blocked rest) a c
first_went blocked p q w old rest s went a c there is small denied so tried = record {
  bytes = tried.bytes;
  are =
      subst (λ (l : List Waited). RetriesFirst blocked p l tried.bytes q blocked rest) (sym there)
      (first_goes w rest (subst (λ (n : ℕ). n < 16) is small) (unmarked_at blocked w s false is denied)
      (subst (λ (x : Bool). TriesOf w p tried.bytes x q) so tried.are));
  tells = tried.tells;
}

pub first_waits : {A E : Type 0} (r : Result A E) (blocked marks : List Bool) (p q : Stood) (w : Waited) (old rest new : List Waited) (s : ℕ) (went : Bool) (a c : Stand)
    → old ≡ w ∷ rest → s ≡ selection_in w.octets → s < 16 → is_blocked blocked s ≡ false → went ≡ false
    → marks ≡ slice_set blocked s true → TellsSuch (λ bytes. TriesOf w p bytes went q) a c → OnOk r (new ≡ rest ++ w ∷ [])
    → OnOk r (TellsSuch (λ bytes. RetriesFirst blocked p old bytes q marks new) a c)
first_waits r blocked marks p q w old rest new s went a c there is small denied so marks_are tried put =
    on_ok_weaker r
    (λ (e : new ≡ rest ++ w ∷ []). record {
      bytes = tried.bytes;
      are =
          subst (λ (l : List Waited). RetriesFirst blocked p l tried.bytes q marks new) (sym there)
          (subst (λ (l : List Waited). RetriesFirst blocked p (w ∷ rest) tried.bytes q marks l) (sym e)
          (subst (λ (m : List Bool). RetriesFirst blocked p (w ∷ rest) tried.bytes q m (rest ++ w ∷ [])) (sym (marks_are ∙ ap (λ (n : ℕ). slice_set blocked n true) is))
          (first_holds w rest (subst (λ (n : ℕ). n < 16) is small) (unmarked_at blocked w s false is denied)
          (subst (λ (x : Bool). TriesOf w p tried.bytes x q) so tried.are))));
      tells = tried.tells;
    })
    put

-- a message is tried, given its words and octets
pub tries_as : {E : Type 0} (r : Result Bool E) (text words octets others : List ℕ) (patient early : Bool) (p o q : Stood) (a b : Stand) → text ≡ words → octets ≡ others
    → patient ≡ early → p ≡ o → IfOk r (λ (went : Bool). TellsSuch (λ bytes. Tries text octets patient p bytes went q) a b)
    → IfOk r (λ (went : Bool). TellsSuch (λ bytes. Tries words others early o bytes went q) a b)
tries_as r text words octets others patient early p o q a b text_is octets_are early_is same made =
    subst (λ (x : Stood). IfOk r (λ (went : Bool). TellsSuch (λ bytes. Tries words others early x bytes went q) a b)) same
    (subst (λ (x : Bool). IfOk r (λ (went : Bool). TellsSuch (λ bytes. Tries words others x p bytes went q) a b)) early_is
    (subst (λ (x : List ℕ). IfOk r (λ (went : Bool). TellsSuch (λ bytes. Tries words x patient p bytes went q) a b)) octets_are
    (subst (λ (x : List ℕ). IfOk r (λ (went : Bool). TellsSuch (λ bytes. Tries x octets patient p bytes went q) a b)) text_is made)))

-- ---- an order that sends a message

-- none of a selection waits if none is counted, and some do if some are
counts_by : (s : ℕ) (w : Waited) (ws : List Waited) → count_of s (w ∷ ws) ≡ cond {A = ℕ} (is_of s w) 1 0 + count_of s ws
counts_by s w ws = sum_by-cons (λ (v : Waited). cond {A = ℕ} (is_of s v) 1 0) w ws

none_by : (s : ℕ) (w : Waited) (ws : List Waited) (b : Bool) → b ≡ is_of s w → (count_of s ws ≡ 0 → any_of s ws ≡ false) → count_of s (w ∷ ws) ≡ 0
    → any_of s (w ∷ ws) ≡ false
none_by s w ws true is more none_so =
    let e : cond {A = ℕ} true 1 0 + count_of s ws ≡ 0 = ap (λ (x : Bool). cond {A = ℕ} x 1 0 + count_of s ws) is ∙ (sym (counts_by s w ws) ∙ none_so) in
    absurd (omega (arith, e))
none_by s w ws false is more none_so =
    let e : cond {A = ℕ} false 1 0 + count_of s ws ≡ 0 = ap (λ (x : Bool). cond {A = ℕ} x 1 0 + count_of s ws) is ∙ (sym (counts_by s w ws) ∙ none_so) in
    ap (λ (x : Bool). x || any_of s ws) (sym is) ∙ more (omega (arith, e))

pub none_counted : (s : ℕ) (ws : List Waited) → count_of s ws ≡ 0 → any_of s ws ≡ false
none_counted s [] none_so = refl
none_counted s (w ∷ ws) none_so = none_by s w ws (is_of s w) refl (none_counted s ws) none_so

some_by : (s : ℕ) (w : Waited) (ws : List Waited) (b : Bool) → b ≡ is_of s w → (0 < count_of s ws → any_of s ws ≡ true) → 0 < count_of s (w ∷ ws)
    → any_of s (w ∷ ws) ≡ true
some_by s w ws true is more some = ap (λ (x : Bool). x || any_of s ws) (sym is)
some_by s w ws false is more some =
    let e : count_of s (w ∷ ws) ≡ cond {A = ℕ} false 1 0 + count_of s ws = counts_by s w ws ∙ ap (λ (x : Bool). cond {A = ℕ} x 1 0 + count_of s ws) (sym is) in
    ap (λ (x : Bool). x || any_of s ws) (sym is) ∙ more (omega (arith, e, some))

pub some_counted : (s : ℕ) (ws : List Waited) → 0 < count_of s ws → any_of s ws ≡ true
some_counted s [] some = absurd (omega (arith, some))
some_counted s (w ∷ ws) some = some_by s w ws (is_of s w) refl (some_counted s ws) some

-- the meaning of the count, by the computed selection
counted_at : (octets : List ℕ) (ws : List Waited) (s count : ℕ) → s ≡ selection_in octets → count ≡ min (2 ^ 64 - 1) (count_of s ws)
    → count ≡ min (2 ^ 64 - 1) (count_of (selection_in octets) ws)
counted_at octets ws s count is so = so ∙ ap (λ (n : ℕ). min (2 ^ 64 - 1) (count_of n ws)) is

pub none_so : (octets : List ℕ) (ws : List Waited) (s count : ℕ) → s ≡ selection_in octets → count ≡ min (2 ^ 64 - 1) (count_of s ws) → count ≡ 0
    → any_of (selection_in octets) ws ≡ false
none_so octets ws s count is so e =
    none_counted (selection_in octets) ws (omega (arith, e, counted_at octets ws s count is so))

some_left_so : (count : ℕ) → (count ≡ 0 → ⊥) → 0 < count
some_left_so zero some = absurd (some refl)
some_left_so (suc n) some = omega arith

pub some_so : (octets : List ℕ) (ws : List Waited) (s count : ℕ) → s ≡ selection_in octets → count ≡ min (2 ^ 64 - 1) (count_of s ws) → (count ≡ 0 → ⊥)
    → any_of (selection_in octets) ws ≡ true
some_so octets ws s count is so denied =
    let e : 0 < count = some_left_so count denied in
    some_counted (selection_in octets) ws (omega (arith, e, counted_at octets ws s count is so))

pub many_so : (octets : List ℕ) (ws : List Waited) (s count : ℕ) → s ≡ selection_in octets → count ≡ min (2 ^ 64 - 1) (count_of s ws)
    → MOST_OF_SELECTION ≤ count → MOST_OF_SELECTION ≤ count_of (selection_in octets) ws
many_so octets ws s count is so e =
    omega (arith, e, counted_at octets ws s count is so)

pub few_so : (octets : List ℕ) (ws : List Waited) (s count : ℕ) → s ≡ selection_in octets → count ≡ min (2 ^ 64 - 1) (count_of s ws)
    → count < MOST_OF_SELECTION → count_of (selection_in octets) ws < MOST_OF_SELECTION
few_so octets ws s count is so e =
    omega (arith, e, counted_at octets ws s count is so)

pub send_late : {A E : Type 0} (r : Result A E) (text octets : List ℕ) (p : Stood) (waiting : List Waited) (a b : Stand) → stays p.ending ≡ false
    → OnOk r (TellsLines a b (refusal_line p text LEAVING)) → OnOk r (TellsSuch (λ bytes. TakesSend text octets p waiting bytes p waiting) a b)
send_late r text octets p waiting a b over line =
    on_ok_weaker r (λ (l : TellsLines a b (refusal_line p text LEAVING)). record { bytes = refusal_line p text LEAVING; are = late over; tells = l }) line

pub send_crowded : {A E : Type 0} (r : Result A E) (text octets : List ℕ) (p : Stood) (waiting : List Waited) (a b : Stand)
    → MOST_OF_SELECTION ≤ count_of (selection_in octets) waiting → OnOk r (TellsLines a b (refusal_line p text FULL))
    → OnOk r (TellsSuch (λ bytes. TakesSend text octets p waiting bytes p waiting) a b)
send_crowded r text octets p waiting a b many line =
    on_ok_weaker r (λ (l : TellsLines a b (refusal_line p text FULL)). record { bytes = refusal_line p text FULL; are = crowded many; tells = l }) line

pub send_behind : {A E : Type 0} (r : Result A E) (text octets : List ℕ) (p : Stood) (waiting now : List Waited) (a : Stand)
    → any_of (selection_in octets) waiting ≡ true → count_of (selection_in octets) waiting < MOST_OF_SELECTION
    → OnOk r (now ≡ waiting ++ waits_as p text octets ∷ []) → OnOk r (TellsSuch (λ bytes. TakesSend text octets p waiting bytes p now) a a)
send_behind r text octets p waiting now a some few put =
    on_ok_weaker r
    (λ (e : now ≡ waiting ++ waits_as p text octets ∷ []). record {
      bytes = [];
      are = subst (λ (l : List Waited). TakesSend text octets p waiting [] p l) (sym e) (waits_behind some few);
      tells = tells_none a;
    })
    put

pub send_goes : (text octets : List ℕ) (p q : Stood) (waiting : List Waited) (went : Bool) (a b : Stand)
    → any_of (selection_in octets) waiting ≡ false → went ≡ true → TellsSuch (λ bytes. Tries text octets true p bytes went q) a b
    → TellsSuch (λ bytes. TakesSend text octets p waiting bytes q waiting) a b
send_goes text octets p q waiting went a b none_wait so tried =
    record { bytes = tried.bytes; are = goes_now none_wait (subst (λ (x : Bool). Tries text octets true p tried.bytes x q) so tried.are); tells = tried.tells }

pub send_waits : {A E : Type 0} (r : Result A E) (text octets : List ℕ) (p q : Stood) (waiting now : List Waited) (went : Bool) (a b : Stand)
    → any_of (selection_in octets) waiting ≡ false → went ≡ false → TellsSuch (λ bytes. Tries text octets true p bytes went q) a b
    → OnOk r (now ≡ waiting ++ waits_as q text octets ∷ []) → OnOk r (TellsSuch (λ bytes. TakesSend text octets p waiting bytes q now) a b)
send_waits r text octets p q waiting now went a b none_wait so tried put =
    on_ok_weaker r
    (λ (e : now ≡ waiting ++ waits_as q text octets ∷ []). record {
      bytes = tried.bytes;
      are =
          subst (λ (l : List Waited). TakesSend text octets p waiting tried.bytes q l) (sym e)
          (waits_first none_wait (subst (λ (x : Bool). Tries text octets true p tried.bytes x q) so tried.are));
      tells = tried.tells;
    })
    put

-- its words and octets, said otherwise
pub tried_as : (text said octets items : List ℕ) (p q : Stood) (went : Bool) (a b : Stand) → said ≡ text → items ≡ octets
    → TellsSuch (λ bytes. Tries said items true p bytes went q) a b → TellsSuch (λ bytes. Tries text octets true p bytes went q) a b
tried_as text said octets items p q went a b text_is octets_are tried =
    subst (λ (x : List ℕ). TellsSuch (λ bytes. Tries text x true p bytes went q) a b) octets_are
    (subst (λ (x : List ℕ). TellsSuch (λ bytes. Tries x items true p bytes went q) a b) text_is tried)

pub takes_text : {A E : Type 0} (r : Result A E) (text said octets : List ℕ) (p q : Stood) (waiting now : List Waited) (a b : Stand) → said ≡ text
    → OnOk r (TellsSuch (λ bytes. TakesSend said octets p waiting bytes q now) a b) → OnOk r (TellsSuch (λ bytes. TakesSend text octets p waiting bytes q now) a b)
takes_text r text said octets p q waiting now a b is made =
    subst (λ (x : List ℕ). OnOk r (TellsSuch (λ bytes. TakesSend x octets p waiting bytes q now) a b)) is made

-- ---- any order

pub takes_send : {A E : Type 0} (r : Result A E) (text octets : List ℕ) (said : Option PlainSaid) (p q : Stood) (waiting now : List Waited) (a b : Stand)
    → SaysSend octets said → OnOk r (TellsSuch (λ bytes. TakesSend text octets p waiting bytes q now) a b)
    → OnOk r (TellsSuch (λ bytes. TakesOrder text said p waiting bytes q now) a b)
takes_send r text octets said p q waiting now a b says made =
    on_ok_weaker r
    (λ (h : TellsSuch (λ bytes. TakesSend text octets p waiting bytes q now) a b). record { bytes = h.bytes; are = sent octets says h.are; tells = h.tells }) made

pub takes_obeyed : {A E : Type 0} (r : Result A E) (text : List ℕ) (said : Option PlainSaid) (p q : Stood) (waiting : List Waited) (a b : Stand)
    → OnOk r (TellsSuch (λ bytes. Obeys text said p bytes q) a b) → OnOk r (TellsSuch (λ bytes. TakesOrder text said p waiting bytes q waiting) a b)
takes_obeyed r text said p q waiting a b made =
    on_ok_weaker r (λ (h : TellsSuch (λ bytes. Obeys text said p bytes q) a b). record { bytes = h.bytes; are = obeyed h.are; tells = h.tells }) made

pub takes_report : (text : List ℕ) (p : Stood) (waiting : List Waited) (a : Stand) → is_ignored p.mark text ≡ true → TellsSuch (λ bytes. TakesOrder text None p waiting bytes p waiting) a a
takes_report text p waiting a told = record { bytes = []; are = report refl told; tells = tells_none a }

pub takes_bad : {A E : Type 0} (r : Result A E) (text : List ℕ) (p q : Stood) (waiting : List Waited) (a b : Stand) → is_ignored p.mark text ≡ false
    → q ≡ unselected text p → OnOk r (TellsLines a b (refusal_line q text BAD_LINE))
    → OnOk r (TellsSuch (λ bytes. TakesOrder text None p waiting bytes q waiting) a b)
takes_bad r text p q waiting a b no_report is line =
    let P : Stood → Type 0 = λ s. OnOk r (TellsLines a b (refusal_line s text BAD_LINE)) → OnOk r (TellsSuch (λ bytes. TakesOrder text None p waiting bytes s waiting) a b) in
    let Q : P (unselected text p) = on_ok_weaker r
    (λ (l : TellsLines a b (refusal_line (unselected text p) text BAD_LINE)).
    record { bytes = refusal_line (unselected text p) text BAD_LINE; are = obeyed (says_none refl no_report); tells = l }) in
    subst P (sym is) Q line

-- an order as it is given
pub takes_as : {A E : Type 0} (r : Result A E) (text words : List ℕ) (said what : Option PlainSaid) (p o q : Stood) (waiting now : List Waited) (a b : Stand)
    → text ≡ words → said ≡ what → p ≡ o → OnOk r (TellsSuch (λ bytes. TakesOrder text said p waiting bytes q now) a b)
    → OnOk r (TellsSuch (λ bytes. TakesOrder words what o waiting bytes q now) a b)
takes_as r text words said what p o q waiting now a b text_is said_is same made =
    subst (λ (x : Stood). OnOk r (TellsSuch (λ bytes. TakesOrder words what x waiting bytes q now) a b)) same
    (subst (λ (x : Option PlainSaid). OnOk r (TellsSuch (λ bytes. TakesOrder words x p waiting bytes q now) a b)) said_is
    (subst (λ (x : List ℕ). OnOk r (TellsSuch (λ bytes. TakesOrder x said p waiting bytes q now) a b)) text_is made))
