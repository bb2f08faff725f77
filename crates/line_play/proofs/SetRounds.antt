-- A round of a link set on lines, part by part.
use Rattle.std.proofs.Common.{◌≡◌, ◌∙◌, ◌⊎◌, inl, inr, ℕ, ◌+◌, ◌≤◌, ◌<◌, ◌==◌, nat_le, if◌then◌else◌, true≢false, Bool, true, false, List, [], ◌∷◌, ◌++◌, append-nil, append_assoc, length, replicate, take, drop, get_or, slice_get, slice_set, codes, Option, None, Some, Result, Ok, Err, OnOk, IfOk, IfSome, IsNone, refl, sym, ap, subst, arith}
use Rattle.std.proofs.lemmas.Bool.Decides.{nat_tests}
use Rattle.std.proofs.lemmas.Option.{slice_get-get_or}
use Rattle.std.proofs.lemmas.Result.{on_ok_weaker}
use Rattle.std.proofs.lemmas.List.{replicate_more, take_all, take-append-le}
use Rattle.line_filter.specs.Desks.{Told as TellsSuch}
use Rattle.line_filter.specs.Says.{is_end_order}
use Rattle.line_filter.specs.Orders.{Timed, NextIs, NoneIsDue, Stays, ComesAhead, LooksAnew}
use Rattle.line_filter.specs.Reporting.{Stand, ToldLine, TellsLines, MovesOn, waiting_count}
use Rattle.line_filter.specs.declared.reports.Wait.TheVariants.{Message, Answer}
use Rattle.line_filter.proofs.Reporting.{tells_none, tells_trans, tells_moved}
use Rattle.line_tending.specs.Readers.{Minds}
use Rattle.line_tending.specs.Rounds.{Tends, Ticks}
use Rattle.line_tending.specs.Tended.{Tended}
use Rattle.line_tending.specs.LinkLines.{Hears, Passes, SILENT}
use Rattle.line_tending.specs.declared.link_line.LineChange.{LineChange}
use Rattle.line_tending.specs.declared.link_line.LineChange.TheVariants.{Same}
use Rattle.line_tending.specs.declared.link_line.LinkLine.{LinkLine}
use Rattle.line_play.specs.LineTraffic.{Traffic, octets_go, line_says, Grows, coming, given, front_of, arrived, silence_for}
use Rattle.line_play.specs.declared.set.lines.LineNews.{LineNews}
use Rattle.line_play.specs.declared.set.lines.LineNews.TheVariants as line
use Rattle.line_play.specs.SetDoing.{Stood, marked}
use Rattle.line_play.specs.SetGiven.{given_in}
use Rattle.line_play.specs.SetLeaving.{Departs, goes_on_by}
use Rattle.line_play.specs.SetQueues.{Waited, MOST_WAITING, Retries, TakesOrder}
use Rattle.line_play.specs.SetRounds.{Made, line_told, passed_told, PassesOn, Carries, passes, misses, ends, fails, opens, CarriesAt, CarriesAll, no_link, one_link, TellsAll, Attends, waited, comes, looks, AttendsAll, none_due, full, answers_wait, over, MANY_ANSWERS, MayCome, SetPlace, IsRound, late_told}

-- ---- octets given to lines

pub grows_none : (g : Option (List Traffic)) → Grows g g []
grows_none None = tt
grows_none (Some traffic) = sym (append-nil traffic)

pub grows_then : (f g h : Option (List Traffic)) (xs ys : List Traffic) → Grows f g xs → Grows g h ys → Grows f h (xs ++ ys)
grows_then None g h xs ys p q = tt
grows_then (Some f) None h xs ys p q = absurd p
grows_then (Some f) (Some g) None xs ys p q = absurd q
grows_then (Some f) (Some g) (Some h) xs ys p q = q ∙ ap (λ (l : List Traffic). l ++ ys) p ∙ append_assoc f xs ys

pub grows_more : (f g h : Option (List Traffic)) (n : ℕ) (x : Traffic) → Grows f g (replicate n x) → Grows g h (x ∷ []) → Grows f h (replicate (n + 1) x)
grows_more f g h n x before more = subst (λ (xs : List Traffic). Grows f h xs) (replicate_more n x) (grows_then f g h (replicate n x) (x ∷ []) before more)

-- a call that gives nothing to a line leaves the traffic as it was
grows_same : (f g h : Option (List Traffic)) (xs : List Traffic) → Grows f g [] → Grows g h xs → Grows f h xs
grows_same f g h xs none_given more = grows_then f g h [] xs none_given more

pub grows_last : (f g h : Option (List Traffic)) (xs : List Traffic) → Grows f g xs → Grows g h [] → Grows f h xs
grows_last f g h xs more none_given = subst (λ (ys : List Traffic). Grows f h ys) (append-nil xs) (grows_then f g h xs [] more none_given)

-- octets given to a line, which are not empty, are its traffic
pub given_some : (link : ℕ) (octets : List ℕ) (f g : Option (List Traffic)) → (octets ≡ [] → ⊥)
    → Grows f g (octets_go link octets ∷ []) → Grows f g (given link octets)
given_some link [] f g some gives = absurd (some refl)
given_some link (octet ∷ octets) f g some gives = gives

none_in : (octets : List ℕ) → length octets ≡ 0 → octets ≡ []
none_in [] none_there = refl
none_in (octet ∷ octets) none_there = absurd (omega (arith, none_there))

pub is_none : (octets : List ℕ) (b : Bool) → b ≡ (length octets == 0) → b ≡ true → octets ≡ []
is_none octets b is shown = none_in octets (grind (arith, nat_tests))

pub is_some_there : (octets : List ℕ) (b : Bool) → b ≡ (length octets == 0) → b ≡ false → octets ≡ [] → ⊥
is_some_there octets b is denied none_there =
    let e : length octets ≡ 0 = ap length none_there in
    let z : b ≡ true = grind (arith, nat_tests) in
    absurd (true≢false (sym z ∙ denied))

pub given_none : (link : ℕ) (octets : List ℕ) (f : Option (List Traffic)) → octets ≡ [] → Grows f f (given link octets)
given_none link octets f none_there = subst (λ (xs : List ℕ). Grows f f (given link xs)) (sym none_there) (grows_none f)

-- the first `count` octets, or none if there are fewer
pub front_there : (count : ℕ) (octets part : List ℕ) → count ≤ length octets → part ≡ take count octets → part ≡ front_of count octets
front_there count octets part many is =
    let e : nat_le count (length octets) ≡ true = grind (arith, nat_tests) in
    is ∙ sym (ap (λ (b : Bool). if b then take count octets else []) e)

pub front_short : (count : ℕ) (octets : List ℕ) → length octets < count → [] ≡ front_of count octets
front_short count octets few =
    let e : nat_le count (length octets) ≡ false = grind (arith, nat_tests) in
    sym (ap (λ (b : Bool). if b then take count octets else []) e)

-- ---- a line

-- the octets sent, appended to nothing
pub from_none : (link ahead : ℕ) (came : List ℕ) (t : Tended) (w : LinkLine) (out : List ℕ) (passed : LineChange) (u : Tended) (x : LinkLine) (after : List ℕ) → out ≡ []
    → Passes link ahead came t w out passed u x after → Passes link ahead came t w [] passed u x after
from_none link ahead came t w out passed u x after none_there made = subst (λ (xs : List ℕ). Passes link ahead came t w xs passed u x after) none_there made

-- the octets received passed, and nothing is reported
pub passed_same : (link ahead : ℕ) (t u : Tended) (w x : LinkLine) (came out : List ℕ) (passed : LineChange) (a : Stand) (f g : Option (List Traffic))
    → passed ≡ Same → Passes link ahead came t w [] passed u x out → Grows f g (given link out)
    → Made (λ bytes traffic. PassesOn link ahead came t w bytes traffic u x) a a f g
passed_same link ahead t u w x came out passed a f g is made gives = record {
  bytes = [];
  traffic = given link out;
  are = record { out = out; passed = Same; is_passed = subst (λ (p : LineChange). Passes link ahead came t w [] p u x out) is made; tells = refl; gives = refl };
  tells = tells_none a;
  gives = gives;
}

-- the octets received passed, and a report is made
pub passed_told_so : {A E : Type 0} (r : Result A E) (link ahead : ℕ) (t u : Tended) (w x : LinkLine) (came out : List ℕ) (passed as_told : LineChange) (a b : Stand)
    (f g : Option (List Traffic)) → passed ≡ as_told → Passes link ahead came t w [] passed u x out → Grows f g (given link out)
    → OnOk r (TellsLines a b (passed_told u.ticks link as_told)) → OnOk r (Made (λ bytes traffic. PassesOn link ahead came t w bytes traffic u x) a b f g)
passed_told_so r link ahead t u w x came out passed as_told a b f g is made gives line =
    on_ok_weaker r
    (λ (l : TellsLines a b (passed_told u.ticks link as_told)). record {
      bytes = passed_told u.ticks link as_told;
      traffic = given link out;
      are = record { out = out; passed = as_told; is_passed = subst (λ (p : LineChange). Passes link ahead came t w [] p u x out) is made; tells = refl; gives = refl };
      tells = l;
      gives = gives;
    })
    line

-- the answer of a line, replaced by an equal one
pub said_so : (link : ℕ) (part : List ℕ) (said as_said : LineNews) (f g : Option (List Traffic)) → said ≡ as_said → Grows f g (arrived link part said)
    → Grows f g (arrived link part as_said)
said_so link part said as_said f g is arrives = subst (λ (s : LineNews). Grows f g (arrived link part s)) is arrives

-- the octets received on the line passed; their report may follow
pub passed_on : {A E : Type 0} (r : Result A E) (link ahead : ℕ) (t u : Tended) (w x : LinkLine) (part came : List ℕ) (count : ℕ) (said : LineNews) (a b : Stand)
    (f g h : Option (List Traffic)) → Grows f g (arrived link part said) → said ≡ line.Octets count → came ≡ front_of count part
    → OnOk r (Made (λ bytes traffic. PassesOn link ahead came t w bytes traffic u x) a b g h)
    → OnOk r (Made (λ bytes traffic. Carries link ahead t w bytes traffic u x) a b f h)
passed_on r link ahead t u w x part came count said a b f g h arrives is came_is made =
    let so : Grows f g (coming link came) =
    subst (λ (xs : List ℕ). Grows f g (coming link xs)) (sym came_is) (said_so link part said (line.Octets count) f g is arrives) in
    on_ok_weaker r
    (λ (m : Made (λ bytes traffic. PassesOn link ahead came t w bytes traffic u x) a b g h). record {
      bytes = m.bytes;
      traffic = coming link came ++ m.traffic;
      are = passes came m.are;
      tells = m.tells;
      gives = grows_then f g h (coming link came) m.traffic so m.gives;
    })
    made

-- the line isn't open
pub missed : {A E : Type 0} (r : Result A E) (link ahead : ℕ) (t u : Tended) (w : LinkLine) (a : Stand) (f g : Option (List Traffic))
    → Grows f g (line_says link line.Closed ∷ []) → OnOk r (Hears link t SILENT u)
    → OnOk r (Made (λ bytes traffic. Carries link ahead t w bytes traffic u w) a a f g)
missed r link ahead t u w a f g says hears =
    on_ok_weaker r
    (λ (h : Hears link t SILENT u). record { bytes = []; traffic = line_says link line.Closed ∷ []; are = misses h; tells = tells_none a; gives = says }) hears

pub line_ended : {A E : Type 0} (r : Result A E) (link ahead : ℕ) (t : Tended) (w : LinkLine) (a b : Stand) (f g : Option (List Traffic))
    → Grows f g (line_says link line.Ended ∷ []) → OnOk r (TellsLines a b (line_told t.ticks link (codes "ended")))
    → OnOk r (Made (λ bytes traffic. Carries link ahead t w bytes traffic t w) a b f g)
line_ended r link ahead t w a b f g says told_so =
    on_ok_weaker r
    (λ (l : TellsLines a b (line_told t.ticks link (codes "ended"))). record {
      bytes = line_told t.ticks link (codes "ended");
      traffic = line_says link line.Ended ∷ [];
      are = ends;
      tells = l;
      gives = says;
    })
    told_so

pub line_failed : {A E : Type 0} (r : Result A E) (link ahead : ℕ) (t : Tended) (w : LinkLine) (a b : Stand) (f g : Option (List Traffic))
    → Grows f g (line_says link line.Failed ∷ []) → OnOk r (TellsLines a b (line_told t.ticks link (codes "failed")))
    → OnOk r (Made (λ bytes traffic. Carries link ahead t w bytes traffic t w) a b f g)
line_failed r link ahead t w a b f g says told_so =
    on_ok_weaker r
    (λ (l : TellsLines a b (line_told t.ticks link (codes "failed"))). record {
      bytes = line_told t.ticks link (codes "failed");
      traffic = line_says link line.Failed ∷ [];
      are = fails;
      tells = l;
      gives = says;
    })
    told_so

pub line_opened : {A E : Type 0} (r : Result A E) (link ahead : ℕ) (t : Tended) (w : LinkLine) (a b : Stand) (f g h : Option (List Traffic))
    → Grows f g (line_says link line.Opened ∷ []) → Grows g h (replicate ahead (silence_for link))
    → OnOk r (TellsLines a b (line_told t.ticks link (codes "open"))) → OnOk r (Made (λ bytes traffic. Carries link ahead t w bytes traffic t w) a b f h)
line_opened r link ahead t w a b f g h says gives told_so =
    on_ok_weaker r
    (λ (l : TellsLines a b (line_told t.ticks link (codes "open"))). record {
      bytes = line_told t.ticks link (codes "open");
      traffic = line_says link line.Opened ∷ replicate ahead (silence_for link);
      are = opens;
      tells = l;
      gives = grows_then f g h (line_says link line.Opened ∷ []) (replicate ahead (silence_for link)) says gives;
    })
    told_so

-- ---- all lines

pub carried_at : {A E : Type 0} (r : Result A E) (link ahead : ℕ) (t u : Tended) (ws : List LinkLine) (d x : LinkLine) (a b : Stand) (f g : Option (List Traffic))
    → link < length ws → OnOk r (Made (λ bytes traffic. Carries link ahead t (get_or ws link d) bytes traffic u x) a b f g)
    → OnOk r (Made (λ bytes traffic. CarriesAt link ahead t ws bytes traffic u (slice_set ws link x)) a b f g)
carried_at r link ahead t u ws d x a b f g within made =
    on_ok_weaker r
    (λ (m : Made (λ bytes traffic. Carries link ahead t (get_or ws link d) bytes traffic u x) a b f g). record {
      bytes = m.bytes;
      traffic = m.traffic;
      are = record { before = get_or ws link d; after = x; there = slice_get-get_or ws link d within; carries = m.are; lines = refl };
      tells = m.tells;
      gives = m.gives;
    })
    made

pub carried_count : (ahead n m : ℕ) (t u : Tended) (ws xs : List LinkLine) (a b : Stand) (f g : Option (List Traffic)) → n ≡ m
    → Made (λ bytes traffic. CarriesAll ahead t ws n bytes traffic u xs) a b f g → Made (λ bytes traffic. CarriesAll ahead t ws m bytes traffic u xs) a b f g
carried_count ahead n m t u ws xs a b f g is made = subst (λ (k : ℕ). Made (λ bytes traffic. CarriesAll ahead t ws k bytes traffic u xs) a b f g) is made

pub carried_none : (ahead : ℕ) (t : Tended) (ws : List LinkLine) (a : Stand) (f : Option (List Traffic))
    → Made (λ bytes traffic. CarriesAll ahead t ws 0 bytes traffic t ws) a a f f
carried_none ahead t ws a f = record { bytes = []; traffic = []; are = no_link; tells = tells_none a; gives = grows_none f }

pub carried_more : (ahead link : ℕ) (t u v : Tended) (ws xs ys : List LinkLine) (a b c : Stand) (f g h : Option (List Traffic))
    → Made (λ bytes traffic. CarriesAll ahead t ws link bytes traffic u xs) a b f g → Made (λ bytes traffic. CarriesAt link ahead u xs bytes traffic v ys) b c g h
    → Made (λ bytes traffic. CarriesAll ahead t ws (link + 1) bytes traffic v ys) a c f h
carried_more ahead link t u v ws xs ys a b c f g h before more = record {
  bytes = before.bytes ++ more.bytes;
  traffic = before.traffic ++ more.traffic;
  are = one_link more.bytes more.traffic before.are more.are;
  tells = tells_trans a b c before.bytes more.bytes before.tells more.tells;
  gives = grows_then f g h before.traffic more.traffic before.gives more.gives;
}

-- the content of a vector after a slice of its full length was overwritten
front_whole : (xs ys : List LinkLine) → take (length xs) (xs ++ ys) ≡ xs
front_whole xs ys = take-append-le (length xs) xs ys (omega arith) ∙ take_all (length xs) xs (omega arith)

pub written : (n : ℕ) (xs items : List LinkLine) → length xs ≡ n → take n (xs ++ drop (length xs) items) ≡ xs
written n xs items e = subst (λ (k : ℕ). take k (xs ++ drop (length xs) items) ≡ xs) e (front_whole xs (drop (length xs) items))

pub carried_lines : {A E : Type 0} (r : Result A E) (ahead : ℕ) (t u : Tended) (ws vs xs ys : List LinkLine) (a b : Stand) (f g : Option (List Traffic)) → vs ≡ ws → ys ≡ xs
    → OnOk r (Made (λ bytes traffic. CarriesAll ahead t vs (length vs) bytes traffic u xs) a b f g)
    → OnOk r (Made (λ bytes traffic. CarriesAll ahead t ws (length ws) bytes traffic u ys) a b f g)
carried_lines r ahead t u ws vs xs ys a b f g before after made =
    subst (λ (zs : List LinkLine). OnOk r (Made (λ bytes traffic. CarriesAll ahead t ws (length ws) bytes traffic u zs) a b f g)) (sym after)
    (subst (λ (zs : List LinkLine). OnOk r (Made (λ bytes traffic. CarriesAll ahead t zs (length zs) bytes traffic u xs) a b f g)) before made)

-- a round that isn't late
pub none_late : (a : Stand) (now late : ℕ) → late ≡ 0 → TellsLines a a (late_told now late)
none_late a now late is = subst (λ (n : ℕ). TellsLines a a (late_told now n)) (sym is) (tells_none a)

-- ---- orders

pub attends_first : (t u : Stood) (waiting now : List Waited) (left : Option (List Timed)) (a b : Stand)
    → TellsSuch (λ bytes. Retries t waiting bytes u now) a b → TellsSuch (λ bytes. Attends t waiting left a bytes u now left b) a b
attends_first t u waiting now left a b before = record { bytes = before.bytes; are = waited before.are before.tells; tells = before.tells }

pub attends_looked : (t u : Stood) (waiting now : List Waited) (left last : Option (List Timed)) (ms : ℕ) (a b c : Stand)
    → TellsSuch (λ bytes. Attends t waiting left a bytes u now left b) a b → ms ≡ u.tender.ticks → TellsSuch (λ bytes. LooksAnew ms left bytes last) b c
    → TellsSuch (λ bytes. Attends t waiting left a bytes u now last c) a c
attends_looked t u waiting now left last ms a b c before ms_is more = record {
  bytes = before.bytes ++ more.bytes;
  are = looks more.bytes last c before.are (subst (λ (n : ℕ). LooksAnew n left more.bytes last) ms_is more.are) more.tells;
  tells = tells_trans a b c before.bytes more.bytes before.tells more.tells;
}

pub attends_more : (t u w : Stood) (waiting now later : List Waited) (left fewer last : Option (List Timed)) (order : List ℕ) (ms : ℕ) (a b c : Stand)
    → TellsSuch (λ bytes. Attends t waiting left a bytes u now fewer b) a b → goes_on_by u.ending ≡ true → ms ≡ u.tender.ticks → NextIs ms fewer order last
    → MayCome order now b
    → TellsSuch (λ bytes. TakesOrder (given_in order).text (given_in order).said (marked (given_in order).mark u) now bytes w later) b c
    → TellsSuch (λ bytes. Attends t waiting left a bytes w later last c) a c
attends_more t u w waiting now later left fewer last order ms a b c before on ms_is next may more = record {
  bytes = before.bytes ++ more.bytes;
  are = comes order more.bytes w later last c before.are (subst (λ (n : ℕ). NextIs n fewer order last) ms_is next) on may more.are more.tells;
  tells = tells_trans a b c before.bytes more.bytes before.tells more.tells;
}

pub attends_none : (t u : Stood) (waiting now : List Waited) (left fewer last : Option (List Timed)) (ms : ℕ) (a b : Stand)
    → TellsSuch (λ bytes. Attends t waiting left a bytes u now fewer b) a b → ms ≡ u.tender.ticks
    → (NoneIsDue ms fewer last) ⊎ (((MOST_WAITING ≤ length now) ⊎ (MANY_ANSWERS ≤ waiting_count Answer b)) × Stays fewer last)
    → TellsSuch (λ bytes. AttendsAll t waiting left a bytes u now last b) a b
attends_none t u waiting now left fewer last ms a b before ms_is (inl none_there) =
    record { bytes = before.bytes; are = none_due last before.are (subst (λ (n : ℕ). NoneIsDue n fewer last) ms_is none_there); tells = before.tells }
attends_none t u waiting now left fewer last ms a b before ms_is (inr (inl many, same)) =
    record { bytes = before.bytes; are = full last before.are many same; tells = before.tells }
attends_none t u waiting now left fewer last ms a b before ms_is (inr (inr many, same)) =
    record { bytes = before.bytes; are = answers_wait last before.are many same; tells = before.tells }

pub attends_over : (t u : Stood) (waiting now : List Waited) (left fewer : Option (List Timed)) (a b : Stand)
    → TellsSuch (λ bytes. Attends t waiting left a bytes u now fewer b) a b → goes_on_by u.ending ≡ false
    → TellsSuch (λ bytes. AttendsAll t waiting left a bytes u now fewer b) a b
attends_over t u waiting now left fewer a b before is = record { bytes = before.bytes; are = over before.are is; tells = before.tells }

-- ---- the next order

-- an order that came ahead of its turn, if none is due or none was asked for
pub ahead_next : (now : ℕ) (o m n : Option (List Timed)) (text : List ℕ) → NoneIsDue now o m → ComesAhead m n → NextIs now o text n
ahead_next now None m n text none_there ahead = tt
ahead_next now (Some []) None n text none_there ahead = absurd none_there
ahead_next now (Some []) (Some left) n text none_there ahead = absurd ahead
ahead_next now (Some (o ∷ os)) None n text none_there ahead = absurd none_there
ahead_next now (Some (o ∷ os)) (Some left) n text none_there ahead = absurd ahead

pub ahead_at_once : (now : ℕ) (o n : Option (List Timed)) (text : List ℕ) → ComesAhead o n → NextIs now o text n
ahead_at_once now None n text ahead = tt
ahead_at_once now (Some os) n text ahead = absurd ahead

pub none_still : (now : ℕ) (o m n : Option (List Timed)) → NoneIsDue now o m → Stays m n → NoneIsDue now o n
none_still now None m n none_there same = tt
none_still now (Some []) None n none_there same = absurd none_there
none_still now (Some []) (Some left) None none_there same = absurd same
none_still now (Some []) (Some left) (Some last) none_there same = same ∙ none_there
none_still now (Some (o ∷ os)) None n none_there same = absurd none_there
none_still now (Some (o ∷ os)) (Some left) None none_there same = absurd same
none_still now (Some (o ∷ os)) (Some left) (Some last) none_there same = (same ∙ none_there.0, none_there.1)

pub ends_ahead : {A E : Type 0} (r : Result (Option A) E) (f : A → List ℕ) (now : ℕ) (o n : Option (List Timed))
    → IfOk r (λ (x : Option A). IfSome x (λ (a : A). ComesAhead o n)) → IfOk r (λ (x : Option A). IfSome x (λ (a : A). NextIs now o (f a) n))
ends_ahead (Ok (Some a)) f now o n ahead = ahead_at_once now o n (f a) ahead
ends_ahead (Ok None) f now o n ahead = tt
ends_ahead (Err e) f now o n ahead = tt

pub ends_behind : {A E : Type 0} (r : Result (Option A) E) (f : A → List ℕ) (now : ℕ) (o m n : Option (List Timed)) → NoneIsDue now o m
    → IfOk r (λ (x : Option A). IfSome x (λ (a : A). ComesAhead m n)) → IfOk r (λ (x : Option A). IfSome x (λ (a : A). NextIs now o (f a) n))
ends_behind (Ok (Some a)) f now o m n none_there ahead = ahead_next now o m n (f a) none_there ahead
ends_behind (Ok None) f now o m n none_there ahead = tt
ends_behind (Err e) f now o m n none_there ahead = tt

pub none_read : {A E W : Type 0} (r : Result (Option A) E) (now : ℕ) (o n : Option (List Timed)) → W
    → IfOk r (λ (x : Option A). IsNone x → Stays o n) → IfOk r (λ (x : Option A). IsNone x → (NoneIsDue now o n) ⊎ (W × Stays o n))
none_read (Ok x) now o n why same = λ none. inr (why, same none)
none_read (Err e) now o n why same = tt

pub none_ended : {A E : Type 0} (W : Type 0) (r : Result (Option A) E) (now : ℕ) (o m n : Option (List Timed)) → NoneIsDue now o m
    → IfOk r (λ (x : Option A). IsNone x → Stays m n) → IfOk r (λ (x : Option A). IsNone x → (NoneIsDue now o n) ⊎ (W × Stays o n))
none_ended W (Ok x) now o m n none_there same = λ none. inl (none_still now o m n none_there (same none))
none_ended W (Err e) now o m n none_there same = tt

-- an order that ends the run may come at any time
pub ends_may : {A E : Type 0} (r : Result (Option A) E) (f : A → List ℕ) (waiting : List Waited) (b : Stand)
    → IfOk r (λ (x : Option A). IfSome x (λ (t : A). is_end_order (f t) ≡ true)) → IfOk r (λ (x : Option A). IfSome x (λ (t : A). MayCome (f t) waiting b))
ends_may (Ok (Some t)) f waiting b ends_it = inr ends_it
ends_may (Ok None) f waiting b ends_it = tt
ends_may (Err e) f waiting b ends_it = tt

-- ---- a round

-- Waiting lines are written, and nothing more is reported.
still_told : (a b c : Stand) (bytes : List ToldLine) → TellsLines a b bytes → MovesOn b c → TellsLines a c bytes
still_told a b c bytes tells moves =
    subst (λ (ls : List ToldLine). TellsLines a c ls) (append-nil bytes) (tells_trans a b c bytes [] tells (tells_moved b c moves))

pub is_round : (ahead late : ℕ) (p q : SetPlace) (goes_on : Bool) (carried ticked tended calm minded last : Tended) (obeyed departed : Stood) (messages : ℕ)
    (w b c moved d : Stand) (f g h : Option (List Traffic)) → Grows f g [] → TellsLines p.reports w (late_told p.stood.tender.ticks late)
    → Made (λ bytes traffic. CarriesAll ahead p.stood.tender p.wires (length p.wires) bytes traffic carried q.wires) w b g h → Ticks carried ticked
    → Tends ticked tended → TellsSuch (λ bytes. TellsAll tended bytes calm) b c → MovesOn c moved → messages ≡ waiting_count Message moved → Minds messages calm minded
    → TellsSuch (λ bytes. AttendsAll (record p.stood { tender = minded }) p.waiting p.left moved bytes obeyed q.waiting q.left d) moved d
    → Departs obeyed departed → TellsSuch (λ bytes. TellsAll departed.tender bytes last) d q.reports → q.stood ≡ record departed { tender = last }
    → goes_on ≡ goes_on_by q.stood.ending → Made (λ bytes traffic. IsRound ahead late p bytes traffic goes_on q) p.reports q.reports f h
is_round ahead late p q goes_on carried ticked tended calm minded last obeyed departed messages w b c moved d f g h none_given zeroth first ticks tends second moves counted minds third departs fourth stood_is goes =
    let begun : List ToldLine = late_told p.stood.tender.ticks late in
    let told_so : TellsLines p.reports c ((begun ++ first.bytes) ++ second.bytes) =
    tells_trans p.reports b c (begun ++ first.bytes) second.bytes (tells_trans p.reports w b begun first.bytes zeroth first.tells) second.tells in
    record {
      bytes = (((begun ++ first.bytes) ++ second.bytes) ++ third.bytes) ++ fourth.bytes;
      traffic = first.traffic;
      are = record {
        carried = carried;
        first = first.bytes;
        carries = first.are;
        ticked = ticked;
        ticks = ticks;
        tended = tended;
        tends = tends;
        calm = calm;
        second = second.bytes;
        tells = second.are;
        told = c;
        first_told = told_so;
        moved = moved;
        moves = moves;
        minded = minded;
        minds = subst (λ (n : ℕ). Minds n calm minded) counted minds;
        obeyed = obeyed;
        third = third.bytes;
        attended = d;
        third_told = third.tells;
        attends = third.are;
        departed = departed;
        departs = departs;
        last = last;
        fourth = fourth.bytes;
        tells_more = fourth.are;
        fourth_told = fourth.tells;
        stood_is = stood_is;
        goes = goes;
        are = refl;
      };
      tells =
          tells_trans p.reports d q.reports (((begun ++ first.bytes) ++ second.bytes) ++ third.bytes) fourth.bytes
          (tells_trans p.reports moved d ((begun ++ first.bytes) ++ second.bytes) third.bytes
          (still_told p.reports c moved ((begun ++ first.bytes) ++ second.bytes) told_so moves) third.tells)
          fourth.tells;
      gives = grows_same f g h first.traffic none_given first.gives;
    }
