-- The lines written of those that are reported, and the lines that wait.
use Rattle.std.proofs.Common.{◌≡◌, ◌∙◌, ℕ, ◌+◌, ◌<◌, Bool, true, false, length, length-append, List, [], ◌∷◌, ◌++◌, Option, None, Some, IsNone, option_map, slice_get, refl, sym, ap, subst, append_assoc, append-nil, arith}
use Rattle.std.proofs.lemmas.Grind.{flat_map-append}
use Rattle.rtrb.specs.Ring.{sent, known_free}
use Rattle.line_filter.specs.declared.reports.Wait.{Wait}
use Rattle.line_filter.specs.Reporting.{ToldLine, queued, octets_of, has_to_wait, Queues, went, waits_behind, counted, GoFirst, MovesOn, TellsLine, IsToGo}
use Rattle.std.specs.Fmt.{decimal}
use Rattle.line_streams.specs.Departing.{loss_line, stand_in, HasNoRoom, IsStuck, FirstGoes, NoneGoes, GoesOrWaits, goes_now, waits_now, MovesFar, TellsOn, goes, is_kept, is_lost, ReportsOn, TellsLost, none_lost, some_lost, no_room, EndsOn}
use Rattle.line_streams.specs.Known.{stand_of}
use Rattle.line_streams.specs.declared.departures.Departures.{Departures}
use Rattle.line_streams.specs.declared.opening.ReportStream.{ReportStream}
use Rattle.line_streams.specs.declared.opening.ReportStream.TheVariants.{Fifo as to_fifo}
use Rattle.line_streams.specs.declared.outlet.Outlet.{Outlet}

octets-append : (xs ys : List ToldLine) → octets_of (xs ++ ys) ≡ octets_of xs ++ octets_of ys
octets-append xs ys = flat_map-append (λ l. l.octets) xs ys

-- ---- waiting lines are written

first_none : (gone : List ℕ) (waits : List ToldLine) → GoFirst gone waits gone waits
first_none gone waits = record { first = []; parts = refl; goes = sym (append-nil gone) }

first_then : (gone mid later : List ℕ) (waits left last : List ToldLine) → GoFirst gone waits mid left → GoFirst mid left later last → GoFirst gone waits later last
first_then gone mid later waits left last one next = record {
  first = one.first ++ next.first;
  parts = one.parts ∙ (ap (λ (ls : List ToldLine). one.first ++ ls) next.parts ∙ sym (append_assoc one.first next.first last));
  goes =
      next.goes
      ∙ (ap (λ (os : List ℕ). os ++ octets_of next.first) one.goes
      ∙ (append_assoc gone (octets_of one.first) (octets_of next.first) ∙ ap (λ (os : List ℕ). gone ++ os) (sym (octets-append one.first next.first))));
}

first_as : (gone later gone_is later_is : List ℕ) (waits left waits_is left_is : List ToldLine) → gone ≡ gone_is → waits ≡ waits_is → later_is ≡ later → left_is ≡ left
    → GoFirst gone waits later left → GoFirst gone_is waits_is later_is left_is
first_as gone later gone_is later_is waits left waits_is left_is g w l f goes_so = record {
  first = goes_so.first;
  parts = sym w ∙ (goes_so.parts ∙ ap (λ (ls : List ToldLine). goes_so.first ++ ls) (sym f));
  goes = l ∙ (goes_so.goes ∙ ap (λ (os : List ℕ). os ++ octets_of goes_so.first) g);
}

pub moves_none : (a b : Outlet) → sent b.ring ≡ sent a.ring → b.backlog ≡ a.backlog → b.lost ≡ a.lost → MovesOn (stand_in a) (stand_in b)
moves_none a b same waits lost =
    (first_as (sent a.ring) (sent a.ring) (sent a.ring) (sent b.ring) a.backlog a.backlog a.backlog b.backlog refl refl same waits (first_none (sent a.ring) a.backlog), lost)

pub moves_then : (a b c : Outlet) → MovesOn (stand_in a) (stand_in b) → MovesOn (stand_in b) (stand_in c) → MovesOn (stand_in a) (stand_in c)
moves_then a b c one next =
    (first_then (sent a.ring) (sent b.ring) (sent c.ring) a.backlog b.backlog c.backlog one.0 next.0, next.1 ∙ one.1)

one_first : (gone later : List ℕ) (first : ToldLine) (waits left : List ToldLine) → waits ≡ first ∷ left → later ≡ gone ++ first.octets → GoFirst gone waits later left
one_first gone later first waits left is grown = record {
  first = first ∷ [];
  parts = is;
  goes = grown ∙ ap (λ (os : List ℕ). gone ++ os) (sym (append-nil first.octets));
}

-- The first of them is written, or none is.
pub moves_first : (a b : Outlet) (count : ℕ) → FirstGoes a b count → MovesOn (stand_in a) (stand_in b)
moves_first a b count g = (
  first_as (sent a.ring) (sent b.ring) (sent a.ring) (sent b.ring) a.backlog g.left a.backlog b.backlog refl refl refl g.others
      (one_first (sent a.ring) (sent b.ring) g.first a.backlog g.left g.waits g.goes),
  g.lost,
)

pub moves_not : (a b : Outlet) → NoneGoes a b → MovesOn (stand_in a) (stand_in b)
moves_not a b g = moves_none a b g.same g.others g.lost

pub moves_far : (a b c : Outlet) → MovesOn (stand_in a) (stand_in b) → NoneGoes b c → MovesFar a c
moves_far a b c moves g = record { moves = moves_then a b c moves (moves_not b c g); stuck = g.stuck }

pub far_on : (a d c : Outlet) → sent d.ring ≡ sent a.ring → d.backlog ≡ a.backlog → d.lost ≡ a.lost → MovesFar d c → MovesFar a c
far_on a d c same waits lost far = record { moves = moves_then a d c (moves_none a d same waits lost) far.moves; stuck = far.stuck }

fewer : (xs left : List ToldLine) (first : ToldLine) → xs ≡ first ∷ left → length left < length xs
fewer xs left first is = omega (arith, ap (λ (ls : List ToldLine). length ls) is)

-- one line fewer waits
pub waits_less : (a b : Outlet) (count : ℕ) → FirstGoes a b count → length b.backlog < length a.backlog
waits_less a b count g = subst (λ (ls : List ToldLine). length ls < length a.backlog) (sym g.others) (fewer a.backlog g.left g.first g.waits)

-- ---- the first line

pub is_none_so : (o : Option ℕ) → ((x : ℕ) → o ≡ Some x → ⊥) → IsNone o
is_none_so None isnt = refl
is_none_so (Some x) isnt = absurd (isnt x refl)

pub none_waits : (ws : List ToldLine) → None ≡ option_map (λ (line : ToldLine). line.octets) (slice_get ws 0) → (first : ToldLine) (left : List ToldLine)
    → ws ≡ first ∷ left → ⊥
none_waits [] none first left is = absurd (let e : [] ≡ first ∷ left = is in cc)
none_waits (w ∷ ws) none first left is = absurd (let e : None ≡ Some w.octets = none in cc)

pub none_goes_on : (a : Outlet) → None ≡ option_map (λ (line : ToldLine). line.octets) (slice_get a.backlog 0) → NoneGoes a a
none_goes_on a none = record { same = refl; others = refl; lost = refl; stuck = λ first left is. absurd (none_waits a.backlog none first left is) }

abbrev octets_in : Option (List ℕ) → List ℕ
octets_in None = []
octets_in (Some os) = os

first_waits : (ws : List ToldLine) (octets : List ℕ) → Some octets ≡ option_map (λ (line : ToldLine). line.octets) (slice_get ws 0)
    → (first : ToldLine) × (left : List ToldLine) × (ws ≡ first ∷ left) × (octets ≡ first.octets)
first_waits [] octets some = absurd (let e : Some octets ≡ None = some in cc)
first_waits (w ∷ ws) octets some = (w, ws, refl, ap (λ (o : Option (List ℕ)). octets_in o) some)

abbrev head_of : ToldLine → List ToldLine → ToldLine
head_of other [] = other
head_of other (l ∷ ls) = l

abbrev tail_of : List ToldLine → List ToldLine
tail_of [] = []
tail_of (l ∷ ls) = ls

pub no_room_for : (a c : Outlet) (octets : List ℕ) → Some octets ≡ option_map (λ (line : ToldLine). line.octets) (slice_get a.backlog 0) → sent c.ring ≡ sent a.ring
    → known_free c.ring < length octets → c.backlog ≡ a.backlog → c.lost ≡ a.lost → NoneGoes a c
no_room_for a c octets some same full waits lost =
    let f = first_waits a.backlog octets some in
    record {
      same = same;
      others = waits;
      lost = lost;
      stuck = λ first left is.
          let e : f.0 ∷ f.1 ≡ first ∷ left = sym f.2 ∙ (sym waits ∙ is) in
          subst (λ (os : List ℕ). known_free c.ring < length os) (f.3 ∙ ap (λ (ls : List ToldLine). (head_of first ls).octets) e) full;
    }

pub first_goes_on : (a c : Outlet) (octets : List ℕ) (count : ℕ) → Some octets ≡ option_map (λ (line : ToldLine). line.octets) (slice_get a.backlog 0)
    → sent c.ring ≡ sent a.ring ++ octets → ((first : ToldLine) → (left : List ToldLine) → a.backlog ≡ first ∷ left → c.backlog ≡ left) → c.lost ≡ a.lost
    → count ≡ length octets → FirstGoes a c count
first_goes_on a c octets count some grown dropped lost size =
    let f = first_waits a.backlog octets some in
    record {
      first = f.0;
      left = f.1;
      waits = f.2;
      goes = grown ∙ ap (λ (os : List ℕ). sent a.ring ++ os) f.3;
      others = dropped f.0 f.1 f.2;
      lost = lost;
      counted = size ∙ ap (λ (os : List ℕ). length os) f.3;
    }

pub grown_by : (a b : Outlet) (count : ℕ) → FirstGoes a b count → length (sent b.ring) ≡ length (sent a.ring) + count
grown_by a b count g =
    let e : length (sent b.ring) ≡ length (sent a.ring ++ g.first.octets) = ap (λ (os : List ℕ). length os) g.goes in
    omega (arith, e, length-append (sent a.ring) g.first.octets, g.counted)

-- ---- octets that wait if there is no room

alone_is : (line first : ToldLine) (waits others left : List ToldLine) → others ≡ [] → waits ≡ others ++ line ∷ [] → waits ≡ first ∷ left → first ∷ left ≡ line ∷ []
alone_is line first waits others left none put is = sym is ∙ (put ∙ ap (λ (ls : List ToldLine). ls ++ line ∷ []) none)

pub alone_goes : (wait : Wait) (text : List ℕ) (a b c : Outlet) (count : ℕ) → a.backlog ≡ [] → b.backlog ≡ a.backlog ++ record { wait = wait; octets = text } ∷ []
    → sent b.ring ≡ sent a.ring → b.lost ≡ 0 → FirstGoes b c count → GoesOrWaits wait text a c
alone_goes wait text a b c count none put same zero g =
    let line : ToldLine = record { wait = wait; octets = text } in
    let e : g.first ∷ g.left ≡ line ∷ [] = alone_is line g.first b.backlog a.backlog g.left none put g.waits in
    goes_now none
    (g.goes ∙ (ap (λ (os : List ℕ). os ++ g.first.octets) same ∙ ap (λ (ls : List ToldLine). sent a.ring ++ (head_of line ls).octets) e))
    (g.others ∙ ap (λ (ls : List ToldLine). tail_of ls) e) (g.lost ∙ zero)

pub alone_stays : (wait : Wait) (text : List ℕ) (a b c : Outlet) → a.backlog ≡ [] → b.backlog ≡ a.backlog ++ record { wait = wait; octets = text } ∷ []
    → sent b.ring ≡ sent a.ring → b.lost ≡ 0 → NoneGoes b c → GoesOrWaits wait text a c
alone_stays wait text a b c none put same zero g =
    let line : ToldLine = record { wait = wait; octets = text } in
    waits_now (λ empty. g.stuck line [] (g.others ∙ (put ∙ ap (λ (ls : List ToldLine). ls ++ line ∷ []) none))) (g.same ∙ same) (g.others ∙ put) (g.lost ∙ zero)

pub not_alone : (wait : Wait) (text : List ℕ) (a c : Outlet) → (a.backlog ≡ [] → ⊥) → c.backlog ≡ a.backlog ++ record { wait = wait; octets = text } ∷ []
    → sent c.ring ≡ sent a.ring → c.lost ≡ 0 → GoesOrWaits wait text a c
not_alone wait text a c others put same zero = waits_now (λ empty. absurd (others empty)) same put zero

-- ---- a line is reported

-- the waiting lines that are left, and one more
behind : (gone later : List ℕ) (waits left : List ToldLine) (more : List ToldLine) → GoFirst gone waits later left → GoFirst gone (waits ++ more) later (left ++ more)
behind gone later waits left more goes_so = record {
  first = goes_so.first;
  parts = ap (λ (ls : List ToldLine). ls ++ more) goes_so.parts ∙ append_assoc goes_so.first left more;
  goes = goes_so.goes;
}

-- if none is left, all were written
all_gone : (gone later : List ℕ) (waits left : List ToldLine) → left ≡ [] → GoFirst gone waits later left → later ≡ gone ++ octets_of waits
all_gone gone later waits left none goes_so =
    goes_so.goes
    ∙ ap (λ (ls : List ToldLine). gone ++ octets_of ls)
    (sym (append-nil goes_so.first) ∙ (ap (λ (ls : List ToldLine). goes_so.first ++ ls) (sym none) ∙ sym goes_so.parts))

queues_on : (line : ToldLine) (a m c : Outlet) → MovesOn (stand_in a) (stand_in m) → TellsOn line m c
    → Queues line (sent a.ring) a.backlog a.lost (sent c.ring) c.backlog c.lost
queues_on line a m c moves (goes text none to_go grown left zero) =
    went text (subst (λ (n : ℕ). IsToGo n line.octets text) moves.1 to_go)
    (grown ∙ ap (λ (os : List ℕ). os ++ text) (all_gone (sent a.ring) (sent m.ring) a.backlog m.backlog none moves.0)) left zero
queues_on line a m c moves (is_kept text to_go waits full same left zero) =
    waits_behind text (subst (λ (n : ℕ). IsToGo n line.octets text) moves.1 to_go) waits
    (first_as (sent a.ring) (sent m.ring) (sent a.ring) (sent c.ring) (a.backlog ++ record { wait = line.wait; octets = text } ∷ [])
    (m.backlog ++ record { wait = line.wait; octets = text } ∷ []) (a.backlog ++ record { wait = line.wait; octets = text } ∷ []) c.backlog refl refl same left
    (behind (sent a.ring) (sent m.ring) a.backlog m.backlog (record { wait = line.wait; octets = text } ∷ []) moves.0)) zero
queues_on line a m c moves (is_lost text to_go never full same left more) =
    counted never
    (first_as (sent a.ring) (sent m.ring) (sent a.ring) (sent c.ring) a.backlog m.backlog a.backlog c.backlog refl refl same left moves.0)
    (more ∙ ap (λ (n : ℕ). n + 1) moves.1)

pub reports_queue : (line : ToldLine) (a c : Outlet) → ReportsOn line a c → TellsLine (stand_in a) (stand_in c) line
reports_queue line a c reports = queues_on line a reports.middle c reports.moves.moves reports.tells

pub told_to_fifo : {H E : Type 0} (contents : E → Option (List ℕ)) (line : ToldLine) (s : ReportStream H E) (old new : Departures) → s ≡ to_fifo old
    → ReportsOn line old.outlet new.outlet → TellsLine (stand_of contents s) (stand_in new.outlet) line
told_to_fifo {H} {E} contents line s old new is told =
    let P : ReportStream H E → Type 0 = λ r. TellsLine (stand_of contents r) (stand_in new.outlet) line in
    subst P (sym is) (reports_queue line old.outlet new.outlet told)

pub moved_to_fifo : {H E : Type 0} (contents : E → Option (List ℕ)) (s : ReportStream H E) (old new : Departures) → s ≡ to_fifo old
    → MovesOn (stand_in old.outlet) (stand_in new.outlet) → MovesOn (stand_of contents s) (stand_in new.outlet)
moved_to_fifo {H} {E} contents s old new is moves =
    let P : ReportStream H E → Type 0 = λ r. MovesOn (stand_of contents r) (stand_in new.outlet) in
    subst P (sym is) moves

-- A line that has to wait is written, or waits.
pub queued_on : (line : ToldLine) (a c : Outlet) (text : List ℕ) → IsToGo a.lost line.octets text → has_to_wait line.wait ≡ true → GoesOrWaits line.wait text a c
    → TellsOn line a c
queued_on line a c text to_go waits (goes_now none grown left zero) = goes text none to_go grown left zero
queued_on line a c text to_go waits (waits_now full same left zero) = is_kept text to_go waits full same left zero

-- ---- the end

none_first : (first left : List ToldLine) → [] ≡ first ++ left → first ≡ []
none_first [] left is = refl
none_first (x ∷ first) left is = absurd (let e : [] ≡ x ∷ (first ++ left) = is in cc)

none_left : (first left : List ToldLine) → [] ≡ first ++ left → left ≡ []
none_left [] left is = sym is
none_left (x ∷ first) left is = absurd (let e : [] ≡ x ∷ (first ++ left) = is in cc)

-- if none waits, none is written
still_gone : (gone later : List ℕ) (waits left : List ToldLine) → waits ≡ [] → GoFirst gone waits later left → later ≡ gone
still_gone gone later waits left none goes_so =
    goes_so.goes ∙ (ap (λ (ls : List ToldLine). gone ++ octets_of ls) (none_first goes_so.first left (sym none ∙ goes_so.parts)) ∙ append-nil gone)

still_none : (gone later : List ℕ) (waits left : List ToldLine) → waits ≡ [] → GoFirst gone waits later left → left ≡ []
still_none gone later waits left none goes_so = none_left goes_so.first left (sym none ∙ goes_so.parts)

not_lost : (n m : ℕ) → n ≡ m → m ≡ 0 → 0 < n → ⊥
not_lost n m same none some = absurd (omega (arith, same, none, some))

-- the lines reported so far, and no more
told_still : (now : ℕ) (m b k c : Outlet) → 0 < m.lost → m.backlog ≡ [] → b.backlog ≡ [] → sent b.ring ≡ sent m.ring ++ loss_line (decimal now) m.lost → b.lost ≡ 0
    → MovesOn (stand_in b) (stand_in k) → TellsLost now k c → TellsLost now m c
told_still now m b k c some none after told zero moves (none_lost clear same left still) =
    some_lost some none (left ∙ still_none (sent b.ring) (sent k.ring) b.backlog k.backlog after moves.0)
    (same ∙ (still_gone (sent b.ring) (sent k.ring) b.backlog k.backlog after moves.0 ∙ told)) still
told_still now m b k c some none after told zero moves (some_lost more others left grown still) = absurd (not_lost k.lost b.lost moves.1 zero more)
told_still now m b k c some none after told zero moves (no_room more full same left still) = absurd (not_lost k.lost b.lost moves.1 zero more)

ends_by : (now : ℕ) (a m b k c : Outlet) → MovesFar a m → TellsLost now m b → MovesFar b k → TellsLost now k c → EndsOn now a c
ends_by now a m b k c first (none_lost clear same left still) next last = record {
  middle = k;
  moves = record {
    moves = moves_then a m k first.moves (moves_then m b k (moves_none m b same left (still ∙ sym clear)) next.moves);
    stuck = next.stuck;
  };
  tells = last;
}
ends_by now a m b k c first (some_lost some none after told still) next last = record {
  middle = m;
  moves = first;
  tells = told_still now m b k c some none after told still next.moves last;
}
ends_by now a m b k c first (no_room some full same left still) next last = record {
  middle = k;
  moves = record { moves = moves_then a m k first.moves (moves_then m b k (moves_none m b same left still) next.moves); stuck = next.stuck };
  tells = last;
}

-- once more at the end
pub ends_then : (now : ℕ) (a b c : Outlet) → EndsOn now a b → EndsOn now b c → EndsOn now a c
ends_then now a b c one next = ends_by now a one.middle b next.middle c one.moves one.tells next.moves next.tells

-- once more, after the queue was looked at
pub ends_on : (now : ℕ) (a b d c : Outlet) → sent d.ring ≡ sent b.ring → d.backlog ≡ b.backlog → d.lost ≡ b.lost → EndsOn now a b → EndsOn now d c → EndsOn now a c
ends_on now a b d c ring waits lost one next =
    ends_then now a b c one (record { middle = next.middle; moves = far_on b d next.middle ring waits lost next.moves; tells = next.tells })
