-- A link set on lines when a run begins.
use Rattle.std.proofs.Common.{ap, ◌≡◌, ◌∙◌, ℕ, ◌+◌, Bool, true, true≢false, List, [], ◌∷◌, ◌++◌, length, Option, Result, Ok, Err, OnOk, is_ok, refl, sym, subst, arith, length-append}
use Rattle.std.proofs.lemmas.List.Elements.{All-nil, All-cons, All-append}
use Rattle.line_tending.specs.LinkLines.{IsNewWire}
use Rattle.line_tending.specs.declared.link_line.LinkLine.{LinkLine}
use Rattle.line_filter.proofs.Reporting.{tells_none, tells_trans}
use Rattle.line_filter.specs.Orders.{Timed}
use Rattle.line_filter.specs.Reporting.{Stand}
use Rattle.line_tending.specs.Tended.{Tended}
use Rattle.line_play.proofs.SetRounds.{grows_none, grows_then, grows_last}
use Rattle.line_play.specs.LineTraffic.{Traffic, Grows}
use Rattle.line_play.specs.SetDesks.{IsNewCount, AreNewCounts, AreNewWires, place_of, IsNewSetDesk, Ran, RanFrom}
use Rattle.line_play.specs.SetRounds.{Made, SetPlace, IsRound, Rounds, begins, round}
use Rattle.line_play.specs.declared.set.desk.SetDesk.{SetDesk}
use Rattle.line_play.specs.declared.set.measures.Since.{Since}

pub no_wires : (ws : List LinkLine) → ws ≡ [] → AreNewWires 0 ws
no_wires ws none_there = subst (λ (xs : List LinkLine). AreNewWires 0 xs) (sym none_there) (record { count = refl; new = All-nil IsNewWire })

pub one_wire : (n : ℕ) (old new : List LinkLine) (w : LinkLine) → IsNewWire w → new ≡ old ++ w ∷ [] → AreNewWires n old → AreNewWires (n + 1) new
one_wire n old new w is more so_far =
    let count : length (old ++ w ∷ []) ≡ n + 1 = omega (arith, length-append old (w ∷ []), so_far.count) in
    subst (λ (xs : List LinkLine). AreNewWires (n + 1) xs) (sym more)
    (record { count = count; new = All-append IsNewWire old (w ∷ []) so_far.new (All-cons IsNewWire w [] is (All-nil IsNewWire)) })

pub all_wires : (n m : ℕ) (ws : List LinkLine) → n ≡ m → AreNewWires n ws → AreNewWires m ws
all_wires n m ws all so_far = record { count = so_far.count ∙ all; new = so_far.new }

pub no_counts : (ss : List Since) → ss ≡ [] → AreNewCounts 0 ss
no_counts ss none_there = subst (λ (xs : List Since). AreNewCounts 0 xs) (sym none_there) (record { count = refl; new = All-nil IsNewCount })

pub one_count : (n : ℕ) (old new : List Since) (s : Since) → IsNewCount s → new ≡ old ++ s ∷ [] → AreNewCounts n old → AreNewCounts (n + 1) new
one_count n old new s is more so_far =
    let count : length (old ++ s ∷ []) ≡ n + 1 = omega (arith, length-append old (s ∷ []), so_far.count) in
    subst (λ (xs : List Since). AreNewCounts (n + 1) xs) (sym more)
    (record { count = count; new = All-append IsNewCount old (s ∷ []) so_far.new (All-cons IsNewCount s [] is (All-nil IsNewCount)) })

pub all_counts : (n m : ℕ) (ss : List Since) → n ≡ m → AreNewCounts n ss → AreNewCounts m ss
all_counts n m ss all so_far = record { count = so_far.count ∙ all; new = so_far.new }

-- ---- rounds

pub rounds_none : (ahead : ℕ) (p : SetPlace) (a : Stand) (f : Option (List Traffic)) → Made (λ bytes traffic. Rounds ahead p bytes traffic true p) a a f f
rounds_none ahead p a f = record { bytes = []; traffic = []; are = begins; tells = tells_none a; gives = grows_none f }

-- one more round, with the value that `ahead` had then
pub rounds_more : {late : ℕ} (ahead now : ℕ) (p q r : SetPlace) (goes_on : Bool) (a b c : Stand) (f g h : Option (List Traffic)) → now ≡ ahead
    → Made (λ bytes traffic. Rounds ahead p bytes traffic true q) a b f g → Made (λ bytes traffic. IsRound now late q bytes traffic goes_on r) b c g h
    → Made (λ bytes traffic. Rounds ahead p bytes traffic goes_on r) a c f h
rounds_more {late} ahead now p q r goes_on a b c f g h same before more = record {
  bytes = before.bytes ++ more.bytes;
  traffic = before.traffic ++ more.traffic;
  are = round more.bytes more.traffic goes_on before.are (subst (λ (n : ℕ). IsRound n late q more.bytes more.traffic goes_on r) same more.are);
  tells = tells_trans a b c before.bytes more.bytes before.tells more.tells;
  gives = grows_then f g h before.traffic more.traffic before.gives more.gives;
}

-- the run goes on; the lines were asked whether they are over, which changes nothing
pub rounds_on : (ahead : ℕ) (p q : SetPlace) (goes_on : Bool) (a b : Stand) (f g h : Option (List Traffic)) → goes_on ≡ true
    → Made (λ bytes traffic. Rounds ahead p bytes traffic goes_on q) a b f g → Grows g h [] → Made (λ bytes traffic. Rounds ahead p bytes traffic true q) a b f h
rounds_on ahead p q goes_on a b f g h is made none_given = record {
  bytes = made.bytes;
  traffic = made.traffic;
  are = subst (λ (x : Bool). Rounds ahead p made.bytes made.traffic x q) is made.are;
  tells = made.tells;
  gives = grows_last f g h made.traffic made.gives none_given;
}

-- one more round, with the value that `ahead` had then, and the run has ended
pub has_run : {late : ℕ} (ahead now : ℕ) (p q r : SetPlace) (goes_on : Bool) (a b c : Stand) (f g h : Option (List Traffic)) → now ≡ ahead
    → Made (λ bytes traffic. Rounds ahead p bytes traffic true q) a b f g → Made (λ bytes traffic. IsRound now late q bytes traffic goes_on r) b c g h
    → Made (λ bytes traffic. Ran ahead p bytes traffic r) a c f h
has_run {late} ahead now p q r goes_on a b c f g h same before more = record {
  bytes = before.bytes ++ more.bytes;
  traffic = before.traffic ++ more.traffic;
  are = record {
    goes_on = goes_on;
    rounds = round more.bytes more.traffic goes_on before.are (subst (λ (n : ℕ). IsRound n late q more.bytes more.traffic goes_on r) same more.are);
    some = refl;
  };
  tells = tells_trans a b c before.bytes more.bytes before.tells more.tells;
  gives = grows_then f g h before.traffic more.traffic before.gives more.gives;
}

-- after the round the lines were asked whether they are over
pub has_run_on : (ahead : ℕ) (p q : SetPlace) (a b : Stand) (f g h : Option (List Traffic)) → Made (λ bytes traffic. Ran ahead p bytes traffic q) a b f g → Grows g h []
    → Made (λ bytes traffic. Ran ahead p bytes traffic q) a b f h
has_run_on ahead p q a b f g h made none_given = record {
  bytes = made.bytes;
  traffic = made.traffic;
  are = made.are;
  tells = made.tells;
  gives = grows_last f g h made.traffic made.gives none_given;
}

-- a new link set on lines ran
pub ran_from : {A E O P : Type 0} (r : Result A E) (left : O → Option (List Timed)) (stand : P → Stand) (tender : Tended) (ahead : ℕ) (orders : O) (reports : P) (old new : SetDesk O P)
    (f g : Option (List Traffic)) → IsNewSetDesk tender ahead orders reports old
    → OnOk r (Made (λ bytes traffic. Ran old.ahead (place_of left stand old) bytes traffic (place_of left stand new)) (stand old.reports) (stand new.reports) f g)
    → OnOk r (RanFrom ahead tender (left orders) (left new.orders) (stand reports) (stand new.reports) f g)
ran_from (Err e) left stand tender ahead orders reports old new f g is made = tt
ran_from (Ok v) left stand tender ahead orders reports old new f g is made =
    let last : SetPlace = place_of left stand new in
    let before : stand old.reports ≡ stand reports = ap stand is.reports_are in
    let at : Made (λ bytes traffic. Ran ahead (place_of left stand old) bytes traffic last) (stand old.reports) (stand new.reports) f g =
    subst (λ (n : ℕ). Made (λ bytes traffic. Ran n (place_of left stand old) bytes traffic last) (stand old.reports) (stand new.reports) f g) is.ahead_is made in
    record {
      first = place_of left stand old;
      left_is = ap left is.orders_are;
      reports_are = before;
      set = is.set;
      wires = is.wires;
      focus = is.focus;
      since = is.since;
      stays = is.stays;
      none_wait = is.none_wait;
      last = last;
      left_later = refl;
      reports_later = refl;
      made = subst (λ (s : Stand). Made (λ bytes traffic. Ran ahead (place_of left stand old) bytes traffic last) s (stand new.reports) f g) before at;
    }
