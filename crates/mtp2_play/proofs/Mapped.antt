-- The acts of a terminal with an extra part on a line, mapped to the acts of the terminal itself.
use Rattle.std.proofs.Common.{◌≡◌, ℕ, Bool, List, Option, ap}
use Rattle.line_filter.specs.Acts.{Act}
use Rattle.line_filter.specs.Filters.{Goes, Serves, Served, IsOver, ServesPart, IsBegun, Streams, Line}
use Rattle.line_filter.specs.Reporting.{ToldLine}
use Rattle.line_filter.specs.Orders.{Timed, Tells, nothing, says, TellsAll, Obeys}
use Rattle.line_filter.specs.Runs.{State, Exchanges, ObeysDue, no_order, one_order, looks, ObeysAll, Minds, Behind, between, eighth, Steps, Runs, begins, octet}
use Rattle.line_filter.specs.Speaking.{Voice, Gives, fixed, fresh, silent}
use Rattle.line_filter.specs.declared.filter.Bits.{Bits}

-- each act of the first is mapped to an act of the second
abbrev pub Maps : {A B : Type 0} → (A → B) → (A → Act → A → Type 0) → (B → Act → B → Type 0) → Type 0
Maps {A = A} f acts others = (a : A) (e : Act) (b : A) → acts a e b → others (f a) e (f b)

abbrev pub at : {A B : Type 0} → (A → B) → State A → State B
at f s = record { term = f s.term; voice = s.voice; left = s.left }

gives : {A B : Type 0} (f : A → B) (acts : A → Act → A → Type 0) (others : B → Act → B → Type 0) (m : Maps f acts others) (t : A) (v : Voice) (o : ℕ) (u : A) (w : Voice)
    → Gives acts t v o u w → Gives others (f t) v o (f u) w
gives f acts others m t v o u w (fixed ready sending same) = fixed ready sending (ap f same)
gives f acts others m t v o u w (fresh unit ready act stuffs) = fresh unit ready (m _ _ _ act) stuffs
gives f acts others m t v o u w (silent ready act none fills) = silent ready (m _ _ _ act) none fills

tells : {A B : Type 0} (f : A → B) (acts : A → Act → A → Type 0) (others : B → Act → B → Type 0) (m : Maps f acts others) (now : ℕ) (t : A) (bytes : List ToldLine) (u : A)
    → Tells acts now t bytes u → Tells others now (f t) bytes (f u)
tells f acts others m now t _ _ nothing = nothing
tells f acts others m now t _ _ (says text w before act) = says text (f w) (tells f acts others m now t _ _ before) (m _ _ _ act)

tells_all : {A B : Type 0} (f : A → B) (acts : A → Act → A → Type 0) (others : B → Act → B → Type 0) (m : Maps f acts others) (now : ℕ) (t : A) (bytes : List ToldLine) (u : A)
    → TellsAll acts now t bytes u → TellsAll others now (f t) bytes (f u)
tells_all f acts others m now t bytes u x =
    record { last = f x.last; tells = tells f acts others m now t bytes x.last x.tells; none_left = m _ _ _ x.none_left }

obeys : {A B : Type 0} (f : A → B) (acts : A → Act → A → Type 0) (others : B → Act → B → Type 0) (m : Maps f acts others) (now : ℕ) (t : A) (order : List ℕ) (bytes : List ToldLine) (u : A)
    → Obeys acts now t order bytes u → Obeys others now (f t) order bytes (f u)
obeys f acts others m now t order bytes u x = record {
  answer = x.answer;
  middle = f x.middle;
  act = m _ _ _ x.act;
  more = x.more;
  tells = tells_all f acts others m now x.middle x.more u x.tells;
  are = x.are;
}

obeys_due : {A B : Type 0} (f : A → B) (acts : A → Act → A → Type 0) (others : B → Act → B → Type 0) (m : Maps f acts others) (now : ℕ) (t : A)
    (left : Option (List Timed)) (bytes : List ToldLine) (u : A) (fewer : Option (List Timed))
    → ObeysDue acts now t left bytes u fewer → ObeysDue others now (f t) left bytes (f u) fewer
obeys_due f acts others m now t left _ _ _ no_order = no_order
obeys_due f acts others m now t left _ _ _ (one_order text more w last before next goes_on obeyed) =
    one_order text more (f w) last (obeys_due f acts others m now t left _ _ _ before) next goes_on (obeys f acts others m now _ text more w obeyed)
obeys_due f acts others m now t left _ _ _ (looks more last before looked) = looks more last (obeys_due f acts others m now t left _ _ _ before) looked

obeys_all : {A B : Type 0} (f : A → B) (acts : A → Act → A → Type 0) (others : B → Act → B → Type 0) (m : Maps f acts others) (now : ℕ) (s : State A) (bytes : List ToldLine)
    (goes_on : Bool) (t : State A) → ObeysAll acts now s bytes goes_on t → ObeysAll others now (at f s) bytes goes_on (at f t)
obeys_all f acts others m now s bytes goes_on t x = record {
  first = x.first;
  fewer = x.fewer;
  obeys = obeys_due f acts others m now s.term s.left x.first t.term x.fewer x.obeys;
  second = x.second;
  ends = x.ends;
  voice = x.voice;
  are = x.are;
}

minds : {A B : Type 0} (f : A → B) (acts : A → Act → A → Type 0) (others : B → Act → B → Type 0) (m : Maps f acts others) (now : ℕ) (s : State A) (bytes : List ToldLine)
    (goes_on : Bool) (t : State A) → Minds acts now s bytes goes_on t → Minds others now (at f s) bytes goes_on (at f t)
minds f acts others m now s bytes goes_on t x = record {
  ticked = f x.ticked;
  tick = m _ _ _ x.tick;
  first = x.first;
  calm = at f x.calm;
  tells = tells_all f acts others m now x.ticked x.first x.calm.term x.tells;
  voice = x.voice;
  orders = x.orders;
  second = x.second;
  obeys = obeys_all f acts others m now x.calm x.second goes_on t x.obeys;
  are = x.are;
}

behind : {A B : Type 0} (f : A → B) (acts : A → Act → A → Type 0) (others : B → Act → B → Type 0) (m : Maps f acts others) (count : ℕ) (s : State A) (bytes : List ToldLine)
    (goes_on : Bool) (t : State A) → Behind acts count s bytes goes_on t → Behind others count (at f s) bytes goes_on (at f t)
behind f acts others m count s _ _ _ (between not) = between not
behind f acts others m count s _ _ _ (eighth is x) = eighth is (minds f acts others m _ s _ _ _ x)

steps : {A B : Type 0} (f : A → B) (acts : A → Act → A → Type 0) (others : B → Act → B → Type 0) (m : Maps f acts others) (count : ℕ) (s : State A) (comes out : ℕ)
    (bytes : List ToldLine) (goes_on : Bool) (t : State A) → Steps acts count s comes out bytes goes_on t → Steps others count (at f s) comes out bytes goes_on (at f t)
steps f acts others m count s comes out bytes goes_on t x = record {
  middle = at f x.middle;
  first = x.first;
  exchanges = record {
    asked = f x.exchanges.asked;
    heard_it = f x.exchanges.heard_it;
    out = gives f acts others m s.term s.voice out x.exchanges.asked x.middle.voice x.exchanges.out;
    hears = m _ _ _ x.exchanges.hears;
    tells = tells_all f acts others m _ x.exchanges.heard_it x.first x.middle.term x.exchanges.tells;
    orders = x.exchanges.orders;
  };
  second = x.second;
  behind = behind f acts others m _ x.middle x.second goes_on t x.behind;
  are = x.are;
}

runs : {A B : Type 0} (f : A → B) (acts : A → Act → A → Type 0) (others : B → Act → B → Type 0) (m : Maps f acts others) (count : ℕ) (s : State A)
    (come out : List ℕ) (bytes : List ToldLine) (goes_on : Bool) (t : State A) → Runs acts count s come out bytes goes_on t
    → Runs others count (at f s) come out bytes goes_on (at f t)
runs f acts others m count s _ _ _ _ _ begins = begins
runs f acts others m count s _ _ _ _ _ (octet comes out more goes_on u before step) =
    octet comes out more goes_on (at f u) (runs f acts others m count s _ _ _ _ _ before) (steps f acts others m _ _ comes out more goes_on u step)

serves : {A B : Type 0} (f : A → B) (acts : A → Act → A → Type 0) (others : B → Act → B → Type 0) (m : Maps f acts others) (bits : Bits) (count : ℕ) (s : State A)
    (read written : List ℕ) (bytes : List ToldLine) (goes_on : Bool) (next : ℕ) (t : State A) → Serves acts bits count s read written bytes goes_on next t
    → Serves others bits count (at f s) read written bytes goes_on next (at f t)
serves f acts others m bits count s read written bytes goes_on next t x = record {
  out = x.out;
  goes = record {
    come = x.goes.come;
    dropped = x.goes.dropped;
    runs = runs f acts others m count s _ _ _ _ t x.goes.runs;
    all = x.goes.all;
    none_dropped = x.goes.none_dropped;
    counted = x.goes.counted;
  };
  written_is = x.written_is;
}

pub over : {A B : Type 0} (f : A → B) (acts : A → Act → A → Type 0) (others : B → Act → B → Type 0) (m : Maps f acts others) (bits : Bits) (ahead count : ℕ)
    (s : State A) (next : ℕ) (t : State A) (old new : Streams) → IsOver acts bits ahead count s next t old new
    → IsOver others bits ahead count (at f s) next (at f t) old new
over f acts others m bits ahead count s next t old new x = record {
  goes_on = x.goes_on;
  served = record {
    read = x.served.read;
    written = x.served.written;
    bytes = x.served.bytes;
    serves = serves f acts others m bits count s _ _ _ _ next t x.served.serves;
    consumes = x.served.consumes;
    appends = x.served.appends;
    tells = x.served.tells;
  };
  end_met = x.end_met;
}

pub begun : {A B : Type 0} (f : A → B) (acts : A → Act → A → Type 0) (others : B → Act → B → Type 0) (m : Maps f acts others) (bits : Bits) (ahead count : ℕ)
    (s : State A) (old new : Line) → IsBegun acts bits ahead count s old new → IsBegun others bits ahead count (at f s) old new
begun f acts others m bits ahead count s old new x = record {
  read = x.read;
  consumes = x.consumes;
  serves = record {
    come = x.serves.come;
    not_come = x.serves.not_come;
    all = x.serves.all;
    out = x.serves.out;
    bytes = x.serves.bytes;
    goes_on = x.serves.goes_on;
    last = at f x.serves.last;
    runs = runs f acts others m count s _ _ _ _ x.serves.last x.serves.runs;
    writes = x.serves.writes;
  };
}
