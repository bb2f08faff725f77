-- The acts because of the reader of messages, one after another.
use Rattle.std.proofs.Common.{◌≡◌, ◌∙◌, ℕ, ◌+◌, ◌≤◌, Bool, true, false, List, [], ◌∷◌, ◌++◌, append_assoc, append-nil, if◌then◌else◌, Result, OnOk, IfOk, IfErr, OnErr, Ok, Err, true≢false, refl, sym, ap, subst, arith}
use Rattle.std.proofs.lemmas.Result.{on_ok_weaker}
use Rattle.link_group.specs.Lines.{ByCommand, IsCommandError}
use Rattle.link_group.specs.Set.{LinkSet}
use Rattle.link_processes.specs.declared.commands.Command.{Command}
use Rattle.link_processes.specs.declared.commands.Command.TheVariants as command
use Rattle.line_tending.specs.Calling.{Handed, ByCalls}
use Rattle.line_tending.specs.Giving.{IsGiven, WasGiven, StartsAs}
use Rattle.line_tending.specs.Orders.{is_ordered, ordered_of, after_order, is_down, after_down, ordered_after}
use Rattle.line_tending.specs.Readers.{Holds, StartsHeld, starts_out, is_busy, Pressed, no_command, gives, refuses, leaves, PressesEach, no_link, one_link, commands_at, is_put_off, reader_next, Minds, news_of}
use Rattle.line_tending.specs.Rounds.{Does, Adds}
use Rattle.line_tending.specs.Tended.{Tended}
use Rattle.line_tending.specs.declared.link_duty.LinkDuty.{LinkDuty}
use Rattle.line_tending.specs.declared.ordered.Ordered.{Ordered}
use Rattle.line_tending.specs.declared.reader.Reader.{Reader}
use Rattle.line_tending.specs.declared.told.Told.{Told}
use Rattle.line_tending.proofs.Doing.{adds_of, does_nothing}

-- ---- orders that are put off

pub put_off_of : {A E : Type 0} (r : Result A E) (k : Command) (t u w : Tended) → u ≡ t → OnOk r (is_put_off u.reader k ≡ true → w ≡ record u { ordered = w.ordered })
    → OnOk r (is_put_off t.reader k ≡ true → w ≡ record t { ordered = w.ordered })
put_off_of r k t u w same later =
    on_ok_weaker r
    (λ (h : is_put_off u.reader k ≡ true → w ≡ record u { ordered = w.ordered }) (is : is_put_off t.reader k ≡ true).
    h (ap (λ (x : Tended). is_put_off x.reader k) same ∙ is) ∙ ap (λ (x : Tended). record x { ordered = w.ordered }) same)
    later

pub noted_of : {A E : Type 0} (r : Result A E) (l : ℕ) (k : Command) (P : Type 0) (t u w : Tended) → u ≡ t → OnOk r (w.ordered ≡ after_order l k u.ordered)
    → OnOk r (P → w.ordered ≡ after_order l k t.ordered)
noted_of r l k P t u w same noted =
    on_ok_weaker r (λ (h : w.ordered ≡ after_order l k u.ordered) (other : P). h ∙ ap (λ (x : Tended). after_order l k x.ordered) same) noted

pub given_of : {A E : Type 0} (r : Result A E) (k : Command) (l : ℕ) (P : Type 0) (t u w : Tended) → u ≡ t → OnOk r (is_put_off u.reader k ≡ false → ByCommand k l u.set w.set)
    → OnOk r (P → is_put_off t.reader k ≡ false → ByCommand k l t.set w.set)
given_of r k l P t u w same by =
    on_ok_weaker r
    (λ (h : is_put_off u.reader k ≡ false → ByCommand k l u.set w.set) (other : P) (is : is_put_off t.reader k ≡ false).
    subst (λ (x : Tended). ByCommand k l x.set w.set) same (h (ap (λ (x : Tended). is_put_off x.reader k) same ∙ is)))
    by

pub kept_of : {A E : Type 0} (r : Result A E) (t u w : Tended) → u ≡ t → OnErr r (w.ordered ≡ u.ordered) → OnErr r (w.ordered ≡ t.ordered)
kept_of (Ok a) t u w same kept = tt
kept_of (Err e) t u w same kept = kept ∙ ap (λ (x : Tended). x.ordered) same

-- An order is noted after the state of its link.
pub noted_same : (t u w : Tended) (os : List Ordered) → u ≡ t → w ≡ record u { ordered = os } → w ≡ record t { ordered = w.ordered }
noted_same t u w os same noted =
    let is : os ≡ w.ordered = sym (ap (λ (x : Tended). x.ordered) noted) in
    noted ∙ (ap (λ (x : Tended). record x { ordered = os }) same ∙ ap (λ (l : List Ordered). record t { ordered = l }) is)

pub noted_after : (s t u w : Tended) (l : ℕ) (k : Command) → t.ordered ≡ s.ordered → u ≡ t → w ≡ record u { ordered = after_order l k u.ordered }
    → w.ordered ≡ after_order l k s.ordered
noted_after s t u w l k first same noted =
    ap (λ (x : Tended). x.ordered) noted ∙ ap (after_order l k) (ap (λ (x : Tended). x.ordered) same ∙ first)

-- ---- commands, one after another

pub pressed_then : (l : ℕ) (o : Ordered) (c m : LinkSet) (firsts ms : List Command) (w : LinkSet) → Pressed l o c firsts m → Pressed l o m ms w → Pressed l o c (firsts ++ ms) w
pressed_then l o c m firsts _ _ first no_command = let P : List Command → Type 0 = λ xs. Pressed l o c xs m in subst P (sym (append-nil firsts)) first
pressed_then l o c m firsts _ _ first (gives {ks} {d} {e} k before free by) =
    let P : List Command → Type 0 = λ xs. Pressed l o c xs e in
    subst P (append_assoc firsts ks (k ∷ [])) (gives k (pressed_then l o c m firsts ks d first before) free by)
pressed_then l o c m firsts _ _ first (refuses {ks} {d} {e} k before free by) =
    let P : List Command → Type 0 = λ xs. Pressed l o c xs e in
    subst P (append_assoc firsts ks (k ∷ [])) (refuses k (pressed_then l o c m firsts ks d first before) free by)
pressed_then l o c m firsts _ _ first (leaves {ks} {d} k before is) =
    let P : List Command → Type 0 = λ xs. Pressed l o c xs d in
    subst P (append_assoc firsts ks (k ∷ [])) (leaves k (pressed_then l o c m firsts ks d first before) is)

-- two commands, with what was ordered the same before the second
pub pressed_two : {A E : Type 0} (r : Result A E) (l : ℕ) (k m : Command) (t u w : Tended) → Pressed l (ordered_of l t.ordered) t.set (k ∷ []) u.set → Adds t u
    → OnOk r (Pressed l (ordered_of l u.ordered) u.set (m ∷ []) w.set) → OnOk r (Pressed l (ordered_of l t.ordered) t.set (k ∷ m ∷ []) w.set)
pressed_two r l k m t u w first adds second =
    let d : Does t u = adds_of t u adds in
    on_ok_weaker r
    (λ (h : Pressed l (ordered_of l u.ordered) u.set (m ∷ []) w.set).
    pressed_then l (ordered_of l t.ordered) t.set u.set (k ∷ []) (m ∷ []) w.set first
    (subst (λ (os : List Ordered). Pressed l (ordered_of l os) u.set (m ∷ []) w.set) d.ordered h))
    second

-- a command that was given, or refused
pressed_as : (l : ℕ) (o : Ordered) (k : Command) (c d : LinkSet) (took : Bool) → is_ordered o k ≡ false
    → IsGiven (ByCommand k l c d) (IsCommandError k l c d) took → Pressed l o c (k ∷ []) d
pressed_as l o k c d true free given = gives k no_command free given
pressed_as l o k c d false free given = refuses k no_command free given

pub pressed_by : (l : ℕ) (o : Ordered) (k : Command) (c d : LinkSet) → is_ordered o k ≡ false → WasGiven (ByCommand k l c d) (IsCommandError k l c d)
    → Pressed l o c (k ∷ []) d
pressed_by l o k c d free was = pressed_as l o k c d was.took free was.given

-- one that is left out
pub pressed_not : (l : ℕ) (o : Ordered) (k : Command) (c : LinkSet) → is_ordered o k ≡ true → Pressed l o c (k ∷ []) c
pressed_not l o k c is = leaves k no_command is

-- ---- all links

pub presses_all : (ks : List Command) (os : List Ordered) (c d : LinkSet) (count gone : ℕ) → PressesEach ks os c gone d → gone ≤ count → count ≤ gone → PressesEach ks os c count d
presses_all ks os c d count gone presses most least =
    let whole : gone ≡ count = omega arith in
    subst (λ (n : ℕ). PressesEach ks os c n d) whole presses

-- one link more, with what was ordered the same as at first
pub presses_more : (ks : List Command) (t u w : Tended) (count : ℕ) → Adds t u → PressesEach ks t.ordered t.set count u.set → Pressed count (ordered_of count u.ordered) u.set ks w.set
    → PressesEach ks t.ordered t.set (count + 1) w.set
presses_more ks t u w count adds before one =
    let d : Does t u = adds_of t u adds in
    one_link before (subst (λ (os : List Ordered). Pressed count (ordered_of count os) u.set ks w.set) d.ordered one)

-- The number of waiting messages is acted on, once the reader's state is known and reported.
minds_at : (messages : ℕ) (w v u : Tended) (is : Reader) (was_busy busy : Bool)
    → v ≡ record w { reader = is; news = w.news ++ news_of was_busy busy } → is ≡ reader_next messages w.ticks w.reader → was_busy ≡ is_busy w.reader
    → busy ≡ is_busy is → PressesEach (commands_at w.reader is) v.ordered v.set v.plan.links u.set → Does v u → Minds messages w u
minds_at messages w v u is was_busy busy same next was_is busy_is presses d =
    let reader_is : u.reader ≡ is = d.reader ∙ ap (λ (x : Tended). x.reader) same in
    let all : PressesEach (commands_at w.reader is) w.ordered w.set w.plan.links u.set =
    subst (λ (x : Tended). PressesEach (commands_at w.reader is) x.ordered x.set x.plan.links u.set) same presses in
    record {
      reader = reader_is ∙ next;
      presses = subst (λ (r : Reader). PressesEach (commands_at w.reader r) w.ordered w.set w.plan.links u.set) (sym reader_is) all;
      news =
          d.news
          ∙ (ap (λ (x : Tended). x.news) same
          ∙ (ap (λ (b : Bool). w.news ++ news_of b busy) was_is
          ∙ ap (λ (b : Bool). w.news ++ news_of (is_busy w.reader) b) (busy_is ∙ ap (λ (r : Reader). is_busy r) (sym reader_is))));
      does = record {
        calls = subst (λ (x : Tended). ByCalls x.set [] [] u.set) same d.calls;
        plan = d.plan ∙ ap (λ (x : Tended). x.plan) same;
        ticks = d.ticks ∙ ap (λ (x : Tended). x.ticks) same;
        reports = d.reports ∙ ap (λ (x : Tended). x.reports) same;
        reader = refl;
        news = refl;
        ordered = d.ordered ∙ ap (λ (x : Tended). x.ordered) same;
      };
    }

pub minds_of : {A E : Type 0} (messages : ℕ) (w t v u : Tended) (is : Reader) (was_busy busy : Bool) (r : Result A E) → w ≡ t
    → v ≡ record w { reader = is; news = w.news ++ news_of was_busy busy } → is ≡ reader_next messages w.ticks w.reader → was_busy ≡ is_busy w.reader
    → busy ≡ is_busy is → OnOk r (PressesEach (commands_at w.reader is) v.ordered v.set v.plan.links u.set) → OnOk r (Adds v u) → OnOk r (Minds messages t u)
minds_of messages w t v u is was_busy busy (Err e) whole same next was_is busy_is presses adds = tt
minds_of messages w t v u is was_busy busy (Ok a) whole same next was_is busy_is presses adds =
    subst (λ (x : Tended). Minds messages x u) whole (minds_at messages w v u is was_busy busy same next was_is busy_is presses (adds_of v u adds))

-- ---- reports about the reader

pub news_same : (t : Tended) (a b : Bool) → news_of a b ≡ [] → t ≡ record t { news = t.news ++ news_of a b }
news_same t a b none =
    ap (λ (xs : List Told). record t { news = xs }) (sym (append-nil t.news) ∙ ap (λ (ys : List Told). t.news ++ ys) (sym none))

pub news_so : {A E : Type 0} (r : Result A E) (t u : Tended) (a b : Bool) (ts : List Told) → news_of a b ≡ ts → OnOk r (u ≡ record t { news = t.news ++ ts })
    → OnOk r (u ≡ record t { news = t.news ++ news_of a b })
news_so r t u a b ts is same = on_ok_weaker r (λ (h : u ≡ record t { news = t.news ++ ts }). h ∙ ap (λ (ys : List Told). record t { news = t.news ++ ys }) (sym is)) same

-- ---- a link that was started

-- What holds, after the outage; the second call finds what the first left.
pub holds_of : {A E : Type 0} (r : Result A E) (l : ℕ) (t u w : Tended) → Adds t u
    → (starts_out t.reader (ordered_of l t.ordered) ≡ true → WasGiven (ByCommand command.Outage l t.set u.set) (IsCommandError command.Outage l t.set u.set))
    → (starts_out t.reader (ordered_of l t.ordered) ≡ false → u ≡ t)
    → OnOk r (is_busy u.reader ≡ true → Pressed l (ordered_of l u.ordered) u.set (command.Busy ∷ []) w.set) → OnOk r (is_busy u.reader ≡ false → w ≡ u)
    → OnOk r (Holds l t.reader (ordered_of l t.ordered) t.set w.set)
holds_of (Err e) l t u w adds outage none busy free = tt
holds_of (Ok a) l t u w adds outage none busy free =
    let d : Does t u = adds_of t u adds in
    record {
      middle = u.set;
      outage = outage;
      none = λ off. ap (λ (x : Tended). x.set) (none off);
      busy = λ is.
          subst (λ (os : List Ordered). Pressed l (ordered_of l os) u.set (command.Busy ∷ []) w.set) d.ordered (busy (ap (λ (r : Reader). is_busy r) d.reader ∙ is));
      free = λ is. ap (λ (x : Tended). x.set) (free (ap (λ (r : Reader). is_busy r) d.reader ∙ is));
    }

pub not_started : (c : LinkDuty) (another : Bool) (l : ℕ) (t u : Tended) (took : Bool) → took ≡ false → StartsAs c another l t.set u.set took
    → StartsHeld c another l t.reader (ordered_of l t.ordered) t.set u.set false
not_started c another l t u took is starts = record {
  started = u.set;
  starts = subst (λ (b : Bool). StartsAs c another l t.set u.set b) is starts;
  holds = λ so. absurd (true≢false (sym so));
  rests = λ off. refl;
}

pub started_held : (c : LinkDuty) (another : Bool) (l : ℕ) (t u w : Tended) (took : Bool) → took ≡ true → StartsAs c another l t.set u.set took → Adds t u
    → Holds l u.reader (ordered_of l u.ordered) u.set w.set → StartsHeld c another l t.reader (ordered_of l t.ordered) t.set w.set true
started_held c another l t u w took is starts adds holds =
    let d : Does t u = adds_of t u adds in
    record {
      started = u.set;
      starts = subst (λ (b : Bool). StartsAs c another l t.set u.set b) is starts;
      holds = λ so.
          subst (λ (r : Reader). Holds l r (ordered_of l t.ordered) u.set w.set) d.reader
          (subst (λ (os : List Ordered). Holds l u.reader (ordered_of l os) u.set w.set) d.ordered holds);
      rests = λ off. absurd (true≢false off);
    }

-- ---- the end of an order

pub ended_not : (t : Tended) (h : Handed) → is_down h.report ≡ false → t ≡ record t { ordered = ordered_after h t.ordered }
ended_not t h is = ap (λ (b : Bool). record t { ordered = if b then after_down h.link t.ordered else t.ordered }) (sym is)

pub ended_so : (t u : Tended) (h : Handed) → is_down h.report ≡ true → u ≡ record t { ordered = after_down h.link t.ordered }
    → u ≡ record t { ordered = ordered_after h t.ordered }
ended_so t u h is same = same ∙ ap (λ (b : Bool). record t { ordered = if b then after_down h.link t.ordered else t.ordered }) (sym is)
