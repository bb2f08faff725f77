-- The acts of a set while messages for level 3 wait for their reader.
use Rattle.std.specs.Prelude.{◌≡◌, ℕ, ◌+◌, ◌||◌, nat_lt, if◌then◌else◌, Bool, true, false, List}
use Rattle.std.specs.Prelude.{[], ◌∷◌}
use Rattle.std.specs.Prelude.{◌++◌}
use Rattle.link_group.specs.Lines.{ByCommand, IsCommandError}
use Rattle.link_group.specs.Set.{LinkSet}
use Rattle.link_processes.specs.declared.commands.Command.{Command}
use Rattle.link_processes.specs.declared.commands.Command.TheVariants as command
use Rattle.line_tending.specs.Cares.{later}
use Rattle.line_tending.specs.Giving.{IsBarred, WasGiven, StartsAs}
use Rattle.line_tending.specs.Orders.{is_ordered, ordered_of}
use Rattle.line_tending.specs.Rounds.{Does}
use Rattle.line_tending.specs.Tended.{Tended}
use Rattle.line_tending.specs.declared.link_duty.LinkDuty.{LinkDuty}
use Rattle.line_tending.specs.declared.ordered.Ordered.{Ordered}
use Rattle.line_tending.specs.declared.reader.Reader.{Reader}
use Rattle.line_tending.specs.declared.reader.Reader.TheVariants.{Here, Away, Gone}
use Rattle.line_tending.specs.declared.told.Told.{Told}
use Rattle.line_tending.specs.declared.told.Told.TheVariants as told

-- ---- the state of the reader

-- With so many waiting messages all links become busy. With fewer than `FEW` they are free again.
abbrev pub MANY : ℕ
MANY = 256

abbrev pub FEW : ℕ
FEW = 64

-- Ticks after which this side's processor is declared out, counted from when links became busy.
abbrev pub PATIENT : ℕ
PATIENT = 2000

--            fewer than 64 wait    64 to 255      256 and more
--   here     here                  here           away, since now
--   away     here                  away           away; after 2,000 ticks gone
--   gone     here                  gone           gone
unfoldable pub reader_next : ℕ → ℕ → Reader → Reader
reader_next messages now Here = if nat_lt messages MANY then Here else Away now
reader_next messages now (Away since) =
    if nat_lt messages FEW then Here
    else if nat_lt now (later since PATIENT) then Away since else Gone
reader_next messages now Gone = if nat_lt messages FEW then Here else Gone

-- All links are busy because of it.
abbrev pub is_busy : Reader → Bool
is_busy Here = false
is_busy (Away since) = true
is_busy Gone = true

-- This side's processor is out because of it.
abbrev pub is_out : Reader → Bool
is_out Here = false
is_out (Away since) = false
is_out Gone = true

-- ---- the effects on links

-- An order that would end what holds because of the reader is kept until that ends.
abbrev pub is_put_off : Reader → Command → Bool
is_put_off r command.PowerOn = false
is_put_off r command.Start = false
is_put_off r command.Stop = false
is_put_off r command.Emergency = false
is_put_off r command.Calm = false
is_put_off r command.Outage = false
is_put_off r command.Back = is_out r
is_put_off r command.Busy = false
is_put_off r command.Free = is_busy r
is_put_off r command.Flush = false
is_put_off r command.Continue = false
is_put_off r command.Overload = false

-- The commands that each link is given when the reader's state changes.
abbrev pub commands_at : Reader → Reader → List Command
commands_at Here Here = []
commands_at Here (Away since) = command.Busy ∷ []
commands_at Here Gone = command.Outage ∷ command.Busy ∷ []
commands_at (Away since) Here = command.Free ∷ []
commands_at (Away since) (Away now) = []
commands_at (Away since) Gone = command.Outage ∷ []
commands_at Gone Here = command.Back ∷ command.Free ∷ []
commands_at Gone (Away now) = command.Back ∷ []
commands_at Gone Gone = []

-- A link is given commands in order. It may refuse one. One is left out if, and only if, level 3
-- ordered of the link what it begins or ends.
pub data Pressed (link : ℕ) (o : Ordered) (c : LinkSet) : List Command → LinkSet → Type 0 where
  no_command : Pressed link o c [] c
  gives : {ks : List Command} {d e : LinkSet} (k : Command) → Pressed link o c ks d
      → is_ordered o k ≡ false → ByCommand k link d e → Pressed link o c (ks ++ k ∷ []) e
  refuses : {ks : List Command} {d e : LinkSet} (k : Command) → Pressed link o c ks d
      → is_ordered o k ≡ false → IsBarred (IsCommandError k link d e)
      → Pressed link o c (ks ++ k ∷ []) e
  leaves : {ks : List Command} {d : LinkSet} (k : Command) → Pressed link o c ks d
      → is_ordered o k ≡ true → Pressed link o c (ks ++ k ∷ []) d

-- A link starts with its processor out: that was ordered, or the reader is gone.
abbrev pub starts_out : Reader → Ordered → Bool
starts_out r o = o.outage || is_out r

-- A link that was started is given what holds because of the reader, and the outage that was
-- ordered.
pub record Holds (link : ℕ) (r : Reader) (o : Ordered) (old new : LinkSet) : Type 0 where
  pub middle : LinkSet
  pub outage :
      starts_out r o ≡ true
      → WasGiven (ByCommand command.Outage link old middle)
      (IsCommandError command.Outage link old middle)
  pub none : starts_out r o ≡ false → middle ≡ old
  pub busy : is_busy r ≡ true → Pressed link o middle (command.Busy ∷ []) new
  pub free : is_busy r ≡ false → new ≡ middle

-- A link is given Start. If it takes it, it is given what holds.
pub record StartsHeld (c : LinkDuty) (another_serves : Bool) (link : ℕ) (r : Reader) (o : Ordered)
    (old new : LinkSet) (took : Bool) : Type 0 where
  pub started : LinkSet
  pub starts : StartsAs c another_serves link old started took
  pub holds : took ≡ true → Holds link r o started new
  pub rests : took ≡ false → new ≡ started

-- The first `count` links are given these commands, one link after another.
pub data PressesEach (ks : List Command) (os : List Ordered) (c : LinkSet) :
    ℕ → LinkSet → Type 0 where
  no_link : PressesEach ks os c 0 c
  one_link : {count : ℕ} {d e : LinkSet} → PressesEach ks os c count d
      → Pressed count (ordered_of count os) d ks e → PressesEach ks os c (count + 1) e

-- The report that it went away, or came back.
abbrev pub news_of : Bool → Bool → List Told
news_of false false = []
news_of false true = told.ReaderAway ∷ []
news_of true false = told.ReaderBack ∷ []
news_of true true = []

-- So many messages wait for their reader. The reader's state follows from that, and each link is
-- given the commands of the change. That the reader went away or came back is reported.
pub record Minds (messages : ℕ) (old new : Tended) : Type 0 where
  pub reader : new.reader ≡ reader_next messages old.ticks old.reader
  pub presses :
      PressesEach (commands_at old.reader new.reader) old.ordered old.set old.plan.links new.set
  pub news : new.news ≡ old.news ++ news_of (is_busy old.reader) (is_busy new.reader)
  pub does : Does old (record new { reader = old.reader; news = old.news })
