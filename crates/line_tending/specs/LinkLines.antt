-- The octets received and sent on the line of a link of a set.
use Rattle.std.specs.Prelude.{◌≡◌, ℕ, ◌+◌, ◌-◌, ◌^◌, ◌%◌, ◌<◌, ◌==◌, ◌&&◌, nat_le, min}
use Rattle.std.specs.Prelude.{if◌then◌else◌, List, [], ◌∷◌, ◌++◌, length, replicate, take, drop}
use Rattle.std.specs.Prelude.{Option}
use Rattle.su_octets.specs.declared.units.Unit as units
use Rattle.line_filter.specs.Acts.{Act, asked, heard, passed, reported, obeyed}
use Rattle.line_filter.specs.Speaking.{Voice, Gives, IsSilent}
use Rattle.link_group.specs.Doing.{Listened, Sent}
use Rattle.link_group.specs.Lines.{ByLink}
use Rattle.line_tending.specs.Rounds.{Adds, AddsHeeded}
use Rattle.line_tending.specs.Tended.{Tended}
use Rattle.line_tending.specs.declared.link_line.LineChange.{LineChange}
use Rattle.line_tending.specs.declared.link_line.LineChange.TheVariants.{Same, Silent, Back}
use Rattle.line_tending.specs.declared.link_line.LinkLine.{LinkLine}

-- Asked for its next unit, a link returns it, and nothing else changes.
pub record Asks (link : ℕ) (unit : Option units.Unit) (old new : Tended) : Type 0 where
  pub sent : ByLink (Sent unit) link old.set new.set
  pub same : new ≡ record old { set = new.set }

-- A link of a set is asked for its next unit; it does nothing else while octets are sent.
abbrev pub gives_units : ℕ → Tended → Act → Tended → Type 0
gives_units link t (asked unit) u = Asks link unit t u
gives_units link t (heard octet) u = ⊥
gives_units link t passed u = ⊥
gives_units link t (reported text) u = ⊥
gives_units link t (obeyed order answer) u = ⊥

abbrev pub GivesNext : ℕ → Tended → Voice → ℕ → Tended → Voice → Type 0
GivesNext link t v octet u w = Gives (gives_units link) t v octet u w

-- `count` octets are appended in turn: the stuffing of the link's units, and 1s if it has none.
pub data Speaks (link : ℕ) : ℕ → Tended → Voice → List ℕ → Tended → Voice → List ℕ → Type 0 where
  nothing : (t : Tended) (v : Voice) (out : List ℕ) → Speaks link 0 t v out t v out
  octet : {count : ℕ} {t u w : Tended} {v x y : Voice} {out after : List ℕ} (gives : ℕ)
      → Speaks link count t v out u x after → GivesNext link u x gives w y
      → Speaks link (count + 1) t v out w y (after ++ gives ∷ [])

-- ---- received octets

-- A link hears the first of some octets, and its reports are heeded.
pub record HearsPart (link : ℕ) (old : Tended) (octets left : List ℕ) (new : Tended) : Type 0 where
  pub taken : ℕ
  pub middle : Tended
  pub listens : ByLink (Listened octets taken) link old.set middle.set
  pub adds : Adds old middle
  pub heeds : AddsHeeded middle new
  pub left_is : left ≡ drop taken octets

-- The link hears all octets, part by part.
pub data Hears (link : ℕ) (t : Tended) : List ℕ → Tended → Type 0 where
  no_part : Hears link t [] t
  one_part : {octets : List ℕ} {u w : Tended} (rest left : List ℕ)
      → Hears link t octets u → (part : HearsPart link u rest left w)
      → Hears link t (octets ++ take part.taken rest) w

-- ---- a round

-- The rounds without octets after which a line counts as silent.
abbrev pub PATIENCE : ℕ
PATIENCE = 1000

abbrev pub SILENCE : ℕ
SILENCE = 255

abbrev pub rounds_on : ℕ → ℕ
rounds_on quiet = min (2 ^ 64 - 1) (quiet + 1)

-- The octets sent in a round without received octets: each 1,000 rounds as many 1s as at the
-- beginning of the line.
abbrev pub ahead_at : ℕ → ℕ → List ℕ
ahead_at ahead quiet =
    if nat_le PATIENCE quiet && (quiet % PATIENCE == 0) then replicate ahead SILENCE else []

-- The octets that a link hears from a silent or missing line.
abbrev pub SILENT : List ℕ
SILENT = replicate 8 SILENCE

-- The octets that a link hears in a round without received octets.
abbrev pub heard_at : ℕ → List ℕ
heard_at quiet = if nat_le PATIENCE quiet then SILENT else []

-- A line falls silent in the 1,000th round without received octets.
abbrev pub passed_by : ℕ → LineChange
passed_by quiet = if quiet == PATIENCE then Silent else Same

-- When octets are received, a silent line is no longer silent.
abbrev pub passed_on : ℕ → LineChange
passed_on quiet = if nat_le PATIENCE quiet then Back else Same

-- A round without received octets.
pub record Waits (link ahead quiet : ℕ) (old : Tended) (out : List ℕ) (passed : LineChange)
    (new : Tended) (after : List ℕ) (next : ℕ) : Type 0 where
  pub next_is : next ≡ rounds_on quiet
  pub hears : Hears link old (heard_at next) new
  pub out_is : after ≡ out ++ ahead_at ahead next
  pub passed_is : passed ≡ passed_by next

-- A round of a line: the link heard octets and one is sent for each, or none were received.
pub data Passes (link ahead : ℕ) (came : List ℕ) (old : Tended) (w : LinkLine) (out : List ℕ)
    (passed : LineChange) (new : Tended) (x : LinkLine) (after : List ℕ) : Type 0 where
  some : (heard : Tended) → 0 < length came → Hears link old came heard
      → Speaks link (length came) heard w.voice out new x.voice after → x.quiet ≡ 0
      → passed ≡ passed_on w.quiet
      → Passes link ahead came old w out passed new x after
  none : came ≡ [] → x.voice ≡ w.voice → Waits link ahead w.quiet old out passed new after x.quiet
      → Passes link ahead came old w out passed new x after

-- A line on which no octet was received or sent.
pub record IsNewWire (w : LinkLine) : Type 0 where
  pub silent : IsSilent w.voice
  pub quiet : w.quiet ≡ 0
