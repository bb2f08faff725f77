-- A round of a link set on lines: octets received and sent, orders obeyed, reports made.
use Rattle.std.specs.Prelude.{◌≡◌, ◌⊎◌, ℕ, ◌+◌, ◌<◌, ◌≤◌, ◌==◌, Bool, true, false, List, [], ◌∷◌}
use Rattle.std.specs.Prelude.{◌++◌, length, if◌then◌else◌, replicate, slice_get, slice_set, codes}
use Rattle.std.specs.Prelude.{Option, None, Some}
use Rattle.std.specs.Fmt.{decimal}
use Rattle.line_filter.specs.Orders.{Timed, NextIs, NoneIsDue, Stays, LooksAnew, told}
use Rattle.line_filter.specs.Says.{is_end_order}
use Rattle.line_filter.specs.Reporting.{Stand, ToldLine, TellsLines, MovesOn, kept, waiting_count}
use Rattle.line_filter.specs.declared.reports.Wait.TheVariants.{Message, Answer}
use Rattle.line_tending.specs.Readers.{Minds}
use Rattle.line_tending.specs.Rounds.{Tends, Ticks}
use Rattle.line_tending.specs.Telling.{report_in, news_by}
use Rattle.line_tending.specs.Tended.{Tended}
use Rattle.line_tending.specs.Texts.{told_text}
use Rattle.line_tending.specs.LinkLines.{Hears, Passes, SILENT}
use Rattle.line_tending.specs.declared.told.Told.{Told}
use Rattle.line_tending.specs.declared.link_line.LineChange.{LineChange}
use Rattle.line_tending.specs.declared.link_line.LineChange.TheVariants.{Same, Silent, Back}
use Rattle.line_tending.specs.declared.link_line.LinkLine.{LinkLine}
use Rattle.line_play.specs.SetDoing.{Stood, marked, now_of}
use Rattle.line_play.specs.SetGiven.{given_in}
use Rattle.line_play.specs.SetLeaving.{Departs, goes_on_by}
use Rattle.line_play.specs.SetQueues.{Waited, MOST_WAITING, Retries, TakesOrder}
use Rattle.line_play.specs.SetSaying.{wait_of}
use Rattle.line_play.specs.LineTraffic.{Traffic, line_says, Grows, coming, given, silence_for}
use Rattle.line_play.specs.declared.set.lines.LineNews.TheVariants as line

-- Lines were reported, and octets were taken from lines and given to them, that fulfil R.
pub record Made (R : List ToldLine → List Traffic → Type 0) (old new : Stand)
    (before after : Option (List Traffic)) : Type 0 where
  pub bytes : List ToldLine
  pub traffic : List Traffic
  pub are : R bytes traffic
  pub tells : TellsLines old new bytes
  pub gives : Grows before after traffic

-- ---- a line

-- the report about a line
abbrev pub line_told : ℕ → ℕ → List ℕ → List ToldLine
line_told now link what = told now (decimal link ++ (codes " line " ++ what))

abbrev pub passed_told : ℕ → ℕ → LineChange → List ToldLine
passed_told now link Same = []
passed_told now link Silent = line_told now link (codes "silent")
passed_told now link Back = line_told now link (codes "back")

-- the octets received on a line are passed to its link, and the octets to send are given to it
pub record PassesOn (link ahead : ℕ) (came : List ℕ) (t : Tended) (w : LinkLine)
    (bytes : List ToldLine) (traffic : List Traffic) (u : Tended) (x : LinkLine) : Type 0 where
  pub out : List ℕ
  pub passed : LineChange
  pub is_passed : Passes link ahead came t w [] passed u x out
  pub tells : bytes ≡ passed_told u.ticks link passed
  pub gives : traffic ≡ given link out

-- A round of a line. If it is open, its link receives the octets that came, and its octets are
-- sent. If it reports that it is closed, the link receives 1s. If it reports that it ended, failed
-- or was opened, that is reported; on opening, `ahead` octets of 1s are sent first.
pub data Carries (link ahead : ℕ) (t : Tended) (w : LinkLine) :
    List ToldLine → List Traffic → Tended → LinkLine → Type 0 where
  passes : {bytes : List ToldLine} {traffic : List Traffic} {u : Tended} {x : LinkLine}
      (came : List ℕ) → PassesOn link ahead came t w bytes traffic u x
      → Carries link ahead t w bytes (coming link came ++ traffic) u x
  misses : {u : Tended} → Hears link t SILENT u
      → Carries link ahead t w [] (line_says link line.Closed ∷ []) u w
  ends : Carries link ahead t w (line_told t.ticks link (codes "ended"))
      (line_says link line.Ended ∷ []) t w
  fails : Carries link ahead t w (line_told t.ticks link (codes "failed"))
      (line_says link line.Failed ∷ []) t w
  opens : Carries link ahead t w (line_told t.ticks link (codes "open"))
      (line_says link line.Opened ∷ replicate ahead (silence_for link)) t w

-- the line with this number
pub record CarriesAt (link ahead : ℕ) (t : Tended) (ws : List LinkLine) (bytes : List ToldLine)
    (traffic : List Traffic) (u : Tended) (xs : List LinkLine) : Type 0 where
  pub before : LinkLine
  pub after : LinkLine
  pub there : slice_get ws link ≡ Some before
  pub carries : Carries link ahead t before bytes traffic u after
  pub lines : xs ≡ slice_set ws link after

-- the first `count` lines, one after another
pub data CarriesAll (ahead : ℕ) (t : Tended) (ws : List LinkLine) :
    ℕ → List ToldLine → List Traffic → Tended → List LinkLine → Type 0 where
  no_link : CarriesAll ahead t ws 0 [] [] t ws
  one_link : {link : ℕ} {bytes : List ToldLine} {traffic : List Traffic} {u v : Tended}
      {xs ys : List LinkLine} (more : List ToldLine) (others : List Traffic)
      → CarriesAll ahead t ws link bytes traffic u xs
      → CarriesAt link ahead u xs more others v ys
      → CarriesAll ahead t ws (link + 1) (bytes ++ more) (traffic ++ others) v ys

-- ---- reports of the link set

-- the next report is taken
pub record Takes (t : Tended) (x : Told) (u : Tended) : Type 0 where
  pub reports : t.reports ≡ report_in x ++ u.reports
  pub news : t.news ≡ news_by x ++ u.news
  pub same : u ≡ record t { reports = u.reports; news = u.news }

-- reports are made one after another
pub data Tells (t : Tended) : List ToldLine → Tended → Type 0 where
  nothing : Tells t [] t
  one : {bytes : List ToldLine} {u w : Tended} (x : Told) → Tells t bytes u → Takes u x w
      → Tells t (bytes ++ kept (wait_of x) w.ticks (told_text x)) w

-- all reports are made: no report of a link or of the reader is left
pub record TellsAll (t : Tended) (bytes : List ToldLine) (u : Tended) : Type 0 where
  pub tells : Tells t bytes u
  pub none_left : u.reports ≡ []
  pub no_news : u.news ≡ []

-- ---- orders

-- While so many lines of answers wait for their reader, no order is read.
abbrev pub MANY_ANSWERS : ℕ
MANY_ANSWERS = 256

-- An order is read only while fewer orders wait than may, and fewer lines of answers than that; at
-- other times only one that ends the run.
abbrev pub MayCome : List ℕ → List Waited → Stand → Type 0
MayCome order waiting reports =
    ((length waiting < MOST_WAITING) × (waiting_count Answer reports < MANY_ANSWERS))
    ⊎ (is_end_order order ≡ true)

-- Waiting orders are tried again. Then those that are due come in order, each as it is given. New
-- beginnings of the orders are reported. `a` is the state of the reports at first.
pub data Attends (p : Stood) (waiting : List Waited) (left : Option (List Timed)) (a : Stand) :
    List ToldLine → Stood → List Waited → Option (List Timed) → Stand → Type 0 where
  waited : {bytes : List ToldLine} {q : Stood} {now : List Waited} {b : Stand}
      → Retries p waiting bytes q now → TellsLines a b bytes
      → Attends p waiting left a bytes q now left b
  comes : {bytes : List ToldLine} {q : Stood} {now : List Waited} {fewer : Option (List Timed)}
      {b : Stand} (order : List ℕ) (more : List ToldLine) (r : Stood) (later : List Waited)
      (last : Option (List Timed)) (c : Stand)
      → Attends p waiting left a bytes q now fewer b → NextIs q.tender.ticks fewer order last
      → goes_on_by q.ending ≡ true → MayCome order now b
      → TakesOrder (given_in order).text (given_in order).said (marked (given_in order).mark q) now
      more r later
      → TellsLines b c more
      → Attends p waiting left a (bytes ++ more) r later last c
  looks : {bytes : List ToldLine} {q : Stood} {now : List Waited} {fewer : Option (List Timed)}
      {b : Stand} (more : List ToldLine) (last : Option (List Timed)) (c : Stand)
      → Attends p waiting left a bytes q now fewer b → LooksAnew q.tender.ticks fewer more last
      → TellsLines b c more
      → Attends p waiting left a (bytes ++ more) q now last c

-- This goes on until no order is due, no more may wait, so many answers wait for their reader, or
-- the run is over.
pub data AttendsAll (p : Stood) (waiting : List Waited) (left : Option (List Timed)) (a : Stand) :
    List ToldLine → Stood → List Waited → Option (List Timed) → Stand → Type 0 where
  none_due : {bytes : List ToldLine} {q : Stood} {now : List Waited} {fewer : Option (List Timed)}
      {b : Stand} (last : Option (List Timed))
      → Attends p waiting left a bytes q now fewer b → NoneIsDue q.tender.ticks fewer last
      → AttendsAll p waiting left a bytes q now last b
  full : {bytes : List ToldLine} {q : Stood} {now : List Waited} {fewer : Option (List Timed)}
      {b : Stand} (last : Option (List Timed))
      → Attends p waiting left a bytes q now fewer b → MOST_WAITING ≤ length now → Stays fewer last
      → AttendsAll p waiting left a bytes q now last b
  answers_wait : {bytes : List ToldLine} {q : Stood} {now : List Waited}
      {fewer : Option (List Timed)} {b : Stand} (last : Option (List Timed))
      → Attends p waiting left a bytes q now fewer b → MANY_ANSWERS ≤ waiting_count Answer b
      → Stays fewer last
      → AttendsAll p waiting left a bytes q now last b
  over : {bytes : List ToldLine} {q : Stood} {now : List Waited} {fewer : Option (List Timed)}
      {b : Stand}
      → Attends p waiting left a bytes q now fewer b → goes_on_by q.ending ≡ false
      → AttendsAll p waiting left a bytes q now fewer b

-- ---- a round

-- the report that rounds of so many milliseconds have to be made up, if any
abbrev pub late_told : ℕ → ℕ → List ToldLine
late_told now late = if late == 0 then [] else told now (codes "late " ++ decimal late)

pub record SetPlace : Type 0 where
  pub stood : Stood
  -- the octets to send on each line, and how long it has been silent
  pub wires : List LinkLine
  -- the orders that wait
  pub waiting : List Waited
  -- the orders still to come, if they are known
  pub left : Option (List Timed)
  -- the state of the reports
  pub reports : Stand

-- A round that is reported to be late by so many milliseconds, if any. Each link receives the
-- octets of its line, and its octets are sent; a tick passes; the links are tended; all reports are
-- made; of the lines that wait the first may be written, and the set acts on the number of messages
-- that wait for their reader then; orders are obeyed; if the run is to end, what is due of that is
-- done; and the reports of these acts are made.
pub record IsRound (ahead late : ℕ) (p : SetPlace) (bytes : List ToldLine)
    (traffic : List Traffic) (goes_on : Bool) (q : SetPlace) : Type 0 where
  pub carried : Tended
  pub first : List ToldLine
  pub carries :
      CarriesAll ahead p.stood.tender p.wires (length p.wires) first traffic carried q.wires
  pub ticked : Tended
  pub ticks : Ticks carried ticked
  pub tended : Tended
  pub tends : Tends ticked tended
  pub calm : Tended
  pub second : List ToldLine
  pub tells : TellsAll tended second calm
  pub told : Stand
  pub first_told :
      TellsLines p.reports told ((late_told (now_of p.stood) late ++ first) ++ second)
  pub moved : Stand
  pub moves : MovesOn told moved
  pub minded : Tended
  pub minds : Minds (waiting_count Message moved) calm minded
  pub obeyed : Stood
  pub third : List ToldLine
  pub attended : Stand
  pub third_told : TellsLines moved attended third
  pub attends :
      AttendsAll (record p.stood { tender = minded }) p.waiting p.left moved third obeyed q.waiting
      q.left attended
  pub departed : Stood
  pub departs : Departs obeyed departed
  pub last : Tended
  pub fourth : List ToldLine
  pub tells_more : TellsAll departed.tender fourth last
  pub fourth_told : TellsLines attended q.reports fourth
  pub stood_is : q.stood ≡ record departed { tender = last }
  pub goes : goes_on ≡ goes_on_by q.stood.ending
  pub are : bytes ≡ (((late_told (now_of p.stood) late ++ first) ++ second) ++ third) ++ fourth

-- rounds, one after another, up to one that ends the run
pub data Rounds (ahead : ℕ) (p : SetPlace) :
    List ToldLine → List Traffic → Bool → SetPlace → Type 0 where
  begins : Rounds ahead p [] [] true p
  round : {bytes : List ToldLine} {traffic : List Traffic} {q r : SetPlace} {late : ℕ}
      (more : List ToldLine) (others : List Traffic) (goes_on : Bool)
      → Rounds ahead p bytes traffic true q → IsRound ahead late q more others goes_on r
      → Rounds ahead p (bytes ++ more) (traffic ++ others) goes_on r
