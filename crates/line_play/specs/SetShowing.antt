-- The answers to orders that ask a question.
use Rattle.std.specs.Prelude.{ℕ, List, [], ◌++◌, codes, map, slice_get, unwrap_or, Option, None}
use Rattle.std.specs.Prelude.{Some}
use Rattle.std.specs.Fmt.{decimal}
use Rattle.std.specs.List.{flat_map}
use Rattle.script_ends.specs.MeasureNames.{measure_word, all_measures}
use Rattle.script_ends.specs.resend_store_types.measures.Measure.{Measure}
use Rattle.link_group.specs.Links.{read_at}
use Rattle.link_group.specs.Reading.{held_count, sent_count}
use Rattle.line_tending.specs.Sharing.{link_of, selections}
use Rattle.line_tending.specs.Tended.{Tended, link_count}
use Rattle.line_tending.specs.Texts.{table_text}
use Rattle.line_play.specs.SetCounting.{since_count, since_aborted, counted_by}
use Rattle.line_filter.specs.Reporting.{ToldLine}
use Rattle.line_play.specs.SetDoing.{Stood, answered, state_at, value_at, terminal_at}
use Rattle.line_play.specs.SetGiven.{first_links}
use Rattle.line_play.specs.SetOrders.{PlainSetOrder, on, links, state, value, measuring, aborted}
use Rattle.line_play.specs.SetOrders.{measures, resetting, send, table, held, unsure, rebalance}
use Rattle.line_play.specs.SetOrders.{reopen, quit, leave}

-- ---- of a link

-- the state of an actor, and the value of one of its variables, as a script prints them
abbrev pub state_text : List ℕ → ℕ → List ℕ → List ℕ
state_text process l line = decimal l ++ (codes " state " ++ (process ++ (codes " " ++ line)))

abbrev pub value_text : List ℕ → List ℕ → ℕ → List ℕ → List ℕ
value_text process variable l line =
    decimal l ++ (codes " value " ++ (process ++ (codes " " ++ (variable ++ (codes " " ++ line)))))

-- a count, with its name
abbrev pub count_text : List ℕ → ℕ → ℕ → List ℕ
count_text name l count =
    decimal l ++ (codes " measure " ++ (name ++ (codes " " ++ decimal count)))

-- the name of the count of aborted proving periods
abbrev pub ABORTED : List ℕ
ABORTED = codes "aborted_periods"

-- a count of a link
abbrev pub counted : Measure → Stood → ℕ → ℕ
counted m p l = counted_by (since_count m) (slice_get p.since l) (terminal_at p.tender l)

abbrev pub aborted_at : Stood → ℕ → ℕ
aborted_at p l = counted_by since_aborted (slice_get p.since l) (terminal_at p.tender l)

-- a line of the answer
abbrev pub count_told : Stood → ℕ → Measure → List ToldLine
count_told p l m = answered p (count_text (measure_word m) l (counted m p l))

abbrev pub aborted_told : Stood → ℕ → List ToldLine
aborted_told p l = answered p (count_text ABORTED l (aborted_at p l))

-- a line of a link, if the link exists
abbrev pub told_if : Stood → (List ℕ → List ℕ) → Option (List ℕ) → List ToldLine
told_if p text None = []
told_if p text (Some line) = answered p (text line)

-- the lines that answer an order
abbrev pub shown_of : PlainSetOrder → Stood → ℕ → List ToldLine
shown_of (on focus) p l = []
shown_of (links order) p l = []
shown_of (state process) p l =
    told_if p (state_text process l) (state_at process p.tender l)
shown_of (value process variable) p l =
    told_if p (value_text process variable l) (value_at process variable p.tender l)
shown_of (measuring measure) p l = count_told p l measure
shown_of aborted p l = aborted_told p l
shown_of measures p l = flat_map (count_told p l) all_measures ++ aborted_told p l
shown_of resetting p l = []
shown_of (send octets) p l = []
shown_of table p l = []
shown_of held p l = []
shown_of unsure p l = []
shown_of rebalance p l = []
shown_of reopen p l = []
shown_of quit p l = []
shown_of (leave seconds) p l = []

-- of the addressed links, one after another
abbrev pub shown_each : PlainSetOrder → Stood → List ℕ → List ToldLine
shown_each said p whom = flat_map (shown_of said p) whom

-- ---- of the link set

-- the number of messages that a link holds, and of those sent but not acknowledged
abbrev pub held_text : Tended → ℕ → List ℕ
held_text t l =
    decimal l
    ++ (codes " held "
    ++ (decimal (unwrap_or (read_at held_count (slice_get t.set.links l)) 0)
    ++ (codes " sent " ++ decimal (unwrap_or (read_at sent_count (slice_get t.set.links l)) 0))))

-- the lines of the first links, as many as stated
abbrev pub shown_held : Stood → ℕ → List ToldLine
shown_held p count = flat_map (λ (l : ℕ). answered p (held_text p.tender l)) (first_links count)

-- the link for each SLS value
abbrev pub table_of : Tended → List ℕ
table_of t = table_text (map (link_of t.set.table) selections)

abbrev pub unsure_text : Tended → List ℕ
unsure_text t = codes "unsure " ++ decimal t.set.unsure

-- ---- of an order that was obeyed

abbrev pub shows : PlainSetOrder → List ℕ → Stood → List ToldLine
shows (on focus) whom p = shown_each (on focus) p whom
shows (links order) whom p = shown_each (links order) p whom
shows (state process) whom p = shown_each (state process) p whom
shows (value process variable) whom p = shown_each (value process variable) p whom
shows (measuring measure) whom p = shown_each (measuring measure) p whom
shows aborted whom p = shown_each aborted p whom
shows measures whom p = shown_each measures p whom
shows resetting whom p = shown_each resetting p whom
shows (send octets) whom p = shown_each (send octets) p whom
shows table whom p = answered p (table_of p.tender)
shows held whom p = shown_held p (link_count p.tender)
shows unsure whom p = answered p (unsure_text p.tender)
shows rebalance whom p = shown_each rebalance p whom
shows reopen whom p = shown_each reopen p whom
shows quit whom p = shown_each quit p whom
shows (leave seconds) whom p = shown_each (leave seconds) p whom

-- It is reported as obeyed, and then what it asked for. Each line begins with its tag.
abbrev pub answer_lines : PlainSetOrder → List ℕ → Stood → List ℕ → List ToldLine
answer_lines said whom p order = answered p (codes "ok " ++ order) ++ shows said whom p
