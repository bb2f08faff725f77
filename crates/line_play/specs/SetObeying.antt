-- Orders to a link set on lines: their meaning and their outcome.
use Rattle.std.specs.Prelude.{◌≡◌, ℕ, Bool, true, false, List, [], ◌∷◌, ◌++◌, codes, Option}
use Rattle.std.specs.Prelude.{None, Some}
use Rattle.script_lines.specs.Words.{words_of}
use Rattle.line_filter.specs.Reporting.{ToldLine}
use Rattle.line_tending.specs.Rounds.{AddsOrders}
use Rattle.line_play.specs.SetDoing.{Stood, answered, links_at, lacks_links, NO_LINK, Changes}
use Rattle.line_play.specs.SetDoing.{Refuses, MayShow}
use Rattle.line_play.specs.SetGiven.{PlainSaid, is_ignored, is_on}
use Rattle.line_play.specs.SetOrders.{PlainSetOrder, is_send}
use Rattle.line_play.specs.SetShowing.{answer_lines}
use Rattle.line_play.specs.declared.set.orders.Focus.TheVariants.{Nothing}

-- the refusal of a line that is no order, or of a `send` whose octets are no message
abbrev pub BAD_LINE : List ℕ
BAD_LINE = codes "X1 BadLine"

-- the end of a refusal: the order's own words, unless a tag says which order it was
abbrev pub words_behind : List ℕ → List ℕ → List ℕ
words_behind [] [] = []
words_behind [] (b ∷ bs) = 32 ∷ b ∷ bs
words_behind (b ∷ bs) text = []

abbrev pub refusal_line : Stood → List ℕ → List ℕ → List ToldLine
refusal_line p text why = answered p (codes "refused " ++ (why ++ words_behind p.mark text))

-- The effect of an order that sends no message, and whose links exist. It is done by calls of the
-- set that take no message, and what it asked for is reported after that; or it is refused.
pub data ObeysThere (text : List ℕ) (what : PlainSetOrder) (whom : List ℕ) (p : Stood) :
    List ToldLine → Stood → Type 0 where
  does_so : {q : Stood} → MayShow what whom p.tender → AddsOrders p.tender q.tender
      → Changes what whom p q
      → ObeysThere text what whom p (answer_lines what whom q text) q
  refuses_so : {q : Stood} (why : List ℕ) → AddsOrders p.tender q.tender → Refuses what whom p why q
      → ObeysThere text what whom p (refusal_line q text why) q

-- after words that are no order: an `on` that names no link selects none
abbrev pub unselected_by : Bool → Stood → Stood
unselected_by true p = record p { focus = Nothing }
unselected_by false p = p

abbrev pub unselected : List ℕ → Stood → Stood
unselected text p = unselected_by (is_on (words_of text)) p

-- An order with these words and this meaning, which sends no message, is obeyed. Or it is refused:
-- it addresses links, and none is selected or one doesn't exist; or its words mean nothing, and
-- aren't a report. Then nothing changes, except that a refused `on` selects no link.
pub data Obeys (text : List ℕ) (said : Option PlainSaid) (p : Stood) :
    List ToldLine → Stood → Type 0 where
  does : {bytes : List ToldLine} {q : Stood} (what : PlainSaid)
      → said ≡ Some what → is_send what.order ≡ false → lacks_links what p ≡ false
      → ObeysThere text what.order (links_at what p) p bytes q → Obeys text said p bytes q
  lacks_some : (what : PlainSaid) → said ≡ Some what → is_send what.order ≡ false
      → lacks_links what p ≡ true → Obeys text said p (refusal_line p text NO_LINK) p
  says_none : said ≡ None → is_ignored p.mark text ≡ false
      → Obeys text said p (refusal_line (unselected text p) text BAD_LINE) (unselected text p)
