-- An order to a set as it is given: its tag, its words, and the links that it addresses.
use Rattle.std.specs.Prelude.{◌==◌, ◌&&◌, ◌||◌, ℕ, nat_le, nat_lt, Bool, true, false, if◌then◌else◌}
use Rattle.std.specs.Prelude.{List, [], ◌∷◌, ◌++◌, length, map, take, drop, codes, string_bytes}
use Rattle.std.specs.Prelude.{Option, None, Some, option_map, is_some, unwrap_or, zero, suc}
use Rattle.std.specs.List.{list_all, list_any}
use Rattle.std.specs.Str.{bytes_eq}
use Rattle.script_lines.specs.Numbers.{count_of}
use Rattle.script_lines.specs.Words.{words_of}
use Rattle.line_filter.specs.Says.{is_tag, joined, millisecond_of}
use Rattle.line_play.specs.SetOrders.{PlainSetOrder, plain_set_order, needs_links, is_send}
use Rattle.line_play.specs.SetOrders.{set_order_of}
use Rattle.line_play.specs.declared.set.given.Given.{Given}
use Rattle.line_play.specs.declared.set.given.Said.{Said}
use Rattle.line_play.specs.declared.set.orders.Focus.{Focus}
use Rattle.line_play.specs.declared.set.orders.Focus.TheVariants.{Nothing, Link as OneLink, All}
use Rattle.line_play.specs.declared.set.given.Whom.{Whom}
use Rattle.line_play.specs.declared.set.given.Whom.TheVariants as code

-- ---- the links that an order addresses

-- those that the last `on` selected, all, or those that it names
pub data PlainWhom : Type 0 where
  selected : PlainWhom
  every : PlainWhom
  named : List ℕ → PlainWhom

abbrev pub plain_whom : Whom → PlainWhom
plain_whom code.Selected = selected
plain_whom code.Every = every
plain_whom (code.Named links) = named links.items

-- the first `count` links
abbrev pub first_links : ℕ → List ℕ
first_links zero = []
first_links (suc n) = first_links n ++ n ∷ []

abbrev pub links_by : Focus → ℕ → List ℕ
links_by Nothing count = []
links_by (OneLink l) count = l ∷ []
links_by All count = first_links count

-- the links with these numbers, in order, if they exist
abbrev pub links_of : PlainWhom → Focus → ℕ → List ℕ
links_of selected focus count = links_by focus count
links_of every focus count = first_links count
links_of (named links) focus count = links

abbrev pub lacks_by : Focus → ℕ → Bool
lacks_by Nothing count = true
lacks_by (OneLink l) count = nat_le count l
lacks_by All count = false

-- none is selected, or a named one doesn't exist
abbrev pub lacks : PlainWhom → Focus → ℕ → Bool
lacks selected focus count = lacks_by focus count
lacks every focus count = false
lacks (named links) focus count = list_any (λ (l : ℕ). nat_le count l) links

-- ---- the meaning of its words

pub record PlainSaid : Type 0 where
  pub order : PlainSetOrder
  pub whom : PlainWhom

abbrev pub plain_said : Said → PlainSaid
plain_said s = record { order = plain_set_order s.order; whom = plain_whom s.whom }

-- the numbers of 1 to 16 links, or `all`
abbrev pub is_number : List ℕ → Bool
is_number word = is_some (count_of word)

abbrev pub are_links : List (List ℕ) → Bool
are_links words =
    nat_lt 0 (length words) && (nat_le (length words) 16 && list_all is_number words)

abbrev pub number_of : List ℕ → ℕ
number_of word = unwrap_or (count_of word) 0

abbrev pub numbers_of : List (List ℕ) → List ℕ
numbers_of words = map number_of words

abbrev pub is_all : List (List ℕ) → Bool
is_all [] = false
is_all (word ∷ []) = bytes_eq word (codes "all")
is_all (word ∷ next ∷ words) = false

abbrev pub whom_of : List (List ℕ) → Option PlainWhom
whom_of words = if is_all words then Some every
    else (if are_links words then Some (named (numbers_of words)) else None)

abbrev pub with_links : Option PlainSetOrder → Option PlainWhom → Option PlainSaid
with_links None whom = None
with_links (Some order) None = None
with_links (Some order) (Some whom) =
    if needs_links order then Some (record { order = order; whom = whom }) else None

-- an order of so many words that names its links after them
abbrev pub said_at : ℕ → List (List ℕ) → Option PlainSaid
said_at count words = with_links (set_order_of (take count words)) (whom_of (drop count words))

abbrev pub alone : Option PlainSetOrder → Option PlainSaid
alone order = option_map (λ (o : PlainSetOrder). record { order = o; whom = selected }) order

abbrev pub or_else : Option PlainSaid → Option PlainSaid → Option PlainSaid
or_else None other = other
or_else (Some said) other = Some said

-- An order that names its links. No order about links has more than three words of its own.
abbrev pub naming : List (List ℕ) → Option PlainSaid
naming words = or_else (or_else (said_at 1 words) (said_at 2 words)) (said_at 3 words)

-- If all words are an order's, it names no links.
abbrev pub said_of : List (List ℕ) → Option PlainSaid
said_of words = or_else (alone (set_order_of words)) (naming words)

-- the kind of the order that words say, if they say one
abbrev pub says_so : (PlainSetOrder → Bool) → Option PlainSaid → Bool
says_so test None = false
says_so test (Some said) = test said.order

-- ---- words that are no order

-- the word after a link's number in a report, or in a line of an answer
abbrev pub is_link_word : List ℕ → Bool
is_link_word word =
    bytes_eq word (codes "started")
    || (bytes_eq word (codes "in")
    || (bytes_eq word (codes "down")
    || (bytes_eq word (codes "tested")
    || (bytes_eq word (codes "looped")
    || (bytes_eq word (codes "far")
    || (bytes_eq word (codes "changeover")
    || (bytes_eq word (codes "says")
    || (bytes_eq word (codes "hears")
    || (bytes_eq word (codes "diverted")
    || (bytes_eq word (codes "unsure")
    || (bytes_eq word (codes "message")
    || (bytes_eq word (codes "line")
    || (bytes_eq word (codes "held")
    || (bytes_eq word (codes "state")
    || (bytes_eq word (codes "value") || bytes_eq word (codes "measure"))))))))))))))))

-- the first word after the millisecond of a report that isn't about one link
abbrev pub is_set_word : List ℕ → Bool
is_set_word word = bytes_eq word (codes "shared") || bytes_eq word (codes "unsure")

abbrev pub is_told : List ℕ → List (List ℕ) → Bool
is_told first [] = is_set_word first
is_told first (word ∷ words) = is_set_word first || (is_number first && is_link_word word)

-- a report, or a line of an answer without a tag: a millisecond, and what is told
abbrev pub is_set_report : List (List ℕ) → Bool
is_set_report [] = false
is_set_report (word ∷ []) = false
is_set_report (word ∷ first ∷ words) = is_some (millisecond_of word) && is_told first words

-- Words that are no order mean nothing if they are a report and have no tag.
abbrev pub is_ignored : List ℕ → List ℕ → Bool
is_ignored [] text = is_set_report (words_of text)
is_ignored (b ∷ mark) text = false

-- whether the first word is `on`
abbrev pub is_on : List (List ℕ) → Bool
is_on [] = false
is_on (word ∷ words) = bytes_eq word (codes "on")

-- ---- an order as it is given

pub record PlainGiven : Type 0 where
  -- the beginning of each line of its answer, after the millisecond: its tag and a space, or
  -- nothing
  pub mark : List ℕ
  -- its words after the tag, separated by single spaces
  pub text : List ℕ
  pub said : Option PlainSaid

abbrev pub plain_given : Given → PlainGiven
plain_given g = record {
  mark = string_bytes g.mark;
  text = string_bytes g.text;
  said = option_map plain_said g.said;
}

abbrev pub spoken : List (List ℕ) → List ℕ
spoken [] = []
spoken (word ∷ words) = joined word words

abbrev pub given_with : List ℕ → List (List ℕ) → PlainGiven
given_with mark words = record { mark = mark; text = spoken words; said = said_of words }

-- An order may begin with a tag.
abbrev pub given_by : List (List ℕ) → PlainGiven
given_by [] = given_with [] []
given_by (word ∷ words) =
    if is_tag word then given_with (word ++ 32 ∷ []) words else given_with [] (word ∷ words)

abbrev pub given_in : List ℕ → PlainGiven
given_in line = given_by (words_of line)
