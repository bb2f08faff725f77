-- The answers to the orders that came along a run of a link set on lines.
use Rattle.std.specs.Prelude.{◌≡◌, ℕ, ◌+◌, ◌<◌, ◌≤◌, ◌==◌, if◌then◌else◌, Bool, true, false, List}
use Rattle.std.specs.Prelude.{[], ◌∷◌, ◌++◌, map, codes, All, IsPermutation, Option, None, Some}
use Rattle.std.specs.Fmt.{decimal}
use Rattle.std.specs.List.{flat_map}
use Rattle.script_links.specs.resend_store_types.messages.Msu.{Msu}
use Rattle.line_filter.specs.Orders.{Timed}
use Rattle.line_filter.specs.Reporting.{ToldLine, Stand, kind_of, kept}
use Rattle.line_filter.specs.declared.reports.Wait.TheVariants.{Answer}
use Rattle.line_play.specs.LineTraffic.{Traffic}
use Rattle.line_play.specs.SetDoing.{Stood}
use Rattle.line_play.specs.SetGiven.{PlainGiven, PlainSaid, given_in, is_ignored}
use Rattle.line_play.specs.SetLaws.{octets_said, octets_of}
use Rattle.line_play.specs.SetObeying.{words_behind}
use Rattle.line_play.specs.SetQueues.{Waited, PATIENCE}
use Rattle.line_play.specs.SetRounds.{Attends, waited, comes, looks, AttendsAll, none_due, full}
use Rattle.line_play.specs.SetRounds.{answers_wait, over, SetPlace, Rounds, begins, round}

-- ---- the orders that came, in order

-- the lines that were read as orders, each with the millisecond at which it came
abbrev pub read_attending :
    {p : Stood} {waiting : List Waited} {left : Option (List Timed)} {a : Stand}
    {bytes : List ToldLine} {q : Stood} {now : List Waited} {last : Option (List Timed)} {b : Stand}
    → Attends p waiting left a bytes q now last b → List Timed
read_attending (waited before tells) = []
read_attending (comes {bytes} {q} order more r later last c before next going may made tells) =
    read_attending before ++ record { at = q.tender.ticks; text = order } ∷ []
read_attending (looks more last c before anew tells) = read_attending before

abbrev pub read_by_all :
    {p : Stood} {waiting : List Waited} {left : Option (List Timed)} {a : Stand}
    {bytes : List ToldLine} {q : Stood} {now : List Waited} {last : Option (List Timed)} {b : Stand}
    → AttendsAll p waiting left a bytes q now last b → List Timed
read_by_all (none_due last before none_there) = read_attending before
read_by_all (full last before many same) = read_attending before
read_by_all (answers_wait last before many same) = read_attending before
read_by_all (over before is) = read_attending before

abbrev pub read_along :
    {ahead : ℕ} {p : SetPlace} {bytes : List ToldLine} {traffic : List Traffic} {goes_on : Bool}
    {q : SetPlace} → Rounds ahead p bytes traffic goes_on q → List Timed
read_along begins = []
read_along (round more others goes_on before is) = read_along before ++ read_by_all is.attends

abbrev pub texts_of : List Timed → List (List ℕ)
texts_of orders = map (λ (o : Timed). o.text) orders

-- Of these orders the first were read, in order, and the others are left.
pub record AreRead (orders read : List Timed) (left : Option (List Timed)) : Type 0 where
  pub later : List Timed
  pub left_is : left ≡ Some later
  pub are : texts_of orders ≡ texts_of read ++ texts_of later

-- An order: its mark, which is its tag and a space, or nothing; its words after that; the octets of
-- the message that it sends, if it sends one; and the millisecond at which it came.
pub record Asked : Type 0 where
  pub mark : List ℕ
  pub text : List ℕ
  pub octets : List (List ℕ)
  pub at : ℕ

-- Words that are a report, without a tag, are no order.
abbrev pub asked_by : Option PlainSaid → Bool → Asked → List Asked
asked_by None true order = []
asked_by None false order = order ∷ []
asked_by (Some said) ignored order = order ∷ []

abbrev pub asked_so : ℕ → PlainGiven → List Asked
asked_so now given = asked_by given.said (is_ignored given.mark given.text) (record {
  mark = given.mark;
  text = given.text;
  octets = octets_said given.said;
  at = now;
})

abbrev pub asked_in : List Timed → List Asked
asked_in lines = flat_map (λ (o : Timed). asked_so o.at (given_in o.text)) lines

-- the order that waits
abbrev pub asked_of : Waited → Asked
asked_of w =
    record { mark = w.mark; text = w.text; octets = w.octets ∷ []; at = w.since }

-- ---- the answers

-- the lines of answers among reported lines
abbrev pub answers_in : List ToldLine → List ToldLine
answers_in [] = []
answers_in (l ∷ ls) =
    if kind_of l.wait == kind_of Answer then l ∷ answers_in ls else answers_in ls

-- an order, whether it was obeyed, and the millisecond of the first line of its answer
pub record Answered : Type 0 where
  pub order : Asked
  pub ok : Bool
  pub at : ℕ

-- A line of an answer has a millisecond, then the mark of its order, then its text.
pub record Bears (mark : List ℕ) (line : ToldLine) : Type 0 where
  pub now : ℕ
  pub text : List ℕ
  pub wait : line.wait ≡ Answer
  pub octets : line.octets ≡ (decimal now ++ 32 ∷ (mark ++ text)) ++ 10 ∷ []

-- The answer to an order is `ok`, its words, and lines with what it asked for; or it is one
-- refusal, which ends with its words if it has no tag. Each line bears its mark.
pub data IsAnswer : Answered → List ToldLine → Type 0 where
  says_ok : (o : Asked) (now : ℕ) (more : List ToldLine) → All (Bears o.mark) more
      → IsAnswer (record { order = o; ok = true; at = now })
      (kept Answer now (o.mark ++ (codes "ok " ++ o.text)) ++ more)
  says_refused : (o : Asked) (now : ℕ) (why : List ℕ)
      → IsAnswer (record { order = o; ok = false; at = now })
      (kept Answer now (o.mark ++ (codes "refused " ++ (why ++ words_behind o.mark o.text))))

-- the lines are these answers, one after another
pub data AreAnswers : List Answered → List ToldLine → Type 0 where
  no_answer : AreAnswers [] []
  one_answer : {before : List Answered} {lines : List ToldLine} (a : Answered)
      (more : List ToldLine) → AreAnswers before lines → IsAnswer a more
      → AreAnswers (before ++ a ∷ []) (lines ++ more)

abbrev pub orders_of : List Answered → List Asked
orders_of answered = map (λ (a : Answered). a.order) answered

-- the messages of those answered `ok`, in the order of the answers
abbrev pub taken_by : Answered → List (List ℕ)
taken_by a = if a.ok then a.order.octets else []

abbrev pub taken_in : List Answered → List (List ℕ)
taken_in answered = flat_map taken_by answered

-- An order is answered within 5 s. If it sends no message, it is answered at once.
pub record IsTimely (a : Answered) : Type 0 where
  pub after : a.order.at ≤ a.at
  pub soon : a.at ≤ a.order.at + PATIENCE
  pub at_once : a.order.octets ≡ [] → a.at ≡ a.order.at

-- it came less than 5 s ago
abbrev pub IsRecent : ℕ → Waited → Type 0
IsRecent now w = now < w.since + PATIENCE

-- Of the orders that were read, each has one answer among these lines, within 5 s, or waits, less
-- than 5 s so far. The messages that the set took are those of the orders answered `ok`.
pub record AreAnswered (read : List Timed) (took : List Msu) (lines : List ToldLine) (now : ℕ)
    (waiting : List Waited) : Type 0 where
  pub answered : List Answered
  pub answers : AreAnswers answered (answers_in lines)
  pub each : IsPermutation (asked_in read) (orders_of answered ++ map asked_of waiting)
  pub timely : All IsTimely answered
  pub recent : All (IsRecent now) waiting
  pub taken : map octets_of took ≡ taken_in answered
