-- Orders, with the milliseconds before which they aren't obeyed.
use Rattle.std.specs.Prelude.{◌≡◌, ℕ, ◌<◌, ◌≤◌, Bool, true, false, List, [], ◌∷◌, ◌++◌}
use Rattle.std.specs.Prelude.{Option, None, Some, codes}
use Rattle.std.specs.Prelude.{String, string_bytes}
use Rattle.std.specs.List.{flat_map}
pub use Rattle.line_filter.specs.Reporting.{ToldLine, told}
use Rattle.line_filter.specs.Acts.{Act, reported, obeyed}
use Rattle.line_filter.specs.declared.terminal.Answer.{Answer}
use Rattle.line_filter.specs.declared.terminal.Answer.TheVariants.{Done, Said, Listed, Refused}

pub record Timed : Type 0 where
  pub at : ℕ
  pub text : List ℕ

-- The next order, if the remaining orders are known.
abbrev pub NextIs : ℕ → Option (List Timed) → List ℕ → Option (List Timed) → Type 0
NextIs now None text new = Unit {0}
NextIs now (Some []) text new = ⊥
NextIs now (Some (o ∷ os)) text None = ⊥
NextIs now (Some (o ∷ os)) text (Some left) = (left ≡ os) × (o.text ≡ text) × (o.at ≤ now)

-- No order is due yet.
abbrev pub NoneIsDue : ℕ → Option (List Timed) → Option (List Timed) → Type 0
NoneIsDue now None new = Unit {0}
NoneIsDue now (Some []) None = ⊥
NoneIsDue now (Some []) (Some left) = left ≡ []
NoneIsDue now (Some (o ∷ os)) None = ⊥
NoneIsDue now (Some (o ∷ os)) (Some left) = (left ≡ o ∷ os) × (now < o.at)

-- If the remaining orders were known, they are unchanged.
abbrev pub Stays : Option (List Timed) → Option (List Timed) → Type 0
Stays None new = Unit {0}
Stays (Some os) None = ⊥
Stays (Some os) (Some new) = new ≡ os

-- An order that ends the run may come ahead of others only if nothing is known of them.
abbrev pub ComesAhead : Option (List Timed) → Option (List Timed) → Type 0
ComesAhead None new = Unit {0}
ComesAhead (Some os) new = ⊥

-- Orders of an unknown stream may begin anew; known ones don't, and stay unchanged.
abbrev pub BeginsAnew : Bool → Option (List Timed) → Option (List Timed) → Type 0
BeginsAnew true None new = Unit {0}
BeginsAnew true (Some os) new = ⊥
BeginsAnew false old new = new ≡ old

-- A line that an order requested.
abbrev pub listed : {Z : Type 0} → ℕ → List ℕ → String Z → List ToldLine
listed now order line = told now (order ++ 32 ∷ string_bytes line)

-- The lines that report an order as obeyed or refused.
abbrev pub answered : ℕ → List ℕ → Answer → List ToldLine
answered now order Done = told now (codes "ok " ++ order)
answered now order (Said text) = told now (codes "ok " ++ order) ++ told now (string_bytes text)
answered now order (Listed lines) =
    told now (codes "ok " ++ order) ++ flat_map (listed now order) lines.items
answered now order (Refused text) = told now (codes "refused " ++ string_bytes text)

abbrev pub QUIT : List ℕ
QUIT = codes "quit"

-- The report if orders begin anew.
abbrev pub TRUNCATED : List ℕ
TRUNCATED = codes "orders truncated"

-- The report whether they begin anew: a line, or none.
abbrev pub anew_told : ℕ → Bool → List ToldLine
anew_told now true = told now TRUNCATED
anew_told now false = []

-- Orders begin anew, which is reported, or stay unchanged.
pub record LooksAnew (now : ℕ) (left : Option (List Timed)) (bytes : List ToldLine)
    (last : Option (List Timed)) : Type 0 where
  pub begins : Bool
  pub anew : BeginsAnew begins left last
  pub tells : bytes ≡ anew_told now begins

-- Reports of a terminal, written in order.
pub data Tells {T : Type 0} (acts : T → Act → T → Type 0) (now : ℕ) (t : T) :
    List ToldLine → T → Type 0 where
  nothing : Tells acts now t [] t
  says : {bytes : List ToldLine} {u : T} (text : List ℕ) (w : T) → Tells acts now t bytes u
      → acts u (reported (Some text)) w
      → Tells acts now t (bytes ++ told now text) w

-- All pending reports of a terminal, written in order.
pub record TellsAll {T : Type 0} (acts : T → Act → T
    → Type 0) (now : ℕ) (t : T) (bytes : List ToldLine) (u : T) : Type 0 where
  pub last : T
  pub tells : Tells acts now t bytes last
  pub none_left : acts last (reported None) u

-- An order is obeyed; after it all pending reports of the terminal are written.
pub record Obeys {T : Type 0} (acts : T → Act → T
    → Type 0) (now : ℕ) (t : T) (order : List ℕ) (bytes : List ToldLine) (u : T) : Type 0 where
  pub answer : Answer
  pub middle : T
  pub act : acts t (obeyed order answer) middle
  pub more : List ToldLine
  pub tells : TellsAll acts now middle more u
  pub are : bytes ≡ answered now order answer ++ more
