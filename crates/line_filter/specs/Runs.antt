-- A run: the octets sent and the reports, given the octets received and the orders.
use Rattle.std.specs.Prelude.{◌≡◌, ℕ, ◌+◌, ◌/◌, ◌%◌, Bool, true, false, List, [], ◌∷◌, ◌++◌, length}
use Rattle.std.specs.Prelude.{Option, codes}
use Rattle.line_filter.specs.Acts.{Act, heard, passed}
use Rattle.line_filter.specs.Speaking.{Voice, Gives}
use Rattle.line_filter.specs.Orders.{Timed, NextIs, NoneIsDue, LooksAnew, QUIT, told, TellsAll}
use Rattle.line_filter.specs.Orders.{Obeys, ToldLine}

-- How many octets are a millisecond, on a line of 64 kbit/s.
abbrev pub OCTETS : ℕ
OCTETS = 8

pub record State (T : Type 0) : Type 0 where
  pub term : T
  pub voice : Voice
  pub left : Option (List Timed)

-- One octet is sent, one is received, and pending reports are written. The octet sent doesn't
-- depend on the octet received.
pub record Exchanges {T : Type 0} (acts : T → Act → T
    → Type 0) (now :
    ℕ) (s : State T) (comes gives : ℕ) (bytes : List ToldLine) (t : State T) : Type 0 where
  pub asked : T
  pub heard_it : T
  pub out : Gives acts s.term s.voice gives asked t.voice
  pub hears : acts asked (heard comes) heard_it
  pub tells : TellsAll acts now heard_it bytes t.term
  pub orders : t.left ≡ s.left

-- Due orders are obeyed in order, up to one that ends the run. If orders begin anew, that is
-- reported.
pub data ObeysDue {T : Type 0} (acts : T → Act → T → Type 0) (now : ℕ) (t : T)
    (left : Option (List Timed)) : List ToldLine → T → Option (List Timed) → Type 0 where
  no_order : ObeysDue acts now t left [] t left
  one_order :
      {bytes : List ToldLine} {u : T} {fewer : Option (List Timed)} (text : List ℕ)
      (more : List ToldLine) (w : T)
      (last : Option (List Timed))
      → ObeysDue acts now t left bytes u fewer → NextIs now fewer text last → (text ≡ QUIT → ⊥)
      → Obeys acts now u text more w
      → ObeysDue acts now t left (bytes ++ more) w last
  looks :
      {bytes : List ToldLine} {u : T} {fewer : Option (List Timed)} (more : List ToldLine)
      (last : Option (List Timed))
      → ObeysDue acts now t left bytes u fewer → LooksAnew now fewer more last
      → ObeysDue acts now t left (bytes ++ more) u last

-- Either no due order remains, or an order ends the run.
abbrev pub Ends : ℕ → Option (List Timed) → List ToldLine → Bool → Option (List Timed) → Type 0
Ends now left bytes true last = (bytes ≡ []) × NoneIsDue now left last
Ends now left bytes false last = (bytes ≡ told now (codes "ok quit")) × NextIs now left QUIT last

pub record ObeysAll {T : Type 0} (acts : T → Act → T
    → Type 0) (now :
    ℕ) (s : State T) (bytes : List ToldLine) (goes_on : Bool) (t : State T) : Type 0 where
  pub first : List ToldLine
  pub fewer : Option (List Timed)
  pub obeys : ObeysDue acts now s.term s.left first t.term fewer
  pub second : List ToldLine
  pub ends : Ends now fewer second goes_on t.left
  pub voice : t.voice ≡ s.voice
  pub are : bytes ≡ first ++ second

-- A millisecond passes: pending reports are written, and due orders are obeyed.
pub record Minds {T : Type 0} (acts : T → Act → T
    → Type 0) (now :
    ℕ) (s : State T) (bytes : List ToldLine) (goes_on : Bool) (t : State T) : Type 0 where
  pub ticked : T
  pub tick : acts s.term passed ticked
  pub first : List ToldLine
  pub calm : State T
  pub tells : TellsAll acts now ticked first calm.term
  pub voice : calm.voice ≡ s.voice
  pub orders : calm.left ≡ s.left
  pub second : List ToldLine
  pub obeys : ObeysAll acts now calm second goes_on t
  pub are : bytes ≡ first ++ second

-- After `count` octets: at each eighth, a millisecond passes.
pub data Behind {T : Type 0} (acts : T → Act → T → Type 0) (count : ℕ) (s : State T) :
    List ToldLine → Bool → State T → Type 0 where
  between : (count % OCTETS ≡ 0 → ⊥) → Behind acts count s [] true s
  eighth : {bytes : List ToldLine} {goes_on : Bool} {t : State T} → count % OCTETS ≡ 0
      → Minds acts (count / OCTETS) s bytes goes_on t
      → Behind acts count s bytes goes_on t

-- One octet is exchanged, after `count` earlier ones.
pub record Steps {T : Type 0} (acts : T → Act → T
    → Type 0) (count :
    ℕ) (s : State T) (comes gives :
    ℕ) (bytes : List ToldLine) (goes_on : Bool) (t : State T) : Type 0 where
  pub middle : State T
  pub first : List ToldLine
  pub exchanges : Exchanges acts (count / OCTETS) s comes gives first middle
  pub second : List ToldLine
  pub behind : Behind acts (count + 1) middle second goes_on t
  pub are : bytes ≡ first ++ second

-- Octets are exchanged after `count` earlier ones, with the reports; an order may end it.
pub data Runs {T : Type 0} (acts : T → Act → T → Type 0) (count : ℕ) (s : State T) :
    List ℕ → List ℕ → List ToldLine → Bool → State T → Type 0 where
  begins : Runs acts count s [] [] [] true s
  octet : {come out : List ℕ} {bytes : List ToldLine} {t : State T} (comes gives : ℕ)
      (more : List ToldLine) (goes_on : Bool) (u : State T)
      → Runs acts count s come out bytes true t
      → Steps acts (count + length come) t comes gives more goes_on u
      → Runs acts count s (come ++ comes ∷ []) (out ++ gives ∷ []) (bytes ++ more) goes_on u
