-- Which item of its port an actor takes for a turn, and which it discards, by the INPUTs and SAVEs
-- of the text (Z.100, input and save).
use Rattle.std.specs.Prelude.{◌≡◌, ℕ, ◌<◌, List, ◌∷◌, ◌++◌, Option, None, Some, slice_get}
use Rattle.std.specs.List.{AllByRecursion}
use Rattle.sdl_ast.specs.Plain.{PlainBlock, PlainProcess}
use Rattle.sdl_ast.specs.declared.expression.Identifier.{Identifier}
use Rattle.sdl_tables.specs.Names.{Input, processes_of, inputs_of, saves_of}
use Rattle.sdl_meaning.specs.Act.{scope_of}
use Rattle.sdl_meaning.specs.Declarations.{trigger_of as trigger_named}
use Rattle.turn_code.specs.declared.draft.Trigger.{Trigger}
use Rattle.turn_code.specs.declared.input.Place.TheVariants.{Start, State}
use Rattle.turn_code.specs.declared.numbers.StateNumber.{StateNumber}
use Rattle.input_port.specs.declared.queue.Item.{Item}
use Rattle.actor_machine.specs.Looking.{trigger_of, input_with}
use Rattle.actor_machine.specs.Ledger.{Ledger, ask, state_of}
use Rattle.actor_machine.specs.declared.actor.Actor.{Actor}
use Rattle.actor_machine.specs.declared.actor.Standing.TheVariants.{At, Stopped}
use Rattle.actor_machine.specs.declared.event.Event.TheVariants.{Begin, Skip}
use Rattle.actor_machine.specs.declared.reply.Begun.{Begun}
use Rattle.actor_machine.specs.declared.reply.Refusal.{Refusal}
use Rattle.actor_machine.specs.declared.reply.Refusal.TheVariants as refusal
use Rattle.actor_machine.specs.declared.reply.Reply.{Reply}
use Rattle.actor_machine.specs.declared.reply.Reply.TheVariants as reply

-- ---- items and names

-- A name in an INPUT or a SAVE of the process stands for the item: for its signal, or else for its
-- timer. In a sound text each such name stands for one or the other.
abbrev pub StandsFor : PlainBlock → PlainProcess → Item → Identifier → Type 0
StandsFor b p x id = trigger_named (scope_of b p) id ≡ trigger_of x

-- a SAVE of state q has the item's name
pub record IsSavedIn (b : PlainBlock) (p : PlainProcess) (q : ℕ) (x : Item) : Type 0 where
  pub place : ℕ
  pub name : Identifier
  pub there : slice_get (saves_of p q) place ≡ Some name
  pub stands : StandsFor b p x name

-- number n is the first input of state q that has the item's name
pub record IsInputFor (b : PlainBlock) (p : PlainProcess) (q : ℕ) (x : Item) (n : ℕ) : Type 0 where
  pub input : Input
  pub there : slice_get (inputs_of p q) n ≡ Some input
  pub stands : StandsFor b p x input.stimulus.name
  pub first : (m : ℕ) (i : Input) → m < n → slice_get (inputs_of p q) m ≡ Some i
      → StandsFor b p x i.stimulus.name → ⊥

-- no INPUT of state q has the item's name
abbrev pub HasNoInput : PlainBlock → PlainProcess → ℕ → Item → Type 0
HasNoInput b p q x =
    (m : ℕ) (i : Input) → slice_get (inputs_of p q) m ≡ Some i → StandsFor b p x i.stimulus.name
    → ⊥

-- the number of the input for the item, if it has one
abbrev pub IsInput : PlainBlock → PlainProcess → ℕ → Item → Option ℕ → Type 0
IsInput b p q x None = HasNoInput b p q x
IsInput b p q x (Some n) = IsInputFor b p q x n

-- of the items that wait in state q, this is the first that no SAVE has; the others are left, in
-- their order
pub record IsNext (b : PlainBlock) (p : PlainProcess) (q : ℕ) (items : List Item) (x : Item)
    (left : List Item) : Type 0 where
  pub before : List Item
  pub after : List Item
  pub stood : items ≡ before ++ x ∷ after
  pub saved : AllByRecursion (IsSavedIn b p q) before
  pub not_saved : IsSavedIn b p q x → ⊥
  pub stays : left ≡ before ++ after

-- ---- actors

-- The actor is in a state of its process. This is the next item of its port, those are left, and
-- this is the number of the state's input for it, if there is one.
pub record Finds (b : PlainBlock) (a : Actor) (x : Item) (left : List Item) (n : Option ℕ) :
    Type 0 where
  pub process : PlainProcess
  pub there : slice_get (processes_of b) a.name.process.0 ≡ Some process
  pub state : StateNumber
  pub standing : a.standing ≡ At (State state)
  pub next : IsNext b process state.0 a.port.items x left
  pub input : IsInput b process state.0 x n

-- the actor has stopped, or its state saves each item of its port
pub data FindsNothing (b : PlainBlock) (a : Actor) : Type 0 where
  has_stopped : a.standing ≡ Stopped → FindsNothing b a
  saves_each : (p : PlainProcess) (q : StateNumber)
      → slice_get (processes_of b) a.name.process.0 ≡ Some p → a.standing ≡ At (State q)
      → AllByRecursion (IsSavedIn b p q.0) a.port.items → FindsNothing b a

-- the actor with these items in its port
abbrev pub with_items : Actor → List Item → Actor
with_items a left = record a { port = record a.port { items = left } }

-- the actor with this turn out, which was given the item if there is one: its parameters and its
-- sender
abbrev pub with_turn : Actor → Begun → Option Item → Actor
with_turn a g x =
    record a { given = Some (record { turn = g.turn; number = g.number; input = input_with a x }) }

-- An actor begins a turn. At START it takes no item. In a state it takes the next item, and the
-- turn is that of the state's input for it.
pub data Begins (b : PlainBlock) (a c : Actor) (g : Begun) : Type 0 where
  at_start : a.standing ≡ At Start → g.place ≡ Start → g.number ≡ 0 → c ≡ with_turn a g None
      → Begins b a c g
  by_input : (x : Item) (left : List Item) (finds : Finds b a x left (Some g.number))
      → g.place ≡ State finds.state
      → c ≡ with_items (with_turn a g (Some x)) left
      → Begins b a c g

-- ---- begins

-- actor n begins this turn
pub record BeginsAsRead (b : PlainBlock) (k : Ledger) (n : ℕ) (g : Begun) : Type 0 where
  pub actor : Actor
  pub there : slice_get (state_of k).actors n ≡ Some actor
  pub new : Actor
  pub new_there : slice_get (state_of (ask k (Begin n)).book).actors n ≡ Some new
  pub begins : Begins b actor new g

-- actor n has nothing to take
pub record WaitsForNothing (b : PlainBlock) (k : Ledger) (n : ℕ) : Type 0 where
  pub actor : Actor
  pub there : slice_get (state_of k).actors n ≡ Some actor
  pub nothing : FindsNothing b actor

-- the next item of actor n has no input in the actor's state
pub record MustSkip (b : PlainBlock) (k : Ledger) (n : ℕ) : Type 0 where
  pub actor : Actor
  pub there : slice_get (state_of k).actors n ≡ Some actor
  pub item : Item
  pub left : List Item
  pub finds : Finds b actor item left None

-- B5 Nothing and B11 SkipFirst are as the text says; the other refusals don't depend on the text
abbrev pub RefusesBegin : PlainBlock → Ledger → ℕ → Refusal → Type 0
RefusesBegin b k n refusal.Nothing = WaitsForNothing b k n
RefusesBegin b k n refusal.SkipFirst = MustSkip b k n
RefusesBegin b k n _ = Unit {0}

abbrev pub AnswersBegin : PlainBlock → Ledger → ℕ → Reply → Type 0
AnswersBegin b k n (reply.Begun g) = BeginsAsRead b k n g
AnswersBegin b k n (reply.Refused r) = RefusesBegin b k n r
AnswersBegin b k n reply.Offered = ⊥
AnswersBegin b k n (reply.Skipped t) = ⊥
AnswersBegin b k n (reply.Finished x) = ⊥
AnswersBegin b k n (reply.Passed due) = ⊥
AnswersBegin b k n (reply.Taken x) = ⊥

-- ---- skips

-- actor n discards its next item, since its state has no input for it; nothing else of the actor
-- changes
pub record SkipsAsRead (b : PlainBlock) (k : Ledger) (n : ℕ) (t : Trigger) : Type 0 where
  pub actor : Actor
  pub there : slice_get (state_of k).actors n ≡ Some actor
  pub item : Item
  pub left : List Item
  pub finds : Finds b actor item left None
  pub told : t ≡ trigger_of item
  pub after : slice_get (state_of (ask k (Skip n)).book).actors n ≡ Some (with_items actor left)

-- actor n is at START, or its state has an input for its next item
pub data MayBegin (b : PlainBlock) (a : Actor) : Type 0 where
  starts : a.standing ≡ At Start → MayBegin b a
  hears : (x : Item) (left : List Item) (m : ℕ) → Finds b a x left (Some m) → MayBegin b a

pub record HasNoSkip (b : PlainBlock) (k : Ledger) (n : ℕ) : Type 0 where
  pub actor : Actor
  pub there : slice_get (state_of k).actors n ≡ Some actor
  pub begins : MayBegin b actor

-- B5 Nothing and B12 NotIgnored are as the text says
abbrev pub RefusesSkip : PlainBlock → Ledger → ℕ → Refusal → Type 0
RefusesSkip b k n refusal.Nothing = WaitsForNothing b k n
RefusesSkip b k n refusal.NotIgnored = HasNoSkip b k n
RefusesSkip b k n _ = Unit {0}

abbrev pub AnswersSkip : PlainBlock → Ledger → ℕ → Reply → Type 0
AnswersSkip b k n (reply.Skipped t) = SkipsAsRead b k n t
AnswersSkip b k n (reply.Refused r) = RefusesSkip b k n r
AnswersSkip b k n reply.Offered = ⊥
AnswersSkip b k n (reply.Begun g) = ⊥
AnswersSkip b k n (reply.Finished x) = ⊥
AnswersSkip b k n (reply.Passed due) = ⊥
AnswersSkip b k n (reply.Taken x) = ⊥
