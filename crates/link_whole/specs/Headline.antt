-- The headline: the result of loading and running a text, whatever the events and the rebases,
-- their order and their number.
use Rattle.std.specs.Prelude.{◌≡◌, ◌↔◌, ℕ, List, map, Result, Ok, Err}
use Rattle.sdl_lex.specs.declared.lexemes.Token.{Token}
use Rattle.sdl_ast.specs.Plain.{PlainBlock}
use Rattle.turn_code.specs.Outcome.{Meaning}
use Rattle.turn_code.specs.declared.draft.Draft.{Draft}
use Rattle.turn_verify.specs.Loaded.{IsRead, IsSound, IsRefused}
use Rattle.turn_verify.specs.Meant.{IsSetOfBlock, meaning_of}
use Rattle.turn_verify.specs.declared.loading.LoadFault.{LoadFault}
use Rattle.turn_verify.specs.declared.loading.LoadFault.TheVariants.{Lex, Parse, Rule, NoMemory}
use Rattle.actor_book.specs.Limits.{LimitNumbers}
use Rattle.actor_book.specs.Schedules.{scheduled_by, answers_on, unused, EachAnswer}
use Rattle.actor_book.specs.declared.schedule.Scheduled.{Scheduled}
use Rattle.actor_machine.specs.Step.{Says}
use Rattle.actor_machine.specs.Ledger.{Ledger, runs as code_runs, state_by, state_of}
use Rattle.actor_machine.specs.Kept.{opened_book}
use Rattle.actor_machine.specs.declared.reply.Reply.{Reply}
use Rattle.link_whole.specs.Answered.{IsAnswered}
use Rattle.link_whole.specs.declared.running.TextRun.{TextRun}

-- the book of a set before its first event
abbrev pub opened_by : Draft → LimitNumbers → Ledger
opened_by d l = opened_book d l.port l.env l.journal

-- A schedule on a link opened with a set, by a meaning of its turns: the replies, the book and its
-- state are the machine's. The machine also has an answer Stuck, for a turn whose meaning is a
-- trouble instead of an outcome: Unset, WrongSort, Underflow, NoState, NoReceiver, NoAnswer or
-- Outside. No reply is Stuck.
pub record RunsBy (act : Meaning) (d : Draft) (l : LimitNumbers) (ss : List Scheduled)
    (book : Ledger) (replies : List Reply) : Type 0 where
  pub answers : map Says replies ≡ answers_on act (opened_by d l) ss
  pub after : book ≡ scheduled_by act (opened_by d l) ss
  pub state : state_of book ≡ state_by act book

-- What a block's set does. Its numbers and names are in the order of the text. Each turn is what
-- the text's transition means, and the set's own code has the same answers. There is one reply for
-- each event of the schedule, and it is as `IsAnswered` says.
pub record RunsAsRead (b : PlainBlock) (d : Draft) (l : LimitNumbers) (ss : List Scheduled)
    (book : Ledger) (replies : List Reply) : Type 0 where
  pub is_set : IsSetOfBlock b d
  pub runs : RunsBy (meaning_of b) d l ss book replies
  pub coded : map Says replies ≡ answers_on (code_runs d) (opened_by d l) ss
  pub each : EachAnswer (IsAnswered b l.journal) unused (opened_by d l) ss replies

-- The text has tokens, reads as a block that is low enough, and breaks no rule. However it is read,
-- its set does this.
pub record IsRun (text : List ℕ) (l : LimitNumbers) (ss : List Scheduled) (book : Ledger)
    (replies : List Reply) : Type 0 where
  pub sound : IsSound text
  pub set : Draft
  pub every :
      (ts : List Token) (b : PlainBlock) → IsRead text ts b → RunsAsRead b set l ss book replies

-- A fault of the text is named, and the text isn't sound. So if there is memory, exactly the sound
-- texts are run. NoMemory says nothing about the text.
abbrev pub IsFault : List ℕ → LoadFault → Type 0
IsFault text (Lex fault line) = IsRefused text (Lex fault line) × (IsSound text → ⊥)
IsFault text (Parse fault line) = IsRefused text (Parse fault line) × (IsSound text → ⊥)
IsFault text (Rule fault line) = IsRefused text (Rule fault line) × (IsSound text → ⊥)
IsFault text NoMemory = Unit {0}

abbrev pub Headline : List ℕ → LimitNumbers → List Scheduled → Result TextRun LoadFault → Type 0
Headline text l ss (Ok run) = IsRun text l ss run.book run.replies.items
Headline text l ss (Err fault) = IsFault text fault
