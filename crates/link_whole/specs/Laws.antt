-- Schedules on a link whose set is that of a block.
use Rattle.std.specs.Prelude.{◌≡◌, ◌≤◌, List, map}
use Rattle.plain_laws.specs.Limits.{MOST_JOURNAL}
use Rattle.sdl_ast.specs.Plain.{PlainBlock}
use Rattle.sdl_sound.specs.Sound.{Sound}
use Rattle.turn_code.specs.Valid.{IsValid}
use Rattle.turn_code.specs.declared.draft.Draft.{Draft}
use Rattle.turn_verify.specs.Blocks.{MatchesBlock}
use Rattle.turn_verify.specs.Meant.{IsSetOfBlock}
use Rattle.actor_book.specs.Limits.{LimitNumbers}
use Rattle.actor_book.specs.Schedules.{scheduled_by, answers_on}
use Rattle.actor_book.specs.declared.schedule.Scheduled.{Scheduled}
use Rattle.actor_book.specs.declared.schedule.Scheduled.TheVariants as step
use Rattle.actor_machine.specs.Ledger.{Ledger, runs, after_by}
use Rattle.actor_machine.specs.Step.{Says}
use Rattle.actor_machine.specs.declared.event.Event.{Event}
use Rattle.actor_machine.specs.declared.reply.Reply.{Reply}
use Rattle.link_whole.specs.Headline.{RunsAsRead, opened_by}

-- replies and a book that are the machine's by the set's own code are as the text says
abbrev pub ReadLaw : Type 0
ReadLaw =
    (b : PlainBlock) (d : Draft) (l : LimitNumbers) (ss : List Scheduled) (book : Ledger)
    (rs : List Reply)
    → IsSetOfBlock b d → IsValid d → l.journal ≤ MOST_JOURNAL
    → map Says rs ≡ answers_on (runs d) (opened_by d l) ss
    → book ≡ scheduled_by (runs d) (opened_by d l) ss
    → RunsAsRead b d l ss book rs

-- the block is sound, and the set is its
pub record IsSoundSet (b : PlainBlock) (d : Draft) : Type 0 where
  pub sound : Sound b
  pub matches : MatchesBlock b d

-- events without a rebase, from a link's opening on: there is a reply to each, and they are as the
-- text says
pub record EventsAsRead (b : PlainBlock) (d : Draft) (l : LimitNumbers) (es : List Event)
    (book : Ledger) : Type 0 where
  pub replies : List Reply
  pub runs : RunsAsRead b d l (map step.Event es) book replies

abbrev pub EventsLaw : Type 0
EventsLaw = (b : PlainBlock) (d : Draft) (l : LimitNumbers) (es : List Event) (book : Ledger)
    → IsSoundSet b d → IsValid d → l.journal ≤ MOST_JOURNAL
    → book ≡ after_by (runs d) (opened_by d l) es
    → EventsAsRead b d l es book
