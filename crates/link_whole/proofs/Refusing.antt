-- The result of loading a text, from the promises of `load`: a refusal, or a run of its set.
use Rattle.std.proofs.Common.{ℕ, List, Result, Err}
use Rattle.sdl_lex.specs.declared.lexemes.Token.{Token}
use Rattle.sdl_ast.specs.Plain.{PlainBlock}
use Rattle.turn_code.specs.declared.draft.Draft.{Draft}
use Rattle.turn_verify.specs.Loaded.{Gives, IsLoaded, IsRead, IsRefused, IsSoundText}
use Rattle.turn_verify.specs.Meant.{IsSetOfBlock}
use Rattle.turn_verify.specs.declared.loading.LoadFault.{LoadFault}
use Rattle.turn_verify.specs.declared.loading.LoadFault.TheVariants.{Lex, Parse, Rule, NoMemory}
use Rattle.actor_book.specs.Limits.{LimitNumbers}
use Rattle.actor_machine.specs.Ledger.{Ledger}
use Rattle.actor_book.specs.declared.schedule.Scheduled.{Scheduled}
use Rattle.actor_machine.specs.declared.reply.Reply.{Reply}
use Rattle.link_whole.specs.Headline.{IsFault, IsRun, RunsAsRead}

pub refused_so : (text : List ℕ) (fault : LoadFault) (P : PlainBlock → Draft → Type 0) → IsRefused text fault
    → ((ts : List Token) (b : PlainBlock) → IsSoundText text ts b → (let r : Result Draft LoadFault = Err fault in Gives r (P b))) → IsFault text fault
refused_so text (Lex fault line) P refused exact = (refused, λ s. exact s.tokens s.block s.is_so)
refused_so text (Parse fault line) P refused exact = (refused, λ s. exact s.tokens s.block s.is_so)
refused_so text (Rule fault line) P refused exact = (refused, λ s. exact s.tokens s.block s.is_so)
refused_so text NoMemory P refused exact = tt

pub run_so : (text : List ℕ) (d : Draft) (l : LimitNumbers) (ss : List Scheduled) (book : Ledger) (replies : List Reply) → IsLoaded text d
    → ((ts : List Token) (b : PlainBlock) → IsRead text ts b → IsSetOfBlock b d) → ((b : PlainBlock) → IsSetOfBlock b d → RunsAsRead b d l ss book replies)
    → IsRun text l ss book replies
run_so text d l ss book replies loaded every runs = record {
  sound = record { tokens = loaded.tokens; block = loaded.block; is_so = loaded.sound };
  set = d;
  every = λ ts b read. runs b (every ts b read);
}
