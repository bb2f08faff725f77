-- The acts of a signalling link terminal on a line, except for reporting.
use Rattle.std.specs.Prelude.{◌≡◌, ℕ, Bool, true, false, List, [], ◌∷◌, Option, None, Some, map}
use Rattle.std.specs.Prelude.{codes, string_bytes}
use Rattle.std.specs.Str.{bytes_eq}
use Rattle.su_octets.specs.declared.units.Unit as units
use Rattle.actor_machine.specs.declared.event.Event.TheVariants.{Advance}
use Rattle.link_processes.specs.Machine.{offered, tidied, tick_refusal}
use Rattle.script_ends.specs.Term.{Term, with_processes}
use Rattle.script_ends.specs.Hearing.{Heard}
use Rattle.script_links.specs.TermCommands.{PlainTermCommand}
use Rattle.script_ends.specs.TermAnswers.{next_of, behind_next, behind_clear, Answers}
use Rattle.line_filter.specs.declared.terminal.Answer.{Answer}
use Rattle.line_filter.specs.declared.terminal.Answer.TheVariants as answer
use Rattle.line_play.specs.Commands.{is_question, line_command_of}
use Rattle.line_play.specs.Measured.{measured_lines}
use Rattle.line_play.specs.Told.{IsAnswerOf, IsBadLine}

-- the terminal returned its next signal unit
pub record Gives (t : Term) (unit : Option units.Unit) (u : Term) : Type 0 where
  pub unit_is : unit ≡ (next_of t).unit
  pub after : u ≡ behind_next t

-- it received an octet of the line; then its buffers were cleared if the text required it
pub record Hears (t : Term) (octet : ℕ) (u : Term) : Type 0 where
  pub middle : Term
  pub heard : Heard t (octet ∷ []) middle
  pub after : u ≡ behind_clear middle

-- a millisecond passed as one tick of the processes; then the buffers were cleared if the text
-- required it
unfoldable pub after_tick : Term → Term
after_tick t = behind_clear (with_processes t (offered (Advance 1) (tidied t.processes)))

-- a millisecond passes and isn't refused
pub record Passes (t u : Term) : Type 0 where
  pub after : u ≡ after_tick t
  pub passes : tick_refusal 1 (tidied t.processes) ≡ None

-- an order is obeyed as the script command for which a script would print this line
pub record ObeysOne (command : PlainTermCommand) (t : Term) (order : List ℕ) (answer : Answer)
    (u : Term) : Type 0 where
  pub line : List ℕ
  pub answers : Answers true command t line u
  pub answer_is : IsAnswerOf (is_question command) order line answer

-- an unreadable order is refused, and nothing changes
pub record Refuses (t : Term) (answer : Answer) (u : Term) : Type 0 where
  pub bad : IsBadLine answer
  pub same : u ≡ t

abbrev pub ObeysBy : Option PlainTermCommand → Term → List ℕ → Answer → Term → Type 0
ObeysBy None t order answer u = Refuses t answer u
ObeysBy (Some command) t order answer u = ObeysOne command t order answer u

-- whether the words request all measurements
abbrev pub asks_all : List (List ℕ) → Bool
asks_all [] = false
asks_all (word ∷ []) = bytes_eq word (codes "measure")
asks_all (word ∷ next ∷ more) = false

-- the lines of an answer are these
abbrev pub AreListed : List (List ℕ) → Answer → Type 0
AreListed lines answer.Done = ⊥
AreListed lines (answer.Said text) = ⊥
AreListed lines (answer.Listed listed) = map string_bytes listed.items ≡ lines
AreListed lines (answer.Refused why) = ⊥

-- all measurements are listed, and nothing changes
pub record Lists (t : Term) (answer : Answer) (u : Term) : Type 0 where
  pub listed : AreListed (measured_lines t) answer
  pub same : u ≡ t

abbrev pub ObeysWords : Bool → List (List ℕ) → Term → List ℕ → Answer → Term → Type 0
ObeysWords true words t order answer u = Lists t answer u
ObeysWords false words t order answer u = ObeysBy (line_command_of words) t order answer u
