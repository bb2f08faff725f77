-- A command to the terminal of a link.
use Rattle.std.specs.Prelude.{◌≡◌, ◌&&◌, Bool, true, false, not, if◌then◌else◌, Option, Some, None}
use Rattle.std.specs.Prelude.{ℕ, List, [], ◌++◌, take, is_some, codes}
use Rattle.actor_machine.specs.Printed.{refusal_text}
use Rattle.actor_machine.specs.Ledger.{ask}
use Rattle.actor_machine.specs.Step.{Says}
use Rattle.actor_machine.specs.declared.reply.Refusal.{Refusal}
use Rattle.actor_machine.specs.declared.reply.Reply.TheVariants as reply
use Rattle.link_processes.specs.Machine.{is_low, tidied, offered, clear_obeyed, to_clear}
use Rattle.link_processes.specs.Offering.{command_event}
use Rattle.link_processes.specs.declared.commands.Command.{Command}
use Rattle.link_processes.specs.declared.commands.Command.TheVariants as order
use Rattle.link_term.specs.Term.{Term, with_processes}
use Rattle.link_term.specs.Kept.{Keeps, window_of}
use Rattle.resend_store.specs.declared.messages.Msu.{Msu}
use Rattle.group_changeover.specs.Availability.{fewer}
use Rattle.group_changeover.specs.Bound.{unbound}
use Rattle.group_changeover.specs.declared.availability.Availability.{Availability}
use Rattle.group_changeover.specs.declared.availability.Changing.{Changing}
use Rattle.link_group.specs.declared.commanding.CommandError.{CommandError}
use Rattle.link_group.specs.declared.commanding.CommandError.TheVariants as error
use Rattle.link_group.specs.declared.link.Link.{Link}
use Rattle.link_group.specs.OneLink.{is_serving, held}

abbrev pub is_start : Command → Bool
is_start order.Start = true
is_start order.PowerOn = false
is_start order.Stop = false
is_start order.Emergency = false
is_start order.Calm = false
is_start order.Outage = false
is_start order.Back = false
is_start order.Busy = false
is_start order.Free = false
is_start order.Flush = false
is_start order.Continue = false
is_start order.Overload = false

abbrev pub is_barred_in : Option Changing → Bool
is_barred_in None = false
is_barred_in (Some c) = not (is_some c.retrieval)

-- Start is barred in a changeover until its messages are retrieved, since the far side's report
-- refers to the present numbers.
abbrev pub is_barred : Command → Link → Bool
is_barred command k = is_start command && is_barred_in k.availability.changing

abbrev pub starts_anew : Command → Link → Bool
starts_anew command k = is_start command && not (is_serving k)

abbrev pub marked : Bool → Availability → Availability
marked anew m = if anew then record m { anew = true } else m

-- A link that is started while out of service is marked as restarted.
abbrev pub started : Command → Link → Availability
started command k = marked (starts_anew command k) k.availability

-- the terminal after the command, before buffers are cleared
abbrev pub behind_command : Command → Term → Term
behind_command command t =
    let p = tidied t.processes
    in with_processes t (offered (command_event p.names command) p)

-- the messages that are cleared: all held ones, if the text requested that
abbrev pub cleared_of : Term → List Msu
cleared_of t = take (to_clear t.processes) (window_of t).kept

-- The buffers are cleared, if the text requested that. A count of accepted messages becomes one of
-- the remaining messages.
abbrev pub clears : Link → Link
clears k = record k {
  terminal = with_processes k.terminal (clear_obeyed k.terminal.processes);
  availability = fewer (to_clear k.terminal.processes) k.availability;
}

-- the cleared messages that aren't bound to the link, which count as unsure
abbrev pub cleared_by : Command → Link → List Msu
cleared_by command k = unbound k.points (cleared_of (behind_command command k.terminal))

abbrev pub cleared_at : Command → Option Link → List Msu
cleared_at command None = []
cleared_at command (Some k) = cleared_by command k

-- The terminal accepted the command, which removes no message. Then the buffers are cleared, if the
-- text requested that.
pub record Commanded (command : Command) (old new : Link) : Type 0 where
  pub points : new.points ≡ old.points
  pub hand : new.hand ≡ old.hand
  pub free : is_barred command old ≡ false
  pub answer :
      let t = tidied old.terminal.processes
      in Says reply.Offered ≡ (ask t.book (command_event t.names command)).answer
  pub terminal :
      let t = behind_command command old.terminal
      in new.terminal ≡ with_processes t (clear_obeyed t.processes)
  pub keeps : Keeps old.terminal (behind_command command old.terminal)
  pub kept :
      held old ≡ cleared_of (behind_command command old.terminal) ++ held new
  pub availability :
      new.availability
      ≡ fewer (to_clear (behind_command command old.terminal).processes) (started command old)

-- The terminal refused the command. Nothing changed, except that its journal may have room now.
pub record Refused (command : Command) (refusal : Refusal) (old new : Link) : Type 0 where
  pub points : new.points ≡ old.points
  pub hand : new.hand ≡ old.hand
  pub free : is_barred command old ≡ false
  pub answer :
      let t = tidied old.terminal.processes
      in Says (reply.Refused refusal) ≡ (ask t.book (command_event t.names command)).answer
  pub terminal : new.terminal ≡ with_processes old.terminal (tidied old.terminal.processes)
  pub availability : new.availability ≡ old.availability

-- The command has to wait.
pub record Barred (command : Command) (old new : Link) : Type 0 where
  pub bars : is_barred command old ≡ true
  pub same : new ≡ old

-- Its journal lacks room, and memory ran out.
pub record Lacks (command : Command) (old new : Link) : Type 0 where
  pub free : is_barred command old ≡ false
  pub low : is_low old.terminal.processes ≡ true
  pub same : new ≡ old

abbrev pub command_error_text : CommandError → List ℕ
command_error_text error.NoLink = codes "K1 NoLink"
command_error_text error.Waiting = codes "K2 Waiting"
command_error_text (error.Refused refusal) = refusal_text refusal
command_error_text error.NoMemory = codes "out of memory"

-- the effect of a command on a link, by why it is refused, if it is
abbrev pub Commands : Command → Option CommandError → Link → Link → Type 0
Commands command None old new = Commanded command old new
Commands command (Some error.NoLink) old new = ⊥
Commands command (Some error.Waiting) old new = Barred command old new
Commands command (Some (error.Refused refusal)) old new = Refused command refusal old new
Commands command (Some error.NoMemory) old new = Lacks command old new
