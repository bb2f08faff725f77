-- The outcome of a command that was given to a link of a set: the link obeyed it, or refused it and
-- an error says why.
use Rattle.std.specs.Prelude.{◌≡◌, ◌⊎◌, ◌&&◌, not, ℕ, ◌≤◌, Bool, true, false, ⊤}
use Rattle.link_group.specs.Lines.{ByCommand, IsCommandError}
use Rattle.link_group.specs.Set.{LinkSet}
use Rattle.link_group.specs.declared.commanding.CommandError.{CommandError}
use Rattle.link_group.specs.declared.commanding.CommandError.TheVariants as error
use Rattle.link_group.specs.declared.state.LinkState.{LinkState}
use Rattle.link_processes.specs.declared.commands.Command.{Command}
use Rattle.link_processes.specs.declared.commands.Command.TheVariants as command
use Rattle.line_tending.specs.Cares.{lacks_emergency}
use Rattle.line_tending.specs.Tended.{Tended, link_count}
use Rattle.line_tending.specs.declared.link_duty.LinkDuty.{LinkDuty}

-- An error other than out of memory.
abbrev pub IsOther : CommandError → Type 0
IsOther error.NoLink = ⊤
IsOther error.Waiting = ⊤
IsOther (error.Refused refusal) = ⊤
IsOther error.NoMemory = ⊥

-- The command wasn't obeyed, as `left` says. If memory runs out, it may have been obeyed.
abbrev pub IsLeft : (CommandError → Type 0) → CommandError → Type 0
IsLeft left error.NoLink = left error.NoLink
IsLeft left error.Waiting = left error.Waiting
IsLeft left (error.Refused refusal) = left (error.Refused refusal)
IsLeft left error.NoMemory = ⊤

-- An order wasn't obeyed: there is no such link and nothing changed, or the link didn't obey it. If
-- memory ran out, it may have been obeyed.
abbrev pub IsDisobeyed : Command → ℕ → Tended → Tended → CommandError → Type 0
IsDisobeyed k l t u e =
    ((link_count t ≤ l) × (e ≡ error.NoLink) × (u ≡ t)) ⊎ IsLeft (IsCommandError k l t.set u.set) e

-- The link refused the command, with an error that says why.
pub record IsBarred (left : CommandError → Type 0) : Type 0 where
  pub why : CommandError
  pub other : IsOther why
  pub is_left : left why

-- The link obeyed the command (`true`) or refused it (`false`).
abbrev pub IsGiven : Type 0 → (CommandError → Type 0) → Bool → Type 0
IsGiven obeyed left true = obeyed
IsGiven obeyed left false = IsBarred left

-- The command was given to the link, which obeyed or refused it.
pub record WasGiven (obeyed : Type 0) (left : CommandError → Type 0) : Type 0 where
  pub took : Bool
  pub given : IsGiven obeyed left took

-- A link is given Start, after an emergency was declared for it if that was necessary.
pub record StartsAs (c : LinkDuty) (another_serves : Bool) (l : ℕ) (old new : LinkSet)
    (took : Bool) : Type 0 where
  pub urged : LinkSet
  pub urges :
      lacks_emergency another_serves c ≡ true
      → WasGiven (ByCommand command.Emergency l old urged)
      (IsCommandError command.Emergency l old urged)
  pub rests : lacks_emergency another_serves c ≡ false → urged ≡ old
  pub starts :
      IsGiven (ByCommand command.Start l urged new) (IsCommandError command.Start l urged new) took

-- A link resumes its messages after an outage: it carries none, though it is in service, not held,
-- and no processor is out.
abbrev pub resumes : LinkState → Bool
resumes s =
    (((not s.carrying && s.in_service) && not s.held) && not s.far_out) && not s.own_out
