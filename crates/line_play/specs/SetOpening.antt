-- A self-tending link set whose terminals run the processes of a text.
use Rattle.std.specs.Prelude.{◌≡◌, ℕ, List, [], Some, All, length}
use Rattle.turn_code.specs.declared.draft.Draft.{Draft}
use Rattle.script_links.specs.resend_store_types.messages.Mode.{Mode}
use Rattle.script_links.specs.resend_store_types.messages.RoundLimits.{RoundLimits}
use Rattle.script_ends.specs.Kept.{window_of}
use Rattle.script_ends.specs.Opening.{IsOverWithin}
use Rattle.script_ends.specs.Term.{Term}
use Rattle.link_processes.specs.Wanted.{wanted, IsFirstLacking}
use Rattle.script_ends.specs.link_term_types.opening.OpenError.{OpenError}
use Rattle.script_ends.specs.link_term_types.opening.OpenError.TheVariants.{NoName, NoMemory}
use Rattle.script_check.specs.Checked.{IsFound}
use Rattle.mtp2_text.specs.TextLimits.{limits_in}
use Rattle.script_check.specs.declared.sets.FoundSet.{FoundSet}
use Rattle.link_group.specs.New.{new_set}
use Rattle.line_tending.specs.Tended.{Tended, IsNewTended}
use Rattle.line_play.specs.declared.set.opening.SetPlan.{SetPlan}

-- a terminal holds no message
abbrev pub IsEmpty : Term → Type 0
IsEmpty t = (window_of t).kept ≡ []

-- the name is the first needed by a terminal that the processes lack; `NoMemory` states nothing
-- about the names
abbrev pub LacksOne : Draft → OpenError → Type 0
LacksOne d (NoName name) = IsFirstLacking d name wanted
LacksOne d NoMemory = Unit {0}

-- `count` new terminals that run these processes, with this error correction and these limits
pub record AreNewTerminals (d : Draft) (limits : RoundLimits) (mode : Mode) (count : ℕ)
    (ts : List Term) : Type 0 where
  pub number : length ts ≡ count
  pub are_new : All (IsOverWithin d limits mode) ts

-- a link set of such terminals, as planned, before any report or tick
pub record IsNewTenderOf (plan : SetPlan) (limits : RoundLimits) (d : Draft) (t : Tended) :
    Type 0 where
  pub terminals : List Term
  pub new : AreNewTerminals d limits plan.mode plan.links terminals
  pub tended :
      IsNewTended plan.ends plan.tests (new_set plan.ends.own plan.ends.peer terminals) t

-- the bytes are a text whose processes have all names that a terminal needs; the link set runs
-- them, with the limits that are chosen, else the text's
pub record IsNewTenderOver (plan : SetPlan) (t : Tended) (bytes : List ℕ) : Type 0 where
  pub found : FoundSet
  pub is_set : IsFound bytes found
  pub limits : RoundLimits
  pub are_limits :
      limits_in plan.mode found.limits plan.limits.messages plan.limits.octets ≡ Some limits
  pub over : IsNewTenderOf plan limits found.set t
