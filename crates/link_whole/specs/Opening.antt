-- A terminal over the set of a text.
use Rattle.std.specs.Prelude.{ℕ, List}
use Rattle.turn_code.specs.declared.draft.Draft.{Draft}
use Rattle.turn_verify.specs.Loaded.{IsLoaded, IsRefused}
use Rattle.mtp2_text.specs.declared.standard_text.TheConstants.{STANDARD}
use Rattle.resend_store.specs.declared.messages.Mode.{Mode}
use Rattle.link_term.specs.Opening.{IsOver, IsRefusedOver}
use Rattle.link_term.specs.Term.{Term}
use Rattle.link_whole.specs.declared.opening.NewError.{NewError}
use Rattle.link_whole.specs.declared.opening.NewError.TheVariants.{Load, Open}

abbrev pub IsNew : List ℕ → Mode → Term → Type 0
IsNew text mode t = (d : Draft) × IsLoaded text d × IsOver d mode t

-- the text is refused, or there is no terminal over its set
abbrev pub IsRefusedNew : List ℕ → NewError → Type 0
IsRefusedNew text (Load fault) = IsRefused text fault
IsRefusedNew text (Open error) = (d : Draft) × IsLoaded text d × IsRefusedOver d error

-- a new terminal over the set of the text STANDARD, and why there is none
abbrev pub IsNewStandard : Mode → Term → Type 0
IsNewStandard = IsNew STANDARD.now

abbrev pub IsRefusedStandard : NewError → Type 0
IsRefusedStandard = IsRefusedNew STANDARD.now
