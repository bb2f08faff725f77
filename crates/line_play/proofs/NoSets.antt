-- The terminal that `new_terminal` returns, or why it returns none.
use Rattle.std.proofs.Common.{◌≡◌, ℕ, List, ◌++◌, Option, Some, Result, IfOk}
use Rattle.std.proofs.lemmas.Result.{IfOk-weaker}
use Rattle.script_ends.specs.Opening.{IsOverWithin}
use Rattle.script_ends.specs.Term.{Term}
use Rattle.script_check.specs.Checked.{IsFound, IsGiven, IsRefusal, IsRefusedAt}
use Rattle.script_check.specs.Printed.{limit_line}
use Rattle.script_check.specs.declared.sets.Refusal.{Refusal}
use Rattle.mtp2_text.specs.TextLimits.{limits_in, wrong_in}
use Rattle.script_check.specs.declared.sets.FoundSet.{FoundSet}
use Rattle.mtp2_text.specs.declared.limits.LimitName.{LimitName}
use Rattle.script_links.specs.resend_store_types.messages.Mode.{Mode}
use Rattle.script_links.specs.resend_store_types.messages.RoundLimits.{RoundLimits}
use Rattle.std.specs.Io.KnownBytes.{Appends}
use Rattle.line_play.specs.Opening.{IsNewOver, IsNoSet, IsRefusalTold, by_fault, by_limit}
use Rattle.line_play.specs.declared.link.opening.ChosenLimits.{ChosenLimits}

-- the text is refused
pub no_text : (chosen : ChosenLimits) (mode : Mode) (known : Option (List ℕ)) (name : List ℕ) (old new : Option (List ℕ)) (r : Refusal) (status : ℕ)
    → (IsRefusal r.fault → IsGiven known (λ bytes. IsRefusedAt bytes r)) → (status ≡ 2 → IsRefusal r.fault)
    → (status ≡ 2 → IsRefusalTold r.fault (name ++ r.pointed.items) old new) → status ≡ 2 → IsGiven known (IsNoSet name chosen mode old new)
no_text chosen mode known name old new r status at judged told two =
    let g = at (judged two) in
    record { bytes = g.bytes; are_known = g.are_known; holds = by_fault (record { refusal = r; judged = judged two; is_so = g.holds; told = told two }) }

pub no_limit : (name_of_text : List ℕ) (chosen : ChosenLimits) (mode : Mode) (known : Option (List ℕ)) (found : FoundSet) (name : LimitName) (old new : Option (List ℕ)) → IsGiven known (λ bytes. IsFound bytes found)
    → wrong_in mode found.limits chosen.messages chosen.octets ≡ Some name → Appends old new (limit_line name) → IsGiven known (IsNoSet name_of_text chosen mode old new)
no_limit name_of_text chosen mode known found name old new h wrong printed =
    record { bytes = h.bytes; are_known = h.are_known; holds = by_limit found name h.holds wrong printed }

pub new_over : {E : Type 0} (r : Result Term E) (chosen : ChosenLimits) (mode : Mode) (known : Option (List ℕ)) (found : FoundSet) (limits : RoundLimits)
    → IsGiven known (λ bytes. IsFound bytes found) → limits_in mode found.limits chosen.messages chosen.octets ≡ Some limits → IfOk r (IsOverWithin found.set limits mode)
    → IfOk r (λ (t : Term). IsGiven known (IsNewOver chosen mode t))
new_over r chosen mode known found limits given are over =
    IfOk-weaker r (IsOverWithin found.set limits mode) (λ (t : Term). IsGiven known (IsNewOver chosen mode t))
    (λ t is. record { bytes = given.bytes; are_known = given.are_known; holds = record { found = found; is_set = given.holds; limits = limits; are_limits = are; over = is } }) over
