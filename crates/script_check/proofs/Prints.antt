-- Printed output, composed.
use Rattle.std.proofs.Common.{◌≡◌, ℕ, List, ◌++◌, Option, None, Some, IfSome, subst}
use Rattle.std.specs.Io.KnownBytes.{Appends}
use Rattle.turn_code.specs.declared.draft.Draft.{Draft}
use Rattle.script_check.specs.declared.sets.FoundSet.{FoundSet}
use Rattle.script_check.specs.declared.sets.SetFault.{SetFault}
use Rattle.script_check.specs.Printed.{refusal_line}
use Rattle.script_check.specs.declared.sets.Refusal.{Refusal}
use Rattle.script_check.specs.Checked.{IsGiven, IsAccepted, IsNotAccepted, IsSetOf, IsFound, IsRefusal, IsRefusalOf, IsRefusedAt, PrintsPointed, PrintsRefusal}

-- An accepted set implies that its bytes are accepted.
pub is_accepted : (bytes : List ℕ) (d : Draft) → IsSetOf bytes d → IsAccepted bytes
is_accepted bytes d s = record { utf8 = s.utf8; sound = record { tokens = s.loaded.tokens; block = s.loaded.block; is_so = s.loaded.sound } }

held_of : (known : Option (List ℕ)) (bytes : List ℕ) (P : List ℕ → Type 0) → IfSome known (λ all. bytes ≡ all) → P bytes → IfSome known P
held_of None bytes P is holds = tt
held_of (Some all) bytes P is holds = subst P is holds

pub accepted_found : (known : Option (List ℕ)) (found : FoundSet) → IsGiven known (λ bytes. IsFound bytes found) → IfSome known IsAccepted
accepted_found known found g = held_of known g.bytes IsAccepted g.are_known (is_accepted g.bytes found.set g.holds.is_set)

pub refused_bytes : (known : Option (List ℕ)) (fault : SetFault) → IsGiven known (λ bytes. IsRefusalOf bytes fault) → IfSome known IsNotAccepted
refused_bytes known fault g = held_of known g.bytes IsNotAccepted g.are_known g.holds.refused

pub refusal_printed : (known old new : Option (List ℕ)) (fault : SetFault) → IsRefusal fault → IsGiven known (λ bytes. IsRefusalOf bytes fault)
    → Appends old new (refusal_line fault) → IsGiven known (PrintsRefusal old new)
refusal_printed known old new fault judged g printed =
    record { bytes = g.bytes; are_known = g.are_known; holds = record { fault = fault; judged = judged; is_so = g.holds.is_so; printed = printed } }

-- As above, for a refusal with its place.
pub of_refusal : (known : Option (List ℕ)) (r : Refusal) → IsGiven known (λ bytes. IsRefusedAt bytes r) → IsGiven known (λ bytes. IsRefusalOf bytes r.fault)
of_refusal known r g = record { bytes = g.bytes; are_known = g.are_known; holds = g.holds.refused }

pub pointed_printed : (known old new told tells : Option (List ℕ)) (name : List ℕ) (r : Refusal) → IsRefusal r.fault → IsGiven known (λ bytes. IsRefusedAt bytes r)
    → Appends old new (refusal_line r.fault) → Appends told tells (name ++ r.pointed.items) → IsGiven known (PrintsPointed name old new told tells)
pointed_printed known old new told tells name r judged g printed pointed = record {
  bytes = g.bytes;
  are_known = g.are_known;
  holds = record { refusal = r; judged = judged; is_so = g.holds; printed = printed; pointed = pointed };
}
