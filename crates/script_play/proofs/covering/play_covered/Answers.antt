use Rattle.std.proofs.Common.{◌≡◌, ℕ, List, Option, Some}
use Rattle.std.specs.Prelude.{IfSome}
use Rattle.script_check.specs.Checked.{given, own_word, IsAccepted}
use Rattle.mtp2_text.specs.Own.{text_of}
use Rattle.mtp2_text.specs.declared.own.OwnSet.{OwnSet}
use Rattle.script_check.specs.declared.sets.SetWord.{SetWord}
use Rattle.script_check.proofs.Own.{of_text}
use Rattle.script_play.specs.Played.{IsOnSet, IsRefused}
use Rattle.script_play.specs.Seen.{IsTextCovered, IsTextCoveredInPart}
use Rattle.script_play.proofs.covering.play_covered.Goals as goal

covered : {R : Type 0} (remaining : R → Option (List ℕ)) (own : OwnSet) (set : SetWord R) (text name : List ℕ) (script old new begun now : Option (List ℕ))
    → set ≡ own_word own → text ≡ text_of own → IsOnSet (Some text) script (λ limits. IsTextCovered name (Some text) limits old new begun now)
    → IsOnSet (given remaining set) script (λ limits. IsTextCovered name (given remaining set) limits old new begun now)
covered remaining own set text name script old new begun now is same h =
    of_text remaining own set text (λ known. IsOnSet known script (λ limits. IsTextCovered name known limits old new begun now)) is same h

covered_in_part : {R : Type 0} (remaining : R → Option (List ℕ)) (own : OwnSet) (set : SetWord R) (text name : List ℕ) (script old new begun now : Option (List ℕ))
    → set ≡ own_word own → text ≡ text_of own → IsOnSet (Some text) script (λ limits. IsTextCoveredInPart name (Some text) limits old new begun now)
    → IsOnSet (given remaining set) script (λ limits. IsTextCoveredInPart name (given remaining set) limits old new begun now)
covered_in_part remaining own set text name script old new begun now is same h =
    of_text remaining own set text (λ known. IsOnSet known script (λ limits. IsTextCoveredInPart name known limits old new begun now)) is same h

refused_over : {R : Type 0} (remaining : R → Option (List ℕ)) (own : OwnSet) (set : SetWord R) (text : List ℕ) (script old new : Option (List ℕ))
    → set ≡ own_word own → text ≡ text_of own → IsRefused (Some text) script old new → IsRefused (given remaining set) script old new
refused_over remaining own set text script old new is same h = of_text remaining own set text (λ known. IsRefused known script old new) is same h

pub returns-in-Ok-clause-accepted : goal.returns-in-Ok-clause-accepted
returns-in-Ok-clause-accepted g c done =
    of_text _ c.in-Ok.own _ _ (λ known. IfSome known IsAccepted) c.in-Ok.ensures.own c.text.ensures (c.cover_own.ensures.accepted done)

pub returns-in-Ok-clause-held : goal.returns-in-Ok-clause-held
returns-in-Ok-clause-held g c zero = covered _ c.in-Ok.own _ _ _ _ _ _ _ _ c.in-Ok.ensures.own c.text.ensures (c.cover_own.ensures.held zero)

pub returns-in-Ok-clause-missed : goal.returns-in-Ok-clause-missed
returns-in-Ok-clause-missed g c one = covered_in_part _ c.in-Ok.own _ _ _ _ _ _ _ _ c.in-Ok.ensures.own c.text.ensures (c.cover_own.ensures.missed one)

pub returns-in-Ok-clause-refused : goal.returns-in-Ok-clause-refused
returns-in-Ok-clause-refused g c two = refused_over _ c.in-Ok.own _ _ _ _ _ c.in-Ok.ensures.own c.text.ensures (c.cover_own.ensures.refused two)

pub returns-in-Ok-read_text-clause-accepted : goal.returns-in-Ok-read_text-clause-accepted
returns-in-Ok-read_text-clause-accepted g c done = rw c.in-Err.ensures.text (c.cover_read.ensures.accepted done _ c.in-Ok-read_text.ensures)

pub returns-in-Ok-read_text-clause-held : goal.returns-in-Ok-read_text-clause-held
returns-in-Ok-read_text-clause-held g c zero = rw c.in-Err.ensures.text (c.cover_read.ensures.held zero _ c.in-Ok-read_text.ensures)

pub returns-in-Ok-read_text-clause-missed : goal.returns-in-Ok-read_text-clause-missed
returns-in-Ok-read_text-clause-missed g c one = rw c.in-Err.ensures.text (c.cover_read.ensures.missed one _ c.in-Ok-read_text.ensures)

pub returns-in-Ok-read_text-clause-refused : goal.returns-in-Ok-read_text-clause-refused
returns-in-Ok-read_text-clause-refused g c two = rw c.in-Err.ensures.text (c.cover_read.ensures.refused two _ c.in-Ok-read_text.ensures)
