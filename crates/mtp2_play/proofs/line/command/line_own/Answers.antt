use Rattle.std.proofs.Common.{◌≡◌, ℕ, List, Option, Some}
use Rattle.line_filter.specs.Filters.{Line}
use Rattle.script_check.specs.Checked.{given, own_word}
use Rattle.script_check.specs.declared.sets.SetWord.{SetWord}
use Rattle.script_check.proofs.Own.{to_text}
use Rattle.mtp2_words.specs.Own.{text_of}
use Rattle.mtp2_words.specs.mtp2_text_types.own.OwnSet.{OwnSet}
use Rattle.mtp2_words.specs.declared.ends.LineEnd.{LineEnd}
use Rattle.mtp2_play.specs.Printed.{IsSpoken}
use Rattle.mtp2_play.proofs.line.command.line_own.Goals as goal

spoken_over : {R : Type 0} (name : List ℕ) (remaining : R → Option (List ℕ)) (own : OwnSet) (set : SetWord R) (end : LineEnd) (status : ℕ) (old new : Line)
    → set ≡ own_word own → IsSpoken name (given remaining set) end status old new → IsSpoken name (Some (text_of own)) end status old new
spoken_over name remaining own set end status old new is s = to_text remaining own set (λ known. IsSpoken name known end status old new) is s

pub returns : goal.returns
returns g c = spoken_over _ _ c.args.own _ _ _ _ _ c.own_set.ensures c.line_on.ensures
