use Rattle.std.proofs.Common.{◌≡◌, ℕ, List, Option, Some}
use Rattle.script_check.specs.Checked.{given, own_word, IsGiven}
use Rattle.script_check.specs.declared.sets.SetWord.{SetWord}
use Rattle.script_check.proofs.Own.{to_text}
use Rattle.mtp2_words.specs.Own.{text_of}
use Rattle.mtp2_words.specs.mtp2_text_types.own.OwnSet.{OwnSet}
use Rattle.mtp2_play.proofs.text.check.check_own.Goals as goal

over_text : {R : Type 0} (remaining : R → Option (List ℕ)) (own : OwnSet) (set : SetWord R) (P : List ℕ → Type 0) → set ≡ own_word own
    → IsGiven (given remaining set) P → IsGiven (Some (text_of own)) P
over_text remaining own set P is h = to_text remaining own set (λ known. IsGiven known P) is h

pub returns-clause-costs : goal.returns-clause-costs
returns-clause-costs g c = λ zero. over_text _ c.args.own _ _ c.own_set.ensures (c.check_telling.ensures.costs zero)

pub returns-clause-refusal : goal.returns-clause-refusal
returns-clause-refusal g c = λ two. over_text _ c.args.own _ _ c.own_set.ensures (c.check_telling.ensures.refusal two)
