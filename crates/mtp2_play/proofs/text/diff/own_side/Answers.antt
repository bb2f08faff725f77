use Rattle.std.proofs.Common.{◌≡◌, ℕ, List, Option, Some}
use Rattle.std.proofs.lemmas.Result.{IfErr-weaker, IfOk-weaker}
use Rattle.script_check.specs.Checked.{given, own_word, IsGiven}
use Rattle.script_check.specs.declared.sets.SetWord.{SetWord}
use Rattle.script_check.proofs.Own.{to_text}
use Rattle.mtp2_words.specs.Own.{text_of}
use Rattle.mtp2_words.specs.mtp2_text_types.own.OwnSet.{OwnSet}
use Rattle.mtp2_play.proofs.text.diff.own_side.Goals as goal

over_text : {R : Type 0} (remaining : R → Option (List ℕ)) (own : OwnSet) (set : SetWord R) (P : List ℕ → Type 0) → set ≡ own_word own
    → IsGiven (given remaining set) P → IsGiven (Some (text_of own)) P
over_text remaining own set P is h = to_text remaining own set (λ known. IsGiven known P) is h

pub returns-clause-set : goal.returns-clause-set
returns-clause-set g c =
    IfOk-weaker c.with_text.result _ _ (λ side h. over_text _ c.args.own _ _ c.own_set.ensures h) c.with_text.ensures.set

pub returns-clause-refused : goal.returns-clause-refused
returns-clause-refused g c =
    IfErr-weaker c.with_text.result _ _ (λ s h two. over_text _ c.args.own _ _ c.own_set.ensures (h two)) c.with_text.ensures.refused
