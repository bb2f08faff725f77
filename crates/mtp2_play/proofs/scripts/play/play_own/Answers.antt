use Rattle.std.proofs.Common.{◌≡◌, ℕ, List, Option, Some}
use Rattle.script_check.specs.Checked.{given, own_word}
use Rattle.script_check.specs.declared.sets.SetWord.{SetWord}
use Rattle.mtp2_words.specs.mtp2_text_types.limits.TextLimits.{TextLimits}
use Rattle.script_check.specs.turn_code_types.draft.Draft.{Draft}
use Rattle.script_check.proofs.Own.{to_text}
use Rattle.script_play.specs.Played.{IsOnSet, IsRefused}
use Rattle.mtp2_words.specs.Own.{text_of}
use Rattle.mtp2_words.specs.mtp2_text_types.own.OwnSet.{OwnSet}
use Rattle.mtp2_play.proofs.scripts.play.play_own.Goals as goal

on_text : {R : Type 0} (remaining : R → Option (List ℕ)) (own : OwnSet) (set : SetWord R) (script : Option (List ℕ)) (P : TextLimits → Draft → List ℕ → Type 0) → set ≡ own_word own
    → IsOnSet (given remaining set) script P → IsOnSet (Some (text_of own)) script P
on_text remaining own set script P is h = to_text remaining own set (λ known. IsOnSet known script P) is h

refused_over : {R : Type 0} (remaining : R → Option (List ℕ)) (own : OwnSet) (set : SetWord R) (script old new : Option (List ℕ)) → set ≡ own_word own
    → IsRefused (given remaining set) script old new → IsRefused (Some (text_of own)) script old new
refused_over remaining own set script old new is h = to_text remaining own set (λ known. IsRefused known script old new) is h

pub returns-clause-printed : goal.returns-clause-printed
returns-clause-printed g c = record {
  held = λ zero. on_text _ c.args.own _ _ _ c.own_set.ensures (c.play_source.ensures.held zero);
  missed = λ one. on_text _ c.args.own _ _ _ c.own_set.ensures (c.play_source.ensures.missed one);
  refused = λ two. refused_over _ c.args.own _ _ _ _ c.own_set.ensures (c.play_source.ensures.refused two);
}
