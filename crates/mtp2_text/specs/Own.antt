-- The sets in the program: the word that names each, and its text.
use Rattle.std.specs.Prelude.{◌≡◌, ℕ, List, codes}
use Rattle.mtp2_text.specs.declared.own.OwnSet.{OwnSet}
use Rattle.mtp2_text.specs.declared.own.OwnSet.TheVariants.{Standard, Q703, Monitors}
use Rattle.mtp2_text.specs.declared.standard_text.TheConstants.{STANDARD}
use Rattle.mtp2_text.specs.declared.q703_text.TheConstants.{Q703 as Q703_TEXT}
use Rattle.mtp2_text.specs.declared.monitors_text.TheConstants.{MONITORS}

abbrev pub word_of : OwnSet → List ℕ
word_of Standard = codes "standard"
word_of Q703 = codes "q703"
word_of Monitors = codes "monitors"

abbrev pub text_of : OwnSet → List ℕ
text_of Standard = STANDARD.now
text_of Q703 = Q703_TEXT.now
text_of Monitors = MONITORS.now

-- A word names none of the sets.
abbrev pub NamesNone : List ℕ → Type 0
NamesNone word = (set : OwnSet) → word ≡ word_of set → ⊥
