-- Words that name none of the sets in the program.
use Rattle.std.proofs.Common.{◌≡◌, ℕ, List, codes}
use Rattle.mtp2_text.specs.Own.{NamesNone}
use Rattle.mtp2_text.specs.declared.own.OwnSet.TheVariants.{Standard, Q703, Monitors}

-- A word that differs from the three words names none of the sets.
pub names_none : (word : List ℕ) → (word ≡ codes "standard" → ⊥) → (word ≡ codes "q703" → ⊥) → (word ≡ codes "monitors" → ⊥) → NamesNone word
names_none word not_standard not_q703 not_monitors Standard is = not_standard is
names_none word not_standard not_q703 not_monitors Q703 is = not_q703 is
names_none word not_standard not_q703 not_monitors Monitors is = not_monitors is
