-- Sets that are checked, a single one or several in turn.
use Rattle.std.proofs.Common.{◌≡◌, ℕ, List, [], ◌∷◌, Option, ap, subst, length, get_or}
use Rattle.mtp2_words.specs.declared.requests.Named.{Named}
use Rattle.mtp2_words.specs.declared.requests.Warned.{Warned}
use Rattle.mtp2_play.specs.Printed.{AreCheckedAll, IsChecked, IsCheckedBy}

pub alone : (sets : List Named) (d : Named) (warned : Warned) (status : ℕ) (old new : Option (List ℕ)) → length sets ≡ 1 → IsChecked (get_or sets 0 d) warned status old new → IsCheckedBy status
    → AreCheckedAll sets warned status old new
alone sets d warned status old new single checked done = record {
  one = λ set is. let P : List Named → Type 0 = λ l. IsChecked (get_or l 0 d) warned status old new in subst P is checked;
  ends = done;
}

pub in_turn : (sets : List Named) (warned : Warned) (status : ℕ) (old new : Option (List ℕ)) → (length sets ≡ 1 → ⊥) → IsCheckedBy status → AreCheckedAll sets warned status old new
in_turn sets warned status old new others done = record { one = λ set is. absurd (others (ap length is)); ends = done }

pub of_same : (sets others : List Named) (warned : Warned) (status : ℕ) (old new : Option (List ℕ)) → others ≡ sets → AreCheckedAll others warned status old new → AreCheckedAll sets warned status old new
of_same sets others warned status old new is all = let P : List Named → Type 0 = λ l. AreCheckedAll l warned status old new in subst P is all
