-- Messages by the signalling link selection in their label (Q.704, load sharing).
use Rattle.std.specs.Prelude.{ℕ, ◌==◌, ◌%◌, Bool, not, List, [], ◌∷◌, Option, Some, None, length}
use Rattle.std.specs.Prelude.{map, filter, slice_get}
use Rattle.resend_store.specs.declared.messages.Msu.{Msu}
use Rattle.group_changeover.specs.declared.labels.Label.{Label}
use Rattle.group_changeover.specs.Labels.{label_in}

abbrev pub selection_by : Option Label → ℕ
selection_by None = 0
selection_by (Some label) = label.sls

-- the selection of a message; 0 for a message too short for a label
unfoldable pub selection_of : Msu → ℕ
selection_of m = selection_by (label_in m.sif.items)

abbrev pub is_on : ℕ → Msu → Bool
is_on s m = selection_of m == s

-- the messages of a selection, in order, and all others
unfoldable pub of : ℕ → List Msu → List Msu
of s ms = filter (is_on s) ms

unfoldable pub off : ℕ → List Msu → List Msu
off s ms = filter (λ m. not (is_on s m)) ms

abbrev pub selections : List ℕ
selections = 0 ∷ 1 ∷ 2 ∷ 3 ∷ 4 ∷ 5 ∷ 6 ∷ 7 ∷ 8 ∷ 9 ∷ 10 ∷ 11 ∷ 12 ∷ 13 ∷ 14 ∷ 15 ∷ []

-- the number of messages of each selection
unfoldable pub counts_of : List Msu → List ℕ
counts_of ms = map (λ s. length (of s ms)) selections

-- the link of a selection among those that may take it: the (s mod n)th of n links, or None if
-- there are no links
unfoldable pub pick : List ℕ → ℕ → Option ℕ
pick links s = slice_get links (s % length links)

abbrev pub entry_by : Option (Option ℕ) → Option ℕ
entry_by None = None
entry_by (Some link) = link

-- the link of a selection in a table
unfoldable pub link_of : List (Option ℕ) → ℕ → Option ℕ
link_of table s = entry_by (slice_get table s)
