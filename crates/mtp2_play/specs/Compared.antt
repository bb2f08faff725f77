-- The output of `diff` for two sets, by its exit status.
use Rattle.std.specs.Prelude.{◌≡◌, ◌⊎◌, ℕ, ◌+◌, ◌-◌, true, List, [], ◌++◌, Option, All, codes}
use Rattle.std.specs.Prelude.{bytes_eq, if◌then◌else◌, min}
use Rattle.std.specs.Fmt.{decimal}
use Rattle.std.specs.Io.KnownBytes.{Appends}
use Rattle.script_check.specs.turn_code_types.draft.Draft.{Draft}
use Rattle.draw_diff.specs.declared.comparing.Difference.{Difference}
use Rattle.draw_diff.specs.Items.{item_lines, items_of}
use Rattle.draw_diff.specs.Ways.{lines_in, new_way_lines, old_way_lines, ways_in}
use Rattle.draw_sets.specs.Noting.{AreNoted}
use Rattle.link_term.specs.Wanted.{wanted, Has, IsFirstLacking}
use Rattle.link_term.specs.link_processes_types.wanted.Wanted.{Wanted}
use Rattle.link_term.specs.WantedText.{wanted_text}
use Rattle.script_check.specs.Checked.{IsGiven, IsRefusal, IsRefusalOf, IsSetOf}
use Rattle.script_check.specs.Fronts.{in_front}
use Rattle.script_check.specs.Printed.{refusal_line}
use Rattle.script_check.specs.declared.sets.SetFault.{SetFault}

-- two sets have no difference that would get a line
pub record AreAlike (d e : Draft) : Type 0 where
  pub items : item_lines (items_of d) (items_of e) ≡ []
  pub olds : old_way_lines d e ≡ []
  pub news : new_way_lines d e ≡ []

-- all lines of transitions that differ
abbrev pub way_lines : Draft → Draft → List ℕ
way_lines d e = old_way_lines d e ++ new_way_lines d e

-- The number of OLD's transitions without a line, of all transitions in either set. Both numbers
-- are at most the largest 64-bit number.
abbrev pub same_text : Draft → Draft → List ℕ
same_text d e =
    codes "same " ++ decimal (ways_in d - lines_in (old_way_lines d e)) ++ codes " of "
    ++ decimal (min (ways_in d + lines_in (new_way_lines d e)) 18446744073709551615) ++ codes "\n"

-- whether a set has all names that a terminal needs, and else the first name that it lacks
abbrev pub SaysTerminal : Draft → List ℕ → Type 0
SaysTerminal d said =
    ((said ≡ codes "yes") × All (Has d) wanted)
    ⊎ ((name : Wanted) × IsFirstLacking d name wanted × (said ≡ codes "no " ++ wanted_text name))

-- the last line, from the two answers about terminals
abbrev pub terminal_text : List ℕ → List ℕ → List ℕ
terminal_text before after =
    if bytes_eq before after
    then codes "terminal " ++ before ++ codes "\n"
    else codes "terminal " ++ before ++ codes " -> " ++ after ++ codes "\n"

-- the last two lines
pub record IsSummary (d e : Draft) (text : List ℕ) : Type 0 where
  pub before : List ℕ
  pub after : List ℕ
  pub of_old : SaysTerminal d before
  pub of_new : SaysTerminal e after
  pub is_so : text ≡ same_text d e ++ terminal_text before after

-- the differences found between two sets
pub record AreFound (d e : Draft) (found : Difference) : Type 0 where
  pub items : found.items.items ≡ item_lines (items_of d) (items_of e)
  pub olds : found.olds.items ≡ old_way_lines d e
  pub news : found.news.items ≡ new_way_lines d e

-- The text about two sets: their differing declarations, the differing transitions with notes below
-- each, and the last two lines.
pub record PrintsDifference (old new : Option (List ℕ)) (d e : Draft) : Type 0 where
  pub ways : List ℕ
  pub end : List ℕ
  pub noted : AreNoted (way_lines d e) ways
  pub summary : IsSummary d e end
  pub written : Appends old new (item_lines (items_of d) (items_of e) ++ ways ++ end)

-- The text if one side is refused: the line of a fault that it has, with the side before it.
pub record PrintsSide (side : List ℕ) (old new : Option (List ℕ)) (bytes : List ℕ) : Type 0 where
  pub fault : SetFault
  pub judged : IsRefusal fault
  pub is_so : IsRefusalOf bytes fault
  pub written : Appends old new (in_front side true (refusal_line fault))

-- P holds of the sets of two texts
pub record IsOfSets (one other : Option (List ℕ)) (P : Draft → Draft → Type 0) : Type 0 where
  pub old : Draft
  pub new : Draft
  pub is_old : IsGiven one (λ bytes. IsSetOf bytes old)
  pub is_new : IsGiven other (λ bytes. IsSetOf bytes new)
  pub holds : P old new

-- The text about two sets is written, with a status that says whether they are alike.
pub record Compares (status : ℕ) (old new : Option (List ℕ)) (d e : Draft) : Type 0 where
  pub printed : PrintsDifference old new d e
  pub alike : status ≡ 0 → AreAlike d e
  pub differ : status ≡ 1 → AreAlike d e → ⊥

-- the output of `diff`, by its exit status: about the sets of two texts, or that one is refused
pub record IsCompared (one other : Option (List ℕ)) (status : ℕ) (old new : Option (List ℕ)) :
    Type 0 where
  pub sets : (status ≡ 0) ⊎ (status ≡ 1) → IsOfSets one other (Compares status old new)
  pub refused : status ≡ 2
      → IsGiven one (PrintsSide (codes "OLD") old new)
      ⊎ IsGiven other (PrintsSide (codes "NEW") old new)
  pub ends : (status ≡ 0) ⊎ (status ≡ 1) ⊎ (status ≡ 2) ⊎ (status ≡ 4)
