-- The transitions of two sets, and the lines for those that differ. A transition of NEW corresponds
-- to the transition of OLD whose process, state and input have the same names.
use Rattle.std.specs.Prelude.{
  ℕ,
  Bool,
  true,
  false,
  List,
  [],
  ◌∷◌,
  ◌++◌,
  codes,
  if◌then◌else◌,
  eqb,
  ◌==◌,
  count_by,
}
use Rattle.std.specs.List.{flat_map}
use Rattle.std.specs.Fmt.{decimal}
use Rattle.turn_code.specs.declared.draft.Cert.{Cert}
use Rattle.turn_code.specs.declared.draft.Draft.{Draft}
use Rattle.turn_code.specs.declared.draft.DraftInput.{DraftInput}
use Rattle.turn_code.specs.declared.draft.DraftPiece.{DraftPiece}
use Rattle.turn_code.specs.declared.draft.DraftProcess.{DraftProcess}
use Rattle.turn_code.specs.declared.draft.DraftState.{DraftState}
use Rattle.turn_code.specs.declared.draft.Trigger.{Trigger}
use Rattle.turn_code.specs.declared.draft.Trigger.TheVariants.{Signal, Timer}
use Rattle.draw_diff.specs.Names.{Sides, is_number, moved_signal, moved_timer, same_name}
use Rattle.draw_diff.specs.Renaming.{are_renamed}
use Rattle.draw_diff.specs.Items.{sign_of, trigger_text}
use Rattle.draw_diff.specs.declared.side.Side.{Side}
use Rattle.draw_diff.specs.declared.side.Side.TheVariants.{Old, New}

-- ---- names and certificates

abbrev pub start_title : DraftProcess → List ℕ
start_title p = p.name ++ codes " START"

abbrev pub input_title : Draft → DraftProcess → DraftState → DraftInput → List ℕ
input_title d p q i =
    p.name ++ codes " " ++ q.name ++ codes "/" ++ trigger_text d p i.trigger

abbrev pub count_text : List ℕ → ℕ → List ℕ
count_text word n = word ++ decimal n

-- a count of OLD, followed by that of NEW if the two differ
abbrev pub counts_text : List ℕ → ℕ → ℕ → List ℕ
counts_text word m n =
    if eqb m n then count_text word m else (count_text word m ++ codes " -> " ++ decimal n)

abbrev pub cert_text : Cert → List ℕ
cert_text c =
    count_text (codes " budget ") c.budget ++ count_text (codes " depth ") c.depth
    ++ count_text (codes " effects ") c.effects

abbrev pub certs_text : Cert → Cert → List ℕ
certs_text c k =
    counts_text (codes " budget ") c.budget k.budget ++
    counts_text (codes " depth ") c.depth k.depth
    ++ counts_text (codes " effects ") c.effects k.effects

-- the line of a transition that the other set lacks
abbrev pub alone_line : List ℕ → List ℕ → DraftPiece → List ℕ
alone_line sign title piece = sign ++ title ++ cert_text piece.certificate ++ codes "\n"

-- the line of a transition of both sets whose code differs
abbrev pub differs_line : List ℕ → DraftPiece → DraftPiece → List ℕ
differs_line title piece other =
    codes "~ " ++ title ++ certs_text piece.certificate other.certificate ++ codes "\n"

-- the text for a transition of both sets: empty exactly if its code in NEW is its code in OLD,
-- renamed
abbrev pub pair_line : Sides → List ℕ → DraftPiece → DraftPiece → List ℕ
pair_line s title piece other =
    if are_renamed s piece.code other.code then [] else differs_line title piece other

-- whether two inputs wait for the same signal or timer, compared by name
abbrev pub takes_same : Sides → Trigger → Trigger → Bool
takes_same s (Signal m) (Signal n) = is_number (moved_signal s m.0) n.0
takes_same s (Signal m) (Timer n) = false
takes_same s (Timer m) (Signal n) = false
takes_same s (Timer m) (Timer n) = is_number (moved_timer s m.0) n.0

-- ---- transitions that only one set has

abbrev pub alone_input : List ℕ → Draft → DraftProcess → DraftState → DraftInput → List ℕ
alone_input sign d p q i = alone_line sign (input_title d p q i) i.piece

abbrev pub alone_state : List ℕ → Draft → DraftProcess → DraftState → List ℕ
alone_state sign d p q = flat_map (alone_input sign d p q) q.inputs

abbrev pub alone_process : List ℕ → Draft → DraftProcess → List ℕ
alone_process sign d p =
    alone_line sign (start_title p) p.start ++ flat_map (alone_state sign d p) p.states

-- ---- the transitions of one side, each next to the first of the same name on the other side:
-- those of OLD are removed, changed or unchanged; those of NEW are added or known

-- the set of this side
abbrev pub set_of : Side → Sides → Draft
set_of Old s = s.old
set_of New s = s.new

-- the process of this side
abbrev pub process_of : Side → Sides → DraftProcess
process_of Old s = s.old_process
process_of New s = s.new_process

-- the process of the other side
abbrev pub other_process : Side → Sides → DraftProcess
other_process Old s = s.new_process
other_process New s = s.old_process

-- a set and its process, with those of the other side, in the order OLD, NEW
abbrev pub sides_of : Side → Draft → DraftProcess → Draft → DraftProcess → Sides
sides_of Old d p e r = record { old = d; old_process = p; new = e; new_process = r }
sides_of New d p e r = record { old = e; old_process = r; new = d; new_process = p }

-- whether an input of this side waits for the same signal or timer as one of the other side
abbrev pub takes_as : Side → Sides → Trigger → Trigger → Bool
takes_as Old s t u = takes_same s t u
takes_as New s t u = takes_same s u t

-- the line of an input that both sets have; only the old side writes it
abbrev pub both_line : Side → Sides → DraftState → DraftInput → DraftInput → List ℕ
both_line Old s q i j = pair_line s (input_title s.old s.old_process q i) i.piece j.piece
both_line New s q i j = []

abbrev pub input_lines : Side → Sides → DraftState → DraftInput → List DraftInput → List ℕ
input_lines side s q i [] = alone_input (sign_of side) (set_of side s) (process_of side s) q i
input_lines side s q i (j ∷ js) =
    if takes_as side s i.trigger j.trigger then both_line side s q i j
    else input_lines side s q i js

abbrev pub inputs_lines : Side → Sides → DraftState → List DraftInput → List ℕ
inputs_lines side s q others = flat_map (λ i. input_lines side s q i others) q.inputs

abbrev pub state_lines : Side → Sides → DraftState → List DraftState → List ℕ
state_lines side s q [] = alone_state (sign_of side) (set_of side s) (process_of side s) q
state_lines side s q (r ∷ rs) =
    if same_name q.name r.name then inputs_lines side s q r.inputs else state_lines side s q rs

abbrev pub states_lines : Side → Sides → List ℕ
states_lines side s =
    flat_map (λ q. state_lines side s q (other_process side s).states) (process_of side s).states

-- the line of the START of a process that both sets have; only the old side writes it
abbrev pub start_line : Side → Sides → List ℕ
start_line Old s =
    pair_line s (start_title s.old_process) s.old_process.start s.new_process.start
start_line New s = []

abbrev pub pair_lines : Side → Sides → List ℕ
pair_lines side s = start_line side s ++ states_lines side s

abbrev pub process_lines : Side → Draft → Draft → DraftProcess → List DraftProcess → List ℕ
process_lines side d e p [] = alone_process (sign_of side) d p
process_lines side d e p (r ∷ rs) =
    if same_name p.name r.name then pair_lines side (sides_of side d p e r)
    else process_lines side d e p rs

-- the lines of the transitions of one side; the first set is that of the side
abbrev pub way_lines : Side → Draft → Draft → List ℕ
way_lines side d e = flat_map (λ p. process_lines side d e p e.processes) d.processes

abbrev pub old_way_lines : Draft → Draft → List ℕ
old_way_lines d e = way_lines Old d e

abbrev pub new_way_lines : Draft → Draft → List ℕ
new_way_lines d e = way_lines New e d

-- ---- counts

-- the number of line feeds in a text
abbrev pub lines_in : List ℕ → ℕ
lines_in text = count_by (λ b. b == 10) text

-- the number of transitions in a set: each has a line
abbrev pub ways_in : Draft → ℕ
ways_in d = lines_in (flat_map (alone_process (codes "") d) d.processes)
