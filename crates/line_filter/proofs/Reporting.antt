-- Lines reported one after another.
use Rattle.std.proofs.Common.{◌≡◌, ℕ, ◌+◌, List, [], ◌∷◌, ◌++◌, true, false, Option, refl, sym, ap, ◌∙◌, subst, append_assoc, append-nil}
use Rattle.std.proofs.KnownBytes.{Appends-nil, Appends-trans}
use Rattle.std.proofs.lemmas.Grind.{flat_map-append}
use Rattle.line_filter.specs.Reporting.{ToldLine, octets_of, has_to_wait, kept, Stand, whole, queued, TellsLine, Queues, went, waits_behind, counted, GoFirst, MovesOn, IsToGo, GoOn, no_line, one_line, go_first, TellsLines, AreTold, none_told, goes_on, is_lost, GoesOnOrWaits}
use Rattle.line_filter.specs.declared.reports.Wait.{Wait}

octets-append : (xs ys : List ToldLine) → octets_of (xs ++ ys) ≡ octets_of xs ++ octets_of ys
octets-append xs ys = flat_map-append (λ l. l.octets) xs ys

go_on : (gone : List ℕ) (waits : List ToldLine) (lost : ℕ) (bs : List ToldLine) (mid : List ℕ) (ws : List ToldLine) (n : ℕ) (cs : List ToldLine) (last : List ℕ)
    (left : List ToldLine) (most : ℕ) → GoOn gone waits lost bs mid ws n → GoOn mid ws n cs last left most → GoOn gone waits lost (bs ++ cs) last left most
go_on gone waits lost bs mid ws n _ _ _ _ first no_line =
    let P : List ToldLine → Type 0 = λ l. GoOn gone waits lost l mid ws n in subst P (sym (append-nil bs)) first
go_on gone waits lost bs mid ws n _ _ _ _ first (one_line {lines} {later} {left} {more} line last last_left most rest goes) =
    let P : List ToldLine → Type 0 = λ l. GoOn gone waits lost l last last_left most in
    subst P (append_assoc bs lines (line ∷ [])) (one_line line last last_left most (go_on gone waits lost bs mid ws n lines later left more first rest) goes)
go_on gone waits lost bs mid ws n _ _ _ _ first (go_first {lines} {later} {left} {more} last last_left rest goes) =
    go_first last last_left (go_on gone waits lost bs mid ws n lines later left more first rest) goes

pub tells_none : (s : Stand) → TellsLines s s []
tells_none (whole known) = Appends-nil known
tells_none (queued gone waits lost) = no_line

whole_trans : (a b c : Option (List ℕ)) (bs cs : List ToldLine) → TellsLines (whole a) (whole b) bs → TellsLines (whole b) (whole c) cs
    → TellsLines (whole a) (whole c) (bs ++ cs)
whole_trans a b c bs cs first second =
    subst (λ (octets : List ℕ). Rattle.std.specs.Io.KnownBytes.Appends a c octets) (sym (octets-append bs cs)) (Appends-trans a b c (octets_of bs) (octets_of cs) first second)

pub tells_trans : (a b c : Stand) (bs cs : List ToldLine) → TellsLines a b bs → TellsLines b c cs → TellsLines a c (bs ++ cs)
tells_trans (whole a) (whole b) (whole c) bs cs first second = whole_trans a b c bs cs first second
tells_trans (whole a) (whole b) (queued c ws n) bs cs first second = second
tells_trans (whole a) (queued b vs n) c bs cs first second = absurd first
tells_trans (queued a us n) (whole b) c bs cs first second = absurd first
tells_trans (queued a us n) (queued b vs m) (whole c) bs cs first second = second
tells_trans (queued a us n) (queued b vs m) (queued c ws k) bs cs first second = go_on a us n bs b vs m cs c ws k first second

one_told : (a b : Stand) (line : ToldLine) → TellsLine a b line → TellsLines a b (line ∷ [])
one_told (whole a) (whole b) line tells = subst (λ (octets : List ℕ). Rattle.std.specs.Io.KnownBytes.Appends a b octets) (sym (append-nil line.octets)) tells
one_told (whole a) (queued b ws n) line tells = tells
one_told (queued a us n) (whole b) line tells = tells
one_told (queued a us n) (queued b ws m) line tells = one_line line b ws m no_line tells

pub tells_one : (a b : Stand) (wait : Wait) (now : ℕ) (text : List ℕ)
    → TellsLine a b (record { wait = wait; octets = (Rattle.std.specs.Fmt.decimal now ++ 32 ∷ text) ++ 10 ∷ [] }) → TellsLines a b (kept wait now text)
tells_one a b wait now text tells = one_told a b (record { wait = wait; octets = (Rattle.std.specs.Fmt.decimal now ++ 32 ∷ text) ++ 10 ∷ [] }) tells

-- Waiting lines are written, and nothing is reported.
pub tells_moved : (a b : Stand) → MovesOn a b → TellsLines a b []
tells_moved (whole a) b same = subst (λ (s : Stand). TellsLines (whole a) s []) (sym same) (Appends-nil a)
tells_moved (queued a us n) (whole b) moves = moves
tells_moved (queued a us n) (queued b ws m) moves =
    subst (λ (k : ℕ). GoOn a us n [] b ws k) (sym moves.1) (go_first b ws no_line moves.0)

-- ---- lines that have to wait are never lost

-- the lines written, and those left after them
all_of : (gone : List ℕ) (waits : List ToldLine) (later : List ℕ) (left : List ToldLine) → GoFirst gone waits later left
    → later ++ octets_of left ≡ gone ++ octets_of waits
all_of gone waits later left goes =
    ap (λ (l : List ℕ). l ++ octets_of left) goes.goes
    ∙ (append_assoc gone (octets_of goes.first) (octets_of left)
    ∙ ap (λ (l : List ℕ). gone ++ l) (sym (octets-append goes.first left) ∙ ap octets_of (sym goes.parts)))

one_behind : (waits : List ToldLine) (wait : Wait) (text : List ℕ)
    → octets_of (waits ++ record { wait = wait; octets = text } ∷ []) ≡ octets_of waits ++ text
one_behind waits wait text =
    octets-append waits (record { wait = wait; octets = text } ∷ []) ∙ ap (λ (l : List ℕ). octets_of waits ++ l) (append-nil text)

line_goes : (start : List ℕ) (text : List ℕ) (line : ToldLine) (lines : List ToldLine) (lost : ℕ) (later : List ℕ) (left : List ToldLine) (more : ℕ) (last : List ℕ)
    (last_left : List ToldLine) (most : ℕ) → AreTold lost lines text more → later ++ octets_of left ≡ start ++ text
    → Queues line later left more last last_left most
    → (all : List ℕ) × AreTold lost (lines ++ line ∷ []) all most × (last ++ octets_of last_left ≡ start ++ all)
line_goes start text line lines lost later left more last last_left most told all (went goes to_go is none zero) = (
  text ++ goes,
  subst (λ (n : ℕ). AreTold lost (lines ++ line ∷ []) (text ++ goes) n) (sym zero) (goes_on line goes told to_go),
  ap (λ (ls : List ToldLine). last ++ octets_of ls) none
      ∙ (append-nil last ∙ (is ∙ (ap (λ (l : List ℕ). l ++ goes) all ∙ append_assoc start text goes))),
)
line_goes start text line lines lost later left more last last_left most told all (waits_behind goes to_go waits first zero) = (
  text ++ goes,
  subst (λ (n : ℕ). AreTold lost (lines ++ line ∷ []) (text ++ goes) n) (sym zero) (goes_on line goes told to_go),
  all_of later (left ++ record { wait = line.wait; octets = goes } ∷ []) last last_left first
      ∙ (ap (λ (l : List ℕ). later ++ l) (one_behind left line.wait goes)
      ∙ (sym (append_assoc later (octets_of left) goes) ∙ (ap (λ (l : List ℕ). l ++ goes) all ∙ append_assoc start text goes))),
)
line_goes start text line lines lost later left more last last_left most told all (counted never first one) = (
  text,
  subst (λ (n : ℕ). AreTold lost (lines ++ line ∷ []) text n) (sym one) (is_lost line told never),
  all_of later left last last_left first ∙ all,
)

pub never_lost : (gone : List ℕ) (waits : List ToldLine) (lost : ℕ) (later : List ℕ) (left : List ToldLine) (more : ℕ) (lines : List ToldLine) → GoOn gone waits lost lines later left more
    → GoesOnOrWaits gone waits lost lines later left more
never_lost gone waits lost _ _ _ _ no_line = record { text = []; told = none_told; all = sym (append-nil (gone ++ octets_of waits)) }
never_lost gone waits lost _ _ _ _ (one_line {lines} {later} {left} {more} line last last_left most rest goes) =
    let before = never_lost gone waits lost later left more lines rest in
    let one = line_goes (gone ++ octets_of waits) before.text line lines lost later left more last last_left most before.told before.all goes in
    record { text = one.0; told = one.1; all = one.2 }
never_lost gone waits lost _ _ _ _ (go_first {lines} {later} {left} {more} last last_left rest goes) =
    let before = never_lost gone waits lost later left more lines rest in
    record { text = before.text; told = before.told; all = all_of later left last last_left goes ∙ before.all }
