-- Steps of the searches.
use Rattle.std.proofs.Common.{◌≡◌, ℕ, zero, suc, ◌+◌, ◌<◌, ◌≤◌, Bool, true, false, List, [], ◌∷◌, ◌++◌, map, length, take, Option, None, Some, find, cond, refl, sym, ap, ◌∙◌, subst, arith, get_or, inl, inr, ◌⊎◌, ◌≢◌, ◌*◌, ◌%◌, ◌^◌, if◌then◌else◌, length-take-le}
use Rattle.std.specs.Prelude.{slice_get, IfSome, IfNone}
use Rattle.std.specs.Option.{option_map, option_map_or}
use Rattle.std.specs.Int.{bit_at, w32}
use Rattle.std.specs.Int.RustNames.{bit_or}
use Rattle.std.proofs.lemmas.Nat.Bits.{bit_at_set_same, bit_at_set_other}
use Rattle.std.specs.Global.{Vec}
use Rattle.std.proofs.lemmas.Option.{slice_get-get_or, slice_get_within, slice_get-map, slice_get_past, same_Some as some_same}
use Rattle.std.proofs.lemmas.Bool.{cases_eq}
use Rattle.std.proofs.lemmas.List.{length-map, take_more}
use Rattle.sdl_unset.specs.declared.paths.Graph.{Graph}
use Rattle.sdl_unset.specs.declared.paths.Fate.{Fate}
use Rattle.sdl_unset.specs.declared.paths.Fate.TheVariants.{Unset, Set}
use Rattle.sdl_unset.specs.declared.paths.Step as number
use Rattle.sdl_unset.specs.declared.paths.Step.TheVariants.{Input as By}
use Rattle.sdl_unset.specs.Order.{NotAfter, IsSorted, IsFirst}
use Rattle.sdl_unset.proofs.Orders.{not_after_trans}
use Rattle.sdl_unset.specs.Graph.{IfUnset, IfSet, IsClosedSet, ReadsUnset, IsShortest}
use Rattle.sdl_ast.specs.Plain.{PlainProcess, PlainBlock}
use Rattle.sdl_ast.specs.declared.expression.Identifier.{Identifier}
use Rattle.sdl_tables.specs.Names.{same_name, states_of, Input, inputs_of, inputs_by_state}
use Rattle.sdl_tables.specs.Rows.{row_input, rows_inputs}
use Rattle.sdl_unset.specs.Fates.{is_set_in, set_bit, IsFate, AreSet, IsUnsetAt, fate_path, HasFirst, IsNamed, declared_name, IsSpelled}
use Rattle.sdl_tables.specs.declared.process_table.InputRow.{InputRow}
use Rattle.sdl_sound.specs.declared.fault.Step.TheVariants.{Input as Takes}
use Rattle.sdl_unset.proofs.PathNames.{inputs_back}
use Rattle.sdl_unset.proofs.Settling.{numbered_length}

-- ---- fates

pub fate_by : (g : Graph) (v : ℕ) (f : Fate) → IfUnset f (λ path. ReadsUnset g v path.items) → IfUnset f (λ path. IsShortest g v path.items)
    → IfUnset f (λ path. IsSorted g → IsFirst g v path.items) → IsSorted g → IfSet f (λ _. (path : List number.Step) → ReadsUnset g v path → ⊥) → IfSet f (λ marks. IsClosedSet g v marks.items) → IsFate g v f
fate_by g v (Unset path) found fewest first sorted none closed = (found, fewest, first sorted)
fate_by g v (Set marks) found fewest first sorted none closed = (none, closed)

pub push_at : {A : Type 0} (P : ℕ → A → Type 0) (xs : List A) (y : A) (n : ℕ) → length xs ≡ n → ((v : ℕ) (x : A) → slice_get xs v ≡ Some x → P v x) → P n y
    → (v : ℕ) (x : A) → slice_get (xs ++ y ∷ []) v ≡ Some x → P v x
push_at P [] y n count before last zero x e =
    let here : n ≡ zero = sym count in
    subst (λ m. P m x) here (subst (P n) (some_same y x e) last)
push_at P [] y n count before last (suc v) x e = let bad : None ≡ Some x = e in absurd (cc)
push_at P (z ∷ xs) y n count before last zero x e = before zero x e
push_at P (z ∷ xs) y n count before last (suc v) x e =
    push_at (λ m. P (suc m)) xs y (length xs) refl (λ w u h. before (suc w) u h) (subst (λ m. P m y) (sym count) last) v x e

-- ---- the first of the variables

abbrev pub AreSetBelow : List Fate → ℕ → Type 0
AreSetBelow fates k = (v : ℕ) (path : Vec number.Step) → v < k → slice_get fates v ≡ Some (Unset path) → ⊥

unset-set : (path : Vec number.Step) (marks : Vec Bool) → Some (Unset path) ≡ Some (Set marks) → ⊥
unset-set path marks e = cc

pub set_more : (fates : List Fate) (k : ℕ) (f : Fate) (marks : Vec Bool) → k < length fates → f ≡ get_or fates k f → f ≡ Set marks
    → AreSetBelow fates k → AreSetBelow fates (k + 1)
set_more fates k f marks within read is before v path lt e = elim (cases_eq v k) [
  | inl here ↦
      let there : slice_get fates k ≡ Some (Set marks) = slice_get-get_or fates k f within ∙ ap Some (sym read ∙ is) in
      absurd (unset-set path marks (sym e ∙ (ap (slice_get fates) here ∙ there)))
  | inr other ↦ before v path (omega (arith, lt, other)) e
]

pub set_all : (fates : List Fate) (k : ℕ) → length fates ≤ k → AreSetBelow fates k → AreSet fates
set_all fates k past below v path e = below v path (omega (arith, past, slice_get_within fates v (Unset path) e)) e

pub unset_at : (fates : List Fate) (k : ℕ) (f : Fate) (path : Vec number.Step) → k < length fates → f ≡ get_or fates k f → f ≡ Unset path → IsUnsetAt fates k
unset_at fates k f path within read is = (path, slice_get-get_or fates k f within ∙ ap Some (sym read ∙ is))

pub first_is : (fates : List Fate) (best : Option ℕ) (other r : ℕ) → (r ≡ other) ⊎ (best ≡ Some r) → IfSome best (IsUnsetAt fates) → IsUnsetAt fates other
    → IsUnsetAt fates r
first_is fates best other r one found last = elim one [
  | inl e ↦ subst (IsUnsetAt fates) (sym e) last
  | inr e ↦ subst (λ (o : Option ℕ). IfSome o (IsUnsetAt fates)) e found
]

-- No variable below a number that is read unset has a path before this one.
abbrev pub HasFirstBelow : List Fate → ℕ → ℕ → Type 0
HasFirstBelow fates k v = (w : ℕ) → w < k → IsUnsetAt fates w → NotAfter (fate_path fates v) (fate_path fates w)

-- One more variable, which is set.
pub first_past : (fates : List Fate) (k : ℕ) (f : Fate) (marks : Vec Bool) (best : Option ℕ) → k < length fates → f ≡ get_or fates k f → f ≡ Set marks
    → IfSome best (HasFirstBelow fates k) → IfSome best (HasFirstBelow fates (k + 1))
first_past fates k f marks None within read is before = tt
first_past fates k f marks (Some v) within read is before = λ w lt u. elim (cases_eq w k) [
  | inl here ↦
      let there : slice_get fates k ≡ Some (Set marks) = slice_get-get_or fates k f within ∙ ap Some (sym read ∙ is) in
      absurd (unset-set u.0 marks (sym u.1 ∙ (ap (slice_get fates) here ∙ there)))
  | inr other ↦ before w (omega (arith, lt, other)) u
]

-- The path of the named variable isn't after an earlier one, by comparison with the best one before.
first_before : (fates : List Fate) (k r w : ℕ) (best : Option ℕ) → IfSome best (λ one. NotAfter (fate_path fates r) (fate_path fates one))
    → (best ≡ None → AreSetBelow fates k) → IfSome best (HasFirstBelow fates k) → w < k → IsUnsetAt fates w
    → NotAfter (fate_path fates r) (fate_path fates w)
first_before fates k r w None than none before below u = absurd (none refl w u.0 below u.1)
first_before fates k r w (Some one) than none before below u =
    not_after_trans (fate_path fates r) (fate_path fates one) (fate_path fates w) than (before w below u)

-- One more variable, which is read unset.
pub first_more : (fates : List Fate) (k r : ℕ) (best : Option ℕ) → NotAfter (fate_path fates r) (fate_path fates k)
    → IfSome best (λ one. NotAfter (fate_path fates r) (fate_path fates one)) → (best ≡ None → AreSetBelow fates k)
    → IfSome best (HasFirstBelow fates k) → HasFirstBelow fates (k + 1) r
first_more fates k r best last than none before w lt u = elim (cases_eq w k) [
  | inl here ↦ let P : ℕ → Type 0 = λ n. NotAfter (fate_path fates r) (fate_path fates n) in subst P (sym here) last
  | inr other ↦ first_before fates k r w best than none before (omega (arith, lt, other)) u
]

pub first_all : (fates : List Fate) (k : ℕ) (best : Option ℕ) → length fates ≤ k → IfSome best (HasFirstBelow fates k) → IfSome best (HasFirst fates)
first_all fates k None past below = tt
first_all fates k (Some v) past below = λ w u. below w (omega (arith, past, slice_get_within fates w (Unset u.0) u.1)) u

-- ---- names

cond_found : {A : Type 0} (p : A → Bool) (x y : A) (b : Bool) (o : Option A) → p x ≡ b → (o ≡ Some y → p y ≡ true) → cond b (Some x) o ≡ Some y → p y ≡ true
cond_found p x y true o holds rest e = ap p (sym (some_same x y e)) ∙ holds
cond_found p x y false o holds rest e = rest e

pub find_holds : {A : Type 0} (p : A → Bool) (xs : List A) (y : A) → find p xs ≡ Some y → p y ≡ true
find_holds p [] y e = let bad : None ≡ Some y = e in absurd (cc)
find_holds p (x ∷ xs) y e = cond_found p x y (p x) (find p xs) refl (find_holds p xs y) e

-- ---- rows

-- the rows of a state
pub rows_there : (p : PlainProcess) (states : List (Vec InputRow)) (q : ℕ) (rows : Vec InputRow) → map rows_inputs states ≡ inputs_by_state p
    → slice_get states q ≡ Some rows → map row_input rows.items ≡ inputs_of p q
rows_there p states q rows same there =
    let row : slice_get (inputs_by_state p) q ≡ Some (rows_inputs rows) =
    ap (λ l. slice_get l q) (sym same) ∙ (slice_get-map rows_inputs states q ∙ ap (option_map rows_inputs) there) in
    (inputs_back p q (rows_inputs rows) row).1

pub states_count : (p : PlainProcess) (states : List (Vec InputRow)) → map rows_inputs states ≡ inputs_by_state p → length states ≡ length (states_of p)
states_count p states same =
    sym (length-map states rows_inputs) ∙ (ap length same ∙ numbered_length (inputs_of p) (states_of p) 0)

pub rows_count : (p : PlainProcess) (q : ℕ) (rows : List InputRow) → map row_input rows ≡ inputs_of p q → length rows ≡ length (inputs_of p q)
rows_count p q rows same = sym (length-map rows row_input) ∙ ap length same

pub named_by : (p : PlainProcess) (q i : ℕ) (id : Identifier) (rows : List InputRow) (row : InputRow) (signal : List ℕ) → slice_get (states_of p) q ≡ Some id
    → map row_input rows ≡ inputs_of p q → slice_get rows i ≡ Some row → same_name signal row.stimulus.now.name.name ≡ true
    → IsNamed p (By q i) (Takes id.name signal)
named_by p q i id rows row signal state same there heard =
    let input : slice_get (inputs_of p q) i ≡ Some (row_input row) =
    ap (λ l. slice_get l i) (sym same) ∙ (slice_get-map row_input rows i ∙ ap (option_map row_input) there) in
    (id, state, row_input row, input, signal, heard, refl)

pub spelled_by : (b : PlainBlock) (p : PlainProcess) (q i : ℕ) (x heard : List ℕ) (rows : List InputRow) (row : InputRow)
    → map row_input rows ≡ inputs_of p q → slice_get rows i ≡ Some row → heard ≡ declared_name b p row.stimulus.now.name.name
    → IsSpelled b p (By q i) (Takes x heard)
spelled_by b p q i x heard rows row same there is inp at state signal e =
    let input : slice_get (inputs_of p q) i ≡ Some (row_input row) =
    ap (λ l. slice_get l i) (sym same) ∙ (slice_get-map row_input rows i ∙ ap (option_map row_input) there) in
    let one : row_input row ≡ inp = some_same (row_input row) inp (sym input ∙ at) in
    let other : heard ≡ signal = let t : Takes x heard ≡ Takes state signal = e in cc in
    sym other ∙ (is ∙ ap (λ (j : Input). declared_name b p j.stimulus.name.name) one)

-- ---- bits

slice_get-push_same : {A : Type 0} (xs : List A) (y : A) (k : ℕ) → length xs ≡ k → slice_get (xs ++ y ∷ []) k ≡ Some y
slice_get-push_same [] y zero n = refl
slice_get-push_same [] y (suc k) n = absurd (omega (arith, n))
slice_get-push_same (x ∷ xs) y zero n = absurd (omega (arith, n))
slice_get-push_same (x ∷ xs) y (suc k) n = slice_get-push_same xs y k (omega (arith, n))

slice_get-push_other : {A : Type 0} (xs : List A) (y : A) (k v : ℕ) → length xs ≡ k → v ≢ k → slice_get (xs ++ y ∷ []) v ≡ slice_get xs v
slice_get-push_other [] y k zero n ne = absurd (ne n)
slice_get-push_other [] y k (suc v) n ne = refl
slice_get-push_other (x ∷ xs) y k zero n ne = refl
slice_get-push_other (x ∷ xs) y k (suc v) n ne = slice_get-push_other xs y (length xs) v refl (λ e. ne (omega (arith, e, n)))

abbrev bit_if : Bool → ℕ
bit_if b = if b then 1 else 0

abbrev bit_by : ℕ → Option Fate → ℕ
bit_by q o = option_map_or (λ f. if is_set_in f q then 1 else 0) o 0

bit_here : (fates : List Fate) (q k : ℕ) (f : Fate) → k < length fates → f ≡ get_or fates k f
    → set_bit (take (k + 1) fates) q k ≡ bit_by q (Some f)
bit_here fates q k f within read =
    ap (bit_by q) (ap (λ l. slice_get l k) (take_more fates k f within)
    ∙ (slice_get-push_same (take k fates) (get_or fates k f) k (length-take-le k fates (omega (arith, within))) ∙ ap Some (sym read)))

bit_other : (fates : List Fate) (q k v : ℕ) (f : Fate) → k < length fates → v ≢ k → set_bit (take (k + 1) fates) q v ≡ set_bit (take k fates) q v
bit_other fates q k v f within ne =
    ap (bit_by q) (ap (λ l. slice_get l v) (take_more fates k f within)
    ∙ slice_get-push_other (take k fates) (get_or fates k f) k v (length-take-le k fates (omega (arith, within))) ne)

bit_before : (fates : List Fate) (q k : ℕ) → k < length fates → set_bit (take k fates) q k ≡ 0
bit_before fates q k within =
    let short : length (take k fates) ≡ k = length-take-le k fates (omega (arith, within)) in
    ap (bit_by q) (slice_get_past (take k fates) k (omega (arith, short)))

abbrev pub AreBitsBelow : List Fate → ℕ → ℕ → ℕ → Type 0
AreBitsBelow fates q k set = (v : ℕ) → bit_at set v ≡ set_bit (take k fates) q v

pub bits_set : (fates : List Fate) (q k set : ℕ) (f : Fate) → k < length fates → k < 32 → f ≡ get_or fates k f → is_set_in f q ≡ true
    → AreBitsBelow fates q k set → AreBitsBelow fates q (k + 1) (bit_or set (1 * 2 ^ k % 2 ^ 32))
bits_set fates q k set f within low read is before v = elim (cases_eq v k) [
  | inl here ↦
      let one : bit_by q (Some f) ≡ 1 = ap bit_if is in
      let added : bit_at (bit_or set (1 * 2 ^ k % 2 ^ 32)) k ≡ 1 = bit_at_set_same w32 set k low in
      subst (λ (u : ℕ). bit_at (bit_or set (1 * 2 ^ k % 2 ^ 32)) u ≡ set_bit (take (k + 1) fates) q u) (sym here)
      (added ∙ sym (bit_here fates q k f within read ∙ one))
  | inr other ↦
      let kept : bit_at (bit_or set (1 * 2 ^ k % 2 ^ 32)) v ≡ bit_at set v = bit_at_set_other w32 set k low v other in
      kept ∙ before v ∙ sym (bit_other fates q k v f within other)
]

pub bits_same : (fates : List Fate) (q k set : ℕ) (f : Fate) → k < length fates → f ≡ get_or fates k f → is_set_in f q ≡ false
    → AreBitsBelow fates q k set → AreBitsBelow fates q (k + 1) set
bits_same fates q k set f within read is before v = elim (cases_eq v k) [
  | inl here ↦
      let none : bit_by q (Some f) ≡ 0 = ap bit_if is in
      subst (λ (u : ℕ). bit_at set u ≡ set_bit (take (k + 1) fates) q u) (sym here)
      (before k ∙ bit_before fates q k within ∙ sym (bit_here fates q k f within read ∙ none))
  | inr other ↦ before v ∙ sym (bit_other fates q k v f within other)
]

pub some_is : (n : ℕ) → Some n ≡ None → ⊥
some_is n e = cc

pub none_is : (o : Option ℕ) (fates : List Fate) → (o ≡ None → AreSet fates) → IfNone o (AreSet fates)
none_is None fates h = h refl
none_is (Some n) fates h = tt
