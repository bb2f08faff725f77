-- Octets are those of at most one unit, and octets of a unit aren't refused.
use Rattle.std.proofs.Common.{◌≡◌, ℕ, ◌+◌, ◌-◌, ◌*◌, ◌/◌, ◌%◌, ◌<◌, ◌≤◌, suc, Bool, true, false, not, Some, None, Result, Ok, Err, List, [], ◌∷◌, ◌++◌, length, take, drop, get_or, refl, sym, ap, ◌∙◌, subst, arith, add-zero, append_assoc, lit<, lit≤}
use Rattle.std.specs.Prelude.{slice_index, slice_index_or, ◌↔◌, Option, IfSome, IfNone, IsTrue, is_some}
use Rattle.std.proofs.lemmas.List.{length-append, length-take, take-append-drop}
use Rattle.std.proofs.lemmas.Slice.Eq.{bytes_eq-Decides}
use Rattle.std.specs.Str.{bytes_eq}
use Rattle.std.proofs.Math.Seq.{take-append_seam, drop-append_seam, take-length}
use Rattle.su_octets.specs.Check.{Check}
use Rattle.su_octets.specs.Whole.{IsWhole, IsWholeHead}
use Rattle.su_octets.specs.Frame.{Frame, Refuses, SpareBitsAreZero, InSize, IsChecked, TellsLength, head_of, body_of, length_indicator, content_of}
use Rattle.su_octets.specs.declared.units.Head.{Head}
use Rattle.su_octets.specs.declared.units.Unit.{Unit}
use Rattle.su_octets.specs.declared.units.Unit.TheVariants.{Fisu, Lssu, Msu}
use Rattle.su_octets.specs.declared.units.UnitFault.{UnitFault}
use Rattle.su_octets.specs.declared.units.UnitFault.TheVariants.{TooShort, TooLong, BadCheck, BadLength}
use Rattle.arrayvec.specs.ArrayVec.{ArrayVec}
use Rattle.su_octets.proofs.CheckLaws.{one_check}
use Rattle.plain_laws.proofs.Lists.{head_same as head_item, tail_same as tail_items}

-- octets are refused for one fault only
pub one_fault : (octets : List ℕ) (f g : UnitFault) → Refuses octets f → Refuses octets g → f ≡ g
one_fault octets TooShort TooShort x y = refl
one_fault octets TooShort TooLong x y = absurd (omega arith)
one_fault octets TooShort BadCheck x y = absurd (omega (arith, y.0.0))
one_fault octets TooShort BadLength x y = absurd (omega (arith, y.0.0))
one_fault octets TooLong TooShort x y = absurd (omega arith)
one_fault octets TooLong TooLong x y = refl
one_fault octets TooLong BadCheck x y = absurd (omega (arith, y.0.1))
one_fault octets TooLong BadLength x y = absurd (omega (arith, y.0.1))
one_fault octets BadCheck TooShort x y = absurd (omega (arith, x.0.0))
one_fault octets BadCheck TooLong x y = absurd (omega (arith, x.0.1))
one_fault octets BadCheck BadCheck x y = refl
one_fault octets BadCheck BadLength x y = absurd (x.1 y.1)
one_fault octets BadLength TooShort x y = absurd (omega (arith, x.0.0))
one_fault octets BadLength TooLong x y = absurd (omega (arith, x.0.1))
one_fault octets BadLength BadCheck x y = absurd (y.1 x.1)
one_fault octets BadLength BadLength x y = refl

-- a body has at most 273 octets
pub body_fits : (unit : Unit) → IsWhole unit → length (body_of unit) ≤ 273
body_fits (Fisu head) whole = lit≤ tt
body_fits (Lssu head status None) whole = lit≤ tt
body_fits (Lssu head status (Some second)) whole = lit≤ tt
body_fits (Msu head sio sif) whole = omega (arith, whole.2)

pub head_fits : (unit : Unit) → IsWhole unit → IsWholeHead (head_of unit)
head_fits (Fisu head) whole = whole
head_fits (Lssu head status second) whole = whole
head_fits (Msu head sio sif) whole = whole.0

take_front : {A : Type 0} (n : ℕ) (xs ys : List A) → length xs ≡ n → take n (xs ++ ys) ≡ xs
take_front n xs ys long = ap (λ k. take k (xs ++ ys)) (sym long) ∙ take-append_seam xs ys

drop_front : {A : Type 0} (n : ℕ) (xs ys : List A) → length xs ≡ n → drop n (xs ++ ys) ≡ ys
drop_front n xs ys long = ap (λ k. drop k (xs ++ ys)) (sym long) ∙ drop-append_seam xs ys

length-frame : (unit : Unit) (spare : ℕ) (check : List ℕ) → length check ≡ 2 → length (content_of unit spare ++ check) ≡ length (body_of unit) + 5
length-frame unit spare check two = length-append (content_of unit spare) check ∙ omega arith

-- the parts of the octets of a unit
pub record Parts (octets : List ℕ) (unit : Unit) (spare : ℕ) (check : List ℕ) : Type 0 where
  pub long : length octets ≡ length (body_of unit) + 5
  pub front : take (length octets - 2) octets ≡ content_of unit spare
  pub back : drop (length octets - 2) octets ≡ check
  pub third : slice_index octets 2 ≡ length_indicator (length (body_of unit)) + 64 * spare

pub parts_of : (octets : List ℕ) (unit : Unit) (frame : Frame octets unit) → Parts octets unit frame.spare frame.check
parts_of octets unit frame =
    let long : length octets ≡ length (body_of unit) + 5 = ap length frame.all ∙ length-frame unit frame.spare frame.check frame.checked.two in
    let content_long : length (content_of unit frame.spare) ≡ length octets - 2 = omega arith in
    record {
      long = long;
      front = ap (λ os. take (length octets - 2) os) frame.all ∙ take_front (length octets - 2) (content_of unit frame.spare) frame.check content_long;
      back = ap (λ os. drop (length octets - 2) os) frame.all ∙ drop_front (length octets - 2) (content_of unit frame.spare) frame.check content_long;
      third = ap (λ os. slice_index os 2) frame.all;
    }

pub checked_of : (octets : List ℕ) (unit : Unit) → Frame octets unit → IsChecked octets
checked_of octets unit frame =
    let parts : Parts octets unit frame.spare frame.check = parts_of octets unit frame in
    let P : List ℕ → Type 0 = λ c. Check c (drop (length octets - 2) octets) in
    let Q : List ℕ → Type 0 = λ d. Check (content_of unit frame.spare) d in
    subst P (sym parts.front) (subst Q (sym parts.back) frame.checked)

pub tells_of : (octets : List ℕ) (unit : Unit) → Frame octets unit → TellsLength octets
tells_of octets unit frame =
    let parts : Parts octets unit frame.spare frame.check = parts_of octets unit frame in
    let behind : length octets - 5 ≡ length (body_of unit) = omega (arith, parts.long) in
    let low : (length_indicator (length (body_of unit)) + 64 * frame.spare) % 64 ≡ length_indicator (length (body_of unit)) = omega arith in
    ap (λ n. n % 64) parts.third ∙ low ∙ ap length_indicator (sym behind)

pub not_refused : (octets : List ℕ) (unit : Unit) (fault : UnitFault) → Frame octets unit → Refuses octets fault → ⊥
not_refused octets unit TooShort frame refused = let p = parts_of octets unit frame in omega (arith, p.long)
not_refused octets unit TooLong frame refused = let p = parts_of octets unit frame in omega (arith, p.long, body_fits unit frame.whole)
not_refused octets unit BadCheck frame refused = refused.1 (checked_of octets unit frame)
not_refused octets unit BadLength frame refused = refused.2 (tells_of octets unit frame)

-- ---- octets determine the unit
same_head : (u v : Head) → IsWholeHead u → IsWholeHead v → u.bsn + 128 * u.bib ≡ v.bsn + 128 * v.bib → u.fsn + 128 * u.fib ≡ v.fsn + 128 * v.fib → u ≡ v
same_head u v u_whole v_whole first second =
    let bsn : u.bsn ≡ v.bsn = omega arith in
    let bib : u.bib ≡ v.bib = omega arith in
    let fsn : u.fsn ≡ v.fsn = omega arith in
    let fib : u.fib ≡ v.fib = omega arith in
    rw (bsn, bib, fsn, fib) refl

same_items : (a b : ArrayVec ℕ) → a.items ≡ b.items → a ≡ b
same_items a b same = ap (λ xs. record { items = xs }) same

same_unit : (u v : Unit) → IsWhole u → IsWhole v → head_of u ≡ head_of v → body_of u ≡ body_of v → u ≡ v
same_unit (Fisu h) (Fisu k) uw vw head body = ap Fisu head
same_unit (Fisu h) (Lssu k s None) uw vw head body = absurd (let e : 0 ≡ 1 = ap length body in omega arith)
same_unit (Fisu h) (Lssu k s (Some t)) uw vw head body = absurd (let e : 0 ≡ 2 = ap length body in omega arith)
same_unit (Fisu h) (Msu k i f) uw vw head body = absurd (let e : 0 ≡ suc (length f.items) = ap length body in omega arith)
same_unit (Lssu h s None) (Fisu k) uw vw head body = absurd (let e : 1 ≡ 0 = ap length body in omega arith)
same_unit (Lssu h s None) (Lssu k t None) uw vw head body = cc
same_unit (Lssu h s None) (Lssu k t (Some w)) uw vw head body = absurd (let e : 1 ≡ 2 = ap length body in omega arith)
same_unit (Lssu h s None) (Msu k i f) uw vw head body = absurd (let e : 1 ≡ suc (length f.items) = ap length body in omega (arith, vw.1))
same_unit (Lssu h s (Some w)) (Fisu k) uw vw head body = absurd (let e : 2 ≡ 0 = ap length body in omega arith)
same_unit (Lssu h s (Some w)) (Lssu k t None) uw vw head body = absurd (let e : 2 ≡ 1 = ap length body in omega arith)
same_unit (Lssu h s (Some w)) (Lssu k t (Some x)) uw vw head body = cc
same_unit (Lssu h s (Some w)) (Msu k i f) uw vw head body = absurd (let e : 2 ≡ suc (length f.items) = ap length body in omega (arith, vw.1))
same_unit (Msu h i f) (Fisu k) uw vw head body = absurd (let e : suc (length f.items) ≡ 0 = ap length body in omega arith)
same_unit (Msu h i f) (Lssu k t None) uw vw head body = absurd (let e : suc (length f.items) ≡ 1 = ap length body in omega (arith, uw.1))
same_unit (Msu h i f) (Lssu k t (Some x)) uw vw head body = absurd (let e : suc (length f.items) ≡ 2 = ap length body in omega (arith, uw.1))
same_unit (Msu h i f) (Msu k j g) uw vw head body =
    let items : f.items ≡ g.items = cc in
    let fields : f ≡ g = same_items f g items in
    cc

-- octets are those of at most one unit
pub one_unit : (octets : List ℕ) (u v : Unit) → Frame octets u → Frame octets v → u ≡ v
one_unit octets u v of_u of_v =
    let content : content_of u of_u.spare ≡ content_of v of_v.spare = sym (parts_of octets u of_u).front ∙ (parts_of octets v of_v).front in
    let rest = tail_items _ _ _ _ content in
    let third = tail_items _ _ _ _ rest in
    same_unit u v of_u.whole of_v.whole
    (same_head (head_of u) (head_of v) (head_fits u of_u.whole) (head_fits v of_v.whole) (head_item _ _ _ _ content) (head_item _ _ _ _ rest))
    (tail_items _ _ _ _ third)

-- a unit has one list of octets whose spare bits are 0
pub one_spelling : (a b : List ℕ) (unit : Unit) → Frame a unit → SpareBitsAreZero a → Frame b unit → SpareBitsAreZero b → a ≡ b
one_spelling a b unit of_a a_zero of_b b_zero =
    let a_spare : of_a.spare ≡ 0 = omega (arith, (parts_of a unit of_a).third) in
    let b_spare : of_b.spare ≡ 0 = omega (arith, (parts_of b unit of_b).third) in
    let same : of_a.spare ≡ of_b.spare = a_spare ∙ sym b_spare in
    let P : ℕ → Type 0 = λ s. Check (content_of unit s) of_a.check in
    let check : of_a.check ≡ of_b.check = one_check (content_of unit of_b.spare) of_a.check of_b.check (subst P same of_a.checked) of_b.checked in
    of_a.all ∙ ap (λ s. content_of unit s ++ of_a.check) same ∙ ap (λ c. content_of unit of_b.spare ++ c) check ∙ sym of_b.all

-- ---- the result of decode
pub found_by : (octets : List ℕ) (u : Unit) → Frame octets u → (unit : Unit) → (◌≡◌ {A = Result Unit UnitFault} (Ok u) (Ok unit)) ↔ Frame octets unit
found_by octets u frame unit = (λ same. let P : Unit → Type 0 = λ v. Frame octets v in let e : u ≡ unit = cc in subst P e frame, λ of_unit. ap Ok (one_unit octets u unit frame of_unit))

pub not_found_by : (octets : List ℕ) (fault : UnitFault) → Refuses octets fault → (unit : Unit) → (◌≡◌ {A = Result Unit UnitFault} (Err fault) (Ok unit)) ↔ Frame octets unit
not_found_by octets fault refused unit = (λ same. absurd (let e : ◌≡◌ {A = Result Unit UnitFault} (Err fault) (Ok unit) = same in cc), λ frame. absurd (not_refused octets unit fault frame refused))

pub refused_by : (octets : List ℕ) (fault : UnitFault) → Refuses octets fault → (f : UnitFault) → (◌≡◌ {A = Result Unit UnitFault} (Err fault) (Err f)) ↔ Refuses octets f
refused_by octets fault refused f =
    (λ same. let P : UnitFault → Type 0 = λ g. Refuses octets g in let e : fault ≡ f = cc in subst P e refused, λ of_f. ap Err (one_fault octets fault f refused of_f))

-- ---- encode and decode build units and octets from their parts
content_is : (unit : Unit) (h : Head) (n : ℕ) (l0 l1 l2 l3 l4 : List ℕ) → l0 ≡ [] → l1 ≡ l0 ++ (h.bsn + 128 * h.bib) ∷ [] → l2 ≡ l1 ++ (h.fsn + 128 * h.fib) ∷ []
    → l3 ≡ l2 ++ n ∷ [] → l4 ≡ l3 ++ body_of unit → h ≡ head_of unit → n ≡ length_indicator (length (body_of unit)) → l4 ≡ content_of unit 0
content_is unit h n l0 l1 l2 l3 l4 e0 e1 e2 e3 e4 head indicator =
    let first : l1 ≡ (h.bsn + 128 * h.bib) ∷ [] = e1 ∙ ap (λ l. l ++ (h.bsn + 128 * h.bib) ∷ []) e0 in
    let second : l2 ≡ (h.bsn + 128 * h.bib) ∷ (h.fsn + 128 * h.fib) ∷ [] = e2 ∙ ap (λ l. l ++ (h.fsn + 128 * h.fib) ∷ []) first in
    let third : l3 ≡ (h.bsn + 128 * h.bib) ∷ (h.fsn + 128 * h.fib) ∷ n ∷ [] = e3 ∙ ap (λ l. l ++ n ∷ []) second in
    e4 ∙ ap (λ l. l ++ body_of unit) third
    ∙ ap (λ (k : Head). (k.bsn + 128 * k.bib) ∷ (k.fsn + 128 * k.fib) ∷ n ∷ body_of unit) head
    ∙ ap (λ m. ((head_of unit).bsn + 128 * (head_of unit).bib) ∷ ((head_of unit).fsn + 128 * (head_of unit).fib) ∷ m ∷ body_of unit)
    (indicator ∙ sym (add-zero (length_indicator (length (body_of unit)))))

pair_is : (check : List ℕ) (d e : ℕ) → length check ≡ 2 → check ≡ slice_index_or check 0 d ∷ slice_index_or check 1 e ∷ []
pair_is [] d e two = absurd (omega arith)
pair_is (a ∷ []) d e two = absurd (omega arith)
pair_is (a ∷ b ∷ []) d e two = refl
pair_is (a ∷ b ∷ x ∷ xs) d e two = absurd (omega arith)

pub encoded : (unit : Unit) (h : Head) (n d e : ℕ) (l0 l1 l2 l3 l4 l5 l6 shown check : List ℕ) → IsWhole unit → l0 ≡ [] → l1 ≡ l0 ++ (h.bsn + 128 * h.bib) ∷ [] → l2 ≡ l1 ++ (h.fsn + 128 * h.fib) ∷ []
    → l3 ≡ l2 ++ n ∷ [] → l4 ≡ l3 ++ body_of unit → h ≡ head_of unit → n ≡ length_indicator (length (body_of unit)) → shown ≡ l4 → Check shown check
    → l5 ≡ l4 ++ slice_index_or check 0 d ∷ [] → l6 ≡ l5 ++ slice_index_or check 1 e ∷ [] → Frame l6 unit
encoded unit h n d e l0 l1 l2 l3 l4 l5 l6 shown check whole e0 e1 e2 e3 e4 head indicator shows checked e5 e6 =
    let content : l4 ≡ content_of unit 0 = content_is unit h n l0 l1 l2 l3 l4 e0 e1 e2 e3 e4 head indicator in
    let P : List ℕ → Type 0 = λ c. Check c check in
    record {
      whole = whole;
      spare = 0;
      spare_bits = lit< tt;
      check = check;
      checked = subst P (shows ∙ content) checked;
      all =
          e6 ∙ ap (λ l. l ++ slice_index_or check 1 e ∷ []) e5 ∙ append_assoc l4 (slice_index_or check 0 d ∷ []) (slice_index_or check 1 e ∷ [])
          ∙ ap (λ l. l4 ++ l) (sym (pair_is check d e checked.two)) ∙ ap (λ l. l ++ check) content;
    }

pub differ : (r : Bool) (xs ys : List ℕ) → r ≡ true → r ≡ not (bytes_eq xs ys) → xs ≡ ys → ⊥
differ r xs ys was is same =
    let e : true ≡ false = sym was ∙ is ∙ ap not ((bytes_eq-Decides xs ys).1 same) in
    cc

flip : (b : Bool) → false ≡ not b → b ≡ true
flip true e = refl
flip false e = absurd (let d : false ≡ true = e in cc)

pub agree : (r : Bool) (xs ys : List ℕ) → r ≡ false → r ≡ not (bytes_eq xs ys) → xs ≡ ys
agree r xs ys was is = (bytes_eq-Decides xs ys).0 (flip (bytes_eq xs ys) (sym was ∙ is))

pub bad_check : (octets front back given : List ℕ) → InSize octets → front ≡ take (length octets - 2) octets → back ≡ drop (length octets - 2) octets
    → Check front given → (given ≡ back → ⊥) → Refuses octets BadCheck
bad_check octets front back given size is_front is_back checked other = (
  size,
  λ all. let P : List ℕ → Type 0 = λ f. Check f given in
      other (one_check (take (length octets - 2) octets) given (drop (length octets - 2) octets) (subst P is_front checked) all ∙ sym is_back),
)

frame_of_parts : (octets back given rest : List ℕ) (a b x : ℕ) (h : Head) (unit : Unit) → octets ≡ (a ∷ b ∷ x ∷ rest) ++ back → given ≡ back
    → Check (a ∷ b ∷ x ∷ rest) given → a ≡ h.bsn + 128 * h.bib → b ≡ h.fsn + 128 * h.fib → x % 64 ≡ length_indicator (length rest) → x < 256
    → IsWhole unit → head_of unit ≡ h → body_of unit ≡ rest → Frame octets unit
frame_of_parts octets back given rest a b x h unit all same checked first second third fits whole head body =
    let x_is : x ≡ length_indicator (length rest) + 64 * (x / 64) = omega arith in
    let content : a ∷ b ∷ x ∷ rest ≡ content_of unit (x / 64) =
    ap (λ n. n ∷ b ∷ x ∷ rest) first ∙ ap (λ n. (h.bsn + 128 * h.bib) ∷ n ∷ x ∷ rest) second
    ∙ ap (λ n. (h.bsn + 128 * h.bib) ∷ (h.fsn + 128 * h.fib) ∷ n ∷ rest) x_is
    ∙ ap (λ (k : Head). (k.bsn + 128 * k.bib) ∷ (k.fsn + 128 * k.fib) ∷ (length_indicator (length rest) + 64 * (x / 64)) ∷ rest) (sym head)
    ∙ ap (λ l. ((head_of unit).bsn + 128 * (head_of unit).bib) ∷ ((head_of unit).fsn + 128 * (head_of unit).fib) ∷ (length_indicator (length l) + 64 * (x / 64)) ∷ l) (sym body) in
    let P : List ℕ → Type 0 = λ l. Check l given in
    record {
      whole = whole;
      spare = x / 64;
      spare_bits = omega arith;
      check = given;
      checked = subst P content checked;
      all = all ∙ ap (λ l. l ++ back) content ∙ ap (λ l. content_of unit (x / 64) ++ l) (sym same);
    }

pub framed : (octets front back given body : List ℕ) (h : Head) (unit : Unit) → octets ≡ front ++ back → given ≡ back → Check front given → 3 ≤ length front
    → get_or front 0 0 ≡ h.bsn + 128 * h.bib → get_or front 1 0 ≡ h.fsn + 128 * h.fib → get_or front 2 0 % 64 ≡ length_indicator (length body)
    → get_or octets 2 0 < 256 → body ≡ take (length front - 3) (drop 3 front) → IsWhole unit → head_of unit ≡ h → body_of unit ≡ body → Frame octets unit
framed octets [] back given body h unit all same checked long first second third fits is_body whole head of_body = absurd (omega arith)
framed octets (a ∷ []) back given body h unit all same checked long first second third fits is_body whole head of_body = absurd (omega arith)
framed octets (a ∷ b ∷ []) back given body h unit all same checked long first second third fits is_body whole head of_body = absurd (omega arith)
framed octets (a ∷ b ∷ x ∷ rest) back given body h unit all same checked long first second third fits is_body whole head of_body =
    let n : length (a ∷ b ∷ x ∷ rest) - 3 ≡ length rest = omega arith in
    let body_is : body ≡ rest = is_body ∙ ap (λ k. take k rest) n ∙ take-length rest in
    let x_small : x < 256 = omega (arith, ap (λ os. get_or os 2 0) all) in
    frame_of_parts octets back given rest a b x h unit all same checked first second (third ∙ ap (λ l. length_indicator (length l)) body_is) x_small whole head (of_body ∙ body_is)

-- ---- octets whose check octets and length indicator are right are those of a unit
unit_of_parts : (octets front back : List ℕ) (h : Head) (unit : Unit) → octets ≡ front ++ back → Check front back → 3 ≤ length front
    → get_or octets 0 0 ≡ h.bsn + 128 * h.bib → get_or octets 1 0 ≡ h.fsn + 128 * h.fib → get_or octets 2 0 % 64 ≡ length_indicator (length front - 3) → get_or octets 2 0 < 256
    → body_of unit ≡ take (length front - 3) (drop 3 octets) → IsWhole unit → head_of unit ≡ h → Frame octets unit
unit_of_parts octets [] back h unit all checked long first second third fits body whole head = absurd (omega arith)
unit_of_parts octets (a ∷ []) back h unit all checked long first second third fits body whole head = absurd (omega arith)
unit_of_parts octets (a ∷ b ∷ []) back h unit all checked long first second third fits body whole head = absurd (omega arith)
unit_of_parts octets (a ∷ b ∷ x ∷ rest) back h unit all checked long first second third fits body whole head =
    let n : length (a ∷ b ∷ x ∷ rest) - 3 ≡ length rest = omega arith in
    let body_is : body_of unit ≡ rest = body ∙ ap (λ os. take (length (a ∷ b ∷ x ∷ rest) - 3) (drop 3 os)) all ∙ ap (λ k. take k (rest ++ back)) n ∙ take-append_seam rest back in
    let is_a : get_or octets 0 0 ≡ a = ap (λ os. get_or os 0 0) all in
    let is_b : get_or octets 1 0 ≡ b = ap (λ os. get_or os 1 0) all in
    let is_x : get_or octets 2 0 ≡ x = ap (λ os. get_or os 2 0) all in
    let small : x < 256 = omega arith in
    frame_of_parts octets back back rest a b x h unit all refl checked (sym is_a ∙ first) (sym is_b ∙ second) (ap (λ m. m % 64) (sym is_x) ∙ third ∙ ap length_indicator n) small whole head body_is

pub unit_at : (octets : List ℕ) (h : Head) (unit : Unit) → InSize octets → IsChecked octets → TellsLength octets
    → get_or octets 0 0 ≡ h.bsn + 128 * h.bib → get_or octets 1 0 ≡ h.fsn + 128 * h.fib → get_or octets 2 0 < 256
    → body_of unit ≡ take (length octets - 5) (drop 3 octets) → IsWhole unit → head_of unit ≡ h → Frame octets unit
unit_at octets h unit size checked tells first second fits body whole head =
    let front : List ℕ = take (length octets - 2) octets in
    let n : length front ≡ length octets - 2 = length-take (length octets - 2) octets ∙ omega (arith, size.0) in
    let m : length octets - 5 ≡ length front - 3 = omega arith in
    unit_of_parts octets front (drop (length octets - 2) octets) h unit (sym (take-append-drop (length octets - 2) octets)) checked (omega (arith, size.0)) first second
    (tells ∙ ap length_indicator m) fits (body ∙ ap (λ k. take k (drop 3 octets)) m) whole head

-- the unit with a head and the octets after the length indicator
abbrev unit_by : Head → List ℕ → Unit
unit_by h [] = Fisu h
unit_by h (a ∷ []) = Lssu h a None
unit_by h (a ∷ b ∷ []) = Lssu h a (Some b)
unit_by h (a ∷ b ∷ x ∷ rest) = Msu h a (record { items = b ∷ x ∷ rest })

head_by : (h : Head) (body : List ℕ) → head_of (unit_by h body) ≡ h
head_by h [] = refl
head_by h (a ∷ []) = refl
head_by h (a ∷ b ∷ []) = refl
head_by h (a ∷ b ∷ x ∷ rest) = refl

body_by : (h : Head) (body : List ℕ) → body_of (unit_by h body) ≡ body
body_by h [] = refl
body_by h (a ∷ []) = refl
body_by h (a ∷ b ∷ []) = refl
body_by h (a ∷ b ∷ x ∷ rest) = refl

whole_by : (h : Head) (body : List ℕ) → IsWholeHead h → length body ≤ 273 → IsWhole (unit_by h body)
whole_by h [] whole few = whole
whole_by h (a ∷ []) whole few = whole
whole_by h (a ∷ b ∷ []) whole few = whole
whole_by h (a ∷ b ∷ x ∷ rest) whole few = (whole, omega arith, omega arith)

pub some_unit : (octets : List ℕ) → ((i : ℕ) → get_or octets i 0 < 256) → InSize octets → IsChecked octets → TellsLength octets → (unit : Unit) × Frame octets unit
some_unit octets fit size checked tells =
    let h : Head = record { bsn = get_or octets 0 0 % 128; bib = get_or octets 0 0 / 128; fsn = get_or octets 1 0 % 128; fib = get_or octets 1 0 / 128 } in
    let body : List ℕ = take (length octets - 5) (drop 3 octets) in
    let few : length body ≤ 273 = omega (arith, length-take (length octets - 5) (drop 3 octets), size.1) in
    let whole : IsWholeHead h = record { bsn = omega arith; bib = omega (arith, fit 0); fsn = omega arith; fib = omega (arith, fit 1) } in (
      unit_by h body,
      unit_at octets h (unit_by h body) size checked tells (omega arith) (omega arith) (fit 2) (body_by h body) (whole_by h body whole few) (head_by h body),
    )

pub unit_when : (octets : List ℕ) (fault : Option UnitFault) (b : Bool) → is_some fault ≡ not b → ((i : ℕ) → get_or octets i 0 < 256) → IfSome fault (λ f. Refuses octets f)
    → IfNone fault (InSize octets × IsChecked octets × TellsLength octets) → IsTrue b ↔ ((unit : Unit) × Frame octets unit)
unit_when octets None true is fit refused right = (λ so. some_unit octets fit right.0 right.1 right.2, λ unit. refl)
unit_when octets None false is fit refused right = absurd (let e : false ≡ true = is in cc)
unit_when octets (Some fault) true is fit refused right = absurd (let e : true ≡ false = is in cc)
unit_when octets (Some fault) false is fit refused right = (λ so. absurd (let e : false ≡ true = so in cc), λ unit. absurd (not_refused octets unit.0 fault unit.1 refused))
