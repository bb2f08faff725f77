-- The echo of commands: one more command.
use Rattle.std.proofs.Common.{◌≡◌, ◌∙◌, ℕ, zero, suc, ◌+◌, ◌<◌, ◌≤◌, List, [], ◌∷◌, ◌++◌, length, map, take, drop, get_or, slice_get, option_map, Option, Some, arith, refl, sym, ap, subst}
use Rattle.std.specs.Io.KnownBytes.{Appends}
use Rattle.std.proofs.KnownBytes.{Appends-nil, Appends-trans}
use Rattle.std.proofs.lemmas.Option.{slice_get-map}
use Rattle.std.proofs.lemmas.List.{take_all, take_more, map-append, take-append-drop, drop_more}
use Rattle.script_lines.specs.Lines.{PlainLine}
use Rattle.plain_text.specs.Lines.{line_of}
use Rattle.script_ends.specs.Played.{missed_text}
use Rattle.script_seen.specs.Shown.{IsLine, Shows, begins, more, IsShowing, IsMissing}

-- the line of a command is written first
pub record HasFront (lines : List PlainLine) (number : ℕ) (old new : Option (List ℕ)) : Type 0 where
  pub front : List ℕ
  pub is_front : IsLine lines number front
  pub grew : Appends old new front

pub has_front : (lines : List PlainLine) (number : ℕ) (old new : Option (List ℕ)) → ((front : List ℕ) × IsLine lines number front × Appends old new front)
    → HasFront lines number old new
has_front lines number old new f = record { front = f.0; is_front = f.1; grew = f.2 }

pub showing_begins : {S : Type 0} (lines : List PlainLine) (line : S → ℕ) (P : List S → List ℕ → Type 0) (old : Option (List ℕ))
    → IsShowing lines line P [] old old []
showing_begins lines line P old = record { shown = []; shows = begins; written = Appends-nil old }

pub showing_more : {S : Type 0} (lines : List PlainLine) (line : S → ℕ) (P : List S → List ℕ → Type 0) (commands : List S) (said : S)
    (first old mid new : Option (List ℕ)) (printed next : List ℕ) → IsShowing lines line P commands first old printed → HasFront lines (line said) old mid
    → Appends mid new (drop (length printed) next) → P (commands ++ said ∷ []) next → IsShowing lines line P (commands ++ said ∷ []) first new next
showing_more lines line P commands said first old mid new printed next s f behind p = record {
  shown = s.shown ++ (f.front ++ drop (length printed) next);
  shows = more said f.front next s.shows f.is_front p;
  written =
      Appends-trans first old new s.shown (f.front ++ drop (length printed) next) s.written
      (Appends-trans old mid new f.front (drop (length printed) next) f.grew behind);
}

-- the rest after a list that stands first
drop_behind : (xs ys : List ℕ) → drop (length xs) (xs ++ ys) ≡ ys
drop_behind [] ys = refl
drop_behind (x ∷ xs) ys = drop_behind xs ys

pub missing_is : {S : Type 0} (lines : List PlainLine) (line : S → ℕ) (P M : List S → List ℕ → Type 0) (commands : List S) (said : S)
    (first old mid new : Option (List ℕ)) (printed next : List ℕ) → IsShowing lines line P commands first old printed → HasFront lines (line said) old mid
    → next ≡ printed ++ line_of (missed_text (line said)) → Appends mid new (drop (length printed) next) → M (commands ++ said ∷ []) next
    → IsMissing lines line P M commands said first new
missing_is lines line P M commands said first old mid new printed next s f is behind missed =
    let text : List ℕ = line_of (missed_text (line said)) in
    let B : List ℕ → Type 0 = λ bs. Appends mid new bs in
    let N : List ℕ → Type 0 = λ bs. M (commands ++ said ∷ []) bs in
    record {
      printed = printed;
      shown = s.shown;
      front = f.front;
      shows = s.shows;
      is_front = f.is_front;
      missed = subst N is missed;
      written =
          Appends-trans first old new s.shown (f.front ++ text) s.written
          (Appends-trans old mid new f.front text f.grew (subst B (ap (drop (length printed)) is ∙ drop_behind printed text) behind));
    }

-- the rest, with its parts replaced by equal ones
pub behind_is : (n : ℕ) (part printed next : List ℕ) (mid new : Option (List ℕ)) → n ≡ length printed → part ≡ next → Appends mid new (drop n part)
    → Appends mid new (drop (length printed) next)
behind_is n part printed next mid new e f h =
    let N : ℕ → Type 0 = λ k. Appends mid new (drop k part) in
    let B : List ℕ → Type 0 = λ bs. Appends mid new (drop (length printed) bs) in
    subst B f (subst N e h)

-- the element at an index
found_at : {A : Type 0} (xs : List A) (k : ℕ) (x : A) → k < length xs → x ≡ get_or xs k x → slice_get xs k ≡ Some x
found_at [] k x lt is = absurd (omega (arith, lt))
found_at (y ∷ xs) zero x lt is = ap Some (sym is)
found_at (y ∷ xs) (suc k) x lt is = found_at xs k x (omega (arith, lt)) is

pub found_in : {A B : Type 0} (f : A → B) (xs : List A) (k : ℕ) (x : A) → k < length xs → x ≡ get_or xs k x → slice_get (map f xs) k ≡ Some (f x)
found_in f xs k x lt is = slice_get-map f xs k ∙ ap (option_map f) (found_at xs k x lt is)

-- ---- commands of a list

pub one_more : {A S : Type 0} (f : A → S) (items : List A) (i : ℕ) (x : A) → i < length items → x ≡ get_or items i x
    → map f (take i items) ++ f x ∷ [] ≡ map f (take (i + 1) items)
one_more f items i x within is =
    sym (map-append f (take i items) (x ∷ [])) ∙ ap (map f) (sym (take_more items i x within ∙ ap (λ y. take i items ++ y ∷ []) (sym is)))

pub parts_at : {A S : Type 0} (f : A → S) (items : List A) (i : ℕ) (x : A) → i < length items → x ≡ get_or items i x
    → map f items ≡ map f (take i items) ++ f x ∷ map f (drop (i + 1) items)
parts_at f items i x within is =
    let rest : drop i items ≡ x ∷ drop (i + 1) items = drop_more items i x within ∙ ap (λ y. y ∷ drop (i + 1) items) (sym is) in
    ap (map f) (sym (take-append-drop i items) ∙ ap (λ ys. take i items ++ ys) rest) ∙ map-append f (take i items) (x ∷ drop (i + 1) items)

-- all commands of the list
pub all_taken : {A S : Type 0} (f : A → S) (items : List A) (i : ℕ) → length items ≤ i → map f (take i items) ≡ map f items
all_taken f items i over = ap (map f) (take_all i items over)
