-- The reads and sets in the events of one walk followed by another.
use Rattle.std.proofs.Common.{◌≡◌, ℕ, true, false, not, ◌&&◌, ◌||◌, List, [], ◌∷◌, ◌++◌, refl, sym, ap, ◌∙◌}
use Rattle.std.proofs.lemmas.Bool.{and_from, or_right}
use Rattle.std.proofs.Math.Bool.{and_assoc, or_assoc}
use Rattle.sdl_tables.specs.Names.{same_name}
use Rattle.sdl_sound.specs.Paths.{Event, reads, sets, reads_first, sets_in}
use Rattle.plain_laws.proofs.Truths.{not_or, set_now}

pub sets_in-append : (xs ys : List Event) (x : List ℕ) → not (sets_in (xs ++ ys) x) ≡ (not (sets_in xs x) && not (sets_in ys x))
sets_in-append [] ys x = refl
sets_in-append (reads y ∷ xs) ys x = sets_in-append xs ys x
sets_in-append (sets y ∷ xs) ys x =
    not_or (same_name x y) (sets_in (xs ++ ys) x)
    ∙ (ap (λ r. not (same_name x y) && r) (sets_in-append xs ys x)
    ∙ (sym (and_assoc (not (same_name x y)) (not (sets_in xs x)) (not (sets_in ys x)))
    ∙ ap (λ r. r && not (sets_in ys x)) (sym (not_or (same_name x y) (sets_in xs x)))))

pub reads_first-append : (xs ys : List Event) (x : List ℕ) → reads_first (xs ++ ys) x ≡ (reads_first xs x || (not (sets_in xs x) && reads_first ys x))
reads_first-append [] ys x = refl
reads_first-append (reads y ∷ xs) ys x =
    ap (λ r. same_name x y || r) (reads_first-append xs ys x)
    ∙ sym (or_assoc (same_name x y) (reads_first xs x) (not (sets_in xs x) && reads_first ys x))
reads_first-append (sets y ∷ xs) ys x =
    set_now (same_name x y) (reads_first xs x) (sets_in xs x) (reads_first ys x) (reads_first (xs ++ ys) x) (reads_first-append xs ys x)

-- A variable that isn't set in the first events, and is read first in the second, is read first in both.
pub reads-later : (xs ys : List Event) (x : List ℕ) → sets_in xs x ≡ false → reads_first ys x ≡ true → reads_first (xs ++ ys) x ≡ true
reads-later xs ys x h r =
    reads_first-append xs ys x ∙ or_right (reads_first xs x) (not (sets_in xs x) && reads_first ys x) (and_from (not (sets_in xs x)) (reads_first ys x) (ap not h) r)
