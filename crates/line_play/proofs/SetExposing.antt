-- The measurements of a set, appended line by line.
use Rattle.std.proofs.Common.{◌≡◌, ◌∙◌, ℕ, suc, ◌+◌, ◌<◌, ◌≤◌, List, [], ◌∷◌, ◌++◌, append_assoc, append-nil, length, take, map, get_or, if◌then◌else◌, Bool, Option, None, Some, Result, Ok, Err, OnOk, refl, sym, ap, subst}
use Rattle.std.proofs.lemmas.List.{take_all, take_more, flat_map_more, map-append}
use Rattle.std.proofs.lemmas.List.Concat.{flat_map-append}
use Rattle.std.proofs.lemmas.Result.{on_ok_weaker}
use Rattle.std.specs.List.{flat_map}
use Rattle.std.specs.Result.{is_ok}
use Rattle.script_ends.specs.Term.{Term}
use Rattle.line_tending.specs.Readers.{is_busy}
use Rattle.line_tending.specs.Tended.{Tended}
use Rattle.line_play.specs.SetGiven.{first_links}
use Rattle.line_play.specs.SetSeries.{PlainSeries, all_series}
use Rattle.line_play.specs.SetExposing.{sample_of, sample_by, series_lines, unsure_lines, waiting_lines, away_lines, exposition}

-- an equal text was appended
pub appended : {A E : Type 0} (r : Result A E) (old new more text : List ℕ) → more ≡ text → OnOk r (new ≡ old ++ more) → OnOk r (new ≡ old ++ text)
appended r old new more text is line = subst (λ (xs : List ℕ). OnOk r (new ≡ old ++ xs)) is line

-- a text was pushed onto another
pub pushed : {A E : Type 0} (r : Result A E) (old new more text : List ℕ) → more ≡ text → new ≡ (if is_ok r then old ++ more else old) → OnOk r (new ≡ old ++ text)
pushed (Ok a) old new more text is line = line ∙ ap (λ (xs : List ℕ). old ++ xs) is
pushed (Err e) old new more text is line = tt

-- nothing was appended
pub unchanged : (old text : List ℕ) → [] ≡ text → old ≡ old ++ text
unchanged old text is = sym (append-nil old) ∙ ap (λ (xs : List ℕ). old ++ xs) is

-- one part was appended after another
pub then_appended : {A E : Type 0} (r : Result A E) (old mid new a b : List ℕ) → mid ≡ old ++ a → OnOk r (new ≡ mid ++ b) → OnOk r (new ≡ old ++ (a ++ b))
then_appended r old mid new a b first more =
    on_ok_weaker r (λ (is : new ≡ mid ++ b). is ∙ (ap (λ (xs : List ℕ). xs ++ b) first ∙ append_assoc old a b)) more

-- ---- a series

-- the sample of a link that exists
pub sampled : {A E : Type 0} (r : Result A E) (old new : List ℕ) (s : PlainSeries) (t : Tended) (l : ℕ) (x : Term) (o : Option Term) → Some x ≡ o
    → OnOk r (new ≡ old ++ sample_of s t l x) → OnOk r (new ≡ old ++ sample_by s t l o)
sampled r old new s t l x o is line = subst (λ (y : Option Term). OnOk r (new ≡ old ++ sample_by s t l y)) is line

pub not_sampled : (old : List ℕ) (s : PlainSeries) (t : Tended) (l : ℕ) (o : Option Term) → None ≡ o → old ≡ old ++ sample_by s t l o
not_sampled old s t l o is = sym (append-nil old) ∙ ap (λ (y : Option Term). old ++ sample_by s t l y) is

-- the sample of one more link
pub links_more : (f : ℕ → List ℕ) (old before after : List ℕ) (l k : ℕ) → k ≡ suc l → before ≡ old ++ flat_map f (first_links l) → after ≡ before ++ f l
    → after ≡ old ++ flat_map f (first_links k)
links_more f old before after l k is so_far line =
    line ∙ (ap (λ (xs : List ℕ). xs ++ f l) so_far ∙ (flat_map_more f old (first_links l) l ∙ ap (λ (n : ℕ). old ++ flat_map f (first_links n)) (sym is)))

pub links_all : (f : ℕ → List ℕ) (old mid new head : List ℕ) (l count : ℕ) → l ≡ count → mid ≡ old ++ head → new ≡ mid ++ flat_map f (first_links l)
    → new ≡ old ++ (head ++ flat_map f (first_links count))
links_all f old mid new head l count all first more =
    more
    ∙ (ap (λ (xs : List ℕ). xs ++ flat_map f (first_links l)) first
    ∙ (append_assoc old head (flat_map f (first_links l)) ∙ ap (λ (n : ℕ). old ++ (head ++ flat_map f (first_links n))) all))

-- ---- several series

pub series_next : {X : Type 0} (g : X → PlainSeries) (f : PlainSeries → List ℕ) (all : List X) (i : ℕ) (x : X) (old before after line : List ℕ) → i < length all
    → line ≡ f (g (get_or all i x)) → before ≡ old ++ flat_map f (map g (take i all)) → after ≡ before ++ line → after ≡ old ++ flat_map f (map g (take (i + 1) all))
series_next {X} g f all i x old before after line within is so_far said =
    said
    ∙ (ap (λ (xs : List ℕ). xs ++ line) so_far
    ∙ (ap (λ (xs : List ℕ). (old ++ flat_map f (map g (take i all))) ++ xs) is
    ∙ (flat_map_more f old (map g (take i all)) (g (get_or all i x))
    ∙ ap (λ (ys : List PlainSeries). old ++ flat_map f ys) (sym (map-append g (take i all) (get_or all i x ∷ [])) ∙ ap (map g) (sym (take_more all i x within))))))

pub series_all : {X : Type 0} (g : X → PlainSeries) (f : PlainSeries → List ℕ) (all : List X) (i : ℕ) (old new : List ℕ) → length all ≤ i
    → new ≡ old ++ flat_map f (map g (take i all)) → new ≡ old ++ flat_map f (map g all)
series_all {X} g f all i old new whole so_far = so_far ∙ ap (λ (ys : List X). old ++ flat_map f (map g ys)) (take_all i all whole)

-- the series of one list after those of others
pub then_series : (f : PlainSeries → List ℕ) (old mid new : List ℕ) (xs ys zs : List PlainSeries) → zs ≡ ys → mid ≡ old ++ flat_map f xs → new ≡ mid ++ flat_map f zs
    → new ≡ old ++ flat_map f (xs ++ ys)
then_series f old mid new xs ys zs is first more =
    more
    ∙ (ap (λ (us : List ℕ). us ++ flat_map f zs) first
    ∙ (append_assoc old (flat_map f xs) (flat_map f zs)
    ∙ (ap (λ (us : List ℕ). old ++ us) (sym (flat_map-append f xs zs)) ∙ ap (λ (us : List PlainSeries). old ++ flat_map f (xs ++ us)) is)))

pub last_series : {A E : Type 0} (r : Result A E) (f : PlainSeries → List ℕ) (old mid new : List ℕ) (xs ys zs : List PlainSeries) → zs ≡ ys → mid ≡ old ++ flat_map f xs
    → OnOk r (new ≡ mid ++ flat_map f zs) → OnOk r (new ≡ old ++ flat_map f (xs ++ ys))
last_series r f old mid new xs ys zs is first more = on_ok_weaker r (λ (line : new ≡ mid ++ flat_map f zs). then_series f old mid new xs ys zs is first line) more

pub first_series : (f : PlainSeries → List ℕ) (old new : List ℕ) (xs ys : List PlainSeries) → ys ≡ xs → new ≡ old ++ flat_map f ys → new ≡ old ++ flat_map f xs
first_series f old new xs ys is more = more ∙ ap (λ (us : List PlainSeries). old ++ flat_map f us) is

-- ---- the whole text

pub exposed : (t : Tended) (m u w : ℕ) (b : Bool) (none one two three four : List ℕ) → none ≡ [] → one ≡ none ++ flat_map (series_lines t) all_series
    → u ≡ t.set.unsure → two ≡ one ++ unsure_lines u → w ≡ m → three ≡ two ++ waiting_lines w → b ≡ is_busy t.reader → four ≡ three ++ away_lines b
    → four ≡ exposition t m
exposed t m u w b none one two three four empty first unsure second waiting third away fourth =
    fourth
    ∙ (ap (λ (x : Bool). three ++ away_lines x) away
    ∙ ap (λ (xs : List ℕ). xs ++ away_lines (is_busy t.reader))
    (third
    ∙ (ap (λ (n : ℕ). two ++ waiting_lines n) waiting
    ∙ ap (λ (xs : List ℕ). xs ++ waiting_lines m)
    (second
    ∙ (ap (λ (n : ℕ). one ++ unsure_lines n) unsure
    ∙ ap (λ (xs : List ℕ). xs ++ unsure_lines t.set.unsure) (first ∙ ap (λ (xs : List ℕ). xs ++ flat_map (series_lines t) all_series) empty))))))
