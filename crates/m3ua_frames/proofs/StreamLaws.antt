-- A stream has one list of items, and reading it octet by octet returns that list.
use Rattle.std.proofs.Common.{◌≡◌, ℕ, zero, suc, ◌+◌, ◌-◌, ◌<◌, ◌≤◌, ◌≢◌, Bool, true, false, cond, eqb, ltb, List, [], ◌∷◌, ◌++◌, length, get_or, take, drop, Option, Some, None, ◌⊎◌, inl, inr, refl, sym, ap, subst, ◌∙◌, append_assoc, arith}
use Rattle.std.specs.Prelude.{is_some}
use Rattle.std.specs.List.{concat}
use Rattle.std.specs.Option.{option_to_list}
use Rattle.std.proofs.lemmas.Bool.{ltb-true, ltb-false, lt-ltb, eqb-true, eqb-false, cases_lt}
use Rattle.std.proofs.lemmas.List.{take_at, drop_at, take_more, length-append, get_or_append_left, append-nil}
use Rattle.m3ua_frames.specs.declared.stream.Heard.{Heard}
use Rattle.m3ua_frames.specs.declared.stream.Heard.TheVariants as heard
use Rattle.m3ua_frames.specs.Stream.{item_told, Item, whole, too_long, broken, Stream, IsBeginning, Reading, start, told, judged, begun, read_on, after, item_at, reading_after, items_in, items_of_pieces, IsWithin}

-- ---- one list of items

pub one_stream : (s : List ℕ) (a b : List Item) → Stream s a → Stream s b → a ≡ b
one_stream s [] [] h k = refl
one_stream s [] (whole m ∷ b) (inl short) k = absurd (omega (arith, k.0, k.1, k.2))
one_stream s [] (whole m ∷ b) (inr less) k = absurd (omega (arith, less.0, less.1, less.2, k.0, k.1, k.2))
one_stream s [] (too_long m ∷ b) (inl short) k = absurd (omega (arith, k.0, k.1))
one_stream s [] (too_long m ∷ b) (inr less) k = absurd (omega (arith, less.0, less.1, less.2, k.0, k.1))
one_stream s [] (broken ∷ b) (inl short) k = absurd (omega (arith, k.0, k.1))
one_stream s [] (broken ∷ b) (inr less) k = absurd (omega (arith, less.0, less.1, less.2, k.0, k.1))
one_stream s (whole m ∷ a) [] k (inl short) = absurd (omega (arith, k.0, k.1, k.2))
one_stream s (whole m ∷ a) [] k (inr less) = absurd (omega (arith, less.0, less.1, less.2, k.0, k.1, k.2))
one_stream s (too_long m ∷ a) [] k (inl short) = absurd (omega (arith, k.0, k.1))
one_stream s (too_long m ∷ a) [] k (inr less) = absurd (omega (arith, less.0, less.1, less.2, k.0, k.1))
one_stream s (broken ∷ a) [] k (inl short) = absurd (omega (arith, k.0, k.1))
one_stream s (broken ∷ a) [] k (inr less) = absurd (omega (arith, less.0, less.1, less.2, k.0, k.1))
one_stream s (whole m ∷ a) (whole n ∷ b) h k =
    ap (λ (x : List ℕ). whole x ∷ a) (h.3 ∙ sym k.3) ∙ ap (λ (xs : List Item). whole n ∷ xs) (one_stream (drop (told s) s) a b h.4 k.4)
one_stream s (whole m ∷ a) (too_long n ∷ b) h k = absurd (omega (arith, h.0, h.1, k.1))
one_stream s (whole m ∷ a) (broken ∷ b) h k = absurd (omega (arith, h.0, h.1, k.1))
one_stream s (too_long m ∷ a) (whole n ∷ b) h k = absurd (omega (arith, h.1, k.0, k.1))
one_stream s (too_long m ∷ a) (too_long n ∷ b) h k =
    ap (λ (x : List ℕ). too_long x ∷ a) (h.2 ∙ sym k.2) ∙ ap (λ (xs : List Item). too_long n ∷ xs) (one_stream (drop (told s) s) a b h.3 k.3)
one_stream s (too_long m ∷ a) (broken ∷ b) h k = absurd (omega (arith, h.1, k.1))
one_stream s (broken ∷ a) (whole n ∷ b) h k = absurd (omega (arith, h.1, k.0, k.1))
one_stream s (broken ∷ a) (too_long n ∷ b) h k = absurd (omega (arith, h.1, k.1))
one_stream s (broken ∷ a) (broken ∷ b) h k = ap (λ (xs : List Item). broken ∷ xs) (h.2 ∙ sym k.2)

-- ---- the item that octets are

abbrev pub Judges : List ℕ → Option Item → Type 0
Judges xs None = (length xs < 8) ⊎ ((8 ≤ length xs) × (8 ≤ told xs) × (told xs ≤ 4096) × (length xs ≢ told xs))
Judges xs (Some broken) = (8 ≤ length xs) × (told xs < 8)
Judges xs (Some (too_long h)) = (8 ≤ length xs) × (4096 < told xs) × (h ≡ xs)
Judges xs (Some (whole m)) = (8 ≤ length xs) × (8 ≤ told xs) × (told xs ≤ 4096) × (length xs ≡ told xs) × (m ≡ xs)

judge_by : (a b c d : Bool) (xs : List ℕ) → a ≡ ltb (length xs) 8 → b ≡ ltb (told xs) 8 → c ≡ ltb 4096 (told xs) → d ≡ eqb (length xs) (told xs)
    → Judges xs (cond a None (cond b (Some broken) (cond c (Some (too_long xs)) (cond d (Some (whole xs)) None))))
judge_by true b c d xs at_a at_b at_c at_d = inl (ltb-true _ _ (sym at_a))
judge_by false true c d xs at_a at_b at_c at_d = (ltb-false _ _ (sym at_a), ltb-true _ _ (sym at_b))
judge_by false false true d xs at_a at_b at_c at_d = (ltb-false _ _ (sym at_a), ltb-true _ _ (sym at_c), refl)
judge_by false false false true xs at_a at_b at_c at_d = (ltb-false _ _ (sym at_a), ltb-false _ _ (sym at_b), ltb-false _ _ (sym at_c), eqb-true _ _ (sym at_d), refl)
judge_by false false false false xs at_a at_b at_c at_d = inr (ltb-false _ _ (sym at_a), ltb-false _ _ (sym at_b), ltb-false _ _ (sym at_c), eqb-false _ _ (sym at_d))

pub judges : (xs : List ℕ) → Judges xs (judged xs)
judges xs = judge_by (ltb (length xs) 8) (ltb (told xs) 8) (ltb 4096 (told xs)) (eqb (length xs) (told xs)) xs refl refl refl refl

-- octets after a header don't change its length field
pub told-append : (xs ys : List ℕ) → 8 ≤ length xs → told (xs ++ ys) ≡ told xs
told-append xs ys long =
    let e4 : get_or (xs ++ ys) 4 0 ≡ get_or xs 4 0 = get_or_append_left xs ys 0 4 (omega arith) in
    let e5 : get_or (xs ++ ys) 5 0 ≡ get_or xs 5 0 = get_or_append_left xs ys 0 5 (omega arith) in
    let e6 : get_or (xs ++ ys) 6 0 ≡ get_or xs 6 0 = get_or_append_left xs ys 0 6 (omega arith) in
    let e7 : get_or (xs ++ ys) 7 0 ≡ get_or xs 7 0 = get_or_append_left xs ys 0 7 (omega arith) in
    omega arith

-- ---- the incomplete message

begun_by : (xs : List ℕ) (j : Option Item) → Judges xs j → IsWithin xs → IsBeginning (cond (is_some j) [] xs)
begun_by xs None (inl short) within = inl short
begun_by xs None (inr r) within = inr (
  r.1,
  r.2,
  elim (cases_lt 8 (length xs)) [
    | inl lt ↦ omega (arith, within lt, r.3)
    | inr le ↦ omega (arith, r.0, r.1, r.3)
  ],
)
begun_by xs (Some i) j within = inl (omega arith)

pub begun_begins : (xs : List ℕ) → IsWithin xs → IsBeginning (begun xs)
begun_begins xs within = begun_by xs (judged xs) (judges xs) within

-- with one more octet it is still within the limits
grown_by : (xs : List ℕ) (o : ℕ) → IsBeginning xs → IsWithin (xs ++ o ∷ [])
grown_by xs o (inl short) long = absurd (omega (arith, length-append xs (o ∷ [])))
grown_by xs o (inr less) long =
    let more : length (xs ++ o ∷ []) ≡ length xs + 1 = length-append xs (o ∷ []) in
    let same = told-append xs (o ∷ []) (omega arith) in
    (omega (arith, less.2), omega (arith, less.1))

pub grown : (xs : List ℕ) (o : ℕ) → IsWithin xs → IsWithin (begun xs ++ o ∷ [])
grown xs o within = grown_by (begun xs) o (begun_begins xs within)

pub begun_short : (xs : List ℕ) → IsWithin xs → length (begun xs) < 4096
begun_short xs within = elim (begun_begins xs within) [ inl short ↦ omega (arith, short) | inr less ↦ omega (arith, less.1, less.2) ]

-- ---- reading on

drop_past : (xs ys : List ℕ) (n k : ℕ) → n ≡ length xs + k → drop n (xs ++ ys) ≡ drop k ys
drop_past [] ys n k e = ap (λ (i : ℕ). drop i ys) (let same : n ≡ k = omega arith in same)
drop_past (x ∷ xs) ys zero k e = absurd (omega arith)
drop_past (x ∷ xs) ys (suc n) k e = drop_past xs ys n k (omega arith)

abbrev R : List ℕ → ℕ → Reading
R octets over = record { octets = octets; over = over; ended = false }

ended_nothing : (octets more : List ℕ) (over : ℕ) → items_in (record { octets = octets; over = over; ended = true }) more ≡ []
unfolding after item_at
ended_nothing octets [] over = refl
ended_nothing octets (o ∷ more) over = ended_nothing octets more over

abbrev Holds : List ℕ → Type 0
Holds os = (octets : List ℕ) (over : ℕ) → IsWithin octets → (0 < over → begun octets ≡ []) → Stream (drop over (begun octets ++ os)) (items_in (R octets over) os)

one_more : (xs os : List ℕ) (j : Option Item) → judged xs ≡ j → Judges xs j → IsWithin xs → Holds os → Stream (xs ++ os) (option_to_list j ++ items_in (read_on xs j) os)
one_more xs os None e h within hyp =
    let same : begun xs ≡ xs = ap (λ (o : Option Item). cond (is_some o) [] xs) e in
    subst (λ (b : List ℕ). Stream (b ++ os) (items_in (R xs 0) os)) same (hyp xs 0 within (λ lt. absurd (omega (arith, lt))))
one_more xs os (Some broken) e h within hyp =
    let same = told-append xs os h.0 in
    (omega (arith, length-append xs os, h.0), omega (arith, h.1), ended_nothing xs os 0)
one_more xs os (Some (too_long m)) e h within hyp =
    let same = told-append xs os h.0 in
    let eight : length xs ≡ 8 = elim (cases_lt 8 (length xs)) [ inl lt ↦ absurd (omega (arith, within lt, h.1)) | inr le ↦ omega (arith, le, h.0) ] in
    let nothing : begun xs ≡ [] = ap (λ (o : Option Item). cond (is_some o) [] xs) e in
    let rest : Stream (drop (told xs - 8) (begun xs ++ os)) (items_in (R xs (told xs - 8)) os) = hyp xs (told xs - 8) within (λ _. nothing) in
    let rest2 : Stream (drop (told xs - 8) os) (items_in (R xs (told xs - 8)) os) = subst (λ (b : List ℕ). Stream (drop (told xs - 8) (b ++ os)) (items_in (R xs (told xs - 8)) os)) nothing rest in
    let dropped : drop (told (xs ++ os)) (xs ++ os) ≡ drop (told xs - 8) os = drop_past xs os (told (xs ++ os)) (told xs - 8) (omega (arith, h.1)) in
    (omega (arith, length-append xs os, h.0), omega (arith, h.1), h.2 ∙ sym (take_at xs os 8 eight), subst (λ (s : List ℕ). Stream s (items_in (R xs (told xs - 8)) os)) (sym dropped) rest2)
one_more xs os (Some (whole m)) e h within hyp =
    let same = told-append xs os h.0 in
    let nothing : begun xs ≡ [] = ap (λ (o : Option Item). cond (is_some o) [] xs) e in
    let rest : Stream os (items_in (R xs 0) os) = subst (λ (b : List ℕ). Stream (b ++ os) (items_in (R xs 0) os)) nothing (hyp xs 0 within (λ lt. absurd (omega (arith, lt)))) in
    let counted : length xs ≡ told (xs ++ os) = omega (arith, h.3) in
    (omega (arith, h.1), omega (arith, h.2), omega (arith, length-append xs os), h.4 ∙ sym (take_at xs os (told (xs ++ os)) counted), subst (λ (s : List ℕ). Stream s (items_in (R xs 0) os)) (sym (drop_at xs os (told (xs ++ os)) counted)) rest)

passes : (octets : List ℕ) (over o : ℕ) → (item_at (R octets (suc over)) o ≡ None) × (after (R octets (suc over)) o ≡ R octets over)
unfolding after item_at
passes octets over o =
    let more : ltb 0 (suc over) ≡ true = lt-ltb 0 (suc over) (omega arith) in
    let less : suc over - 1 ≡ over = omega arith in
    (rw more refl, rw (more, less) refl)

takes : (octets : List ℕ) (o : ℕ) → (item_at (R octets 0) o ≡ judged (begun octets ++ o ∷ [])) × (after (R octets 0) o ≡ read_on (begun octets ++ o ∷ []) (judged (begun octets ++ o ∷ [])))
unfolding after item_at
takes octets o = (refl, refl)

-- the item at an octet, and the items after it
items_by : (r q : Reading) (i : Option Item) (o : ℕ) (os : List ℕ) → item_at r o ≡ i → after r o ≡ q → option_to_list i ++ items_in q os ≡ items_in r (o ∷ os)
items_by r q i o os item state =
    ap (λ (j : Option Item). option_to_list j ++ items_in q os) (sym item) ∙ ap (λ (s : Reading). option_to_list (item_at r o) ++ items_in s os) (sym state)

pub reads_on : (os octets : List ℕ) (over : ℕ) → IsWithin octets → (0 < over → begun octets ≡ []) → Stream (drop over (begun octets ++ os)) (items_in (R octets over) os)
reads_on [] octets zero within begins = subst (λ (s : List ℕ). Stream s []) (sym (append-nil (begun octets))) (begun_begins octets within)
reads_on [] octets (suc over) within begins = subst (λ (s : List ℕ). Stream (drop (suc over) (s ++ [])) []) (sym (begins (omega arith))) (inl (omega arith))
reads_on (o ∷ os) octets zero within begins =
    let xs : List ℕ = begun octets ++ o ∷ [] in
    let step = takes octets o in
    let rest : Stream (xs ++ os) (option_to_list (judged xs) ++ items_in (read_on xs (judged xs)) os) = one_more xs os (judged xs) refl (judges xs) (grown octets o within) (λ ys k w b. reads_on os ys k w b) in
    let all : option_to_list (judged xs) ++ items_in (read_on xs (judged xs)) os ≡ items_in (R octets 0) (o ∷ os) = items_by (R octets 0) (read_on xs (judged xs)) (judged xs) o os step.0 step.1 in
    subst (λ (s : List ℕ). Stream s (items_in (R octets 0) (o ∷ os))) (append_assoc (begun octets) (o ∷ []) os)
    (subst (λ (is : List Item). Stream (xs ++ os) is) all rest)
reads_on (o ∷ os) octets (suc over) within begins =
    let nothing : begun octets ≡ [] = begins (omega arith) in
    let step = passes octets over o in
    let rest = reads_on os octets over within (λ _. nothing) in
    let rest2 : Stream (drop over os) (items_in (R octets over) os) = subst (λ (s : List ℕ). Stream (drop over (s ++ os)) (items_in (R octets over) os)) nothing rest in
    let all : items_in (R octets over) os ≡ items_in (R octets (suc over)) (o ∷ os) = items_by (R octets (suc over)) (R octets over) None o os step.0 step.1 in
    subst (λ (s : List ℕ). Stream (drop (suc over) (s ++ (o ∷ os))) (items_in (R octets (suc over)) (o ∷ os))) (sym nothing)
    (subst (λ (is : List Item). Stream (drop over os) is) all rest2)

pub stream_read : (s : List ℕ) → Stream s (items_in start s)
stream_read s = reads_on s [] 0 (λ long. absurd (omega (arith, long))) (λ lt. absurd (omega (arith, lt)))

-- ---- cuts

pub items-append : (r : Reading) (xs ys : List ℕ) → items_in r (xs ++ ys) ≡ items_in r xs ++ items_in (reading_after r xs) ys
items-append r [] ys = refl
items-append r (x ∷ xs) ys =
    ap (λ (s : List Item). option_to_list (item_at r x) ++ s) (items-append (after r x) xs ys)
    ∙ sym (append_assoc (option_to_list (item_at r x)) (items_in (after r x) xs) (items_in (reading_after (after r x) xs) ys))

pub items_of_all : (r : Reading) (pieces : List (List ℕ)) → items_of_pieces r pieces ≡ items_in r (concat pieces)
items_of_all r [] = refl
items_of_all r (piece ∷ pieces) =
    ap (λ (s : List Item). items_in r piece ++ s) (items_of_all (reading_after r piece) pieces) ∙ sym (items-append r piece (concat pieces))

pub any_cut : (a b : List (List ℕ)) → concat a ≡ concat b → items_of_pieces start a ≡ items_of_pieces start b
any_cut a b same = items_of_all start a ∙ ap (items_in start) same ∙ sym (items_of_all start b)

-- ---- steps of the code

reading-append : (r : Reading) (xs ys : List ℕ) → reading_after r (xs ++ ys) ≡ reading_after (reading_after r xs) ys
reading-append r [] ys = refl
reading-append r (x ∷ xs) ys = reading-append (after r x) xs ys

pub reading_more : (r : Reading) (xs : List ℕ) (i : ℕ) → i < length xs → reading_after r (take (i + 1) xs) ≡ after (reading_after r (take i xs)) (get_or xs i 0)
reading_more r xs i lt = ap (reading_after r) (take_more xs i 0 lt) ∙ reading-append r (take i xs) (get_or xs i 0 ∷ [])

pub items_more : (r : Reading) (xs : List ℕ) (i : ℕ) → i < length xs → items_in r (take (i + 1) xs) ≡ items_in r (take i xs) ++ option_to_list (item_at (reading_after r (take i xs)) (get_or xs i 0))
items_more r xs i lt =
    let last : items_in (reading_after r (take i xs)) (get_or xs i 0 ∷ []) ≡ option_to_list (item_at (reading_after r (take i xs)) (get_or xs i 0)) = append-nil _ in
    ap (items_in r) (take_more xs i 0 lt) ∙ items-append r (take i xs) (get_or xs i 0 ∷ []) ∙ ap (λ (s : List Item). items_in r (take i xs) ++ s) last

pub long_told : (xs h : List ℕ) → judged xs ≡ Some (too_long h) → (8 ≤ length xs) × (4096 < told xs)
long_told xs h e = let j : Judges xs (Some (too_long h)) = subst (Judges xs) e (judges xs) in (j.0, j.1)

pub step_ended : (r : Reading) (o : ℕ) → r.ended ≡ true → (after r o ≡ r) × (item_at r o ≡ None)
unfolding after item_at
step_ended r o ended = (rw ended refl, rw ended refl)

pub step_over : (octets : List ℕ) (over o : ℕ) (ended : Bool) → ended ≡ false → 0 < over
    → (after (record { octets = octets; over = over; ended = ended }) o ≡ record { octets = octets; over = over - 1; ended = ended }) × (item_at (record { octets = octets; over = over; ended = ended }) o ≡ None)
unfolding after item_at
step_over octets over o ended goes_on more =
    let passes_on : ltb 0 over ≡ true = lt-ltb 0 over more in
    (rw (goes_on, passes_on) refl, rw (goes_on, passes_on) refl)

pub step_taken : (octets xs : List ℕ) (over o : ℕ) (ended : Bool) (j : Option Item) → ended ≡ false → over ≡ 0 → xs ≡ begun octets ++ o ∷ [] → judged xs ≡ j
    → (after (record { octets = octets; over = over; ended = ended }) o ≡ read_on xs j) × (item_at (record { octets = octets; over = over; ended = ended }) o ≡ j)
step_taken octets xs over o ended j goes_on none is e =
    let same : record { octets = octets; over = over; ended = ended } ≡ R octets 0 = ap (λ (k : ℕ). record { octets = octets; over = k; ended = ended }) none ∙ ap (λ (b : Bool). record { octets = octets; over = 0; ended = b }) goes_on in
    let step = takes octets o in (
      ap (λ (r : Reading). after r o) same ∙ step.1 ∙ ap (λ (ys : List ℕ). read_on ys (judged ys)) (sym is) ∙ ap (read_on xs) e,
      ap (λ (r : Reading). item_at r o) same ∙ step.0 ∙ ap judged (sym is) ∙ e,
    )

pub is_plain : (xs : List ℕ) (over k : ℕ) (ended b : Bool) → over ≡ k → ended ≡ b
    → ◌≡◌ {A = Reading} (record { octets = xs; over = over; ended = ended }) (record { octets = xs; over = k; ended = b })
is_plain xs over k ended b e f = ap (λ (n : ℕ). record { octets = xs; over = n; ended = ended }) e ∙ ap (λ (c : Bool). record { octets = xs; over = k; ended = c }) f

pub grown_to : (octets xs : List ℕ) (o : ℕ) → IsWithin octets → xs ≡ begun octets ++ o ∷ [] → IsWithin xs
grown_to octets xs o within is = subst IsWithin (sym is) (grown octets o within)

-- ---- steps of a piece

pub piece_state : (r s : Reading) (xs : List ℕ) (i o : ℕ) → i < length xs → o ≡ get_or xs i 0 → s ≡ reading_after r (take i xs) → after s o ≡ reading_after r (take (i + 1) xs)
piece_state r s xs i o lt at state =
    ap (after s) at ∙ ap (λ (q : Reading). after q (get_or xs i 0)) state ∙ sym (reading_more r xs i lt)

pub piece_items : (r s : Reading) (xs : List ℕ) (i o : ℕ) (t : Option Item) → i < length xs → o ≡ get_or xs i 0 → s ≡ reading_after r (take i xs) → items_in r (take i xs) ≡ [] → item_at s o ≡ t
    → items_in r (take (i + 1) xs) ≡ option_to_list t
piece_items r s xs i o t lt at state nothing e =
    items_more r xs i lt ∙ ap (λ (is : List Item). is ++ option_to_list (item_at (reading_after r (take i xs)) (get_or xs i 0))) nothing
    ∙ ap option_to_list (sym (ap (item_at s) at ∙ ap (λ (q : Reading). item_at q (get_or xs i 0)) state) ∙ e)

pub some_item : (h : Heard) → (h ≡ heard.Nothing → ⊥) → item_told h [] ≡ None → ⊥
some_item heard.Nothing not_nothing e = not_nothing refl
some_item heard.Message not_nothing e = cc
some_item heard.TooLong not_nothing e = cc
some_item heard.Broken not_nothing e = cc
