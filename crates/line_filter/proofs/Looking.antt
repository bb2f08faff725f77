-- How one more octet changes the lines.
use Rattle.std.proofs.Common.{◌≡◌, ℕ, suc, ◌+◌, ◌<◌, ◌≤◌, ◌==◌, nat_le, Bool, true, false, ◌&&◌, if◌then◌else◌, List, [], ◌∷◌, ◌++◌, length, None, get_or, drop, refl, sym, ap, ◌∙◌, arith, add-one, length-append, drop-cons, option_map}
use Rattle.std.specs.Prelude.{string_bytes}
use Rattle.std.specs.Str.{is_utf8}
use Rattle.std.proofs.lemmas.Bool.{lt-leb, le-leb}
use Rattle.std.proofs.lemmas.List.{drop_all}
use Rattle.script_lines.specs.Words.{words_of}
use Rattle.line_filter.specs.Orders.{Timed}
use Rattle.line_filter.specs.Says.{PlainSays, order, says_of}
use Rattle.line_filter.specs.Streams.{MOST_OCTETS, line_says, said_at, wait_behind, timed, whole_lines, orders_of, waiting_by, waiting_of, behind_of, left_in}
use Rattle.line_filter.specs.declared.lines.OrderLines.{OrderLines}

-- ---- lines

-- A line that is too long, one that isn't UTF-8, and one that is.
pub long_says : (line : List ℕ) → MOST_OCTETS < length line → line_says line ≡ order []
unfolding line_says
long_says line long = rw (lt-leb (length line) MOST_OCTETS long) refl

either_way : (a : Bool) (x y : PlainSays) → (if a && false then x else y) ≡ y
either_way true x y = refl
either_way false x y = refl

pub no_text_says : (line : List ℕ) → is_utf8 line ≡ false → line_says line ≡ order []
unfolding line_says
no_text_says line none =
    ap (λ t. if nat_le (length line) MOST_OCTETS && t then says_of (words_of line) else order []) none ∙ either_way (nat_le (length line) MOST_OCTETS) (says_of (words_of line)) (order [])

pub text_says : (line : List ℕ) → length line ≤ MOST_OCTETS → is_utf8 line ≡ true → line_says line ≡ says_of (words_of line)
unfolding line_says
text_says line short is = rw (le-leb (length line) MOST_OCTETS short, is) refl

-- A complete line, and the lines after it.
abbrev timed_with : ℕ → List (List ℕ) → PlainSays → List Timed
timed_with since lines says = said_at since says ++ timed (wait_behind since says) lines

alike_by : (t : Bool) (since : ℕ) (l m rest ls ms : List ℕ) → line_says l ≡ line_says m → timed since (whole_lines ls rest) ≡ timed since (whole_lines ms rest)
    → timed since (if t then l ∷ whole_lines [] rest else whole_lines ls rest) ≡ timed since (if t then m ∷ whole_lines [] rest else whole_lines ms rest)
alike_by true since l m rest ls ms same on = ap (timed_with since (whole_lines [] rest)) same
alike_by false since l m rest ls ms same on = on

-- If a line is too long, its further octets don't matter.
pub long_alike : (since : ℕ) (l m more : List ℕ) → MOST_OCTETS < length l → MOST_OCTETS < length m
    → timed since (whole_lines l more) ≡ timed since (whole_lines m more)
long_alike since l m [] hl hm = refl
long_alike since l m (b ∷ bs) hl hm =
    alike_by (b == 10) since l m bs (l ++ b ∷ []) (m ++ b ∷ []) (long_says l hl ∙ sym (long_says m hm))
    (long_alike since (l ++ b ∷ []) (m ++ b ∷ []) bs (omega (arith, length-append l (b ∷ []))) (omega (arith, length-append m (b ∷ []))))

pub lengthened : (since : ℕ) (line more : List ℕ) (octet : ℕ) → MOST_OCTETS < length line
    → timed since (whole_lines line more) ≡ timed since (whole_lines (line ++ octet ∷ []) more)
lengthened since line more octet long = long_alike since line (line ++ octet ∷ []) more long (omega (arith, length-append line (octet ∷ [])))

-- ---- an octet is examined

next_octet : (part more : List ℕ) (from octet : ℕ) → from < length part → octet ≡ get_or part from octet
    → drop from part ++ more ≡ octet ∷ (drop (from + 1) part ++ more)
next_octet part more from octet within is = rw (add-one, drop-cons part from octet) (ap (λ b. b ∷ (drop (suc from) part ++ more)) (sym is))

-- The octet ends the line.
ends : (since : ℕ) (line part more : List ℕ) (from octet : ℕ) → from < length part → octet ≡ get_or part from octet → octet ≡ 10
    → timed since (whole_lines line (drop from part ++ more)) ≡ timed_with since (whole_lines [] (drop (from + 1) part ++ more)) (line_says line)
ends since line part more from octet within is end =
    ap (λ bs. timed since (whole_lines line bs)) (next_octet part more from octet within is ∙ ap (λ b. b ∷ (drop (from + 1) part ++ more)) end)

-- The octet doesn't end the line.
goes_on : (since : ℕ) (line part more : List ℕ) (from octet : ℕ) → from < length part → octet ≡ get_or part from octet → (octet == 10) ≡ false
    → timed since (whole_lines line (drop from part ++ more)) ≡ timed since (whole_lines (line ++ octet ∷ []) (drop (from + 1) part ++ more))
goes_on since line part more from octet within is other =
    let rest : List ℕ = drop (from + 1) part ++ more in
    ap (λ bs. timed since (whole_lines line bs)) (next_octet part more from octet within is)
    ∙ ap (λ t. timed since (if t then line ∷ whole_lines [] rest else whole_lines (line ++ octet ∷ []) rest)) other

nothing_waits : (l : OrderLines) → l.waiting ≡ None → waiting_of l ≡ []
nothing_waits l none = ap (λ w. waiting_by l.since (option_map string_bytes w)) none

alike : (w v : List Timed) (since until : ℕ) (line next bs cs : List ℕ) → w ≡ v → since ≡ until → line ≡ next → bs ≡ cs
    → w ++ timed since (whole_lines line bs) ≡ v ++ timed until (whole_lines next cs)
alike w v since until line next bs cs e1 e2 e3 e4 = rw (e1, e2, e3, e4) refl

pub looked_at_end : (old new : OrderLines) (octet : ℕ) (more : List ℕ) → old.from < length old.part.items → octet ≡ get_or old.part.items old.from octet → octet ≡ 10
    → old.waiting ≡ None → new.line.items ≡ [] → waiting_of new ≡ said_at old.since (line_says old.line.items)
    → new.since ≡ wait_behind old.since (line_says old.line.items) → drop new.from new.part.items ≡ drop (old.from + 1) old.part.items
    → left_in new more ≡ left_in old more
unfolding left_in
looked_at_end old new octet more within is end none line waits since part =
    alike _ _ _ _ _ _ _ _ waits since line (ap (λ bs. bs ++ more) part)
    ∙ (sym (ends old.since old.line.items old.part.items more old.from octet within is end) ∙ ap (λ w. w ++ behind_of old more) (sym (nothing_waits old none)))

pub looked_at_other : (old new : OrderLines) (octet : ℕ) (more : List ℕ) → old.from < length old.part.items → octet ≡ get_or old.part.items old.from octet
    → (octet == 10) ≡ false → old.waiting ≡ None → new.waiting ≡ None → new.since ≡ old.since → drop new.from new.part.items ≡ drop (old.from + 1) old.part.items
    → ((since : ℕ) (more : List ℕ) → timed since (whole_lines new.line.items more) ≡ timed since (whole_lines (old.line.items ++ octet ∷ []) more))
    → left_in new more ≡ left_in old more
unfolding left_in
looked_at_other old new octet more within is other none waits since part line =
    alike (waiting_of new) [] new.since old.since new.line.items new.line.items (drop new.from new.part.items ++ more) (drop (old.from + 1) old.part.items ++ more)
    (nothing_waits new waits) since refl (ap (λ bs. bs ++ more) part)
    ∙ (line old.since (drop (old.from + 1) old.part.items ++ more)
    ∙ (sym (goes_on old.since old.line.items old.part.items more old.from octet within is other) ∙ ap (λ w. w ++ behind_of old more) (sym (nothing_waits old none))))

-- ---- nothing was examined

pub begun : (part line more : List ℕ) → part ≡ [] → line ≡ [] → timed 0 (whole_lines line (drop 0 part ++ more)) ≡ orders_of more
begun part line more e1 e2 = rw (e1, e2) refl

pub filled : (l : OrderLines) (part octets more : List ℕ) → length l.part.items ≤ l.from → part ≡ octets
    → waiting_of l ++ timed l.since (whole_lines l.line.items (drop 0 part ++ more)) ≡ left_in l (octets ++ more)
unfolding left_in
filled l part octets more all is =
    ap (λ bs. waiting_of l ++ timed l.since (whole_lines l.line.items bs))
    (ap (λ bs. bs ++ more) is ∙ ap (λ bs. bs ++ (octets ++ more)) (sym (drop_all l.from l.part.items all)))

pub nothing_left : (l : OrderLines) → length l.part.items ≤ l.from → l.waiting ≡ None → left_in l [] ≡ []
unfolding left_in
nothing_left l all none = rw (nothing_waits l none, drop_all l.from l.part.items all) refl
