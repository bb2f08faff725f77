-- The output of `diff` for two sets.
use Rattle.std.proofs.Common.{◌≡◌, ◌∙◌, ◌⊎◌, inl, inr, ℕ, ◌+◌, ◌-◌, min, true, List, [], ◌++◌, Option, None, Some, ap, subst, sym, codes, decimal, append_assoc, Bool, false, rules, arith}
use Rattle.std.specs.Prelude.{All, bytes_eq, if◌then◌else◌}
use Rattle.std.specs.Io.KnownBytes.{Appends}
use Rattle.draw_diff.specs.Items.{item_lines, items_of}
use Rattle.draw_diff.specs.Ways.{lines_in, new_way_lines, old_way_lines, ways_in}
use Rattle.draw_diff.specs.declared.comparing.Difference.{Difference}
use Rattle.draw_sets.specs.Noting.{AreNoted}
use Rattle.link_term.specs.Wanted.{wanted, Has, IsFirstLacking}
use Rattle.link_term.specs.WantedText.{wanted_text}
use Rattle.link_term.specs.link_processes_types.wanted.Wanted.{Wanted}
use Rattle.script_check.specs.Checked.{IsGiven, IsRefusal, IsRefusedAt, IsSetOf}
use Rattle.script_check.specs.Fronts.{in_front}
use Rattle.script_check.specs.Printed.{refusal_line}
use Rattle.script_check.specs.declared.sets.Refusal.{Refusal}
use Rattle.script_check.specs.turn_code_types.draft.Draft.{Draft}
use Rattle.mtp2_play.specs.Compared.{same_text, terminal_text, way_lines, AreAlike, AreFound, IsCompared, IsSummary, PrintsDifference, PrintsSide, SaysTerminal}

-- ---- the bytes of these sets

-- a property of bytes that may be known holds of some bytes
pub of_some : (known : Option (List ℕ)) (P : List ℕ → Type 0) → IsGiven known P → IsGiven None P
of_some known P g = record { bytes = g.bytes; are_known = tt; holds = g.holds }

-- ---- a set that is refused

-- the line of a refusal, with the side before it
pub side_line : (old new : Option (List ℕ)) (side begun lines shown line : List ℕ) → begun ≡ [] → Appends (Some begun) (Some lines) line → shown ≡ lines
    → Appends old new (in_front side true shown) → Appends old new (in_front side true line)
side_line old new side begun lines shown line none grown same h =
    let is : shown ≡ line = same ∙ (grown ∙ ap (λ x. x ++ line) none) in
    let P : List ℕ → Type 0 = λ x. Appends old new (in_front side true x) in
    subst P is h

pub side_refused : (known : Option (List ℕ)) (r : Refusal) (side : List ℕ) (old new : Option (List ℕ)) → IsRefusal r.fault
    → Appends old new (in_front side true (refusal_line r.fault)) → (IsRefusal r.fault → IsGiven known (λ bytes. IsRefusedAt bytes r))
    → IsGiven known (PrintsSide side old new)
side_refused known r side old new judged written found =
    let g = found judged in
    record {
      bytes = g.bytes;
      are_known = g.are_known;
      holds = record { fault = r.fault; judged = judged; is_so = g.holds.refused; written = written };
    }

-- ---- the differences found

pub found_as : (d e a b : Draft) (found : Difference) → a ≡ d → b ≡ e → found.items.items ≡ item_lines (items_of a) (items_of b) → found.olds.items ≡ old_way_lines a b
    → found.news.items ≡ new_way_lines a b → AreFound d e found
found_as d e a b found one other items olds news =
    let P : Draft → Type 0 = λ x. AreFound x e found in
    let Q : Draft → Type 0 = λ y. AreFound a y found in
    subst P one (subst Q other (record { items = items; olds = olds; news = news }))

-- no differences were found exactly if the two sets are alike

pub alike_of : (d e : Draft) (found : Difference) → AreFound d e found → (found.items.items ≡ []) × (found.olds.items ≡ []) × (found.news.items ≡ []) → AreAlike d e
alike_of d e found h none = record {
  items = sym h.items ∙ none.0;
  olds = sym h.olds ∙ none.1;
  news = sym h.news ∙ none.2;
}

pub differ_of : (d e : Draft) (found : Difference) → AreFound d e found → ((found.items.items ≡ []) × (found.olds.items ≡ []) × (found.news.items ≡ []) → ⊥) → AreAlike d e → ⊥
differ_of d e found h some alike = some (h.items ∙ alike.items, h.olds ∙ alike.olds, h.news ∙ alike.news)

-- ---- the text written

-- the lines of transitions, first those of OLD, then those of NEW
pub lines_of : (d e : Draft) (found : Difference) (none olds one news two : List ℕ) → AreFound d e found → none ≡ [] → olds ≡ found.olds.items → one ≡ none ++ olds
    → news ≡ found.news.items → two ≡ one ++ news → two ≡ way_lines d e
lines_of d e found none olds one news two h empty before first after second =
    let begun : one ≡ old_way_lines d e = first ∙ (ap (λ x. x ++ olds) empty ∙ (before ∙ h.olds)) in
    second ∙ (ap (λ x. x ++ news) begun ∙ ap (λ x. old_way_lines d e ++ x) (after ∙ h.news))

-- a text written piece by piece, from its end or from its beginning
in_order : (a b c d e : List ℕ) → a ++ (b ++ (c ++ (d ++ e))) ≡ a ++ b ++ c ++ d ++ e
in_order a b c d e = sym (append_assoc (a ++ b ++ c) d e ∙ (append_assoc (a ++ b) c (d ++ e) ∙ append_assoc a b (c ++ (d ++ e))))

-- the number of transitions that mean the same
pub same_of : (d e : Draft) (found : Difference) (known same all : ℕ) (olds news text : List ℕ) → AreFound d e found → known ≡ ways_in d → olds ≡ found.olds.items
    → news ≡ found.news.items → same ≡ known - lines_in olds → all ≡ min (known + lines_in news) 18446744073709551615
    → text ≡ codes "same " ++ (decimal same ++ (codes " of " ++ (decimal all ++ codes "\n"))) → text ≡ same_text d e
same_of d e found known same all olds news text h ways before after less more is =
    let same_is : same ≡ ways_in d - lines_in (old_way_lines d e) =
    less ∙ (ap (λ n. n - lines_in olds) ways ∙ ap (λ x. ways_in d - lines_in x) (before ∙ h.olds)) in
    let all_is : all ≡ min (ways_in d + lines_in (new_way_lines d e)) 18446744073709551615 =
    more
    ∙ (ap (λ n. min (n + lines_in news) 18446744073709551615) ways ∙ ap (λ x. min (ways_in d + lines_in x) 18446744073709551615) (after ∙ h.news)) in
    is
    ∙ (in_order (codes "same ") (decimal same) (codes " of ") (decimal all) (codes "\n")
    ∙ (ap (λ n. codes "same " ++ decimal n ++ codes " of " ++ decimal all ++ codes "\n") same_is
    ∙ ap (λ n. codes "same " ++ decimal (ways_in d - lines_in (old_way_lines d e)) ++ codes " of " ++ decimal n ++ codes "\n") all_is))

-- whether terminals find their names in both sets, if the two answers differ

pub pushed_of : (before after one two three four five : List ℕ) → one ≡ codes "terminal " → two ≡ one ++ before → three ≡ two ++ codes " -> " → four ≡ three ++ after
    → five ≡ four ++ codes "\n" → five ≡ codes "terminal " ++ before ++ codes " -> " ++ after ++ codes "\n"
pushed_of before after one two three four five first second third fourth fifth =
    fifth
    ∙ ap (λ x. x ++ codes "\n") (fourth ∙ ap (λ x. x ++ after) (third ∙ ap (λ x. x ++ codes " -> ") (second ∙ ap (λ x. x ++ before) first)))

pub changed_of : (before after text : List ℕ) → bytes_eq before after ≡ false
    → text ≡ codes "terminal " ++ before ++ codes " -> " ++ after ++ codes "\n" → text ≡ terminal_text before after
changed_of before after text apart is =
    let one : List ℕ = codes "terminal " ++ before ++ codes "\n" in
    let two : List ℕ = codes "terminal " ++ before ++ codes " -> " ++ after ++ codes "\n" in
    let P : Bool → Type 0 = λ b. text ≡ (if b then one else two) in
    subst P (sym apart) is

-- whether a terminal finds its names

pub says_yes : (d : Draft) (said : List ℕ) → said ≡ codes "yes" → All (Has d) wanted → SaysTerminal d said
says_yes d said is has = inl (is, has)

pub says_no : (d : Draft) (name : Wanted) (said : List ℕ) → said ≡ codes "no " ++ wanted_text name → IsFirstLacking d name wanted → SaysTerminal d said
says_no d name said is first = inr (name, first, is)

-- the last two lines, one after the other
pub summed : (d e : Draft) (before after old new one line shown whole : List ℕ) → SaysTerminal d before → SaysTerminal e after → one ≡ same_text d e → old ≡ before
    → new ≡ after → line ≡ terminal_text old new → shown ≡ line → whole ≡ one ++ shown → IsSummary d e whole
summed d e before after old new one line shown whole of_old of_new first was is told same grown = record {
  before = before;
  after = after;
  of_old = of_old;
  of_new = of_new;
  is_so = grown
      ∙ (ap (λ x. x ++ shown) first
      ∙ ap (λ x. same_text d e ++ x) (same ∙ (told ∙ (ap (λ x. terminal_text x new) was ∙ ap (λ x. terminal_text before x) is))));
}

-- the whole text, one piece after another
pub written_of : (d e : Draft) (found : Difference) (old new : Option (List ℕ)) (none items one ways told two end said three all : List ℕ) → AreFound d e found → none ≡ []
    → items ≡ found.items.items → one ≡ none ++ items → told ≡ ways → two ≡ one ++ told → said ≡ end → three ≡ two ++ said → all ≡ three
    → AreNoted (way_lines d e) ways → IsSummary d e end → Appends old new all → PrintsDifference old new d e
written_of d e found old new none items one ways told two end said three all h empty of_items first of_ways second of_end third same noted summary printed =
    let lines : List ℕ = item_lines (items_of d) (items_of e) in
    let one_is : one ≡ lines = first ∙ (ap (λ x. x ++ items) empty ∙ (of_items ∙ h.items)) in
    let two_is : two ≡ lines ++ ways = second ∙ (ap (λ x. x ++ told) one_is ∙ ap (λ x. lines ++ x) of_ways) in
    let three_is : three ≡ lines ++ ways ++ end = third ∙ (ap (λ x. x ++ said) two_is ∙ ap (λ x. lines ++ ways ++ x) of_end) in
    record { ways = ways; end = end; noted = noted; summary = summary; written = subst (Appends old new) (same ∙ three_is) printed }

-- ---- the exit status

ends_of : (status : ℕ) → (status ≡ 0) ⊎ (status ≡ 1) ⊎ (status ≡ 4) → (status ≡ 0) ⊎ (status ≡ 1) ⊎ (status ≡ 2) ⊎ (status ≡ 4)
ends_of status (inl alike) = inl alike
ends_of status (inr (inl differ)) = inr (inl differ)
ends_of status (inr (inr failed)) = inr (inr (inr failed))

no_refusal : (status : ℕ) → (status ≡ 0) ⊎ (status ≡ 1) ⊎ (status ≡ 4) → status ≡ 2 → ⊥
no_refusal status (inl alike) two = omega (arith, alike, two)
no_refusal status (inr (inl differ)) two = omega (arith, differ, two)
no_refusal status (inr (inr failed)) two = omega (arith, failed, two)

pub compared : (one other : Option (List ℕ)) (d e : Draft) (status : ℕ) (old between last new : Option (List ℕ)) → IsGiven one (λ bytes. IsSetOf bytes d)
    → IsGiven other (λ bytes. IsSetOf bytes e) → between ≡ old → last ≡ between → (status ≡ 0 → AreAlike d e) → (status ≡ 1 → AreAlike d e → ⊥)
    → ((status ≡ 0) ⊎ (status ≡ 1) → PrintsDifference last new d e) → (status ≡ 0) ⊎ (status ≡ 1) ⊎ (status ≡ 4) → IsCompared one other status old new
compared one other d e status old between last new is_old is_new first second alike differ printed ends = record {
  sets = λ said.
      let P : Option (List ℕ) → Type 0 = λ o. PrintsDifference o new d e in
      record {
        old = d;
        new = e;
        is_old = is_old;
        is_new = is_new;
        holds = record { printed = subst P (second ∙ first) (printed said); alike = alike; differ = differ };
      };
  refused = λ two. absurd (no_refusal status ends two);
  ends = ends_of status ends;
}

is_late : (status : ℕ) → (status ≡ 2) ⊎ (status ≡ 4) → (status ≡ 0) ⊎ (status ≡ 1) → ⊥
is_late status (inl refused) (inl alike) = omega (arith, refused, alike)
is_late status (inl refused) (inr differ) = omega (arith, refused, differ)
is_late status (inr failed) (inl alike) = omega (arith, failed, alike)
is_late status (inr failed) (inr differ) = omega (arith, failed, differ)

pub old_refused : (one other : Option (List ℕ)) (status : ℕ) (old new : Option (List ℕ)) → (status ≡ 2 → IsGiven one (PrintsSide (codes "OLD") old new))
    → (status ≡ 2) ⊎ (status ≡ 4) → IsCompared one other status old new
old_refused one other status old new refused h = record {
  sets = λ said. absurd (is_late status h said);
  refused = λ two. inl (refused two);
  ends = inr (inr h);
}

pub new_refused : (one other : Option (List ℕ)) (status : ℕ) (old between new : Option (List ℕ)) → between ≡ old
    → (status ≡ 2 → IsGiven other (PrintsSide (codes "NEW") between new)) → (status ≡ 2) ⊎ (status ≡ 4) → IsCompared one other status old new
new_refused one other status old between new same refused h =
    let P : Option (List ℕ) → Type 0 = λ o. IsGiven other (PrintsSide (codes "NEW") o new) in
    record {
      sets = λ said. absurd (is_late status h said);
      refused = λ two. inr (subst P same (refused two));
      ends = inr (inr h);
    }
