-- The report of a text: its lines, and their number.
use Rattle.std.proofs.Common.{◌≡◌, ◌∙◌, ℕ, zero, suc, ◌+◌, ◌<◌, ◌≤◌, Bool, true, false, true≢false, ◌||◌, cond, List, [], ◌∷◌, ◌++◌, append_assoc, append-nil, length, map, take, get_or, replicate, Option, None, Some, arith, refl, sym, ap, subst}
use Rattle.std.specs.Prelude.{◌==◌, nat_eq, nat_lt, if◌then◌else◌, codes, count_by, slice_get, slice_index, option_to_list}
use Rattle.std.specs.List.{flat_map, range_with_len}
use Rattle.std.proofs.lemmas.Bool.{eqb-true as same_number}
use Rattle.std.proofs.lemmas.Bool.Decides.{nat_tests}
use Rattle.std.proofs.lemmas.List.{length_push, take_more, take_all, length-take-le, length-replicate, get_or-replicate, get_or_default}
use Rattle.std.proofs.lemmas.List.FromFn.{fill_by_all}
use Rattle.std.proofs.lemmas.List.Sums.{sum_by_push, sum_by_more}
use Rattle.sdl_sound.proofs.Spread.{flat_more}
use Rattle.sdl_ast.specs.Plain.{PlainBlock}
use Rattle.sdl_tables.specs.Names.{processes_of, signal_names}
use Rattle.turn_machine.specs.Turn.{Turn}
use Rattle.script_covered.specs.Covered.{times, others, turns_of, taken_by, known_turns, HasTurns, HasTaken, Covers}
use Rattle.script_covered.specs.Lcov.{Transition, row_of, all_rows, block_marks, line_at, AreLines, counted, turns_line, summary, rows_text, taken_word, branch_line, mark_line, mark_times, answers_text, IsSection, line_count, line_counts, count_line, count_lines, lines_text, report_text, lcov_text}
use Rattle.script_covered.specs.declared.coverage.Coverage.{Coverage}
use Rattle.script_covered.specs.declared.coverage.Counts.{Counts}
use Rattle.script_covered.specs.declared.coverage.TurnCounts.{TurnCounts}
use Rattle.script_covered.specs.declared.sections.Section.{Section}
use Rattle.script_covered.specs.declared.marks.Mark.{Mark}
use Rattle.script_covered.specs.declared.marks.Mark.TheVariants.{Answer, Else}
use Rattle.script_covered.specs.declared.rows.Row.{Row}
use std.Path.{fun_ext}

-- ---- sections

pub section_as : (text ns said so : List ℕ) (s : Section) → said ≡ text → so ≡ ns → IsSection text ns s → IsSection said so s
section_as text ns said so s is are h =
    subst (λ (l : List ℕ). IsSection said l s) (sym are) (subst (λ (l : List ℕ). IsSection l ns s) (sym is) h)

-- one more line
pub section_push : (text ns line : List ℕ) (times : ℕ) (s t : Section) → t.text.items ≡ s.text.items ++ line → t.found ≡ s.found + 1
    → t.hit ≡ (if nat_lt 0 times then s.hit + 1 else s.hit) → IsSection text ns s → IsSection (text ++ line) (ns ++ times ∷ []) t
section_push text ns line times s t is more hits h = record {
  text = is ∙ ap (λ l. l ++ line) h.text;
  found = more ∙ (ap (λ n. n + 1) h.found ∙ sym (length_push ns times));
  hit =
      hits
      ∙ (by_test (nat_lt 0 times)
      ∙ (ap (λ n. n + cond (nat_lt 0 times) 1 0) h.hit ∙ sym (sum_by_push (λ n. cond (nat_lt 0 n) 1 0) ns times)));
}
  where
    by_test : (b : Bool) → (if b then s.hit + 1 else s.hit) ≡ s.hit + cond b 1 0
    by_test true = refl
    by_test false = omega arith

-- the lines, with their counts, at the end of a text
pub section_to : (found hit lines ns old a b new : List ℕ) (s : Section) → a ≡ old ++ s.text.items → b ≡ a ++ counted found s.found → new ≡ b ++ counted hit s.hit → IsSection lines ns s
    → new ≡ old ++ (lines ++ summary found hit ns)
section_to found hit lines ns old a b new s one two three h =
    three
    ∙ (ap (λ l. l ++ counted hit s.hit) (two ∙ ap (λ l. l ++ counted found s.found) one)
    ∙ (append_assoc (old ++ s.text.items) (counted found s.found) (counted hit s.hit)
    ∙ (append_assoc old s.text.items (counted found s.found ++ counted hit s.hit)
    ∙ (ap (λ l. old ++ (l ++ (counted found s.found ++ counted hit s.hit))) h.text
    ∙ (ap (λ n. old ++ (lines ++ (counted found n ++ counted hit s.hit))) h.found
    ∙ ap (λ n. old ++ (lines ++ (counted found (length ns) ++ counted hit n))) h.hit)))))

-- a line, replaced by an equal one
pub line_as : (said line same : List ℕ) (ns : List ℕ) (t : Section) → line ≡ same → IsSection (said ++ line) ns t → IsSection (said ++ same) ns t
line_as said line same ns t is h = section_as _ _ _ _ t (ap (λ l. said ++ l) (sym is)) refl h

-- an answer or an ELSE
pub answer_pushed : (text : List ℕ) (f g : ℕ → ℕ) (m : Mark) (a k n times : ℕ) (said ns : List ℕ) (t : Section) → m ≡ Answer a k n → times ≡ f a
    → IsSection (said ++ branch_line (line_at text k) k n (taken_word (f k) times)) (ns ++ times ∷ []) t → IsSection (said ++ mark_line text f g m) (ns ++ mark_times f g m) t
answer_pushed text f g m a k n times said ns t is so h =
    section_as _ _ _ _ t
    (ap (λ x. said ++ mark_line text f g x) is ∙ ap (λ x. said ++ branch_line (line_at text k) k n (taken_word (f k) x)) (sym so))
    (ap (λ x. ns ++ mark_times f g x) is ∙ ap (λ x. ns ++ x ∷ []) (sym so)) h

pub else_pushed : (text : List ℕ) (f g : ℕ → ℕ) (m : Mark) (k n times : ℕ) (said ns : List ℕ) (t : Section) → m ≡ Else k n → times ≡ g k
    → IsSection (said ++ branch_line (line_at text k) k n (taken_word (f k) times)) (ns ++ times ∷ []) t → IsSection (said ++ mark_line text f g m) (ns ++ mark_times f g m) t
else_pushed text f g m k n times said ns t is so h =
    section_as _ _ _ _ t
    (ap (λ x. said ++ mark_line text f g x) is ∙ ap (λ x. said ++ branch_line (line_at text k) k n (taken_word (f k) x)) (sym so))
    (ap (λ x. ns ++ mark_times f g x) is ∙ ap (λ x. ns ++ x ∷ []) (sym so)) h

-- the line of a line that was executed
pub some_counted : (line times : ℕ) (o : Option ℕ) (text : List ℕ) (s t : Section) → o ≡ Some times → text ≡ count_line line (Some times)
    → ((said ns : List ℕ) → IsSection said ns s → IsSection (said ++ text) (ns ++ times ∷ []) t) → (said ns : List ℕ) → IsSection said ns s
    → IsSection (said ++ count_line line o) (ns ++ option_to_list o) t
some_counted line times o text s t is so step said ns h =
    section_as _ _ _ _ t (ap (λ l. said ++ l) (ap (count_line line) is ∙ sym so)) (ap (λ (p : Option ℕ). ns ++ option_to_list p) is) (step said ns h)

-- the items up to this index
pub items_more : {A : Type 0} (L T : A → List ℕ) (xs : List A) (i : ℕ) (x : A) (s t : Section) → i < length xs → x ≡ get_or xs i x
    → IsSection (flat_map L (take i xs)) (flat_map T (take i xs)) s → ((text ns : List ℕ) → IsSection text ns s → IsSection (text ++ L x) (ns ++ T x) t)
    → IsSection (flat_map L (take (i + 1) xs)) (flat_map T (take (i + 1) xs)) t
items_more L T xs i x s t lt is h step = section_as _ _ _ _ t (flat_more L xs i x lt is) (flat_more T xs i x lt is) (step _ _ h)

pub items_past : {A : Type 0} (L T : A → List ℕ) (xs : List A) (i : ℕ) (s : Section) → length xs ≤ i → IsSection (flat_map L (take i xs)) (flat_map T (take i xs)) s
    → IsSection (flat_map L xs) (flat_map T xs) s
items_past L T xs i s past h = section_as _ _ _ _ s (ap (flat_map L) (sym (take_all i xs past))) (ap (flat_map T) (sym (take_all i xs past))) h

-- ---- transitions

abbrev pub row_lines : List Row → List ℕ
row_lines rows = flat_map turns_line (map row_of rows)

abbrev pub row_turns : List Row → List ℕ
row_turns rows = map (λ (r : Transition). r.turns) (map row_of rows)

lines_of_rows : (rows : List Row) → flat_map (λ r. turns_line (row_of r)) rows ≡ row_lines rows
lines_of_rows [] = refl
lines_of_rows (r ∷ rows) = ap (λ l. turns_line (row_of r) ++ l) (lines_of_rows rows)

turns_of_rows : (rows : List Row) → flat_map (λ (r : Row). r.turns ∷ []) rows ≡ row_turns rows
turns_of_rows [] = refl
turns_of_rows (r ∷ rows) = ap (λ l. r.turns ∷ l) (turns_of_rows rows)

pub rows_past : (rows : List Row) (i : ℕ) (s : Section) → length rows ≤ i
    → IsSection (flat_map (λ r. turns_line (row_of r)) (take i rows)) (flat_map (λ (r : Row). r.turns ∷ []) (take i rows)) s → IsSection (row_lines rows) (row_turns rows) s
rows_past rows i s past h =
    section_as _ _ _ _ s (sym (lines_of_rows rows)) (sym (turns_of_rows rows)) (items_past (λ r. turns_line (row_of r)) (λ (r : Row). r.turns ∷ []) rows i s past h)

-- ---- the lines of places

abbrev is_newline : ℕ → Bool
is_newline o = o == 10

pub line_more : (text : List ℕ) (i o line next : ℕ) → i < length text → o ≡ get_or text i 0 → line ≡ line_at text i → next ≡ (if o == 10 then line + 1 else line) → next ≡ line_at text (i + 1)
line_more text i o line next lt is at so =
    so
    ∙ (ap (λ n. if o == 10 then n + 1 else n) at
    ∙ (by_test (o == 10)
    ∙ (ap (λ n. count_by is_newline (take i text) + cond (n == 10) 1 0 + 1) is
    ∙ ap (λ n. n + 1) (sym (sum_by_more (λ n. cond (is_newline n) 1 0) text i 0 lt)))))
  where
    by_test : (b : Bool) → (if b then line_at text i + 1 else line_at text i) ≡ count_by is_newline (take i text) + cond b 1 0 + 1
    by_test true = omega arith
    by_test false = omega arith

-- the line numbers up to this index
pub record AreSo (text lines : List ℕ) (i : ℕ) : Type 0 where
  pub number : length lines ≡ i
  pub are : (k : ℕ) → k < i → slice_get lines k ≡ Some (line_at text k)

slice_push : (xs : List ℕ) (y k : ℕ) → k < length xs → slice_get (xs ++ y ∷ []) k ≡ slice_get xs k
slice_push [] y k lt = absurd (omega (arith, lt))
slice_push (x ∷ xs) y zero lt = refl
slice_push (x ∷ xs) y (suc k) lt = slice_push xs y k (omega (arith, lt))

slice_last : (xs : List ℕ) (y : ℕ) → slice_get (xs ++ y ∷ []) (length xs) ≡ Some y
slice_last [] y = refl
slice_last (x ∷ xs) y = slice_last xs y

pub lines_so_more : (text lines more : List ℕ) (i line : ℕ) → more ≡ lines ++ line ∷ [] → line ≡ line_at text i → AreSo text lines i → AreSo text more (i + 1)
lines_so_more text lines more i line is at h = record {
  number = ap length is ∙ (length_push lines line ∙ ap (λ n. n + 1) h.number);
  are = λ k lt. ap (λ l. slice_get l k) is ∙ by_test (nat_eq k i) refl lt;
}
  where
    by_test : {k : ℕ} (b : Bool) → nat_eq k i ≡ b → k < i + 1 → slice_get (lines ++ line ∷ []) k ≡ Some (line_at text k)
    by_test {k} true e lt =
        let same : k ≡ i = same_number k i e in
        ap (slice_get (lines ++ line ∷ [])) (same ∙ sym h.number) ∙ (slice_last lines line ∙ (ap Some at ∙ ap (λ j. Some (line_at text j)) (sym same)))
    by_test {k} false e lt =
        let less : k < i = grind (arith, nat_tests) in
        slice_push lines line k (omega (arith, less, h.number)) ∙ h.are k less

pub lines_are : (text lines : List ℕ) (i : ℕ) → i ≡ length text + 1 → AreSo text lines i → AreLines text lines
lines_are text lines i all h = record { number = h.number ∙ all; are = λ k le. h.are k (omega (arith, le, all)) }

-- past the end, a place has the line number of the end
past_end : (text : List ℕ) (k : ℕ) → length text ≤ k → line_at text (length text) ≡ line_at text k
past_end text k past = ap (λ l. count_by is_newline l + 1) (take_all (length text) text (omega arith) ∙ sym (take_all k text past))

-- ---- the counts of lines

pub count_lines_more : (n : ℕ) (os : List (Option ℕ)) (o : Option ℕ) → count_lines n (os ++ o ∷ []) ≡ count_lines n os ++ count_line (n + length os) o
count_lines_more n [] o = append-nil (count_line n o) ∙ ap (λ k. count_line k o) (let e : n ≡ n + 0 = omega arith in e)
count_lines_more n (x ∷ os) o =
    ap (λ l. count_line n x ++ l) (count_lines_more (n + 1) os o)
    ∙ (ap (λ k. count_line n x ++ (count_lines (n + 1) os ++ count_line k o)) (let e : n + 1 + length os ≡ n + suc (length os) = omega arith in e)
    ∙ sym (append_assoc (count_line n x) (count_lines (n + 1) os) (count_line (n + suc (length os)) o)))

pub lines_section_more : (os : List (Option ℕ)) (i : ℕ) (d : Option ℕ) (s t : Section) → i < length os
    → IsSection (count_lines 0 (take i os)) (flat_map option_to_list (take i os)) s
    → ((text ns : List ℕ) → IsSection text ns s → IsSection (text ++ count_line i (get_or os i d)) (ns ++ option_to_list (get_or os i d)) t)
    → IsSection (count_lines 0 (take (i + 1) os)) (flat_map option_to_list (take (i + 1) os)) t
lines_section_more os i d s t lt h step =
    let o = get_or os i d in
    section_as _ _ _ _ t
    (ap (count_lines 0) (take_more os i d lt)
    ∙ (count_lines_more 0 (take i os) o
    ∙ ap (λ k. count_lines 0 (take i os) ++ count_line k o) (let e : 0 + length (take i os) ≡ i = omega (arith, length-take-le i os (omega (arith, lt))) in e)))
    (flat_more option_to_list os i o lt (get_or_default os i d o lt)) (step _ _ h)

pub lines_section_past : (os : List (Option ℕ)) (i : ℕ) (s : Section) → length os ≤ i → IsSection (count_lines 0 (take i os)) (flat_map option_to_list (take i os)) s
    → IsSection (count_lines 0 os) (flat_map option_to_list os) s
lines_section_past os i s past h = section_as _ _ _ _ s (ap (count_lines 0) (sym (take_all i os past))) (ap (flat_map option_to_list) (sym (take_all i os past))) h

-- the marks seen so far
pub record AreSeen (text : List ℕ) (f : ℕ → ℕ) (ms : List Mark) (count : ℕ) (os : List (Option ℕ)) : Type 0 where
  pub number : length os ≡ count
  pub seen : (line : ℕ) → line < count → get_or os line None ≡ line_count text f ms line

pub none_seen : (text : List ℕ) (f : ℕ → ℕ) (ms : List Mark) (count : ℕ) (os : List (Option ℕ)) → ms ≡ [] → os ≡ replicate count None → AreSeen text f ms count os
none_seen text f ms count os none is = record {
  number = ap length is ∙ length-replicate count None;
  seen = λ line lt. ap (λ l. get_or l line None) is ∙ (get_or-replicate count line None None lt ∙ ap (λ l. line_count text f l line) (sym none));
}

pub all_seen : (text : List ℕ) (f : ℕ → ℕ) (ms : List Mark) (i count : ℕ) (os : List (Option ℕ)) → length ms ≤ i → count ≡ line_at text (length text) + 1 → AreSeen text f (take i ms) count os
    → os ≡ line_counts text f ms
all_seen text f ms i count os past is h =
    fill_by_all (line_count text f ms) os count None h.number (λ line less. h.seen line less ∙ ap (λ l. line_count text f l line) (take_all i ms past))
    ∙ ap (λ n. map (line_count text f ms) (range_with_len 0 n)) is

-- ---- the whole report

pub three_pieces : (o a b n r s t : List ℕ) → a ≡ o ++ r → b ≡ a ++ s → n ≡ b ++ t → n ≡ o ++ (r ++ s ++ t)
three_pieces o a b n r s t one two three =
    three ∙ (ap (λ l. l ++ t) (two ∙ (ap (λ l. l ++ s) one ∙ append_assoc o r s)) ∙ append_assoc o (r ++ s) t)

regroup : (h r a l e : List ℕ) → (h ++ (r ++ a ++ l)) ++ e ≡ h ++ r ++ a ++ l ++ e
regroup h r a l e = ap (λ x. x ++ e) (sym (append_assoc h (r ++ a) l) ∙ ap (λ x. x ++ l) (sym (append_assoc h r a)))

neither : (a b : Bool) → a || b ≡ false → (a ≡ false) × (b ≡ false)
neither true b e = absurd (true≢false e)
neither false b e = (refl, e)

pub lcov_is : (name text : List ℕ) (b : PlainBlock) (ts : List Turn) (c : Coverage) (counts : Counts) (rows : List Row) (ms : List Mark) (turns : TurnCounts) (h o n : List ℕ)
    → counts ≡ c.counts → map row_of rows ≡ all_rows (known_turns turns.turns.items) (signal_names b) 0 (processes_of b) → turns ≡ c.turns → ms ≡ block_marks b
    → counts.begun.over || counts.others.over ≡ false → h ≡ codes "TN:scripts\nSF:" ++ name ++ codes "\n"
    → o ≡ h ++ (rows_text text (map row_of rows) ++ answers_text text (slice_index counts.begun.times.items) (slice_index counts.others.times.items) ms
    ++ lines_text (line_counts text (slice_index counts.begun.times.items) ms))
    → n ≡ o ++ codes "end_of_record\n" → Covers b ts c → n ≡ lcov_text name text b ts
lcov_is name text b ts c counts rows ms turns h o n same are known marks under head told last covers =
    let taken = subst (HasTaken (taken_by b ts)) (sym same) covers.taken in
    let f : slice_index counts.begun.times.items ≡ times (taken_by b ts) = fun_ext (λ k. taken.begun (neither counts.begun.over counts.others.over under).0 k) in
    let g : slice_index counts.others.times.items ≡ others (taken_by b ts) = fun_ext (λ k. taken.others (neither counts.begun.over counts.others.over under).1 k) in
    let of_turns = subst (HasTurns ts) (sym known) covers.turns in
    let rs : map row_of rows ≡ all_rows (turns_of ts) (signal_names b) 0 (processes_of b) =
    are ∙ ap (λ (u : ℕ → Option ℕ → ℕ → ℕ). all_rows u (signal_names b) 0 (processes_of b)) (fun_ext (λ p. fun_ext (λ q. fun_ext (λ m. of_turns p q m)))) in
    let F = slice_index counts.begun.times.items in
    let G = slice_index counts.others.times.items in
    last
    ∙ (ap (λ l. l ++ codes "end_of_record\n") told
    ∙ (regroup h (rows_text text (map row_of rows)) (answers_text text F G ms) (lines_text (line_counts text F ms)) (codes "end_of_record\n")
    ∙ (ap (λ l. l ++ rows_text text (map row_of rows) ++ answers_text text F G ms ++ lines_text (line_counts text F ms) ++ codes "end_of_record\n") head
    ∙ (ap (λ (l : List Transition). report_text name text l F G ms) rs
    ∙ (ap (λ (u : ℕ → ℕ). report_text name text (all_rows (turns_of ts) (signal_names b) 0 (processes_of b)) u G ms) f
    ∙ (ap (λ (u : ℕ → ℕ). report_text name text (all_rows (turns_of ts) (signal_names b) 0 (processes_of b)) (times (taken_by b ts)) u ms) g
    ∙ ap (report_text name text (all_rows (turns_of ts) (signal_names b) 0 (processes_of b)) (times (taken_by b ts)) (others (taken_by b ts))) marks))))))
