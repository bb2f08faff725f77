-- A run with one more command, and output with one more line.
use Rattle.std.proofs.Common.{◌≡◌, ℕ, suc, ◌+◌, ◌-◌, ◌<◌, ◌≤◌, Bool, true, false, List, [], ◌∷◌, ◌++◌, length, map, take, drop, get_or, append_assoc, append-nil, Option, None, Some, refl, sym, ap, subst, arith, ◌∙◌}
use Rattle.std.specs.Prelude.{◌||◌, codes, is_some}
use Rattle.std.specs.List.{flat_map, list_any}
use Rattle.std.specs.Io.KnownBytes.{Appends}
use Rattle.std.proofs.KnownBytes.{Appends-trans, Appends-nil}
use Rattle.std.proofs.lemmas.Grind.{flat_map-append}
use Rattle.std.proofs.lemmas.List.{flat_map_more, take_more, map-append, take-append-drop, drop_more}
use Rattle.su_octets.specs.Printed.{unit_text}
use Rattle.su_octets.specs.declared.units.Unit as units
use Rattle.link_term.specs.Term.{Term}
use Rattle.script_links.specs.TermCommands.{expected, plain_term_command}
use Rattle.script_links.specs.TermScripts.{PlainTermSaid, plain_term_said, is_told, asks_told}
use Rattle.script_links.specs.declared.script.TermSaid.{TermSaid}
use Rattle.script_links.specs.declared.commands.TermCommand.{TermCommand}
use Rattle.script_links.specs.declared.commands.TermCommand.TheVariants as code
use Rattle.script_book.specs.Lines.{line_of}
use Rattle.script_ends.specs.TermAnswers.{next_of, behind_next, unit_line, GoOut, nothing, silent, one_goes, Answers, Obeys}
use Rattle.script_ends.specs.TermRuns.{latest, Goes, begins, prints, holds, IsTermRun, HasPrinted, HasGivenOut, IsTermMissedBy, IsTermMissed, IsTermWritten, IsTermFailed}

-- ---- lines

pub printed_none : (now last : Option (List ℕ)) → HasPrinted now now last last []
printed_none now last = record { latest_is = refl; written = Appends-nil now }

pub printed_one : (now next last after : Option (List ℕ)) (l : List ℕ) → after ≡ Some l → Appends now next (line_of l)
    → HasPrinted now next last after (l ∷ [])
printed_one now next last after l is written =
    let P : List ℕ → Type 0 = λ text. Appends now next text in
    record { latest_is = is; written = subst P (flat_map_more line_of [] [] l) written }

latest_of_two : (last : Option (List ℕ)) (xs ys : List (List ℕ)) → latest last (xs ++ ys) ≡ latest (latest last xs) ys
latest_of_two last [] ys = refl
latest_of_two last (x ∷ xs) ys = latest_of_two (Some x) xs ys

-- Lines printed after other lines.
pub printed_both : (old now next last mid after : Option (List ℕ)) (xs ys : List (List ℕ)) → HasPrinted old now last mid xs → HasPrinted now next mid after ys
    → HasPrinted old next last after (xs ++ ys)
printed_both old now next last mid after xs ys first second =
    let P : List ℕ → Type 0 = λ text. Appends old next text in
    record {
      latest_is = second.latest_is ∙ (ap (λ l. latest l ys) first.latest_is ∙ sym (latest_of_two last xs ys));
      written =
          subst P (sym (flat_map-append line_of xs ys))
          (Appends-trans old now next (flat_map line_of xs) (flat_map line_of ys) first.written second.written);
    }

printed_same : (old new last next : Option (List ℕ)) (xs ys : List (List ℕ)) → xs ≡ ys → HasPrinted old new last next xs → HasPrinted old new last next ys
printed_same old new last next xs ys same printed = let P : List (List ℕ) → Type 0 = λ ls. HasPrinted old new last next ls in subst P same printed

-- ---- sent units

-- The line of the unit sent, or of none.
pub printed_unit : (now next last after : Option (List ℕ)) (o p : Option units.Unit) (l : List ℕ) → after ≡ Some l → Appends now next (line_of l)
    → l ≡ unit_line o → o ≡ p → HasPrinted now next last after (unit_line p ∷ [])
printed_unit now next last after o p l is written text unit =
    printed_same now next last after (l ∷ []) (unit_line p ∷ []) (ap (λ t. t ∷ []) (text ∙ ap unit_line unit)) (printed_one now next last after l is written)

-- `k` units were sent and printed, and further units follow them.
pub record GivesOut (k : ℕ) (old new last next : Option (List ℕ)) (t now : Term) : Type 0 where
  pub lines : List (List ℕ)
  pub printed : HasPrinted old new last next lines
  pub others : (n : ℕ) (more : List (List ℕ)) (u : Term) → GoOut n now more u → GoOut (k + n) t (lines ++ more) u

out_same : (n m : ℕ) (t : Term) (xs ys : List (List ℕ)) (u : Term) → n ≡ m → xs ≡ ys → GoOut n t xs u → GoOut m t ys u
out_same n m t xs ys u same lines out =
    let P : ℕ → Type 0 = λ k. GoOut k t xs u in
    let Q : List (List ℕ) → Type 0 = λ ls. GoOut m t ls u in
    subst Q lines (subst P same out)

pub gives_none : (old last : Option (List ℕ)) (t : Term) → GivesOut 0 old old last last t t
gives_none old last t =
    record {
      lines = [];
      printed = printed_none old last;
      others = λ n more u out. let number : n ≡ 0 + n = omega arith in out_same n (0 + n) t more more u number refl out;
    }

some_unit : (o : Option units.Unit) → true ≡ is_some o → (x : units.Unit) × (o ≡ Some x)
some_unit None is = absurd (let e : true ≡ false = is in cc)
some_unit (Some x) is = (x, refl)

no_unit : (o : Option units.Unit) → false ≡ is_some o → o ≡ None
no_unit None is = refl
no_unit (Some x) is = absurd (let e : false ≡ true = is in cc)

-- One more unit.
pub gives_more : (k : ℕ) (old now next last mid after : Option (List ℕ)) (t u v : Term) (on : Bool) → on ≡ true → on ≡ is_some (next_of u).unit
    → v ≡ behind_next u → HasPrinted now next mid after (unit_line (next_of u).unit ∷ []) → GivesOut k old now last mid t u
    → GivesOut (k + 1) old next last after t v
gives_more k old now next last mid after t u v on is some behind printed gives =
    let x : (x : units.Unit) × ((next_of u).unit ≡ Some x) = some_unit (next_of u).unit (sym is ∙ some) in
    let text : unit_line (next_of u).unit ∷ [] ≡ unit_text x.0 ∷ [] = ap (λ o. unit_line o ∷ []) x.1 in
    let one : HasPrinted now next mid after (unit_text x.0 ∷ []) = printed_same now next mid after _ _ text printed in
    record {
      lines = gives.lines ++ unit_text x.0 ∷ [];
      printed = printed_both old now next last mid after gives.lines (unit_text x.0 ∷ []) gives.printed one;
      others = λ n more w out.
          let P : Term → Type 0 = λ s. GoOut n s more w in
          let number : k + suc n ≡ k + 1 + n = omega arith in
          out_same (k + suc n) (k + 1 + n) t _ _ w number (sym (append_assoc gives.lines (unit_text x.0 ∷ []) more))
          (gives.others (suc n) (unit_text x.0 ∷ more) w (one_goes n u w x.0 more x.1 (subst P behind out)));
    }

-- No unit is sent.
pub gives_silent : (k asked : ℕ) (old now next last mid after : Option (List ℕ)) (t u v : Term) (on : Bool) → k < asked → on ≡ false
    → on ≡ is_some (next_of u).unit → v ≡ behind_next u → HasPrinted now next mid after (unit_line (next_of u).unit ∷ [])
    → GivesOut k old now last mid t u → HasGivenOut asked old next last after t v
gives_silent k asked old now next last mid after t u v on less is none behind printed gives =
    let nothing_is : (next_of u).unit ≡ None = no_unit (next_of u).unit (sym is ∙ none) in
    let text : unit_line (next_of u).unit ∷ [] ≡ codes "silent" ∷ [] = ap (λ o. unit_line o ∷ []) nothing_is in
    let number : k + suc (asked - (k + 1)) ≡ asked = omega (arith, less) in
    let P : Term → Type 0 = λ s. GoOut asked t (gives.lines ++ codes "silent" ∷ []) s in
    record {
      lines = gives.lines ++ codes "silent" ∷ [];
      out =
          subst P (sym behind)
          (out_same (k + suc (asked - (k + 1))) asked t _ _ _ number refl
          (gives.others (suc (asked - (k + 1))) (codes "silent" ∷ []) (behind_next u) (silent (asked - (k + 1)) u nothing_is)));
      printed = printed_both old now next last mid after gives.lines (codes "silent" ∷ []) gives.printed (printed_same now next mid after _ _ text printed);
    }

-- All requested units were sent.
pub gives_all : (k asked : ℕ) (old now last mid : Option (List ℕ)) (t u : Term) → k ≤ asked → asked ≤ k → GivesOut k old now last mid t u
    → HasGivenOut asked old now last mid t u
gives_all k asked old now last mid t u most least gives =
    let number : k + 0 ≡ asked = omega (arith, most, least) in
    record {
      lines = gives.lines;
      out = out_same (k + 0) asked t _ _ u number (append-nil gives.lines) (gives.others 0 [] u (nothing u));
      printed = gives.printed;
    }

-- ---- runs

-- Nothing was obeyed yet.
pub run_begins : (keeps : Bool) (t : Term) (now : Option (List ℕ)) → IsTermRun keeps t [] now now t None
run_begins keeps t now = record { lines = []; goes = begins; written = Appends-nil now }

-- An expectation that holds.
pub run_held : (keeps : Bool) (t : Term) (before : List PlainTermSaid) (said : PlainTermSaid) (text : List ℕ) (first written : Option (List ℕ)) (now : Term)
    (last : Option (List ℕ)) → said.command ≡ expected text → last ≡ Some text
    → IsTermRun keeps t before first written now last → IsTermRun keeps t (before ++ said ∷ []) first written now last
run_held keeps t before said text first written now last is same run =
    let P : Option (List ℕ) → Type 0 = λ l. Goes keeps t before run.lines now l in
    let Q : Option (List ℕ) → Type 0 = λ l. Goes keeps t (before ++ said ∷ []) run.lines now l in
    record { lines = run.lines; goes = subst Q (sym same) (holds said is (subst P same run.goes)); written = run.written }

-- A command that printed its lines.
pub run_printed : (keeps : Bool) (t : Term) (before : List PlainTermSaid) (said : PlainTermSaid) (lines : List (List ℕ)) (first old new : Option (List ℕ)) (now next : Term)
    (last after : Option (List ℕ)) → Obeys keeps said.command now lines next → HasPrinted old new last after lines
    → IsTermRun keeps t before first old now last → IsTermRun keeps t (before ++ said ∷ []) first new next after
run_printed keeps t before said lines first old new now next last after obeys printed run =
    let P : List ℕ → Type 0 = λ text. Appends first new text in
    let Q : Option (List ℕ) → Type 0 = λ l. Goes keeps t (before ++ said ∷ []) (run.lines ++ lines) next l in
    record {
      lines = run.lines ++ lines;
      goes = subst Q (sym printed.latest_is) (prints said lines next obeys run.goes);
      written =
          subst P (sym (flat_map-append line_of run.lines lines))
          (Appends-trans first old new (flat_map line_of run.lines) (flat_map line_of lines) run.written printed.written);
    }

-- A command other than `out` and `expect` prints one line.
pub obeys_one : (keeps : Bool) (c : TermCommand) (t u : Term) (text : List ℕ) → ((x : _) → c ≡ code.Expect x → ⊥) → ((x : _) → c ≡ code.Out x → ⊥)
    → Answers keeps (plain_term_command c) t text u → Obeys keeps (plain_term_command c) t (text ∷ []) u
obeys_one keeps (code.Order o) t u text no_expect no_out answers = record { text = text; one = refl; answers = answers }
obeys_one keeps (code.Unit x) t u text no_expect no_out answers = record { text = text; one = refl; answers = answers }
obeys_one keeps (code.Units n x) t u text no_expect no_out answers = record { text = text; one = refl; answers = answers }
obeys_one keeps (code.Errors n) t u text no_expect no_out answers = record { text = text; one = refl; answers = answers }
obeys_one keeps (code.Line x) t u text no_expect no_out answers = record { text = text; one = refl; answers = answers }
obeys_one keeps (code.Msu x) t u text no_expect no_out answers = record { text = text; one = refl; answers = answers }
obeys_one keeps (code.Out n) t u text no_expect no_out answers = absurd (no_out n refl)
obeys_one keeps (code.Tick n) t u text no_expect no_out answers = record { text = text; one = refl; answers = answers }
obeys_one keeps code.Told t u text no_expect no_out answers = record { text = text; one = refl; answers = answers }
obeys_one keeps code.Accepted t u text no_expect no_out answers = record { text = text; one = refl; answers = answers }
obeys_one keeps (code.Retrieve n) t u text no_expect no_out answers = record { text = text; one = refl; answers = answers }
obeys_one keeps (code.Measure m) t u text no_expect no_out answers = record { text = text; one = refl; answers = answers }
obeys_one keeps code.Aborted t u text no_expect no_out answers = record { text = text; one = refl; answers = answers }
obeys_one keeps code.Reset t u text no_expect no_out answers = record { text = text; one = refl; answers = answers }
obeys_one keeps (code.State p) t u text no_expect no_out answers = record { text = text; one = refl; answers = answers }
obeys_one keeps (code.Value p x) t u text no_expect no_out answers = record { text = text; one = refl; answers = answers }
obeys_one keeps (code.Expect x) t u text no_expect no_out answers = absurd (no_expect x refl)

-- `out`
pub obeys_out : (keeps : Bool) (c : TermCommand) (n : ℕ) (t u : Term) (lines : List (List ℕ)) → c ≡ code.Out n → GoOut n t lines u → Obeys keeps (plain_term_command c) t lines u
obeys_out keeps c n t u lines is out = let P : TermCommand → Type 0 = λ d. Obeys keeps (plain_term_command d) t lines u in subst P (sym is) out

-- One more command of a list.
pub run_more : (keeps : Bool) (t : Term) (before : List PlainTermSaid) (items : List TermSaid) (i : ℕ) (x : TermSaid) (first written : Option (List ℕ)) (now : Term)
    (last : Option (List ℕ)) → i < length items → x ≡ get_or items i x
    → IsTermRun keeps t ((before ++ map plain_term_said (take i items)) ++ plain_term_said x ∷ []) first written now last
    → IsTermRun keeps t (before ++ map plain_term_said (take (i + 1) items)) first written now last
run_more keeps t before items i x first written now last within is run =
    let P : List PlainTermSaid → Type 0 = λ commands. IsTermRun keeps t commands first written now last in
    let taken : take (i + 1) items ≡ take i items ++ x ∷ [] = take_more items i x within ∙ ap (λ y. take i items ++ y ∷ []) (sym is) in
    subst P
    (append_assoc before (map plain_term_said (take i items)) (plain_term_said x ∷ [])
    ∙ ap (λ commands. before ++ commands) (sym (map-append plain_term_said (take i items) (x ∷ [])) ∙ ap (map plain_term_said) (sym taken)))
    run

-- An expectation that fails after commands that were obeyed.
pub run_missed : (keeps : Bool) (t : Term) (before : List PlainTermSaid) (items : List TermSaid) (i : ℕ) (x : TermSaid) (first old new : Option (List ℕ)) (now : Term)
    (last : Option (List ℕ)) → i < length items → x ≡ get_or items i x → IsTermRun keeps t (before ++ map plain_term_said (take i items)) first old now last
    → IsTermMissedBy (plain_term_said x) last old new → IsTermMissed keeps (before ++ map plain_term_said items) first new t
run_missed keeps t before items i x first old new now last within is run missed =
    let rest : drop i items ≡ x ∷ drop (i + 1) items = drop_more items i x within ∙ ap (λ y. y ∷ drop (i + 1) items) (sym is) in
    let parts : items ≡ take i items ++ x ∷ drop (i + 1) items = sym (take-append-drop i items) ∙ ap (λ ys. take i items ++ ys) rest in
    record {
      before = before ++ map plain_term_said (take i items);
      said = plain_term_said x;
      after = map plain_term_said (drop (i + 1) items);
      stands =
          ap (λ xs. before ++ map plain_term_said xs) parts
          ∙ (ap (λ ys. before ++ ys) (map-append plain_term_said (take i items) (x ∷ drop (i + 1) items))
          ∙ sym (append_assoc before (map plain_term_said (take i items)) (plain_term_said x ∷ map plain_term_said (drop (i + 1) items))));
      middle = old;
      now = now;
      last = last;
      run = run;
      missed = missed;
    }

-- ---- whole scripts

-- The commands that read reports, in the code's list and in the plain one.
pub any_told : (xs : List TermSaid) → list_any (λ x. is_told (plain_term_said x)) xs ≡ asks_told (map plain_term_said xs)
any_told [] = refl
any_told (x ∷ xs) = ap (λ b. is_told (plain_term_said x) || b) (any_told xs)

-- All commands of a script were obeyed.
pub written : (keeps : Bool) (commands items : List TermSaid) (old new : Option (List ℕ)) (t now : Term) (last : Option (List ℕ))
    → keeps ≡ asks_told (map plain_term_said commands) → commands ≡ items
    → IsTermRun keeps t (map plain_term_said commands) old new now last → IsTermWritten (map plain_term_said items) old new t
written keeps commands items old new t now last told same run =
    let P : Bool → Type 0 = λ k. IsTermRun k t (map plain_term_said commands) old new now last in
    let Q : List TermSaid → Type 0 = λ xs. IsTermWritten (map plain_term_said xs) old new t in
    subst Q same (record { now = now; last = last; run = subst P told run })

-- An expectation of the script fails.
pub failed : (keeps : Bool) (commands items : List TermSaid) (old new : Option (List ℕ)) (t : Term)
    → keeps ≡ asks_told (map plain_term_said commands) → commands ≡ items
    → IsTermMissed keeps (map plain_term_said commands) old new t → IsTermFailed (map plain_term_said items) old new t
failed keeps commands items old new t told same missed =
    let P : Bool → Type 0 = λ k. IsTermMissed k (map plain_term_said commands) old new t in
    let Q : List TermSaid → Type 0 = λ xs. IsTermFailed (map plain_term_said xs) old new t in
    subst Q same (subst P told missed)
