-- A run with one more command, and the units sent on a link.
use Rattle.std.proofs.Common.{◌≡◌, ℕ, suc, ◌+◌, ◌-◌, ◌<◌, ◌≤◌, Bool, true, false, List, [], ◌∷◌, ◌++◌, length, map, take, drop, get_or, append_assoc, append-nil, Option, None, Some, refl, sym, ap, subst, arith, ◌∙◌}
use Rattle.std.specs.Prelude.{codes, is_some}
use Rattle.std.specs.List.{flat_map}
use Rattle.std.specs.Io.KnownBytes.{Appends}
use Rattle.std.proofs.KnownBytes.{Appends-trans, Appends-nil}
use Rattle.std.proofs.lemmas.Grind.{flat_map-append}
use Rattle.std.proofs.lemmas.List.{take_more, map-append, take-append-drop, drop_more}
use Rattle.su_octets.specs.Printed.{unit_text}
use Rattle.su_octets.specs.declared.units.Unit as units
use Rattle.link_group.specs.Set.{LinkSet}
use Rattle.link_group.specs.Lines.{ByLink}
use Rattle.link_group.specs.Doing.{Sent}
use Rattle.script_links.specs.GroupCommands.{expected, plain_group_command}
use Rattle.script_links.specs.GroupScripts.{PlainGroupSaid, plain_group_said}
use Rattle.script_links.specs.declared.group_script.GroupSaid.{GroupSaid}
use Rattle.script_links.specs.declared.group_commands.GroupCommand.{GroupCommand}
use Rattle.script_links.specs.declared.group_commands.GroupCommand.TheVariants as code
use Rattle.script_book.specs.Lines.{line_of}
use Rattle.script_ends.specs.TermAnswers.{unit_line}
use Rattle.script_ends.specs.TermRuns.{HasPrinted}
use Rattle.script_ends.proofs.TermRuns.{printed_none, printed_one, printed_both}
use Rattle.script_ends.proofs.LineAnswers.{stays_there}
use Rattle.script_ends.specs.GroupAnswers.{Playing, NO_LINK, GoOut, none_goes, silent, one_goes, Outputs, Answers, Obeys}
use Rattle.script_ends.specs.GroupAnswers as answers
use Rattle.script_ends.specs.GroupRuns.{Goes, begins, prints, holds, IsGroupRun, HasGone, HasGoneOut, HasGivenOut, IsGroupMissedBy, IsGroupMissed}

-- ---- sent units

-- `k` units were sent on a link and printed, and further units follow them.
pub record HasGoneSoFar (l k : ℕ) (old new last next : Option (List ℕ)) (c now : LinkSet) : Type 0 where
  pub lines : List (List ℕ)
  pub printed : HasPrinted old new last next lines
  pub others : (n : ℕ) (more : List (List ℕ)) (d : LinkSet) → GoOut l n now more d → GoOut l (k + n) c (lines ++ more) d

out_same : (l n m : ℕ) (c d : LinkSet) (xs ys : List (List ℕ)) → n ≡ m → xs ≡ ys → GoOut l n c xs d → GoOut l m c ys d
out_same l n m c d xs ys same lines out =
    let P : ℕ → Type 0 = λ k. GoOut l k c xs d in
    let Q : List (List ℕ) → Type 0 = λ ls. GoOut l m c ls d in
    subst Q lines (subst P same out)

pub none_gone : (l : ℕ) (old last : Option (List ℕ)) (c : LinkSet) → HasGoneSoFar l 0 old old last last c c
none_gone l old last c =
    record {
      lines = [];
      printed = printed_none old last;
      others = λ n more d out. let number : n ≡ 0 + n = omega arith in out_same l n (0 + n) c d more more number refl out;
    }

-- One more unit.
one_more_by : (l k : ℕ) (old now next last mid after : Option (List ℕ)) (c d e : LinkSet) (unit : Option units.Unit) → true ≡ is_some unit
    → ByLink (Sent unit) l d e → HasPrinted now next mid after (unit_line unit ∷ []) → HasGoneSoFar l k old now last mid c d
    → HasGoneSoFar l (k + 1) old next last after c e
one_more_by l k old now next last mid after c d e None some sent printed so_far = absurd (let x : true ≡ false = some in cc)
one_more_by l k old now next last mid after c d e (Some x) some sent printed so_far =
    record {
      lines = so_far.lines ++ unit_text x ∷ [];
      printed = printed_both old now next last mid after so_far.lines (unit_text x ∷ []) so_far.printed printed;
      others = λ n more f out.
          let number : k + suc n ≡ k + 1 + n = omega arith in
          out_same l (k + suc n) (k + 1 + n) c f _ _ number (sym (append_assoc so_far.lines (unit_text x ∷ []) more))
          (so_far.others (suc n) (unit_text x ∷ more) f (one_goes n d e f x more sent out));
    }

-- The link is there after its unit went out.
pub there_gone : (l : ℕ) (old new last next : Option (List ℕ)) (c d : LinkSet) (went : Bool) → HasGone went l old new last next c d → l < length d.links
there_gone l old new last next c d went gone = stays_there (Sent gone.unit) l c d gone.sent

pub one_more_gone : (l k : ℕ) (old now next last mid after : Option (List ℕ)) (c d e : LinkSet) (went : Bool) → went ≡ true
    → HasGone went l now next mid after d e → HasGoneSoFar l k old now last mid c d → HasGoneSoFar l (k + 1) old next last after c e
one_more_gone l k old now next last mid after c d e went on gone so_far =
    one_more_by l k old now next last mid after c d e gone.unit (sym on ∙ gone.some) gone.sent gone.printed so_far

-- No unit is sent.
silent_by : (l k asked : ℕ) (old now next last mid after : Option (List ℕ)) (c d e : LinkSet) (unit : Option units.Unit) → k < asked
    → false ≡ is_some unit → ByLink (Sent unit) l d e → HasPrinted now next mid after (unit_line unit ∷ []) → HasGoneSoFar l k old now last mid c d
    → HasGoneOut l asked old next last after c e
silent_by l k asked old now next last mid after c d e (Some x) less none sent printed so_far = absurd (let f : false ≡ true = none in cc)
silent_by l k asked old now next last mid after c d e None less none sent printed so_far =
    let number : k + suc (asked - (k + 1)) ≡ asked = omega (arith, less) in
    record {
      lines = so_far.lines ++ codes "silent" ∷ [];
      out =
          out_same l (k + suc (asked - (k + 1))) asked c e _ _ number refl
          (so_far.others (suc (asked - (k + 1))) (codes "silent" ∷ []) e (silent (asked - (k + 1)) d e sent));
      printed = printed_both old now next last mid after so_far.lines (codes "silent" ∷ []) so_far.printed printed;
    }

pub silent_now : (l k asked : ℕ) (old now next last mid after : Option (List ℕ)) (c d e : LinkSet) (went : Bool) → k < asked → went ≡ false
    → HasGone went l now next mid after d e → HasGoneSoFar l k old now last mid c d → HasGoneOut l asked old next last after c e
silent_now l k asked old now next last mid after c d e went less off gone so_far =
    silent_by l k asked old now next last mid after c d e gone.unit less (sym off ∙ gone.some) gone.sent gone.printed so_far

-- All requested units were sent.
pub all_gone : (l k asked : ℕ) (old now last mid : Option (List ℕ)) (c d : LinkSet) → k ≤ asked → asked ≤ k → HasGoneSoFar l k old now last mid c d
    → HasGoneOut l asked old now last mid c d
all_gone l k asked old now last mid c d most least so_far =
    let number : k + 0 ≡ asked = omega (arith, most, least) in
    record {
      lines = so_far.lines;
      out = out_same l (k + 0) asked c d _ _ number (append-nil so_far.lines) (so_far.others 0 [] d (none_goes d));
      printed = so_far.printed;
    }

-- For a link that exists, and for one that doesn't.
pub given_there : (l n : ℕ) (old new last next : Option (List ℕ)) (c d : LinkSet) → l < length c.links → HasGoneOut l n old new last next c d
    → HasGivenOut l n old new last next c d
given_there l n old new last next c d there gone = record { lines = gone.lines; out = answers.out_goes gone.lines d there gone.out; printed = gone.printed }

pub given_nowhere : (l n : ℕ) (old new last next : Option (List ℕ)) (c : LinkSet) (text : List ℕ) → length c.links ≤ l → text ≡ NO_LINK
    → next ≡ Some text → Appends old new (line_of text) → HasGivenOut l n old new last next c c
given_nowhere l n old new last next c text past is latest_is written =
    let P : List ℕ → Type 0 = λ t. HasPrinted old new last next (t ∷ []) in
    record { lines = NO_LINK ∷ []; out = answers.out_nowhere past; printed = subst P is (printed_one old new last next text latest_is written) }

-- ---- runs

-- Nothing was obeyed yet.
pub run_begins : (t : Playing) (now : Option (List ℕ)) → IsGroupRun t [] now now t None
run_begins t now = record { lines = []; goes = begins; written = Appends-nil now }

-- An expectation that holds.
pub run_held : (t : Playing) (before : List PlainGroupSaid) (said : PlainGroupSaid) (text : List ℕ) (first written : Option (List ℕ)) (now : Playing)
    (last : Option (List ℕ)) → said.command ≡ expected text → last ≡ Some text
    → IsGroupRun t before first written now last → IsGroupRun t (before ++ said ∷ []) first written now last
run_held t before said text first written now last is same run =
    let P : Option (List ℕ) → Type 0 = λ l. Goes t before run.lines now l in
    let Q : Option (List ℕ) → Type 0 = λ l. Goes t (before ++ said ∷ []) run.lines now l in
    record { lines = run.lines; goes = subst Q (sym same) (holds said is (subst P same run.goes)); written = run.written }

-- A command that printed its lines.
pub run_printed : (t : Playing) (before : List PlainGroupSaid) (said : PlainGroupSaid) (lines : List (List ℕ)) (first old new : Option (List ℕ)) (now next : Playing)
    (last after : Option (List ℕ)) → Obeys said.command now lines next → HasPrinted old new last after lines
    → IsGroupRun t before first old now last → IsGroupRun t (before ++ said ∷ []) first new next after
run_printed t before said lines first old new now next last after obeys printed run =
    let P : List ℕ → Type 0 = λ text. Appends first new text in
    let Q : Option (List ℕ) → Type 0 = λ l. Goes t (before ++ said ∷ []) (run.lines ++ lines) next l in
    record {
      lines = run.lines ++ lines;
      goes = subst Q (sym printed.latest_is) (prints said lines next obeys run.goes);
      written =
          subst P (sym (flat_map-append line_of run.lines lines))
          (Appends-trans first old new (flat_map line_of run.lines) (flat_map line_of lines) run.written printed.written);
    }

-- A command other than `out`, `on` and `expect` prints one line.
pub obeys_one : (c : GroupCommand) (t u : Playing) (text : List ℕ) → ((x : _) → c ≡ code.Expect x → ⊥) → ((x : _) → c ≡ code.On x → ⊥)
    → ((x : _) → c ≡ code.Out x → ⊥) → Answers (plain_group_command c) t text u → Obeys (plain_group_command c) t (text ∷ []) u
obeys_one (code.Order o) t u text no_expect no_on no_out answers = record { text = text; one = refl; answers = answers }
obeys_one (code.Unit x) t u text no_expect no_on no_out answers = record { text = text; one = refl; answers = answers }
obeys_one (code.Line x) t u text no_expect no_on no_out answers = record { text = text; one = refl; answers = answers }
obeys_one (code.Tick n) t u text no_expect no_on no_out answers = record { text = text; one = refl; answers = answers }
obeys_one (code.State p) t u text no_expect no_on no_out answers = record { text = text; one = refl; answers = answers }
obeys_one (code.Value p x) t u text no_expect no_on no_out answers = record { text = text; one = refl; answers = answers }
obeys_one (code.Send x) t u text no_expect no_on no_out answers = record { text = text; one = refl; answers = answers }
obeys_one (code.Message x) t u text no_expect no_on no_out answers = record { text = text; one = refl; answers = answers }
obeys_one (code.Bound x) t u text no_expect no_on no_out answers = record { text = text; one = refl; answers = answers }
obeys_one (code.Admit way) t u text no_expect no_on no_out answers = record { text = text; one = refl; answers = answers }
obeys_one (code.Own w) t u text no_expect no_on no_out answers = record { text = text; one = refl; answers = answers }
obeys_one (code.Out n) t u text no_expect no_on no_out answers = absurd (no_out n refl)
obeys_one (code.On n) t u text no_expect no_on no_out answers = absurd (no_on n refl)
obeys_one (code.Expect x) t u text no_expect no_on no_out answers = absurd (no_expect x refl)

-- `out`
pub obeys_out : (c : GroupCommand) (n : ℕ) (t u : Playing) (lines : List (List ℕ)) → c ≡ code.Out n → Outputs n t lines u
    → Obeys (plain_group_command c) t lines u
obeys_out c n t u lines is out = let P : GroupCommand → Type 0 = λ d. Obeys (plain_group_command d) t lines u in subst P (sym is) out

-- `on`
pub obeys_on : (c : GroupCommand) (l : ℕ) (t u : Playing) → c ≡ code.On l → u ≡ record t { on = l } → Obeys (plain_group_command c) t [] u
obeys_on c l t u is makes =
    let P : GroupCommand → Type 0 = λ d. Obeys (plain_group_command d) t [] u in subst P (sym is) (record { none = refl; makes = makes })

-- One more command of a list.
pub run_more : (t : Playing) (before : List PlainGroupSaid) (items : List GroupSaid) (i : ℕ) (x : GroupSaid) (first written : Option (List ℕ)) (now : Playing)
    (last : Option (List ℕ)) → i < length items → x ≡ get_or items i x
    → IsGroupRun t ((before ++ map plain_group_said (take i items)) ++ plain_group_said x ∷ []) first written now last
    → IsGroupRun t (before ++ map plain_group_said (take (i + 1) items)) first written now last
run_more t before items i x first written now last within is run =
    let P : List PlainGroupSaid → Type 0 = λ commands. IsGroupRun t commands first written now last in
    let taken : take (i + 1) items ≡ take i items ++ x ∷ [] = take_more items i x within ∙ ap (λ y. take i items ++ y ∷ []) (sym is) in
    subst P
    (append_assoc before (map plain_group_said (take i items)) (plain_group_said x ∷ [])
    ∙ ap (λ commands. before ++ commands) (sym (map-append plain_group_said (take i items) (x ∷ [])) ∙ ap (map plain_group_said) (sym taken)))
    run

-- An expectation that fails after commands that were obeyed.
pub run_missed : (t : Playing) (before : List PlainGroupSaid) (items : List GroupSaid) (i : ℕ) (x : GroupSaid) (first old new : Option (List ℕ)) (now : Playing)
    (last : Option (List ℕ)) → i < length items → x ≡ get_or items i x → IsGroupRun t (before ++ map plain_group_said (take i items)) first old now last
    → IsGroupMissedBy (plain_group_said x) last old new → IsGroupMissed (before ++ map plain_group_said items) first new t
run_missed t before items i x first old new now last within is run missed =
    let rest : drop i items ≡ x ∷ drop (i + 1) items = drop_more items i x within ∙ ap (λ y. y ∷ drop (i + 1) items) (sym is) in
    let parts : items ≡ take i items ++ x ∷ drop (i + 1) items = sym (take-append-drop i items) ∙ ap (λ ys. take i items ++ ys) rest in
    record {
      before = before ++ map plain_group_said (take i items);
      said = plain_group_said x;
      after = map plain_group_said (drop (i + 1) items);
      stands =
          ap (λ xs. before ++ map plain_group_said xs) parts
          ∙ (ap (λ ys. before ++ ys) (map-append plain_group_said (take i items) (x ∷ drop (i + 1) items))
          ∙ sym (append_assoc before (map plain_group_said (take i items)) (plain_group_said x ∷ map plain_group_said (drop (i + 1) items))));
      middle = old;
      now = now;
      last = last;
      run = run;
      missed = missed;
    }
