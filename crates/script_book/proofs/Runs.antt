-- A run with one more command.
use Rattle.std.proofs.Common.{◌≡◌, ℕ, ◌+◌, ◌<◌, List, [], ◌∷◌, ◌++◌, length, map, take, drop, get_or, append_assoc, Option, Some, refl, sym, ap, subst, ◌∙◌}
use Rattle.std.specs.List.{flat_map}
use Rattle.std.specs.Io.KnownBytes.{Appends}
use Rattle.std.proofs.KnownBytes.{Appends-trans}
use Rattle.std.proofs.lemmas.List.{flat_map_more, take_more, map-append, take-append-drop, drop_more}
use Rattle.script_lines.specs.declared.script.Said.{Said}
use Rattle.script_lines.specs.Commands.{expect, plain_command}
use Rattle.script_lines.specs.Scripts.{PlainSaid, plain_said}
use Rattle.script_lines.specs.declared.commands.Command.{Command}
use Rattle.script_lines.specs.declared.commands.Command.TheVariants as code
use Rattle.plain_text.specs.Lines.{line_of}
use Rattle.actor_machine.specs.Ledger.{Ledger}
use Rattle.script_book.specs.Answers.{Answered, obeyed}
use Rattle.script_book.specs.Played.{Goes, prints, holds, IsRun, IsMissedBy, IsMissed}

-- An expectation that holds.
pub run_held : (b : Ledger) (before : List PlainSaid) (said : PlainSaid) (text : List ℕ) (first written : Option (List ℕ)) (now : Ledger) (last : Option (List ℕ))
    → said.command ≡ expect text → last ≡ Some text → IsRun b before first written now last → IsRun b (before ++ said ∷ []) first written now last
run_held b before said text first written now last is same run =
    let P : Option (List ℕ) → Type 0 = λ l. Goes b before run.lines now l in
    let Q : Option (List ℕ) → Type 0 = λ l. Goes b (before ++ said ∷ []) run.lines now l in
    record { lines = run.lines; goes = subst Q (sym same) (holds said is (subst P same run.goes)); written = run.written }

-- A command that printed its line.
pub run_printed : (b : Ledger) (before : List PlainSaid) (said : PlainSaid) (line : List ℕ) (first old new : Option (List ℕ)) (now next : Ledger)
    (last latest : Option (List ℕ)) → ((text : List ℕ) → said.command ≡ expect text → ⊥) → line ≡ (obeyed now said.command).line
    → next ≡ (obeyed now said.command).book → Appends old new (line_of line) → latest ≡ Some line → IsRun b before first old now last
    → IsRun b (before ++ said ∷ []) first new next latest
run_printed b before said line first old new now next last latest none says makes written same run =
    let answer : Answered = obeyed now said.command in
    let P : List ℕ → Type 0 = λ text. Appends first new text in
    let W : List ℕ → Type 0 = λ text. Appends old new (line_of text) in
    let B : Ledger → Type 0 = λ x. Goes b (before ++ said ∷ []) (run.lines ++ answer.line ∷ []) x (Some answer.line) in
    let L : Option (List ℕ) → Type 0 = λ l. Goes b (before ++ said ∷ []) (run.lines ++ answer.line ∷ []) next l in
    record {
      lines = run.lines ++ answer.line ∷ [];
      goes = subst L (sym (same ∙ ap Some says)) (subst B (sym makes) (prints said none run.goes));
      written =
          subst P (flat_map_more line_of [] run.lines answer.line)
          (Appends-trans first old new (flat_map line_of run.lines) (line_of answer.line) run.written (subst W says written));
    }

-- A command other than `expect` isn't read as an expectation.
pub no_expectation : (c : Command) → ((x : _) → c ≡ code.Expect x → ⊥) → (text : List ℕ) → plain_command c ≡ expect text → ⊥
no_expectation (code.Offer o) others text is = cc
no_expectation (code.Flood n o) others text is = cc
no_expectation (code.Call w p) others text is = cc
no_expectation (code.Tick n) others text is = cc
no_expectation code.Env others text is = cc
no_expectation code.Rest others text is = cc
no_expectation (code.Value p x) others text is = cc
no_expectation (code.Expect x) others text is = others x refl

-- One more command of a list.
pub run_more : (b : Ledger) (before : List PlainSaid) (items : List Said) (i : ℕ) (x : Said) (first written : Option (List ℕ)) (now : Ledger)
    (last : Option (List ℕ)) → i < length items → x ≡ get_or items i x
    → IsRun b ((before ++ map plain_said (take i items)) ++ plain_said x ∷ []) first written now last
    → IsRun b (before ++ map plain_said (take (i + 1) items)) first written now last
run_more b before items i x first written now last within is run =
    let P : List PlainSaid → Type 0 = λ commands. IsRun b commands first written now last in
    let taken : take (i + 1) items ≡ take i items ++ x ∷ [] = take_more items i x within ∙ ap (λ y. take i items ++ y ∷ []) (sym is) in
    subst P
    (append_assoc before (map plain_said (take i items)) (plain_said x ∷ [])
    ∙ ap (λ commands. before ++ commands) (sym (map-append plain_said (take i items) (x ∷ [])) ∙ ap (map plain_said) (sym taken)))
    run

-- An expectation that fails after commands that were obeyed.
pub run_missed : (b : Ledger) (before : List PlainSaid) (items : List Said) (i : ℕ) (x : Said) (first old new : Option (List ℕ)) (now : Ledger)
    (last : Option (List ℕ)) → i < length items → x ≡ get_or items i x → IsRun b (before ++ map plain_said (take i items)) first old now last
    → IsMissedBy (plain_said x) last old new → IsMissed b (before ++ map plain_said items) first new
run_missed b before items i x first old new now last within is run missed =
    let rest : drop i items ≡ x ∷ drop (i + 1) items = drop_more items i x within ∙ ap (λ y. y ∷ drop (i + 1) items) (sym is) in
    let parts : items ≡ take i items ++ x ∷ drop (i + 1) items = sym (take-append-drop i items) ∙ ap (λ ys. take i items ++ ys) rest in
    record {
      before = before ++ map plain_said (take i items);
      said = plain_said x;
      after = map plain_said (drop (i + 1) items);
      stands =
          ap (λ xs. before ++ map plain_said xs) parts
          ∙ (ap (λ ys. before ++ ys) (map-append plain_said (take i items) (x ∷ drop (i + 1) items))
          ∙ sym (append_assoc before (map plain_said (take i items)) (plain_said x ∷ map plain_said (drop (i + 1) items))));
      middle = old;
      now = now;
      last = last;
      run = run;
      missed = missed;
    }
