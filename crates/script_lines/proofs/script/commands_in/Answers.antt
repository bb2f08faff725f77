use Rattle.std.proofs.Common.{◌≡◌, ℕ, ◌+◌, ◌<◌, Bool, true, List, [], ◌∷◌, ◌++◌, length, drop, get_or, map, Option, Some, refl, sym, ap, ◌∙◌, append_assoc, if◌then◌else◌, Ok, Err}
use Rattle.std.specs.Prelude.{find, Result, option_map, is_none, is_ok}
use Rattle.std.specs.List.{filter_map, cons_option}
use Rattle.std.specs.Result.{MatchResult, IsErrAnd}
use Rattle.std.proofs.lemmas.List.{at_drop_more, map_push}
use Rattle.std.proofs.lemmas.Result.{err_from_is_err_and}
use Rattle.script_lines.specs.declared.lines.Line.{Line}
use Rattle.script_lines.specs.declared.script.Said.{Said}
use Rattle.script_lines.specs.Lines.{PlainLine, plain_line, texts}
use Rattle.script_lines.specs.Commands.{PlainCommand, plain_command, command_of}
use Rattle.script_lines.specs.Scripts.{PlainSaid, plain_said, is_bad, said_of}
use Rattle.script_lines.proofs.script.commands_in.Goals as goal

-- A result that is Ok after a change of its error was Ok before it.
was_ok : {T U E F : Type 0} (r : Result T E) (m : Result U F) (y : U) (P : T → Type 0) (Q : E → F → Type 0) → MatchResult r P (λ e. IsErrAnd m (Q e)) → m ≡ Ok y → is_ok r ≡ true
was_ok (Ok x) m y P Q cases is = refl
was_ok (Err e) m y P Q cases is = let w = err_from_is_err_and m cases in let other = w.1 in absurd (cc)

abbrev find_by : Bool → PlainLine → Option PlainLine → Option PlainLine
find_by b line more = if b then Some line else more

-- The first bad line from index i on, split at line i.
bad_here : (ls : List Line) (i : ℕ) (l : Line) (o : Option PlainCommand) → i < length ls → l ≡ get_or ls i l → o ≡ command_of (texts l.words.items)
    → find is_bad (map plain_line (drop i ls)) ≡ find_by (is_none o) (plain_line l) (find is_bad (map plain_line (drop (i + 1) ls)))
bad_here ls i l o within is reads =
    at_drop_more (λ (ms : List Line). find is_bad (map plain_line ms)) ls i l within
    ∙ (ap (λ (m : Line). find is_bad (map plain_line (m ∷ drop (i + 1) ls))) (sym is)
    ∙ ap (λ (p : Option PlainCommand). find_by (is_none p) (plain_line l) (find is_bad (map plain_line (drop (i + 1) ls)))) (sym reads))

abbrev said_by : ℕ → Option PlainCommand → Option PlainSaid
said_by number o = option_map (λ command. record { line = number; command = command }) o

said_here : (ls : List Line) (i : ℕ) (l : Line) (o : Option PlainCommand) → i < length ls → l ≡ get_or ls i l → o ≡ command_of (texts l.words.items)
    → filter_map said_of (map plain_line (drop i ls)) ≡ cons_option (said_by l.number o) (filter_map said_of (map plain_line (drop (i + 1) ls)))
said_here ls i l o within is reads =
    at_drop_more (λ (ms : List Line). filter_map said_of (map plain_line ms)) ls i l within
    ∙ (ap (λ (m : Line). filter_map said_of (map plain_line (m ∷ drop (i + 1) ls))) (sym is)
    ∙ ap (λ (p : Option PlainCommand). cons_option (said_by l.number p) (filter_map said_of (map plain_line (drop (i + 1) ls)))) (sym reads))

-- Appending one command.
one_said : (ls : List Line) (i : ℕ) (before after : List Said) (s : Said) (all : List PlainSaid) → after ≡ before ++ s ∷ []
    → filter_map said_of (map plain_line (drop i ls)) ≡ plain_said s ∷ filter_map said_of (map plain_line (drop (i + 1) ls))
    → map plain_said before ++ filter_map said_of (map plain_line (drop i ls)) ≡ all → map plain_said after ++ filter_map said_of (map plain_line (drop (i + 1) ls)) ≡ all
one_said ls i before after s all more here had =
    let rest : List PlainSaid = filter_map said_of (map plain_line (drop (i + 1) ls)) in
    ap (λ t. t ++ rest) (ap (map plain_said) more ∙ map_push plain_said before s)
    ∙ (append_assoc (map plain_said before) (plain_said s ∷ []) rest
    ∙ (ap (λ t. map plain_said before ++ t) (sym here) ∙ had))

pub loop-line-preserved : goal.loop-line-preserved
loop-line-preserved c =
    let ls = c.args.lines.now in
    let at = c.loop-line.line-index in
    let reads = ap (option_map plain_command) (sym c.in-Some.is) ∙ (c.in_ok-command.ensures ∙ ap (λ ws. command_of (texts ws)) c.deref.ensures.value) in
    let pushed = was_ok c.push.result c.map_err.result _ _ _ c.map_err.ensures.cases c.in_ok-map_err-in-Some.was in
    let s : Said = record { line = c.line-item.result.number; command = c.in-Some.command } in
    let more : c.push.new.self.items ≡ c.loop-line.commands.items ++ s ∷ [] =
    c.push.ensures.items ∙ ap (λ (b : Bool). if b then c.loop-line.commands.items ++ s ∷ [] else c.loop-line.commands.items) pushed in
    record {
      bad = sym (bad_here ls at c.line-item.result _ c.loop-line-test.true c.line-item.is reads) ∙ c.loop-line.invariant.bad;
      commands = one_said ls at c.loop-line.commands.items _ s _ more (said_here ls at c.line-item.result _ c.loop-line-test.true c.line-item.is reads) c.loop-line.invariant.commands;
    }
