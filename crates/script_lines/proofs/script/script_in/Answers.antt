use Rattle.std.proofs.Common.{◌≡◌, ℕ, List, Ok, None, map, take, drop, length, ◌-◌, arith, ap, ◌∙◌, sym, subst}
use Rattle.std.specs.Prelude.{find, Result}
use Rattle.std.specs.List.{filter_map}
use Rattle.std.proofs.lemmas.List.{drop-map, take_all, length-drop}
use Rattle.script_lines.specs.declared.lines.Line.{Line}
use Rattle.script_lines.specs.declared.settings.Settings.{Settings}
use Rattle.script_lines.specs.Lines.{plain_line}
use Rattle.script_lines.specs.Scripts.{PlainScript, PlainSaid, defaults, after_head, is_bad, said_of, IsBadLine}
use Rattle.script_lines.proofs.Loops.{good, fault}
use Rattle.script_lines.proofs.script.script_in.Goals as goal

-- The lines after the first ones, as lines of the whole vector.
behind : (all at : List Line) (s : Settings) (first : ℕ) → at ≡ all → after_head defaults (map plain_line at) ≡ (s, drop first (map plain_line at))
    → after_head defaults (map plain_line all) ≡ (s, map plain_line (drop first all))
behind all at s first same head =
    ap (λ ls. after_head defaults (map plain_line ls)) (sym same)
    ∙ (head
    ∙ (ap (λ ls. (s, drop first (map plain_line ls))) same ∙ ap (λ ls. (s, ls)) (drop-map plain_line first all)))

-- The part of a slice from index `first` on is the rest of the list.
part : (lines : List Line) (first : ℕ) → take (length lines - first) (drop first lines) ≡ drop first lines
part lines first = take_all (length lines - first) (drop first lines) (omega (arith, length-drop first lines))

pub returns-in-Ok-clause-script : goal.returns-in-Ok-clause-script
returns-in-Ok-clause-script c =
    let all : List Line = c.in_ok-lines.lines.items in
    let at : List Line = c.deref-2.result.now in
    let first : ℕ = c.head_of-first.result.1 in
    let s : Settings = c.head_of-first.result.0 in
    let commands : List PlainSaid = filter_map said_of (map plain_line (take (length at - first) (drop first at))) in
    let given : commands ≡ filter_map said_of (map plain_line (drop first all)) = ap (λ ls. filter_map said_of (map plain_line ls)) (part at first) ∙ ap (λ ls. filter_map said_of (map plain_line (drop first ls))) c.deref-2.ensures.value in
    let none : find is_bad (map plain_line (drop first all)) ≡ None = ap (λ ls. find is_bad (map plain_line (drop first ls))) (sym c.deref-2.ensures.value) ∙ (ap (λ ls. find is_bad (map plain_line ls)) (sym (part at first)) ∙ c.in-Ok.ensures.good) in
    good c.args.text.now (map plain_line all) (map plain_line (drop first all)) s c.requires c.in_ok-lines.ensures
    (behind all c.deref.result.now s first c.deref.ensures.value c.head_of-first.ensures.head) none
    ∙ ap (λ cs. let r : Result PlainScript ℕ = Ok (record { settings = s; commands = cs }) in r) (sym (c.in-Ok.ensures.commands ∙ given))

pub returns-clause-fault : goal.returns-clause-fault
returns-clause-fault c =
    let all : List Line = c.in_ok-lines.lines.items in
    let at : List Line = c.deref-2.result.now in
    let first : ℕ = c.head_of-first.result.1 in
    let s : Settings = c.head_of-first.result.0 in
    let P : List Line → Type 0 = λ ls. IsBadLine (map plain_line ls) c.in-Err.fault in
    fault c.args.text.now (map plain_line all) (map plain_line (drop first all)) s c.in-Err.fault c.requires c.in_ok-lines.ensures
    (behind all c.deref.result.now s first c.deref.ensures.value c.head_of-first.ensures.head)
    (subst P (part at first ∙ ap (drop first) c.deref-2.ensures.value) c.in-Err.ensures.bad)
