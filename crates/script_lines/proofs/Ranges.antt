-- The numbers that the first lines set are in their ranges.
use Rattle.std.proofs.Common.{◌≡◌, ℕ, ◌≤◌, Bool, true, false, nat_lt, length, List, [], ◌∷◌, Option, None, Some, Result, Ok, Err, refl, ap, subst, arith}
use Rattle.std.specs.Prelude.{if◌then◌else◌, ◌&&◌, codes, find}
use Rattle.std.specs.Int.{is_in_range}
use Rattle.std.specs.Str.{bytes_eq}
use Rattle.std.proofs.lemmas.Bool.{and_parts, leb-true}
use Rattle.std.proofs.lemmas.Option.{option_and_then_some}
use Rattle.plain_text.specs.Reading.{LONGEST}
use Rattle.script_lines.specs.declared.settings.Setting.{Setting}
use Rattle.script_lines.specs.declared.settings.Setting.TheVariants.{Ports, Env, Journal}
use Rattle.script_lines.specs.declared.settings.Settings.{Settings}
use Rattle.script_lines.specs.Numbers.{count_of}
use Rattle.script_lines.specs.Lines.{PlainLine, lines_of, line_at}
use Rattle.script_lines.specs.Scripts.{PlainScript, setting_at, setting_of, set, defaults, head_by, after_head, is_bad, commands_by, script_by, script_of, AreInRange}

in_range : (b : Bool) (lo hi n : ℕ) → (b && is_in_range lo hi n) ≡ true → (lo ≤ n) × (n ≤ hi)
in_range b lo hi n is =
    let both : (is_in_range lo hi n) ≡ true = (and_parts b (is_in_range lo hi n) is).1 in
    let parts = and_parts _ _ both in
    (leb-true lo n parts.0, leb-true n hi parts.1)

-- Setting one number keeps the ranges.
with_one : (p e j : Bool) (n : ℕ) (s : Settings) (x : Setting) → AreInRange s
    → (p ≡ true → (1 ≤ n) × (n ≤ 64)) → (e ≡ true → (1 ≤ n) × (n ≤ 1024)) → (j ≡ true → (16 ≤ n) × (n ≤ 65536))
    → (if p then Some (Ports n) else (if e then Some (Env n) else (if j then Some (Journal n) else None))) ≡ Some x → AreInRange (set x s)
with_one true e j n s x fits ps es js is =
    let same : Ports n ≡ x = cc in
    let fit : AreInRange (set (Ports n) s) = record {
      least_ports = (ps refl).0;
      most_ports = (ps refl).1;
      least_env = fits.least_env;
      most_env = fits.most_env;
      least_journal = fits.least_journal;
      most_journal = fits.most_journal;
    } in
    subst (λ y. AreInRange (set y s)) same fit
with_one false true j n s x fits ps es js is =
    let same : Env n ≡ x = cc in
    let fit : AreInRange (set (Env n) s) = record {
      least_ports = fits.least_ports;
      most_ports = fits.most_ports;
      least_env = (es refl).0;
      most_env = (es refl).1;
      least_journal = fits.least_journal;
      most_journal = fits.most_journal;
    } in
    subst (λ y. AreInRange (set y s)) same fit
with_one false false true n s x fits ps es js is =
    let same : Journal n ≡ x = cc in
    let fit : AreInRange (set (Journal n) s) = record {
      least_ports = fits.least_ports;
      most_ports = fits.most_ports;
      least_env = fits.least_env;
      most_env = fits.most_env;
      least_journal = (js refl).0;
      most_journal = (js refl).1;
    } in
    subst (λ y. AreInRange (set y s)) same fit
with_one false false false n s x fits ps es js is = absurd (cc)

by_word : (word : List ℕ) (n : ℕ) (s : Settings) (x : Setting) → AreInRange s → setting_at word n ≡ Some x → AreInRange (set x s)
by_word word n s x fits is =
    with_one _ _ _ n s x fits (in_range (bytes_eq word (codes "ports")) 1 64 n) (in_range (bytes_eq word (codes "env")) 1 1024 n)
    (in_range (bytes_eq word (codes "journal")) 16 65536 n) is

-- A line that sets a number keeps the ranges.
by_line : (words : List (List ℕ)) (s : Settings) (x : Setting) → AreInRange s → setting_of words ≡ Some x → AreInRange (set x s)
by_line [] s x fits is = absurd (cc)
by_line (word ∷ []) s x fits is = absurd (cc)
by_line (word ∷ number ∷ []) s x fits is = option_and_then_some (setting_at word) (count_of number) x is (λ n there sets. by_word word n s x fits sets)
by_line (word ∷ number ∷ more ∷ rest) s x fits is = absurd (cc)

headed : (s : Settings) (lines : List PlainLine) (go : Settings → Settings × List PlainLine) (o : Option Setting) → AreInRange s
    → ((x : Setting) → o ≡ Some x → AreInRange (go (set x s)).0) → AreInRange (head_by s lines go o).0
headed s lines go None fits goes = fits
headed s lines go (Some x) fits goes = goes x refl

after : (lines : List PlainLine) (s : Settings) → AreInRange s → AreInRange (after_head s lines).0
after [] s fits = fits
after (line ∷ more) s fits =
    headed s (line ∷ more) (λ t. after_head t more) (setting_of line.words) fits (λ x is. after more (set x s) (by_line line.words s x fits is))

defaults_fit : AreInRange defaults
defaults_fit = record {
  least_ports = omega arith;
  most_ports = omega arith;
  least_env = omega arith;
  most_env = omega arith;
  least_journal = omega arith;
  most_journal = omega arith;
}

abbrev settings_in : Settings → Result PlainScript ℕ → Settings
settings_in s (Ok p) = p.settings
settings_in s (Err line) = s

by_first : (s : Settings) (lines : List PlainLine) (o : Option PlainLine) (p : PlainScript) → commands_by s lines o ≡ Ok p → s ≡ p.settings
by_first s lines None p is = ap (settings_in s) is
by_first s lines (Some line) p is = absurd (cc)

by_length : (long : Bool) (line : ℕ) (r : Result PlainScript ℕ) (p : PlainScript) → (if long then Err line else r) ≡ Ok p → r ≡ Ok p
by_length true line r p is = absurd (cc)
by_length false line r p is = is

-- The settings of a script are in their ranges.
pub script_fits : (text : List ℕ) (p : PlainScript) → script_of text ≡ Ok p → AreInRange p.settings
unfolding script_of
script_fits text p is =
    let head : Settings × List PlainLine = after_head defaults (lines_of text) in
    let reads : script_by head ≡ Ok p = by_length (nat_lt LONGEST (length text)) (line_at text LONGEST) (script_by head) p is in
    subst AreInRange (by_first head.0 head.1 (find is_bad head.1) p reads) (after (lines_of text) defaults defaults_fit)
