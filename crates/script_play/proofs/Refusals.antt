-- Texts that are no scripts.
use Rattle.std.proofs.Common.{◌≡◌, ℕ, ◌+◌, ◌<◌, ◌==◌, nat_lt, true, List, length, take, count_by, Option, Err, refl, sym, ap, arith, length-take, ◌∙◌}
use Rattle.std.specs.Prelude.{IsUtf8}
use Rattle.std.proofs.lemmas.Bool.{lt-ltb, ltb-true}
use Rattle.plain_text.specs.declared.reading.TextRead.{TextRead}
use Rattle.plain_text.specs.Reading.{LONGEST, Keeps}
use Rattle.script_lines.specs.Lines.{line_at}
use Rattle.script_lines.specs.declared.script.ScriptFault.{ScriptFault}
use Rattle.script_lines.specs.declared.script.ScriptFault.TheVariants.{BadLine, NoMemory}
use Rattle.script_links.specs.GroupScripts.{play_script_of, Tells}
use Rattle.script_play.specs.Played.{IsNoScript, bad_line, PrintsFault}
use Rattle.plain_laws.proofs.Lists.{take_twice}

long_any : (bytes : List ℕ) → nat_lt LONGEST (length bytes) ≡ true → play_script_of bytes ≡ Err (line_at bytes LONGEST)
unfolding play_script_of
long_any bytes long = rw long refl

-- a text that is too long has a bad line
pub too_long : (bytes : List ℕ) (read : TextRead) (line : ℕ) → Keeps bytes read → nat_lt LONGEST (length read.kept.items) ≡ true
    → line ≡ count_by (λ b. b == 10) (take LONGEST read.kept.items) + 1 → play_script_of bytes ≡ Err line
too_long bytes read line keeps long is =
    let many : LONGEST < length read.kept.items = ltb-true _ _ long in
    let all : LONGEST < length bytes = omega (arith, ap length keeps.first, length-take (LONGEST + 1) bytes) in
    let same : line ≡ line_at bytes LONGEST =
    is ∙ ap (λ bs. count_by (λ b. b == 10) bs + 1) (ap (take LONGEST) keeps.first ∙ take_twice LONGEST bytes) in
    long_any bytes (lt-ltb _ _ all) ∙ ap (λ n. Err n) (sym same)

-- the fault of a text that is read
pub no_script_in : (old new : Option (List ℕ)) (text bytes : List ℕ) (fault : ScriptFault) → text ≡ bytes → IsUtf8 bytes
    → Tells (play_script_of text) fault → PrintsFault fault old new → IsNoScript old new bytes
no_script_in old new text bytes (BadLine line) same utf8 tells printed = bad_line line utf8 (ap play_script_of (sym same) ∙ tells) printed
no_script_in old new text bytes NoMemory same utf8 tells printed = absurd printed
