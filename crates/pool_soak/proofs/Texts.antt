-- Lines that were written, and the texts of scripts.
use Rattle.std.proofs.Common.{◌≡◌, ℕ, zero, ◌+◌, ◌<◌, ◌==◌, nat_lt, Bool, true, false, ◌&&◌, List, ◌++◌, length, take, Option, Err, inl, inr, ap, sym, ◌∙◌, arith, length-take}
use Rattle.std.specs.Prelude.{◌⊎◌, IsTrue, IsUtf8, count_by}
use borrow.Author.Tests.{ltb-true}
use Rattle.std.specs.Io.KnownBytes.{Appends}
use Rattle.std.proofs.KnownBytes.{Appends-trans}
use Rattle.std.proofs.lemmas.Bool.{false≢true}
use Rattle.plain_text.specs.Reading.{LONGEST, Keeps}
use Rattle.plain_text.specs.declared.reading.TextRead.{TextRead}
use Rattle.script_lines.specs.declared.script.ScriptFault.{ScriptFault}
use Rattle.script_lines.specs.declared.script.ScriptFault.TheVariants.{BadLine, NoMemory}
use Rattle.pool_soak.specs.Scripts.{soak_of, IsFaultOf}
use Rattle.pool_soak.specs.Findings.{IsEnd, IsTurnedDown, PrintsFault, lines_with}
use Rattle.pool_soak.proofs.Loops.{long}
use Rattle.plain_laws.proofs.Lists.{take_twice}

-- one line after another
pub after : (first now next : Option (List ℕ)) (one other : List ℕ) → Appends first now one → Appends now next other → Appends first next (one ++ other)
after first now next one other before behind = Appends-trans first now next one other before behind

pub too_long : (bytes kept : List ℕ) (read : TextRead) (line : ℕ) → Keeps bytes read → nat_lt LONGEST (length read.kept.items) ≡ true
    → kept ≡ read.kept.items → line ≡ count_by (λ b. b == 10) (take LONGEST kept) + 1 → soak_of bytes ≡ Err line
too_long bytes kept read line keeps more are at =
    let many : LONGEST < length read.kept.items = ltb-true _ _ more in
    let same : take LONGEST kept ≡ take LONGEST bytes = ap (take LONGEST) (are ∙ keeps.first) ∙ take_twice LONGEST bytes in
    long bytes (omega (arith, ap length keeps.first, length-take (LONGEST + 1) bytes))
    ∙ ap Err (sym (at ∙ ap (λ bs. count_by (λ b. b == 10) bs + 1) same))

-- a refused script has neither status 0 nor status 1
pub turned : (status : ℕ) (old new : Option (List ℕ)) (bytes : List ℕ) → (status ≡ 2) ⊎ (status ≡ 4) → (status ≡ 2 → IsTurnedDown old new bytes)
    → IsEnd status old new bytes
turned status old new bytes (inl two) down = record {
  held = λ zero. absurd (omega (arith, two, zero));
  differs = λ one. absurd (omega (arith, two, one));
  refused = down;
}
turned status old new bytes (inr four) down = record {
  held = λ zero. absurd (omega (arith, four, zero));
  differs = λ one. absurd (omega (arith, four, one));
  refused = down;
}

-- the end of a run whose script has a bad line
pub bad_line : (old new : Option (List ℕ)) (bytes : List ℕ) (fault : ScriptFault) → IsUtf8 bytes → IsFaultOf bytes fault → PrintsFault old new fault
    → IsTurnedDown old new bytes
bad_line old new bytes (BadLine line) utf8 reads printed = inr (record { utf8 = utf8; line = line; reads = reads; printed = printed })
bad_line old new bytes NoMemory utf8 reads printed = absurd printed

pub is_not : (b : Bool) → b ≡ false → IsTrue b → ⊥
is_not b is_false is_true = absurd (false≢true (sym is_false ∙ is_true))

-- if the seats agree, only the audit can say no
pub audit_says_no : (old new : Option (List ℕ)) (agree stand : Bool) → agree ≡ true → agree && stand ≡ false → Appends old new (lines_with agree stand)
    → Appends old new (lines_with true false)
audit_says_no old new true true agreed wrong printed = absurd (false≢true (sym wrong))
audit_says_no old new true false agreed wrong printed = printed
audit_says_no old new false stand agreed wrong printed = absurd (false≢true agreed)
