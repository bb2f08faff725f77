-- Texts of which at most one byte more is kept than a text may have.
use Rattle.std.proofs.Common.{◌≡◌, ℕ, min, codes, inl, inr, IfSome, ◌+◌, ◌<◌, ◌≤◌, ◌==◌, nat_lt, true, false, List, length, take, Option, Some, Result, Ok, Err, IfOk, IfErr, refl, ap, ◌∙◌, arith, subst, length-take}
use Rattle.std.specs.Prelude.{count_by, IsUtf8}
use borrow.Author.Tests.{ltb-true, ltb-false}
use Rattle.std.proofs.lemmas.List.{take_all}
use Rattle.sdl_lex.specs.Lexed.{Answers, over_long, in_room}
use Rattle.sdl_lex.specs.declared.lexemes.Token.{Token}
use Rattle.sdl_lex.specs.declared.lexemes.LexFault.TheVariants.{TooLong}
use Rattle.script_check.specs.declared.sets.FoundSet.{FoundSet}
use Rattle.turn_code.specs.declared.draft.Draft.{Draft}
use Rattle.sdl_tables.specs.Plain.{PlainBlock}
use Rattle.turn_verify.specs.Loaded.{Gives, IsRefused, IsSoundText, IsUnlexed}
use Rattle.turn_verify.specs.declared.loading.LoadFault.TheVariants as loading
use Rattle.plain_text.specs.Reading.{LONGEST, Keeps, IsReading}
use Rattle.plain_text.specs.declared.reading.TextRead.{TextRead}
use Rattle.script_check.specs.declared.sets.SetFault.{SetFault}
use Rattle.script_check.specs.declared.sets.SetFault.TheVariants.{Load}
use Rattle.script_check.specs.declared.sets.Refusal.{Refusal}
use Rattle.script_check.specs.Checked.{AreFirst, IsGiven, IsNotAccepted, IsFound, IsRefusal, IsRefusalOf, IsRefusedAt, IsTooLong, PointsIn, PointsOut}
use Rattle.script_point.specs.Pointed.{IsHead}
use Rattle.turn_verify.specs.declared.loading.LoadFault.{LoadFault}
use Rattle.plain_laws.proofs.Lists.{take_twice}

-- the fault of a text that is too long
pub unlexed : (bytes kept : List ℕ) (line : ℕ) → IsTooLong bytes kept → line ≡ count_by (λ b. b == 10) (take LONGEST kept) + 1
    → IsUnlexed bytes (TooLong LONGEST) line
unlexed bytes kept line long at = record {
  answers = over_long long.long;
  there = at ∙ ap (λ bs. count_by (λ b. b == 10) bs + 1) (ap (take LONGEST) long.first ∙ take_twice LONGEST bytes);
}

-- The kept bytes are the whole text, or the text is too long.
pub all_kept : (bytes : List ℕ) (read : TextRead) → Keeps bytes read → nat_lt LONGEST (length read.kept.items) ≡ false → read.kept.items ≡ bytes
all_kept bytes read keeps short =
    let few : length read.kept.items ≤ LONGEST = ltb-false _ _ short in
    keeps.first ∙ take_all (LONGEST + 1) bytes (omega (arith, ap length keeps.first, length-take (LONGEST + 1) bytes))

pub too_many : (bytes : List ℕ) (read : TextRead) → Keeps bytes read → nat_lt LONGEST (length read.kept.items) ≡ true → IsTooLong bytes read.kept.items
too_many bytes read keeps long =
    let many : LONGEST < length read.kept.items = ltb-true _ _ long in
    record { long = omega (arith, ap length keeps.first, length-take (LONGEST + 1) bytes); first = keeps.first }

no_tokens : (text : List ℕ) (tokens : List Token) → LONGEST < length text → Answers text (Ok tokens) → ⊥
no_tokens text tokens long (in_room short gives) = omega arith

pub not_accepted : (bytes kept : List ℕ) → IsTooLong bytes kept → IsNotAccepted bytes
not_accepted bytes kept long accepted = no_tokens bytes accepted.sound.tokens long.long accepted.sound.is_so.read.is_written.lexed

-- ---- a refusal of `load`

never_accepted : (text : List ℕ) (fault : LoadFault) (P : PlainBlock → Draft → Type 0)
    → ((ts : List Token) (b : PlainBlock) → IsSoundText text ts b → (let r : Result Draft LoadFault = Err fault in Gives r (P b))) → (fault ≡ loading.NoMemory → ⊥) → IsNotAccepted text
never_accepted text (loading.Lex fault line) P exact judged = λ a. exact a.sound.tokens a.sound.block a.sound.is_so
never_accepted text (loading.Parse fault line) P exact judged = λ a. exact a.sound.tokens a.sound.block a.sound.is_so
never_accepted text (loading.Rule fault line) P exact judged = λ a. exact a.sound.tokens a.sound.block a.sound.is_so
never_accepted text loading.NoMemory P exact judged = λ a. judged refl

pub load_refused : (text : List ℕ) (fault : LoadFault) (P : PlainBlock → Draft → Type 0) → IsUtf8 text → IsRefused text fault
    → ((ts : List Token) (b : PlainBlock) → IsSoundText text ts b → (let r : Result Draft LoadFault = Err fault in Gives r (P b))) → IsRefusal (Load fault) → IsRefusalOf text (Load fault)
load_refused text fault P utf8 refused exact judged = record { is_so = (utf8, refused); refused = never_accepted text fault P exact (λ is. judged.memory (ap Load is)) }

-- ---- from the kept bytes to the bytes read

pub set_kept : (r : Result FoundSet SetFault) (text : List ℕ) (read : TextRead) → ((bytes : List ℕ) → Keeps bytes read → text ≡ bytes)
    → IfOk r (IsFound text) → IfOk r (λ v. (bytes : List ℕ) → Keeps bytes read → IsFound bytes v)
set_kept (Ok v) text read same set = λ bytes keeps. let P : List ℕ → Type 0 = λ bs. IsFound bs v in subst P (same bytes keeps) set
set_kept (Err e) text read same set = tt

pub fault_kept : (r : Result FoundSet SetFault) (text : List ℕ) (read : TextRead) → ((bytes : List ℕ) → Keeps bytes read → text ≡ bytes)
    → IfErr r (λ e. IsRefusal e → IsRefusalOf text e) → IfErr r (λ e. IsRefusal e → (bytes : List ℕ) → Keeps bytes read → IsRefusalOf bytes e)
fault_kept (Ok v) text read same fault = tt
fault_kept (Err e) text read same fault = λ judged bytes keeps. let P : List ℕ → Type 0 = λ bs. IsRefusalOf bs e in subst P (same bytes keeps) (fault judged)

pub set_read : (r : Result FoundSet SetFault) (known : Option (List ℕ)) (read : TextRead) → IsReading known read
    → IfOk r (λ v. (bytes : List ℕ) → Keeps bytes read → IsFound bytes v) → IfOk r (λ v. IsGiven known (λ bytes. IsFound bytes v))
set_read (Ok v) known read reading set = record { bytes = reading.bytes; are_known = reading.are_known; holds = set reading.bytes reading.keeps }
set_read (Err e) known read reading set = tt

pub set_own : (r : Result FoundSet SetFault) (text : List ℕ) → IfOk r (IsFound text) → IfOk r (λ v. IsGiven (Some text) (λ bytes. IsFound bytes v))
set_own (Ok v) text set = record { bytes = text; are_known = refl; holds = set }
set_own (Err e) text set = tt

-- ---- with their places

pub set_passed : (loaded : Result FoundSet SetFault) (r : Result FoundSet Refusal) (P : FoundSet → Type 0) → IfOk r (λ v. loaded ≡ Ok v) → IfOk loaded P → IfOk r P
set_passed (Ok w) (Ok v) P same set = let is : w ≡ v = cc in subst P is set
set_passed (Err e) (Ok v) P same set = absurd (let bad : ⊥ = cc in bad)
set_passed loaded (Err x) P same set = tt

fault_placed : (loaded : Result FoundSet SetFault) (r : Result FoundSet Refusal) (kept : List ℕ) (known : Option (List ℕ)) (bytes : List ℕ)
    → IfSome known (λ all. bytes ≡ all) → AreFirst bytes kept
    → IfErr r (λ x. IsRefusal x.fault → (loaded ≡ Err x.fault) × PointsOut kept x.fault x.pointed.items)
    → IfErr loaded (λ e. IsRefusal e → IsRefusalOf bytes e) → IfErr r (λ x. IsRefusal x.fault → IsGiven known (λ all. IsRefusedAt all x))
fault_placed loaded (Ok v) kept known bytes is first points fault = tt
fault_placed loaded (Err x) kept known bytes is first points fault = λ judged.
    let P : Result FoundSet SetFault → Type 0 = λ l. IfErr l (λ e. IsRefusal e → IsRefusalOf bytes e) in
    let there = points judged in
    record {
      bytes = bytes;
      are_known = is;
      holds = record {
        refused = subst P there.0 fault judged;
        kept = kept;
        first = first;
        points = there.1;
      };
    }

pub fault_placed_own : (loaded : Result FoundSet SetFault) (r : Result FoundSet Refusal) (text kept : List ℕ) → kept ≡ text
    → IfErr r (λ x. IsRefusal x.fault → (loaded ≡ Err x.fault) × PointsOut kept x.fault x.pointed.items)
    → IfErr loaded (λ e. IsRefusal e → IsRefusalOf text e) → IfErr r (λ x. IsRefusal x.fault → IsGiven (Some text) (λ all. IsRefusedAt all x))
fault_placed_own loaded r text kept is points fault = fault_placed loaded r kept (Some text) text refl (inl is) points fault

fault_at : (loaded : Result FoundSet SetFault) (read : TextRead) (bytes : List ℕ) → Keeps bytes read
    → IfErr loaded (λ e. IsRefusal e → (all : List ℕ) → Keeps all read → IsRefusalOf all e) → IfErr loaded (λ e. IsRefusal e → IsRefusalOf bytes e)
fault_at (Ok v) read bytes keeps fault = tt
fault_at (Err e) read bytes keeps fault = λ judged. fault judged bytes keeps

pub fault_placed_read : (loaded : Result FoundSet SetFault) (r : Result FoundSet Refusal) (known : Option (List ℕ)) (read : TextRead) (kept : List ℕ) → kept ≡ read.kept.items
    → IsReading known read
    → IfErr r (λ x. IsRefusal x.fault → (loaded ≡ Err x.fault) × PointsOut kept x.fault x.pointed.items)
    → IfErr loaded (λ e. IsRefusal e → (bytes : List ℕ) → Keeps bytes read → IsRefusalOf bytes e)
    → IfErr r (λ x. IsRefusal x.fault → IsGiven known (λ all. IsRefusedAt all x))
fault_placed_read loaded r known read kept is reading points fault =
    fault_placed loaded r kept known reading.bytes reading.are_known (inr (is ∙ reading.keeps.first)) points
    (fault_at loaded read reading.bytes reading.keeps fault)

-- For a text that is too long, the lines point where it is cut.
pub at_limit : (kept : List ℕ) (fault : LoadFault) (lines : List ℕ) → LONGEST < length kept
    → IsHead kept (min LONGEST (length kept)) (codes "L3 TooLong") (codes "a text has 262144 octets at most") lines → PointsIn kept fault lines
at_limit kept fault lines long h = record {
  whole = λ short utf8. let no : ⊥ = omega (arith, short, long) in absurd no;
  cut = λ _.
      let same : min LONGEST (length kept) ≡ LONGEST = omega (arith, long) in
      let P : ℕ → Type 0 = λ n. IsHead kept n (codes "L3 TooLong") (codes "a text has 262144 octets at most") lines in
      subst P same h;
}
