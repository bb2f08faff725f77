-- What the status of `check` implies about the text read and the output.
use Rattle.std.specs.Prelude.{◌≡◌, ◌⊎◌, ℕ, ◌+◌, ◌<◌, ◌≤◌, List, [], ◌++◌, length, take, Option}
use Rattle.std.specs.Prelude.{Some, Ok, IfSome, IsUtf8, codes}
use Rattle.sdl_lex.specs.Lexed.{Answers}
use Rattle.sdl_lex.specs.declared.lexemes.Token.{Token}
use Rattle.script_check.specs.Telling.{Fits}
use Rattle.std.specs.Io.KnownBytes.{Appends}
use Rattle.script_point.specs.Own.{text_of}
use Rattle.script_point.specs.mtp2_text_types.own.OwnSet.{OwnSet}
use Rattle.script_point.specs.mtp2_text_types.own.OwnSet.TheVariants as own
use Rattle.plain_text.specs.Reading.{LONGEST}
use Rattle.turn_code.specs.declared.draft.Draft.{Draft}
use Rattle.sdl_tables.specs.Plain.{PlainBlock}
use Rattle.turn_verify.specs.Loaded.{IsSound, IsLoaded, IsWritten, IsRefused}
use Rattle.script_point.specs.TextLimits.{AreLimitsOf}
use Rattle.turn_verify.specs.declared.loading.LoadFault.{LoadFault}
use Rattle.turn_verify.specs.declared.loading.LoadFault.TheVariants.{NoMemory}
use Rattle.script_point.specs.declared.notes.Explained.{Explained}
use Rattle.script_point.specs.Pointing.{IsPointedOut}
use Rattle.script_point.specs.Pointed.{bare_text, IsHead}
use Rattle.script_check.specs.declared.sets.FoundSet.{FoundSet}
use Rattle.script_check.specs.declared.sets.Refusal.{Refusal}
use Rattle.script_check.specs.declared.sets.SetFault.{SetFault}
use Rattle.script_check.specs.declared.sets.SetFault.TheVariants.{NotRead, NotText, Load}
use Rattle.script_check.specs.declared.sets.SetWord.{SetWord}
use Rattle.script_check.specs.declared.sets.SetWord.TheVariants.{Standard, Q703, Monitors, Text}
use Rattle.script_check.specs.Printed.{refusal_line, set_lines}

-- The word for a built-in set.
abbrev pub own_word : {R : Type 0} → OwnSet → SetWord R
own_word own.Standard = Standard
own_word own.Q703 = Q703
own_word own.Monitors = Monitors

-- The bytes of a set's text, if they are known.
abbrev pub given : {R : Type 0} → (R → Option (List ℕ)) → SetWord R → Option (List ℕ)
given remaining Standard = Some (text_of own.Standard)
given remaining Q703 = Some (text_of own.Q703)
given remaining Monitors = Some (text_of own.Monitors)
given remaining (Text reader) = remaining reader

-- The set is one that the caller supplies as a text, not a built-in set.
abbrev pub IsText : {R : Type 0} → SetWord R → Type 0
IsText Standard = ⊥
IsText Q703 = ⊥
IsText Monitors = ⊥
IsText (Text reader) = Unit {0}

-- P holds for some bytes; if the supplied bytes are known, for those.
pub record IsGiven (known : Option (List ℕ)) (P : List ℕ → Type 0) : Type 0 where
  pub bytes : List ℕ
  pub are_known : IfSome known (λ all. bytes ≡ all)
  pub holds : P bytes

-- The bytes are a text that is sound.
pub record IsAccepted (bytes : List ℕ) : Type 0 where
  pub utf8 : IsUtf8 bytes
  pub sound : IsSound bytes

-- The bytes are not UTF-8, or not a sound text.
abbrev pub IsNotAccepted : List ℕ → Type 0
IsNotAccepted bytes = IsAccepted bytes → ⊥

-- The text was judged: neither memory nor a read failed.
pub record IsRefusal (fault : SetFault) : Type 0 where
  pub memory : fault ≡ Load NoMemory → ⊥
  pub read : fault ≡ NotRead → ⊥

-- The bytes are a text, and the set is that of its block.
pub record IsSetOf (bytes : List ℕ) (d : Draft) : Type 0 where
  pub utf8 : IsUtf8 bytes
  pub loaded : IsLoaded bytes d

-- the bytes are a text, with its set and its limits of forced retransmission
pub record IsFound (bytes : List ℕ) (found : FoundSet) : Type 0 where
  pub is_set : IsSetOf bytes found.set
  pub limits :
      (ts : List Token) (b : PlainBlock) → IsWritten bytes ts b → AreLimitsOf b found.limits

-- The bytes aren't UTF-8, or their text has this fault; no claim if memory or a read failed.
abbrev pub IsFaultOf : List ℕ → SetFault → Type 0
IsFaultOf bytes NotRead = Unit {0}
IsFaultOf bytes NotText = IsUtf8 bytes → ⊥
IsFaultOf bytes (Load fault) = IsUtf8 bytes × IsRefused bytes fault

-- The bytes have this fault, and so are not accepted.
pub record IsRefusalOf (bytes : List ℕ) (fault : SetFault) : Type 0 where
  pub is_so : IsFaultOf bytes fault
  pub refused : IsNotAccepted bytes

-- There are more bytes than a text may have; `kept` are the first of them.
pub record IsTooLong (bytes kept : List ℕ) : Type 0 where
  pub long : LONGEST < length bytes
  pub first : kept ≡ take (LONGEST + 1) bytes

-- ---- where a text is refused

-- The lines point at a fault of a text, with notes. If the fault names no place they point at a
-- token that exceeds a limit, or at the name of the variable read unset.
pub record IsTold (text : List ℕ) (fault : LoadFault) (lines : List ℕ) : Type 0 where
  pub told : Explained
  pub points : IsPointedOut text fault told lines
  pub found : (ts : List Token) → Answers text (Ok ts) → IfSome told.found (Fits ts fault)

-- The lines point at a fault of a text that begins with these bytes. If these exceed the limit, the
-- line and column of the first byte beyond it are shown.
pub record PointsIn (kept : List ℕ) (fault : LoadFault) (lines : List ℕ) : Type 0 where
  pub whole : length kept ≤ LONGEST → IsUtf8 kept → IsTold kept fault lines
  pub cut : LONGEST < length kept
      → IsHead kept LONGEST (codes "L3 TooLong") (codes "a text has 262144 octets at most") lines

-- As `PointsIn`, for any fault; bytes that aren't UTF-8 have no place.
abbrev pub PointsOut : List ℕ → SetFault → List ℕ → Type 0
PointsOut kept NotRead lines = Unit {0}
PointsOut kept NotText lines = lines ≡ bare_text (codes "F1 NotText") []
PointsOut kept (Load fault) lines = PointsIn kept fault lines

-- All bytes, or the first ones of a text that is too long.
abbrev pub AreFirst : List ℕ → List ℕ → Type 0
AreFirst bytes kept = (kept ≡ bytes) ⊎ (kept ≡ take (LONGEST + 1) bytes)

-- The bytes have this fault, and its lines point at it there.
pub record IsRefusedAt (bytes : List ℕ) (refusal : Refusal) : Type 0 where
  pub refused : IsRefusalOf bytes refusal.fault
  pub kept : List ℕ
  pub first : AreFirst bytes kept
  pub points : PointsOut kept refusal.fault refusal.pointed.items

-- The output grows by all lines of the set of the bytes.
pub record PrintsCosts (old new : Option (List ℕ)) (bytes : List ℕ) : Type 0 where
  pub draft : Draft
  pub is_set : IsSetOf bytes draft
  pub printed : Appends old new (set_lines draft)

-- The output grows by exactly the line of a fault that the bytes have.
pub record PrintsRefusal (old new : Option (List ℕ)) (bytes : List ℕ) : Type 0 where
  pub fault : SetFault
  pub judged : IsRefusal fault
  pub is_so : IsFaultOf bytes fault
  pub printed : Appends old new (refusal_line fault)

-- The output grows by exactly the line of a fault that the bytes have, and the messages by exactly
-- a name and the lines that point at the fault.
pub record PrintsPointed (name : List ℕ) (old new told tells : Option (List ℕ)) (bytes : List ℕ) :
    Type 0 where
  pub refusal : Refusal
  pub judged : IsRefusal refusal.fault
  pub is_so : IsRefusedAt bytes refusal
  pub printed : Appends old new (refusal_line refusal.fault)
  pub pointed : Appends told tells (name ++ refusal.pointed.items)
