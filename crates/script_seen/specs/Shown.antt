-- The echo of a script's run: each line of the script is written before the text that it prints.
use Rattle.std.specs.Prelude.{◌≡◌, ℕ, List, [], ◌∷◌, ◌++◌, length, drop, Option, Some, codes}
use Rattle.std.specs.Prelude.{slice_get}
use Rattle.std.specs.List.{flat_map}
use Rattle.std.specs.Io.KnownBytes.{Appends}
use Rattle.script_lines.specs.Lines.{PlainLine}
use Rattle.plain_text.specs.Lines.{line_of}
use Rattle.script_ends.specs.Played.{missed_text}

-- words separated by one space
abbrev pub parted : List (List ℕ) → List ℕ
parted [] = []
parted (word ∷ words) = word ++ flat_map (λ w. 32 ∷ w) words

-- the echo of the line with this number: `> ` and its words
pub record IsLine (lines : List PlainLine) (number : ℕ) (front : List ℕ) : Type 0 where
  pub place : ℕ
  pub line : PlainLine
  pub there : slice_get lines place ≡ Some line
  pub numbered : line.number ≡ number
  pub shown : front ≡ line_of (codes "> " ++ parted line.words)

-- The echo of commands, in their order. P is the text that a run of commands prints. The line of
-- each command comes before the text that this command adds.
pub data Shows {S : Type 0} (lines : List PlainLine) (line : S → ℕ)
    (P : List S → List ℕ → Type 0) : List S → List ℕ → List ℕ → Type 0 where
  begins : Shows lines line P [] [] []
  more : {commands : List S} {printed shown : List ℕ} (said : S) (front next : List ℕ)
      → Shows lines line P commands printed shown → IsLine lines (line said) front
      → P (commands ++ said ∷ []) next
      → Shows lines line P (commands ++ said ∷ []) next
      (shown ++ (front ++ drop (length printed) next))

-- these commands were obeyed so far, and their echo was written
pub record IsShowing {S : Type 0} (lines : List PlainLine) (line : S → ℕ)
    (P : List S → List ℕ → Type 0) (commands : List S) (old new : Option (List ℕ))
    (printed : List ℕ) : Type 0 where
  pub shown : List ℕ
  pub shows : Shows lines line P commands printed shown
  pub written : Appends old new shown

-- all commands were obeyed, and their echo was written
pub record IsShown {S : Type 0} (lines : List PlainLine) (line : S → ℕ)
    (P : List S → List ℕ → Type 0) (commands : List S) (old new : Option (List ℕ)) : Type 0 where
  pub printed : List ℕ
  pub showing : IsShowing lines line P commands old new printed

-- Commands were obeyed, and the expectation after them fails. M is the text printed if the last of
-- some commands is an expectation that fails: the text so far and the line about the failure. In
-- the echo, that line follows the expectation's own line.
pub record IsMissing {S : Type 0} (lines : List PlainLine) (line : S → ℕ)
    (P M : List S → List ℕ → Type 0) (before : List S) (said : S) (old new : Option (List ℕ)) :
    Type 0 where
  pub printed : List ℕ
  pub shown : List ℕ
  pub front : List ℕ
  pub shows : Shows lines line P before printed shown
  pub is_front : IsLine lines (line said) front
  pub missed : M (before ++ said ∷ []) (printed ++ line_of (missed_text (line said)))
  pub written : Appends old new (shown ++ (front ++ line_of (missed_text (line said))))

-- `IsMissing` for one of these commands; those before it were obeyed
pub record IsShownMissed {S : Type 0} (lines : List PlainLine) (line : S → ℕ)
    (P M : List S → List ℕ → Type 0) (commands : List S) (old new : Option (List ℕ)) :
    Type 0 where
  pub before : List S
  pub said : S
  pub after : List S
  pub stands : commands ≡ before ++ said ∷ after
  pub missing : IsMissing lines line P M before said old new
