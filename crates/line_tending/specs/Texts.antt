-- Reports as they are printed: bytes without an end of line, numbers in decimal, messages in
-- hexadecimal digits.
use Rattle.std.specs.Prelude.{ℕ, ◌/◌, ◌%◌, true, List, [], ◌∷◌, ◌++◌, Option, None, Some, codes}
use Rattle.std.specs.List.{flat_map}
use Rattle.std.specs.Fmt.{decimal, signed_decimal, digit_glyph}
use Rattle.resend_store.specs.declared.messages.Msu.{Msu}
use Rattle.group_changeover.specs.declared.changeover.Kind.{Kind}
use Rattle.group_changeover.specs.declared.changeover.Kind.TheVariants as kind
use Rattle.line_tending.specs.declared.told.Told.{Told}
use Rattle.line_tending.specs.declared.told.Told.TheVariants as told

abbrev pub kind_text : Kind → List ℕ
kind_text (kind.Order accepted) = codes "COO " ++ decimal accepted
kind_text (kind.Acknowledgement accepted) = codes "COA " ++ decimal accepted
kind_text kind.EmergencyOrder = codes "ECO"
kind_text kind.EmergencyAcknowledgement = codes "ECA"

-- Two digits, with capitals `A` to `F`.
abbrev pub octet_text : ℕ → List ℕ
octet_text octet = digit_glyph true (octet / 16) ∷ digit_glyph true (octet % 16) ∷ []

-- A message in hexadecimal, its service information octet first.
abbrev pub message_text : Msu → List ℕ
message_text m = octet_text m.sio ++ flat_map octet_text m.sif.items

-- The link of a selection, with a space before it.
abbrev pub link_text : Option ℕ → List ℕ
link_text None = codes " -"
link_text (Some link) = codes " " ++ decimal link

-- the links of selections, in the answer to a question
abbrev pub table_text : List (Option ℕ) → List ℕ
table_text shared = codes "table" ++ flat_map link_text shared

abbrev pub told_text : Told → List ℕ
told_text (told.InService link) = decimal link ++ codes " in service"
told_text (told.Down link reason) = decimal link ++ codes " down " ++ signed_decimal reason
told_text (told.FarOut link) = decimal link ++ codes " far out"
told_text (told.FarBack link) = decimal link ++ codes " far back"
told_text (told.Message link m) = decimal link ++ codes " message " ++ message_text m
told_text (told.Started link) = decimal link ++ codes " started"
told_text (told.Changeover link) = decimal link ++ codes " changeover"
told_text (told.Says link kind by_link) =
    decimal link ++ codes " says " ++ kind_text kind ++ codes " by " ++ decimal by_link
told_text (told.Hears link kind by_link) =
    decimal link ++ codes " hears " ++ kind_text kind ++ codes " by " ++ decimal by_link
told_text (told.Unsure link count) = decimal link ++ codes " unsure " ++ decimal count
told_text (told.Diverted link count) = decimal link ++ codes " diverted " ++ decimal count
told_text (told.Tested link) = decimal link ++ codes " tested"
told_text (told.Looped link) = decimal link ++ codes " looped"
told_text (told.Shared shared) = codes "shared" ++ flat_map link_text shared
told_text told.ReaderAway = codes "reader away"
told_text told.ReaderBack = codes "reader back"
