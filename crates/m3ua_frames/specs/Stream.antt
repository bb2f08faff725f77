-- The messages of a stream, only by the length in their headers (RFC 4666, 3.1.4).
use Rattle.std.specs.Prelude.{◌≡◌, ℕ, ◌-◌, ◌<◌, ◌≤◌, ◌==◌, nat_lt, Bool, true, false}
use Rattle.std.specs.Prelude.{if◌then◌else◌, ◌⊎◌}
use Rattle.std.specs.Prelude.{List, [], ◌∷◌, ◌++◌, length, take, drop, Option, Some, None}
use Rattle.std.specs.Prelude.{is_some}
use Rattle.std.specs.Option.{option_to_list}
use Rattle.m3ua_frames.specs.Numbers.{number_4}
use Rattle.m3ua_frames.specs.declared.stream.Heard.{Heard}
use Rattle.m3ua_frames.specs.declared.stream.Heard.TheVariants as heard

-- the number of octets of a header
abbrev pub HEADER : ℕ
HEADER = 8

-- the greatest number of octets of a message that is read
abbrev pub MOST : ℕ
MOST = 4096

-- the length in a header
abbrev pub told : List ℕ → ℕ
told octets = number_4 octets 4

pub data Item : Type 0 where
  -- a message
  whole : List ℕ → Item
  -- the header of a message that is too long and is skipped
  too_long : List ℕ → Item
  -- a header with a length less than its own: nothing after it is read
  broken : Item

-- less than a header, or less of a message than the length in its header
abbrev pub IsBeginning : List ℕ → Type 0
IsBeginning octets =
    (length octets < HEADER)
    ⊎ ((HEADER ≤ told octets) × (told octets ≤ MOST) × (length octets < told octets))

-- The octets of a stream, from the beginning of a message on, are these items. Then an incomplete
-- message may follow.
abbrev pub Stream : List ℕ → List Item → Type 0
Stream octets [] = IsBeginning octets
Stream octets (whole message ∷ items) =
    (HEADER ≤ told octets) × (told octets ≤ MOST) × (told octets ≤ length octets)
    × (message ≡ take (told octets) octets) × Stream (drop (told octets) octets) items
Stream octets (too_long head ∷ items) =
    (HEADER ≤ length octets) × (MOST < told octets)
    × (head ≡ take HEADER octets) × Stream (drop (told octets) octets) items
Stream octets (broken ∷ items) = (HEADER ≤ length octets) × (told octets < HEADER) × (items ≡ [])

-- ---- octet by octet

pub record Reading : Type 0 where
  -- the octets of the incomplete message, or of the last item
  pub octets : List ℕ
  -- how many octets are still to be skipped
  pub over : ℕ
  -- whether a header was broken
  pub ended : Bool

abbrev pub start : Reading
start = record { octets = []; over = 0; ended = false }

-- the item that octets are, from the beginning of a message on, if they are complete
abbrev pub judged : List ℕ → Option Item
judged octets =
    if nat_lt (length octets) HEADER then None
    else (if nat_lt (told octets) HEADER then Some broken
    else (if nat_lt MOST (told octets) then Some (too_long octets)
    else (if length octets == told octets then Some (whole octets) else None)))

-- the octets of the incomplete message
abbrev pub begun : List ℕ → List ℕ
begun octets = if is_some (judged octets) then [] else octets

abbrev pub read_on : List ℕ → Option Item → Reading
read_on octets None = record { octets = octets; over = 0; ended = false }
read_on octets (Some (whole message)) = record { octets = octets; over = 0; ended = false }
read_on octets (Some (too_long head)) =
    record { octets = octets; over = told octets - HEADER; ended = false }
read_on octets (Some broken) = record { octets = octets; over = 0; ended = true }

-- the reading after one more octet
unfoldable pub after : Reading → ℕ → Reading
after r octet =
    if r.ended then r
    else (if nat_lt 0 r.over then record r { over = r.over - 1 }
    else read_on (begun r.octets ++ octet ∷ []) (judged (begun r.octets ++ octet ∷ [])))

unfoldable pub item_at : Reading → ℕ → Option Item
item_at r octet =
    if r.ended then None
    else (if nat_lt 0 r.over then None else judged (begun r.octets ++ octet ∷ []))

-- the reading after all octets of a piece
abbrev pub reading_after : Reading → List ℕ → Reading
reading_after r [] = r
reading_after r (octet ∷ octets) = reading_after (after r octet) octets

abbrev pub items_in : Reading → List ℕ → List Item
items_in r [] = []
items_in r (octet ∷ octets) = option_to_list (item_at r octet) ++ items_in (after r octet) octets

-- the items of a stream in pieces
abbrev pub items_of_pieces : Reading → List (List ℕ) → List Item
items_of_pieces r [] = []
items_of_pieces r (piece ∷ pieces) =
    items_in r piece ++ items_of_pieces (reading_after r piece) pieces

-- an item as the code reports it: by a word, and by the octets
abbrev pub item_told : Heard → List ℕ → Option Item
item_told heard.Nothing octets = None
item_told heard.Message octets = Some (whole octets)
item_told heard.TooLong octets = Some (too_long octets)
item_told heard.Broken octets = Some broken

-- After a header there are no more octets than its length says, and that is within the limit.
abbrev pub IsWithin : List ℕ → Type 0
IsWithin octets =
    HEADER < length octets → (length octets ≤ told octets) × (told octets ≤ MOST)

pub record IsReading (r : Reading) : Type 0 where
  pub within : IsWithin r.octets
  pub begins : 0 < r.over → begun r.octets ≡ []
