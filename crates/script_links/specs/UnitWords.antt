-- Signal units in words, as `out` prints them. The octets of a message follow `sio` and `sif` in
-- hexadecimal digits.
use Rattle.std.specs.Prelude.{ℕ, ◌+◌, ◌*◌, ◌==◌, nat_le, ◌&&◌, if◌then◌else◌, List, [], ◌∷◌, ◌++◌}
use Rattle.std.specs.Prelude.{length, Option, None, Some, option_map, option_and_then, codes}
use Rattle.std.specs.Str.{bytes_eq}
use Rattle.su_octets.specs.Frame.{length_indicator}
use Rattle.su_octets.specs.StatusNames.{STATUS_NAMES}
use Rattle.script_lines.specs.Numbers.{count_of}
use Rattle.script_links.specs.Octets.{octets_of}

abbrev pub up_to : ℕ → ℕ → Option ℕ
up_to most n = if nat_le n most then Some n else None

-- A count that is at most this number.
abbrev pub number_to : ℕ → List ℕ → Option ℕ
number_to most word = option_and_then (up_to most) (count_of word)

-- An octet from a number of 7 bits and its highest bit (Q.703, 2.2).
abbrev pub octet_by : Option ℕ → Option ℕ → Option ℕ
octet_by None bit = None
octet_by (Some number) None = None
octet_by (Some number) (Some bit) = Some (number + 128 * bit)

-- `bsn`, the number, `bib`, the bit; or the forward ones, `fsn` and `fib`.
abbrev pub half_of : List ℕ → List ℕ → List ℕ → List ℕ → List ℕ → List ℕ → Option ℕ
half_of numbers bits first number second bit =
    if bytes_eq first numbers && bytes_eq second bits then
    octet_by (number_to 127 number) (number_to 1 bit)
    else None

-- The index of the first of these names that equals the word, counted from n.
abbrev pub place_from : ℕ → List ℕ → List (List ℕ) → Option ℕ
place_from n word [] = None
place_from n word (name ∷ names) =
    if bytes_eq word name then Some n else place_from (n + 1) word names

-- A status by its name, or by its code if it has no name (Q.703, 11.1.3).
abbrev pub status_of : List ℕ → Option ℕ
status_of word = place_from 0 word STATUS_NAMES

-- The octets after the length indicator of an LSSU, and of an MSU (Q.703, 2.2).
abbrev pub status_body : Option ℕ → Option (List ℕ)
status_body status = option_map (λ s. s ∷ []) status

abbrev pub message_body : Option (List ℕ) → Option (List ℕ) → Option (List ℕ)
message_body None sif = None
message_body (Some sio) None = None
message_body (Some sio) (Some sif) =
    if length sio == 1 && nat_le 2 (length sif) && nat_le (length sif) 272 then Some (sio ++ sif)
    else None

abbrev pub fisu_body : List ℕ → Option (List ℕ)
fisu_body kind = if bytes_eq kind (codes "FISU") then Some [] else None

abbrev pub lssu_body : List ℕ → List ℕ → List ℕ → Option (List ℕ)
lssu_body kind name status =
    if bytes_eq kind (codes "LSSU") && bytes_eq name (codes "status") then
    status_body (status_of status)
    else None

abbrev pub msu_body : List ℕ → List ℕ → List ℕ → List ℕ → List ℕ → Option (List ℕ)
msu_body kind first sio second sif =
    if bytes_eq kind (codes "MSU") && bytes_eq first (codes "sio") && bytes_eq second (codes "sif")
    then message_body (octets_of sio) (octets_of sif)
    else None

-- The octets after the length indicator, from the kind and the words after the sequence numbers.
abbrev pub body_of : List ℕ → List (List ℕ) → Option (List ℕ)
body_of kind [] = fisu_body kind
body_of kind (name ∷ status ∷ []) = lssu_body kind name status
body_of kind (first ∷ sio ∷ second ∷ sif ∷ []) = msu_body kind first sio second sif
body_of kind _ = None

-- The octets of a unit without its check octets.
abbrev pub with_head : Option ℕ → Option ℕ → Option (List ℕ) → Option (List ℕ)
with_head None forward body = None
with_head (Some back) None body = None
with_head (Some back) (Some forward) None = None
with_head (Some back) (Some forward) (Some body) =
    Some (back ∷ forward ∷ length_indicator (length body) ∷ body)

-- The kind, `bsn N bib B fsn N fib B`, and the further words of a unit of that kind.
abbrev pub unit_of_words : List (List ℕ) → Option (List ℕ)
unit_of_words (kind ∷ a ∷ b ∷ c ∷ d ∷ e ∷ f ∷ g ∷ h ∷ more) =
    with_head (half_of (codes "bsn") (codes "bib") a b c d)
    (half_of (codes "fsn") (codes "fib") e f g h) (body_of kind more)
unit_of_words _ = None
