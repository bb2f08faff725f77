-- Messages that must be sent on the link to which they are given: those of changeover, changeback
-- and traffic restart (Q.704, 15.4 to 15.6), and tests of a link (Q.707).
use Rattle.std.specs.Prelude.{ℕ, ◌/◌, ◌%◌, ◌==◌, ◌&&◌, ◌||◌, nat_lt, Bool, false, not}
use Rattle.std.specs.Prelude.{
  if◌then◌else◌,
  Option,
  Some,
  None,
  List,
  [],
  ◌∷◌,
  length,
  drop,
  filter,
}
use Rattle.resend_store.specs.declared.messages.Msu.{Msu}
use Rattle.group_changeover.specs.declared.labels.Label.{Label}
use Rattle.group_changeover.specs.declared.bound.Points.{Points}
use Rattle.group_changeover.specs.Labels.{label_in}

-- ECO 12 and ECA 22 (hexadecimal), TRA 17
abbrev pub is_short : ℕ → Bool
is_short heading = heading == 18 || (heading == 34 || heading == 23)

-- COO 11 and COA 21, CBD 51 and CBA 61
abbrev pub is_long : ℕ → Bool
is_long heading = heading == 17 || (heading == 33 || (heading == 81 || heading == 97))

-- SLTM 11 and SLTA 21
abbrev pub is_testing : ℕ → Bool
is_testing heading = heading == 17 || heading == 33

-- after the label: a heading, and in some messages an octet
abbrev pub is_management : List ℕ → Bool
is_management [] = false
is_management (heading ∷ []) = is_short heading
is_management (heading ∷ octet ∷ []) = is_long heading
is_management (heading ∷ octet ∷ more ∷ others) = false

-- a heading, an octet with the length of the pattern in its upper four bits, and the pattern
abbrev pub is_test : List ℕ → Bool
is_test [] = false
is_test (heading ∷ []) = false
is_test (heading ∷ octet ∷ pattern) =
    is_testing heading && (nat_lt 0 (length pattern) && octet / 16 == length pattern)

-- the octets after the label, by the service indicator
abbrev pub is_content : ℕ → List ℕ → Bool
is_content indicator octets =
    if indicator == 0 then is_management octets
    else (if indicator == 1 then is_test octets else false)

-- the label leads from this point to the other
abbrev pub goes_between : Points → Option Label → Bool
goes_between p None = false
goes_between p (Some label) = label.dpc == p.peer && label.opc == p.own

-- a message, as service information octet and field
unfoldable pub is_bound_by : Points → ℕ → List ℕ → Bool
is_bound_by p sio sif = goes_between p (label_in sif) && is_content (sio % 16) (drop 4 sif)

abbrev pub is_bound : Points → Msu → Bool
is_bound p m = is_bound_by p m.sio m.sif.items

-- the messages that aren't bound, in order
unfoldable pub unbound : Points → List Msu → List Msu
unbound p ms = filter (λ m. not (is_bound p m)) ms
