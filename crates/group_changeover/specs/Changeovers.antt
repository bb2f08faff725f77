-- The messages of changeover (Q.704, 15.4).
use Rattle.std.specs.Prelude.{◌≡◌, ℕ, ◌%◌, ◌<◌, Some, List, [], ◌∷◌, drop}
use Rattle.group_changeover.specs.declared.changeover.Changeover.{Changeover}
use Rattle.group_changeover.specs.declared.changeover.Kind.{Kind}
use Rattle.group_changeover.specs.declared.changeover.Kind.TheVariants.{Order, Acknowledgement}
use Rattle.group_changeover.specs.declared.changeover.Kind.TheVariants.{EmergencyOrder}
use Rattle.group_changeover.specs.declared.changeover.Kind.TheVariants.{EmergencyAcknowledgement}
use Rattle.group_changeover.specs.Labels.{label_in}

-- after the label: the heading octet (COO 0x11, COA 0x21, ECO 0x12, ECA 0x22), and in COO and COA
-- the number of the last message accepted
abbrev pub behind_label : Kind → List ℕ
behind_label (Order accepted) = 17 ∷ accepted ∷ []
behind_label (Acknowledgement accepted) = 33 ∷ accepted ∷ []
behind_label EmergencyOrder = 18 ∷ []
behind_label EmergencyAcknowledgement = 34 ∷ []

-- a forward sequence number has 7 bits
abbrev pub IsKind : Kind → Type 0
IsKind (Order accepted) = accepted < 128
IsKind (Acknowledgement accepted) = accepted < 128
IsKind EmergencyOrder = Unit {0}
IsKind EmergencyAcknowledgement = Unit {0}

-- In a received message the spare bit of the number's octet is ignored.
abbrev pub without_spare : List ℕ → List ℕ
without_spare [] = []
without_spare (heading ∷ []) = heading ∷ []
without_spare (heading ∷ number ∷ []) = heading ∷ number % 128 ∷ []
without_spare (heading ∷ number ∷ more ∷ others) = heading ∷ number ∷ more ∷ others

-- Octets are exactly those of a message, except for the spare bit.
pub record Reads (octets : List ℕ) (m : Changeover) : Type 0 where
  pub kind : IsKind m.kind
  pub label : label_in octets ≡ Some m.label
  pub rest : without_spare (drop 4 octets) ≡ behind_label m.kind

-- octets are exactly those of a message
pub record Says (octets : List ℕ) (m : Changeover) : Type 0 where
  pub kind : IsKind m.kind
  pub label : label_in octets ≡ Some m.label
  pub rest : drop 4 octets ≡ behind_label m.kind
