-- The octets sent: the stuffing of the units that a terminal returns, and 1s if it returns none.
use Rattle.std.specs.Prelude.{◌≡◌, ℕ, ◌<◌, ◌≤◌, true, List, [], ◌∷◌, ◌++◌, replicate, None, Some}
use Rattle.su_octets.specs.Bits.{bits_of}
use Rattle.su_octets.specs.Frame.{Frame, SpareBitsAreZero}
use Rattle.su_octets.specs.declared.units.Unit as units
use Rattle.bit_line.specs.Sending.{line_of}
use Rattle.bit_line.specs.Stuffers.{Gave}
use Rattle.bit_line.specs.declared.stuffer.Stuffer.{Stuffer}
use Rattle.line_filter.specs.Acts.{Act, asked}

-- The bits stuffed so far, and the complete octets still to be sent.
pub record Voice : Type 0 where
  pub sending : Stuffer
  pub ready : List ℕ

-- Nothing was sent.
pub record IsSilent (v : Voice) : Type 0 where
  pub sending : Gave [] [] v.sending
  pub ready : v.ready ≡ []

-- A unit is stuffed after the units before it; these octets are then complete.
pub record Stuffs (old : Stuffer) (unit : units.Unit) (octets : List ℕ) (new : Stuffer) :
    Type 0 where
  pub frame : List ℕ
  pub is_frame : Frame frame unit
  pub spare : SpareBitsAreZero frame
  pub gave : (given : List ℕ) (sent : List (List ℕ)) → Gave given sent old
      → Gave (given ++ octets) (sent ++ frame ∷ []) new

-- 1s complete the octet that the units before it fill in part; then the line begins anew.
pub record Fills (old : Stuffer) (octet : ℕ) (new : Stuffer) : Type 0 where
  pub ones : ℕ
  pub some : 0 < ones
  pub few : ones ≤ 8
  pub bits : (given : List ℕ) (sent : List (List ℕ)) → Gave given sent old
      → bits_of (given ++ octet ∷ []) ≡ line_of sent ++ replicate ones true
  pub anew : Gave [] [] new

-- The next octet sent. The terminal is asked for a unit only if the last octet was the last
-- complete one of its unit.
pub data Gives {T : Type 0} (acts : T → Act → T
    → Type 0) (t : T) (v : Voice) (octet : ℕ) (u : T) (w : Voice) : Type 0 where
  fixed : v.ready ≡ octet ∷ w.ready → w.sending ≡ v.sending → u ≡ t → Gives acts t v octet u w
  fresh : (unit : units.Unit) → v.ready ≡ [] → acts t (asked (Some unit)) u
      → Stuffs v.sending unit (octet ∷ w.ready) w.sending
      → Gives acts t v octet u w
  silent : v.ready ≡ [] → acts t (asked None) u → w.ready ≡ [] → Fills v.sending octet w.sending
      → Gives acts t v octet u w
