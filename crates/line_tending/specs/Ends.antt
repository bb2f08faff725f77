-- The messages that a set sends itself: changeover, changeback and traffic restart (Q.704, 15.4,
-- 15.5, 15.16), and link tests (Q.707, 2.2).
use Rattle.std.specs.Prelude.{◌≡◌, ℕ, ◌+◌, ◌*◌, ◌<◌, ◌^◌, List, [], ◌∷◌, ◌++◌, Some, drop}
use Rattle.resend_store.specs.declared.messages.Msu.{Msu}
use Rattle.group_changeover.specs.Labels.{label_in}
use Rattle.line_tending.specs.declared.ends.Ends.{Ends}

-- Point codes have 14 bits, the network indicator 2.
pub record AreEnds (e : Ends) : Type 0 where
  pub own : e.own < 2 ^ 14
  pub peer : e.peer < 2 ^ 14
  pub network : e.network < 4

-- A message from this point to the other about this link, with this service indicator and these
-- octets after its label.
pub record IsAbout (e : Ends) (indicator link : ℕ) (content : List ℕ) (m : Msu) : Type 0 where
  pub sio : m.sio ≡ e.network * 64 + indicator
  pub label : label_in m.sif.items ≡ Some (record { dpc = e.peer; opc = e.own; sls = link })
  pub content_is : drop 4 m.sif.items ≡ content

-- service indicators
abbrev pub MANAGEMENT : ℕ
MANAGEMENT = 0

abbrev pub TESTING : ℕ
TESTING = 1

-- After the label, in decimal: changeback acknowledgement 97 with the received code; traffic
-- restart allowed 23; a test 17 with its length (the upper half of an octet) and four octets; a
-- test's answer 33 with the octets after the test's heading.
abbrev pub back_declared : ℕ → List ℕ
back_declared code = 97 ∷ code ∷ []

abbrev pub restarting : List ℕ
restarting = 23 ∷ []

abbrev pub testing : List ℕ → List ℕ
testing pattern = 17 ∷ 64 ∷ pattern

abbrev pub answering : List ℕ → List ℕ
answering behind_heading = 33 ∷ behind_heading
