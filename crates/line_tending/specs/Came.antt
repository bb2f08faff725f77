-- What a received message is to a set.
use Rattle.std.specs.Prelude.{ℕ, ◌==◌, ◌/◌, ◌%◌, ◌&&◌, nat_lt, Bool, if◌then◌else◌, List, [], ◌∷◌}
use Rattle.std.specs.Prelude.{Option, Some, None, drop, length}
use Rattle.resend_store.specs.declared.messages.Msu.{Msu}
use Rattle.group_changeover.specs.declared.bound.Points.{Points}
use Rattle.group_changeover.specs.declared.labels.Label.{Label}
use Rattle.group_changeover.specs.declared.changeover.Kind.TheVariants as kind
use Rattle.group_changeover.specs.Bound.{is_bound}
use Rattle.group_changeover.specs.Labels.{label_in}
use Rattle.line_tending.specs.declared.came.Came.{Came}
use Rattle.line_tending.specs.declared.came.Came.TheVariants.{Message, Changeover, Declaration}
use Rattle.line_tending.specs.declared.came.Came.TheVariants.{Test, Answer, Own}
use Rattle.line_tending.specs.declared.ends.Ends.{Ends}

-- The label leads from the other point to this one.
abbrev pub comes_between : Ends → Label → Bool
comes_between e label = label.dpc == e.own && label.opc == e.peer

-- The message with only a heading: ECO 18, ECA 34.
abbrev pub by_heading : ℕ → ℕ → Came
by_heading link heading =
    if heading == 18 then Changeover link kind.EmergencyOrder
    else (if heading == 34 then Changeover link kind.EmergencyAcknowledgement else Message)

-- A heading and an octet: COO 17 and COA 33 with the number of the last accepted message, whose
-- spare bit is ignored; a changeback declaration 81 with its code.
abbrev pub by_pair : ℕ → ℕ → ℕ → Came
by_pair link heading octet =
    if heading == 17 then Changeover link (kind.Order (octet % 128))
    else (if heading == 33 then Changeover link (kind.Acknowledgement (octet % 128))
    else (if heading == 81 then Declaration link octet else Message))

abbrev pub management_in : ℕ → List ℕ → Came
management_in link [] = Message
management_in link (heading ∷ []) = by_heading link heading
management_in link (heading ∷ octet ∷ []) = by_pair link heading octet
management_in link (heading ∷ octet ∷ more ∷ others) = Message

-- A test or its answer, if the pattern has the stated length.
abbrev pub test_by : ℕ → ℕ → Bool → Came
test_by link heading whole =
    if heading == 17 && whole then Test link
    else (if heading == 33 && whole then Answer link else Message)

abbrev pub test_in : ℕ → List ℕ → Came
test_in link [] = Message
test_in link (heading ∷ []) = Message
test_in link (heading ∷ octet ∷ pattern) =
    test_by link heading (nat_lt 0 (length pattern) && octet / 16 == length pattern)

abbrev pub content_in : ℕ → ℕ → List ℕ → Came
content_in indicator link content =
    if indicator == 0 then management_in link content
    else (if indicator == 1 then test_in link content else Message)

-- The message is of the set's own network, by its network indicator.
abbrev pub is_of : Ends → Msu → Bool
is_of e m = m.sio / 64 == e.network

abbrev pub points_of : Ends → Points
points_of e = record { own = e.own; peer = e.peer }

-- The message is one that only this end sends by a link: the link's line leads back here.
abbrev pub comes_back : Ends → Msu → Bool
comes_back e m = is_bound (points_of e) m

abbrev pub came_within : Ends → Msu → Label → List ℕ → Came
came_within e m label content =
    if comes_between e label then content_in (m.sio % 16) label.sls content
    else (if comes_back e m then Own else Message)

abbrev pub came_by : Ends → Msu → Option Label → Came
came_by e m None = Message
came_by e m (Some label) = came_within e m label (drop 4 m.sif.items)

-- Other messages, those not between these points, and those of another network are for level 3.
unfoldable pub came : Ends → Msu → Came
came e m = if is_of e m then came_by e m (label_in m.sif.items) else Message
