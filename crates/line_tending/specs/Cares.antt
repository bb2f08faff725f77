-- The state that is kept of each link, and how it changes.
use Rattle.std.specs.Prelude.{ℕ, ◌+◌, ◌-◌, ◌^◌, ◌%◌, ◌==◌, ◌&&◌, ◌||◌, nat_le, not, Bool, true}
use Rattle.std.specs.Prelude.{false, if◌then◌else◌, min, max, Option, Some, None, is_some, is_none}
use Rattle.link_group.specs.Moving.{hand_count}
use Rattle.link_group.specs.Tables.{changing_by}
use Rattle.link_group.specs.declared.link.Link.{Link}
use Rattle.group_changeover.specs.Saying.{is_order as is_kind_order}
use Rattle.group_changeover.specs.declared.changeover.Kind.{Kind}
use Rattle.group_changeover.specs.declared.changeover.Kind.TheVariants as kind
use Rattle.line_tending.specs.declared.link_duty.LinkDuty.{LinkDuty}
use Rattle.line_tending.specs.declared.link_duty.Owed.{Owed}
use Rattle.line_tending.specs.declared.link_duty.Testing.{Testing}
use Rattle.line_tending.specs.declared.link_duty.Urgency.{Urgency}
use Rattle.line_tending.specs.declared.link_duty.Urgency.TheVariants.{Open, Emergency, Calm}
use Rattle.line_tending.specs.declared.link_duty.Testing.TheVariants.{Rests}

-- Q.704's T2 and T17, in ticks
abbrev pub PATIENCE : ℕ
PATIENCE = 1400

abbrev pub REST : ℕ
REST = 1000

abbrev pub LAST : ℕ
LAST = 2 ^ 64 - 1

-- A later tick; it stays at its greatest value.
abbrev pub later : ℕ → ℕ → ℕ
later now ticks = min LAST (now + ticks)

-- Whether a message is an order, and whether it waits for a link by which to be sent.
abbrev pub is_order : Owed → Bool
is_order o = is_kind_order o.kind

abbrev pub waits : Owed → Bool
waits o = is_none o.by

-- The state before any event.
abbrev pub new_care : LinkDuty
new_care = record {
  powered = false;
  wanted = false;
  serves = false;
  served = false;
  started = false;
  renewed = false;
  stopping = false;
  rested = 0;
  due = None;
  urgency = Open;
  urgent = false;
  patience = PATIENCE;
  owed = None;
  test = Rests 0;
  tests = 0;
  handed = 0;
}

-- It comes into service: its test begins now. A message owed about it is dropped, since its
-- sequence numbers are no longer valid.
unfoldable pub risen : ℕ → LinkDuty → LinkDuty
risen now c =
    record c { serves = true; served = true; urgent = false; owed = None; test = Rests now }

abbrev pub due_if : Bool → ℕ → Option ℕ
due_if true at = Some at
due_if false at = None

-- It goes down: if it is to be in service, its Start falls due 1,000 ticks later.
unfoldable pub fallen : ℕ → LinkDuty → LinkDuty
fallen now c = record c {
  serves = false;
  started = false;
  stopping = false;
  urgent = false;
  rested = later now REST;
  due = due_if c.wanted (later now REST);
}

-- It is to be in service: its Start falls due now, but not before 1,000 ticks after its last Down.
unfoldable pub desired : ℕ → LinkDuty → LinkDuty
desired now c = record c {
  wanted = true;
  due = if c.serves || c.started then c.due else Some (max now c.rested);
}

unfoldable pub let_be : LinkDuty → LinkDuty
let_be c = record c { wanted = false; due = None }

-- its changeover begins
abbrev pub changing : LinkDuty → LinkDuty
changing c = record c { renewed = false; patience = PATIENCE }

abbrev pub stopped : Bool → LinkDuty → LinkDuty
stopped stopping c = record c { stopping = stopping }

abbrev pub handed_out : ℕ → LinkDuty → LinkDuty
handed_out count c = record c { handed = count }

abbrev pub tested : Testing → LinkDuty → LinkDuty
tested test c = record c { test = test }

-- One more test of it was sent; the number has 16 bits.
abbrev pub numbered : LinkDuty → LinkDuty
numbered c = record c { tests = (c.tests + 1) % 2 ^ 16 }

abbrev pub owing : Option Owed → LinkDuty → LinkDuty
owing owed c = record c { owed = owed }

-- Its changeover goes on, and its messages aren't retrieved.
abbrev pub is_open_by : Option Link → Bool
is_open_by k = changing_by k && is_none (hand_count k)

-- The message owed about a link one tick later. It is owed for 1,400 ticks, counting those in which
-- another link would take it. An order that waits is owed while the changeover waits for an answer,
-- not once the link's messages only wait for diversion.
abbrev pub left_on : Bool → Owed → ℕ
left_on is_taken o = if is_taken then o.left - 1 else o.left

abbrev pub is_over : Bool → Bool → Owed → Bool
is_over is_taken is_open o =
    (left_on is_taken o == 0) || (is_order o && (waits o && not is_open))

abbrev pub owed_by : Bool → Bool → Option Owed → Option Owed
owed_by is_taken is_open None = None
owed_by is_taken is_open (Some o) =
    if is_over is_taken is_open o then None else Some (record o { left = left_on is_taken o })

unfoldable pub owed_on : Bool → Bool → LinkDuty → Option Owed
owed_on is_taken is_open c = owed_by is_taken is_open c.owed

-- Its messages were reported as unsure: nothing is owed about it.
abbrev pub given_up : LinkDuty → LinkDuty
given_up c = record c { owed = None }

-- It was started: its Start is no longer due, and nothing is owed about its earlier service.
abbrev pub begun : LinkDuty → LinkDuty
begun c = record c { started = true; renewed = true; due = None; owed = None }

-- COO and COA contain a number; ECO and ECA don't.
abbrev pub is_numbered : Kind → Bool
is_numbered (kind.Order accepted) = true
is_numbered (kind.Acknowledgement accepted) = true
is_numbered kind.EmergencyOrder = false
is_numbered kind.EmergencyAcknowledgement = false

-- From its start until its next changeover begins here, no number is sent about a link.
abbrev pub may_say : LinkDuty → Kind → Bool
may_say c k = not (c.renewed && is_numbered k)

abbrev pub without_number : Kind → Kind
without_number (kind.Order accepted) = kind.EmergencyOrder
without_number (kind.Acknowledgement accepted) = kind.EmergencyAcknowledgement
without_number kind.EmergencyOrder = kind.EmergencyOrder
without_number kind.EmergencyAcknowledgement = kind.EmergencyAcknowledgement

-- The message to send about it instead of this.
abbrev pub spoken : LinkDuty → Kind → Kind
spoken c k = if c.renewed then without_number k else k

-- It starts as an emergency if that was ordered, or if nothing was ordered and no other link is in
-- service.
abbrev pub is_emergency_by : Bool → Urgency → Bool
is_emergency_by another_serves Open = not another_serves
is_emergency_by another_serves Emergency = true
is_emergency_by another_serves Calm = false

abbrev pub is_emergency : Bool → LinkDuty → Bool
is_emergency another_serves c = is_emergency_by another_serves c.urgency

-- An emergency has to be declared for its start: it starts as one, and none was declared.
abbrev pub lacks_emergency : Bool → LinkDuty → Bool
lacks_emergency another_serves c = not c.urgent && is_emergency another_serves c

-- Its declared emergency ends once another link carries messages, unless it was ordered.
abbrev pub is_eased_by : Bool → Bool → Urgency → Bool
is_eased_by another_carries urgent Open = urgent && another_carries
is_eased_by another_carries urgent Emergency = false
is_eased_by another_carries urgent Calm = urgent && another_carries

abbrev pub is_eased : Bool → LinkDuty → Bool
is_eased another_carries c = is_eased_by another_carries c.urgent c.urgency

abbrev pub urged : Bool → LinkDuty → LinkDuty
urged urgent c = record c { urgent = urgent }

-- A tick passed in which the answer of its changeover could arrive.
abbrev pub waited : LinkDuty → LinkDuty
waited c = record c { patience = c.patience - 1 }

-- It is coming into service: it was started, or its Start is pending and allowed.
abbrev pub is_coming : Bool → LinkDuty → Bool
is_coming may_start c = c.started || (may_start && is_some c.due)

abbrev pub due_by : LinkDuty → ℕ → Option ℕ → Option ℕ
due_by c now None = None
due_by c now (Some due) =
    if nat_le due now && (c.wanted && (c.powered && not c.started)) then Some due else None

-- The tick since which its Start has been due.
unfoldable pub is_due : ℕ → LinkDuty → Option ℕ
is_due now c = due_by c now c.due
