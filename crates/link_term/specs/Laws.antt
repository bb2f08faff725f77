-- Laws over every list of octets.
use Rattle.std.specs.Prelude.{◌≡◌, ℕ, Bool, List, [], ◌++◌}
use Rattle.resend_store.specs.declared.messages.Msu.{Msu}
use Rattle.bit_line.specs.declared.events.LineEvent.{LineEvent}
use Rattle.link_processes.specs.declared.processes.Processes.{Processes}
use Rattle.link_transceiver.specs.Laws.{Loses, accepted_of, acknowledged_of}
use Rattle.link_term.specs.Term.{Term}
use Rattle.link_term.specs.Hearing.{Reads, as_unit, as_error, AreTaken, nothing, unit, errored}
use Rattle.link_term.specs.Hearing.{sixteen, Hears, silent, octet, Heard}

abbrev pub CuttingsAgree : Type 0
CuttingsAgree = (t m u : Term) (xs ys : List ℕ) → Heard t xs m → Heard m ys u → Heard t (xs ++ ys) u

-- the messages that the receiver accepts along the octets of a line, in order
abbrev pub accepted_read : {octets : List ℕ} {t u : Processes} → Reads octets t u → List Msu
accepted_read (as_unit octets x t frame) = accepted_of t.transceiver x
accepted_read (as_error octets t none) = []

abbrev pub accepted_taken :
    {events : List LineEvent} {t u : Processes} → AreTaken events t u → List Msu
accepted_taken (nothing t) = []
accepted_taken (unit octets left t u v read taken) = accepted_read read ++ accepted_taken taken
accepted_taken (errored left t v taken) = accepted_taken taken
accepted_taken (sixteen left t v taken) = accepted_taken taken

abbrev pub accepted_along :
    {bits : List Bool} {all now : List LineEvent} {t u : Processes} {octets : List ℕ}
    → Hears bits all t octets now u → List Msu
accepted_along (silent bits all t) = []
accepted_along (octet bits all given t u v first octets now on room are taken counts hears) =
    accepted_taken taken ++ accepted_along hears

abbrev pub Delivers : Type 0
Delivers = (bits : List Bool) (all now : List LineEvent) (t u : Processes) (octets : List ℕ)
    (h : Hears bits all t octets now u)
    → u.transceiver.messages ≡ t.transceiver.messages ++ accepted_along h

-- the messages that the units along the octets of a line acknowledge, in order
abbrev pub acknowledged_read : {octets : List ℕ} {t u : Processes} → Reads octets t u → List Msu
acknowledged_read (as_unit octets x t frame) = acknowledged_of t.transceiver x
acknowledged_read (as_error octets t none) = []

abbrev pub acknowledged_taken :
    {events : List LineEvent} {t u : Processes} → AreTaken events t u → List Msu
acknowledged_taken (nothing t) = []
acknowledged_taken (unit octets left t u v read taken) =
    acknowledged_read read ++ acknowledged_taken taken
acknowledged_taken (errored left t v taken) = acknowledged_taken taken
acknowledged_taken (sixteen left t v taken) = acknowledged_taken taken

abbrev pub acknowledged_along :
    {bits : List Bool} {all now : List LineEvent} {t u : Processes} {octets : List ℕ}
    → Hears bits all t octets now u → List Msu
acknowledged_along (silent bits all t) = []
acknowledged_along (octet bits all given t u v first octets now on room are taken counts hears) =
    acknowledged_taken taken ++ acknowledged_along hears

-- Exactly those leave the messages held for sending.
abbrev pub StaysKept : Type 0
StaysKept =
    (bits : List Bool) (all now : List LineEvent) (t u : Processes) (octets : List ℕ)
    (h : Hears bits all t octets now u)
    → Loses (acknowledged_along h) t.transceiver.sender u.transceiver.sender
