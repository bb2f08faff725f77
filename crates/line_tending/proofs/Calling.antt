-- How a set changes by no call, by one, and by calls in succession.
use Rattle.std.proofs.Common.{◌≡◌, ℕ, ◌<◌, Bool, true, List, [], ◌∷◌, ◌++◌, append-nil, append_assoc, Option, None, Some, refl, sym, subst}
use Rattle.std.specs.Prelude.{◌↔◌}
use Rattle.std.proofs.lemmas.Option.{none-some}
use Rattle.group_changeover.specs.Changeovers.{Reads}
use Rattle.resend_store.specs.declared.messages.Msu.{Msu}
use Rattle.su_octets.specs.declared.units.Unit.{Unit}
use Rattle.link_transceiver.specs.declared.signals.Report.{Report}
use Rattle.group_changeover.specs.Limits.{SELECTIONS}
use Rattle.group_changeover.specs.Sharing.{selection_of}
use Rattle.group_changeover.specs.Bound.{is_bound}
use Rattle.group_changeover.specs.declared.changeover.Changeover.{Changeover}
use Rattle.link_group.specs.Commanding.{Refused}
use Rattle.link_group.specs.Doing.{Listened, Sent, Reported}
use Rattle.link_group.specs.declared.commanding.CommandError.{CommandError}
use Rattle.link_group.specs.declared.commanding.CommandError.TheVariants as error
use Rattle.link_group.specs.Set.{LinkSet, points_of, send_fault, sent, bind_fault_at, bound_at}
use Rattle.link_group.specs.Changing.{fail_fault, after_failure, after_message, IsRead, retrieve_fault_at, after_retrieve, abandon_fault_at, after_abandon}
use Rattle.link_group.specs.Diverting.{after_divert}
use Rattle.link_group.specs.Placing.{rebalance_fault, rebalanced}
use Rattle.link_group.specs.Lines.{ByLink, ByCommand, Alone, after_admission, IsCommandError}
use Rattle.link_group.specs.Ticks.{after_ticks}
use Rattle.link_group.specs.declared.gone.Gone.{Gone}
use Rattle.link_group.specs.Reached.{Reached}
use Rattle.link_group.specs.Reached as calls
use Rattle.line_tending.specs.Calling.{Handed, IsQuiet, Delivers, no_call, quiet, one_report, Brought, ByCalls}
use Rattle.line_tending.specs.Calling as call

pub by_none : (p : LinkSet) → ByCalls p [] [] p
by_none p = record { brought = λ accepted b. subst (λ (xs : List Msu). Brought p xs) (sym (append-nil accepted)) b; delivers = no_call }

delivers_then : (p q r : LinkSet) (gs js : List Handed) → Delivers p gs q → Delivers q js r → Delivers p (gs ++ js) r
delivers_then p q _ gs _ first no_call = subst (λ (ks : List Handed). Delivers p ks q) (sym (append-nil gs)) first
delivers_then p q _ gs _ first (quiet {hs} {d} {e} before step) = quiet (delivers_then p q d gs hs first before) step
delivers_then p q _ gs _ first (one_report {hs} {d} {e} h before did) =
    subst (λ (ks : List Handed). Delivers p ks e) (append_assoc gs hs (h ∷ [])) (one_report h (delivers_then p q d gs hs first before) did)

pub by_then : (p q r : LinkSet) (xs ys : List Msu) (hs js : List Handed) → ByCalls p xs hs q → ByCalls q ys js r → ByCalls p (xs ++ ys) (hs ++ js) r
by_then p q r xs ys hs js h k = record {
  brought = λ accepted b. subst (λ (zs : List Msu). Brought r zs) (append_assoc accepted xs ys) (k.brought (accepted ++ xs) (h.brought accepted b));
  delivers = delivers_then p q r hs js h.delivers k.delivers;
}

-- Two steps in which no message is taken and no report delivered.
pub by_both : (p q r : LinkSet) → ByCalls p [] [] q → ByCalls q [] [] r → ByCalls p [] [] r
by_both p q r h k = by_then p q r [] [] [] [] h k

-- One more step in which none is taken and none delivered.
pub by_more : (p q r : LinkSet) (xs : List Msu) (hs : List Handed) → ByCalls p xs hs q → ByCalls q [] [] r → ByCalls p xs hs r
by_more p q r xs hs h k =
    subst (λ (ys : List Msu). ByCalls p ys hs r) (append-nil xs)
    (subst (λ (js : List Handed). ByCalls p (xs ++ []) js r) (append-nil hs) (by_then p q r xs [] hs [] h k))

brings : (c d : LinkSet) → ((accepted : List Msu) (gone : List Gone) → Reached c accepted gone → Brought d accepted)
    → (accepted : List Msu) → Brought c accepted → Brought d (accepted ++ [])
brings c d step accepted b = subst (λ (xs : List Msu). Brought d xs) (sym (append-nil accepted)) (step accepted b.gone b.reached)

by_one : (c d : LinkSet)
    → ((accepted : List Msu) (gone : List Gone) → Reached c accepted gone → Brought d accepted)
    → IsQuiet c d → ByCalls c [] [] d
by_one c d step is = record { brought = brings c d step; delivers = quiet no_call is }

pub by_same : (c d : LinkSet) → d ≡ c → ByCalls c [] [] d
by_same c d same = subst (λ (x : LinkSet). ByCalls c [] [] x) (sym same) (by_none c)

pub by_is : (c d e : LinkSet) → d ≡ e → ByCalls c [] [] e → ByCalls c [] [] d
by_is c d e is calls = subst (λ (x : LinkSet). ByCalls c [] [] x) (sym is) calls

pub by_sends : (c : LinkSet) (m : Msu) → send_fault c m ≡ None → selection_of m < SELECTIONS
    → ByCalls c (m ∷ []) [] (sent c m)
by_sends c m free small = record {
  brought = λ accepted b. record { gone = b.gone; reached = calls.sends c accepted b.gone m b.reached free small };
  delivers = quiet no_call (call.sends m free);
}

pub by_binds : (c : LinkSet) (l : ℕ) (m : Msu) → bind_fault_at c l ≡ None → is_bound (points_of c) m ≡ true
    → ByCalls c [] [] (bound_at c l m)
by_binds c l m free bound =
    by_one c (bound_at c l m) (λ accepted gone r. record { gone = gone; reached = calls.binds c accepted gone l m r free bound }) (call.binds l m free)

pub by_fails : (c : LinkSet) (l : ℕ) → fail_fault c l ≡ None → ByCalls c [] [] (after_failure c l)
by_fails c l free =
    by_one c (after_failure c l) (λ accepted gone r. record { gone = gone; reached = calls.fails c accepted gone l r free }) (call.fails l free)

-- The result of reading octets is the one that `Reads` defines.
pub is_read : (octets : List ℕ) (r : Option Changeover) → ((m : Changeover) → (r ≡ Some m) ↔ Reads octets m) → IsRead octets r
is_read octets None exact = λ m reads. none-some m ((exact m).1 reads)
is_read octets (Some m) exact = (exact m).0 refl

pub by_hears : (c : LinkSet) (m : Option Changeover) → ByCalls c [] [] (after_message c m)
by_hears c m =
    by_one c (after_message c m) (λ accepted gone r. record { gone = gone; reached = calls.hears c accepted gone m r }) (call.hears m)

pub by_retrieves : (c : LinkSet) (l : ℕ) → retrieve_fault_at c l ≡ None → ByCalls c [] [] (after_retrieve c l)
by_retrieves c l free =
    by_one c (after_retrieve c l) (λ accepted gone r. record { gone = _; reached = calls.retrieves c accepted gone l r free }) (call.retrieves l free)

pub by_abandons : (c : LinkSet) (l : ℕ) → abandon_fault_at c l ≡ None → ByCalls c [] [] (after_abandon c l)
by_abandons c l free =
    by_one c (after_abandon c l) (λ accepted gone r. record { gone = _; reached = calls.abandons c accepted gone l r free }) (call.abandons l free)

pub by_diverts : (c : LinkSet) (l : ℕ) → ByCalls c [] [] (after_divert c l)
by_diverts c l =
    by_one c (after_divert c l) (λ accepted gone r. record { gone = gone; reached = calls.diverts c accepted gone l r }) (call.diverts l)

pub by_rebalances : (c : LinkSet) → rebalance_fault c ≡ None → ByCalls c [] [] (rebalanced c)
by_rebalances c free =
    by_one c (rebalanced c) (λ accepted gone r. record { gone = gone; reached = calls.rebalances c accepted gone r free }) (call.rebalances free)

pub by_listens : (c d : LinkSet) (l : ℕ) (octets : List ℕ) (taken : ℕ) → ByLink (Listened octets taken) l c d
    → ByCalls c [] [] d
by_listens c d l octets taken did =
    by_one c d (λ accepted gone r. record { gone = _; reached = calls.listens c d accepted gone l octets taken r did }) (call.listens d l octets taken did)

pub by_gives : (c d : LinkSet) (l : ℕ) (unit : Option Unit) → ByLink (Sent unit) l c d → ByCalls c [] [] d
by_gives c d l unit did =
    by_one c d (λ accepted gone r. record { gone = gone; reached = calls.gives c d accepted gone l unit r did }) (call.gives d l unit did)

-- A link delivers a report.
pub by_reports : (c d : LinkSet) (h : Handed) → ByLink (Reported (Some h.report)) h.link c d → ByCalls c [] (h ∷ []) d
by_reports c d h did = record {
  brought = brings c d (λ accepted gone r. record { gone = gone; reached = calls.reports c d accepted gone h.link (Some h.report) r did });
  delivers = one_report h no_call did;
}

-- It has none.
pub by_asks : (c d : LinkSet) (l : ℕ) → ByLink (Reported None) l c d → ByCalls c [] [] d
by_asks c d l did =
    by_one c d (λ accepted gone r. record { gone = gone; reached = calls.reports c d accepted gone l None r did }) (call.asks d l did)

pub by_commands : (c d : LinkSet) (l : ℕ) (command : _) → ByCommand command l c d → ByCalls c [] [] d
by_commands c d l command did =
    by_one c d (λ accepted gone r. record { gone = _; reached = calls.commands c d accepted gone l command r did }) (call.commands d l command did)

pub by_refuses : (c d : LinkSet) (l : ℕ) (command : _) (refusal : _) → Alone (Refused command refusal) l c d
    → ByCalls c [] [] d
by_refuses c d l command refusal did =
    by_one c d (λ accepted gone r. record { gone = gone; reached = calls.refuses c d accepted gone l command refusal r did }) (call.refuses d l command refusal did)

-- A command that wasn't taken changes the set by no call.
pub by_command_error : (c d : LinkSet) (l : ℕ) (command : _) (e : CommandError) → IsCommandError command l c d e
    → ByCalls c [] [] d
by_command_error c d l command error.NoLink h = by_same c d h.1
by_command_error c d l command error.Waiting h = by_same c d h.1
by_command_error c d l command (error.Refused refusal) h = by_refuses c d l command refusal h
by_command_error c d l command error.NoMemory h = by_same c d h.1

pub by_ticks : (c : LinkSet) (n : ℕ) → ByCalls c [] [] (after_ticks n c)
by_ticks c n =
    by_one c (after_ticks n c) (λ accepted gone r. record { gone = gone; reached = calls.ticks c accepted gone n r }) (call.ticks n)

pub by_admits : (c : LinkSet) (l : ℕ) (way : Bool) → ByCalls c [] [] (after_admission c l way)
by_admits c l way =
    by_one c (after_admission c l way) (λ accepted gone r. record { gone = gone; reached = calls.admits c accepted gone l way r }) (call.admits l way)
