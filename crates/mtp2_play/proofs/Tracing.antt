-- An end of a link with a trace acts on its line as one without.
use Rattle.std.proofs.Common.{◌≡◌, ℕ, List, Option, subst, sym}
use Rattle.line_filter.specs.Orders.{Timed}
use Rattle.line_filter.specs.Filters.{IsOver, IsBegun, Streams, Line}
use Rattle.line_filter.specs.Runs.{State}
use Rattle.line_filter.specs.declared.desk.Desk.{Desk}
use Rattle.line_filter.specs.declared.filter.Bits.{Bits}
use Rattle.line_play.specs.Lines.{end_acts}
use Rattle.link_term.specs.Term.{Term}
use Rattle.line_play.specs.declared.link.end.LinkEnd.{LinkEnd}
use Rattle.mtp2_play.specs.Spoken.{AreGiven, ordered_by}
use Rattle.mtp2_play.specs.TracedEnds.{traced_acts}
use Rattle.mtp2_play.specs.declared.line.traces.TracedEnd.{TracedEnd}
use Rattle.mtp2_play.proofs.Mapped.{Maps, at, over, begun}

abbrev pub end_of : {W : Type 0} → TracedEnd W → LinkEnd
end_of t = t.end

-- the desk of the end without its trace
abbrev pub bare : {W O P : Type 0} → Desk (TracedEnd W) O P → Desk LinkEnd O P
bare d = record { terminal = d.terminal.end; voice = d.voice; orders = d.orders; reports = d.reports; count = d.count }

acts_alone : {W : Type 0} (contents : W → Option (List ℕ)) → Maps end_of (traced_acts contents) end_acts
acts_alone contents a e b x = x.0

pub over_alone : {W : Type 0} (contents : W → Option (List ℕ)) (bits : Bits) (ahead count : ℕ) (s : State (TracedEnd W)) (next : ℕ) (t : State (TracedEnd W)) (old new : Streams)
    → IsOver (traced_acts contents) bits ahead count s next t old new → IsOver end_acts bits ahead count (at end_of s) next (at end_of t) old new
over_alone contents bits ahead count s next t old new x =
    over end_of (traced_acts contents) end_acts (acts_alone contents) bits ahead count s next t old new x

pub begun_alone : {W : Type 0} (contents : W → Option (List ℕ)) (bits : Bits) (ahead count : ℕ) (s : State (TracedEnd W)) (old new : Line)
    → IsBegun (traced_acts contents) bits ahead count s old new → IsBegun end_acts bits ahead count (at end_of s) old new
begun_alone contents bits ahead count s old new x = begun end_of (traced_acts contents) end_acts (acts_alone contents) bits ahead count s old new x

-- a desk has the orders that it was made with
pub given_to : {A O : Type 0} (orders : Option A) (known : O → Option (List ℕ)) (one other : O) → other ≡ one → AreGiven orders (known one) → AreGiven orders (known other)
given_to {O = O} orders known one other same given =
    let P : O → Type 0 = λ o. AreGiven orders (known o) in
    subst P (sym same) given

pub ordered_to : {O : Type 0} (left : O → Option (List Timed)) (known : O → Option (List ℕ)) (one other : O) → other ≡ one → left one ≡ ordered_by (known one)
    → left other ≡ ordered_by (known other)
ordered_to {O = O} left known one other same ordered =
    let P : O → Type 0 = λ o. left o ≡ ordered_by (known o) in
    subst P (sym same) ordered

-- a desk has the terminal of its end
pub terminal_of : {W : Type 0} (one other : TracedEnd W) (term : Term) → other ≡ one → one.end.terminal ≡ term → other.end.terminal ≡ term
terminal_of {W = W} one other term same is =
    let P : TracedEnd W → Type 0 = λ t. t.end.terminal ≡ term in
    subst P (sym same) is
