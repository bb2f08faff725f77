-- The run of a desk is the run of its terminal.
use Rattle.std.proofs.Common.{◌≡◌, ◌⊎◌, inl, inr, refl, subst, ℕ, List, Option, None}
use Rattle.std.specs.Prelude.{min}
use Rattle.link_term.specs.Term.{Term}
use Rattle.line_filter.specs.Desks.{state_of}
use Rattle.line_filter.specs.Filters.{MOST_AHEAD, Line, IsOver, IsBegun, Streams}
use Rattle.line_filter.specs.Orders.{Timed}
use Rattle.line_filter.specs.Speaking.{IsSilent}
use Rattle.line_filter.specs.declared.desk.Desk.{Desk}
use Rattle.line_filter.specs.declared.filter.Bits.{Bits}
use Rattle.script_check.specs.Checked.{IsGiven}
use Rattle.line_play.specs.Lines.{end_acts}
use Rattle.line_play.specs.Opening.{IsNewOver}
use Rattle.line_play.specs.declared.link.end.LinkEnd.{LinkEnd}
use Rattle.line_filter.specs.Reporting.{Stand}
use Rattle.mtp2_play.specs.Spoken.{chosen_by, AreGiven, ordered_by, SpokeBy, Spoke, SpokeOver, Begun, BegunOver, IsUntouched}
use Rattle.mtp2_words.specs.declared.ends.LineEnd.{LineEnd}

pub spoke : {O P : Type 0} (octets : Option (List ℕ)) (left : O → Option (List Timed)) (bits : Bits) (ahead count : ℕ) (old new : Desk LinkEnd O P) (before after : Streams)
    → old.terminal.held ≡ None → IsSilent old.voice → left old.orders ≡ ordered_by octets → old.count ≡ 0
    → IsOver end_acts bits ahead old.count (state_of left old) count (state_of left new) before after → SpokeBy octets old.terminal.terminal bits ahead before after
spoke octets left bits ahead count old new before after free silent ordered none over =
    let P : ℕ → Type 0 = λ n. IsOver end_acts bits ahead n (state_of left old) count (state_of left new) before after in
    record {
      first = state_of left old;
      is_first = record { is_term = refl; none_held = free; silent = silent; ordered = ordered };
      last = state_of left new;
      count = count;
      over = subst P none over;
    }

pub begun : {A O P : Type 0} (orders : Option A) (octets : Option (List ℕ)) (left : O → Option (List Timed)) (bits : Bits) (ahead : ℕ) (desk : Desk LinkEnd O P) (old new : Line)
    → AreGiven orders octets → desk.terminal.held ≡ None → IsSilent desk.voice → left desk.orders ≡ ordered_by octets → desk.count ≡ 0
    → IsBegun end_acts bits ahead desk.count (state_of left desk) old new → Begun orders desk.terminal.terminal bits ahead old new
begun orders octets left bits ahead desk old new given free silent ordered none h =
    let P : ℕ → Type 0 = λ n. IsBegun end_acts bits ahead n (state_of left desk) old new in
    record {
      octets = octets;
      given = given;
      first = state_of left desk;
      is_first = record { is_term = refl; none_held = free; silent = silent; ordered = ordered };
      begun = subst P none h;
    }

-- with the orders from the named path
pub with_orders : {A : Type 0} (orders : Option A) (octets : Option (List ℕ)) (term : Term) (bits : Bits) (ahead : ℕ) (read written read_on written_on : Option (List ℕ)) (told_before told : Stand)
    → AreGiven orders octets
    → SpokeBy octets term bits ahead (record { read = read; written = written; told = told_before }) (record { read = read_on; written = written_on; told = told })
    → Spoke orders term bits ahead (record { read = read; written = written }) (record { read = read_on; written = written_on })
with_orders orders octets term bits ahead read written read_on written_on told_before told given by =
    record { octets = octets; given = given; told_before = told_before; told = told; spoke = by }

-- the terminal that a desk was made of
pub of_term : {A : Type 0} (orders : Option A) (one other : Term) (bits : Bits) (ahead : ℕ) (old new : Line) → other ≡ one → Spoke orders other bits ahead old new
    → Spoke orders one bits ahead old new
of_term orders one other bits ahead old new same h =
    let P : Term → Type 0 = λ t. Spoke orders t bits ahead old new in
    subst P same h

pub begun_of : {A : Type 0} (orders : Option A) (one other : Term) (bits : Bits) (ahead : ℕ) (old new : Line) → other ≡ one → Begun orders other bits ahead old new
    → Begun orders one bits ahead old new
begun_of orders one other bits ahead old new same h =
    let P : Term → Type 0 = λ t. Begun orders t bits ahead old new in
    subst P same h

-- on the set of some bytes
pub over_set : (known : Option (List ℕ)) (end : LineEnd) (term : Term) (old new : Line) → IsGiven known (IsNewOver (chosen_by end) end.mode term)
    → Spoke end.orders term end.bits (min end.ahead MOST_AHEAD) old new → IsGiven known (SpokeOver end old new)
over_set known end term old new h spoke =
    record { bytes = h.bytes; are_known = h.are_known; holds = record { term = term; is_new = h.holds; spoke = spoke } }

pub begun_over : (known : Option (List ℕ)) (end : LineEnd) (term : Term) (old new : Line) → IsGiven known (IsNewOver (chosen_by end) end.mode term)
    → IsUntouched old new ⊎ Begun end.orders term end.bits (min end.ahead MOST_AHEAD) old new → IsUntouched old new ⊎ IsGiven known (BegunOver end old new)
begun_over known end term old new h (inl same) = inl same
begun_over known end term old new h (inr it) =
    inr (record { bytes = h.bytes; are_known = h.are_known; holds = record { term = term; is_new = h.holds; begun = it } })
