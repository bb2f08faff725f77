-- What the taps on a line have recorded.
use Rattle.std.specs.Prelude.{◌≡◌, ◌⊎◌, ℕ, ◌<◌, List, [], ◌++◌, length, map, Option}
use Rattle.std.specs.Io.KnownBytes.{Appends}
use Rattle.rtrb.specs.Ring.{sent, received, known_free, IsPair}
use Rattle.rtrb.specs.declared.producer.Producer.{Producer}
use Rattle.line_filter.specs.Filters.{turned}
use Rattle.line_streams.specs.declared.seen.Seen.{Seen}
use Rattle.line_streams.specs.declared.taps.InTap.{InTap}
use Rattle.line_streams.specs.declared.taps.OutTap.{OutTap}
use Rattle.line_streams.specs.declared.taps.Plan.{Plan}
use Rattle.line_streams.specs.Capturing.{Captures, capture_of}

-- Octets are passed on, all of them, or none if there is no room.
abbrev pub Pushes : {A P : Type 0} → List ℕ → Producer ℕ A P → Producer ℕ A P → Type 0
Pushes octets old new =
    (sent new ≡ sent old ++ octets)
    ⊎ ((known_free new < length octets) × (sent new ≡ sent old))

-- A tap has captured these octets sent after those that go ahead, and as many received. After its
-- earlier contents, the sink has the capture in which these units were seen.
pub record HasTapped {W S : Type 0} (contents : S → Option (List ℕ)) (before : Option (List ℕ))
    (gone : List ℕ) (seen : List Seen) (t : OutTap W S) : Type 0 where
  pub captures : Captures (map (turned t.bits) gone) (map (turned t.bits) (received t.octets)) seen
      t.capture
  pub file : Appends before (contents t.sink) (capture_of t.capture.repeats.every seen)

-- A line is tapped, and nothing was read or written on it since.
pub record IsTapped {R W S : Type 0} (plan : Plan) (reader : R) (writer : W) (in_tap : InTap R)
    (out_tap : OutTap W S) : Type 0 where
  pub reader_is : in_tap.reader ≡ reader
  pub writer_is : out_tap.writer ≡ writer
  pub pair : IsPair in_tap.octets out_tap.octets
  pub none_sent : sent in_tap.octets ≡ []
  pub none_received : received out_tap.octets ≡ []
  pub ahead : out_tap.ahead ≡ plan.ahead
  pub bits : out_tap.bits ≡ plan.bits
  pub link : out_tap.capture.link ≡ plan.link
  pub every : out_tap.capture.repeats.every ≡ plan.every
