-- Which destinations an ASP is told of, as available or not (RFC 4666, 3.4.1 to 3.4.3, 4.5).
use Rattle.std.specs.Prelude.{ℕ, ◌/◌, ◌%◌, ◌^◌, ◌==◌, min, Bool, false}
use Rattle.std.specs.Prelude.{Option, Some, None, List, [], ◌∷◌, map}
use Rattle.std.specs.List.{filter, flat_map}
use Rattle.m3ua_frames.specs.Numbers.{numbers_in}
use Rattle.m3ua_frames.specs.Parameters.{Parameter, value_of}
use Rattle.m3ua_frames.specs.Tags.{AFFECTED}
use Rattle.m3ua_gateway.specs.declared.destinations.Status.{Status}
use Rattle.m3ua_gateway.specs.declared.table.Action.{Action}
use Rattle.m3ua_gateway.specs.declared.table.Action.TheVariants as action

-- An affected point code has eight bits of mask and 24 of point code.
abbrev pub mask_of : ℕ → ℕ
mask_of affected = affected / 2 ^ 24

abbrev pub point_code : ℕ → ℕ
point_code affected = affected % 2 ^ 24

-- It stands for the point codes that differ from its own in the lowest bits only, as many bits as
-- its mask says (3.4.1).
abbrev pub covers : ℕ → ℕ → Bool
covers affected code =
    point_code code / 2 ^ min (mask_of affected) 24
    == point_code affected / 2 ^ min (mask_of affected) 24

abbrev pub status : Bool → ℕ → Status
status available affected = record { available = available; affected = affected }

-- each of these destinations, without a mask
abbrev pub told : Bool → List ℕ → List Status
told reached destinations = map (λ code. status reached (point_code code)) destinations

-- an affected point code that stands for no destination isn't available
abbrev pub or_none : ℕ → List Status → List Status
or_none affected [] = status false affected ∷ []
or_none affected (s ∷ others) = s ∷ others

-- what is told of an affected point code: each destination that it stands for
abbrev pub told_of : List ℕ → Bool → ℕ → List Status
told_of destinations reached affected =
    or_none affected (told reached (filter (covers affected) destinations))

-- what is told of the affected point codes of a DAUD
abbrev pub audited : List ℕ → Bool → Option (List ℕ) → List Status
audited destinations reached None = []
audited destinations reached (Some value) =
    flat_map (told_of destinations reached) (numbers_in value)

-- what an action tells of destinations, while they are reached or not, in answer to a message with
-- these parameters
abbrev pub statuses : Action → List ℕ → Bool → List Parameter → List Status
statuses action.Destinations destinations reached ps = told reached destinations
statuses action.Audited destinations reached ps =
    audited destinations reached (value_of AFFECTED ps)
statuses action.UpAck destinations reached ps = []
statuses action.DownAck destinations reached ps = []
statuses action.BeatAck destinations reached ps = []
statuses action.ActiveAck destinations reached ps = []
statuses action.InactiveAck destinations reached ps = []
statuses (action.Notify s) destinations reached ps = []
statuses (action.Error n) destinations reached ps = []
statuses action.Refuse destinations reached ps = []
statuses action.Registered destinations reached ps = []
statuses action.Take destinations reached ps = []
statuses action.Count destinations reached ps = []
statuses action.Release destinations reached ps = []
statuses action.Lose destinations reached ps = []
