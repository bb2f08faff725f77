-- How the code reads parameters: the parameter at the start of octets, if there is one.
use Rattle.std.specs.Prelude.{ℕ, ◌-◌, ◌==◌, nat_lt, if◌then◌else◌, List, length, take, drop}
use Rattle.std.specs.Prelude.{Option, Some, None}
use Rattle.std.specs.Option.{option_map}
use Rattle.m3ua_frames.specs.Numbers.{number_2}
use Rattle.m3ua_frames.specs.Tags.{is_sized}
use Rattle.m3ua_frames.specs.Parameters.{Parameter, padding_after}

abbrev pub past_padding : ℕ → List ℕ → Option (List ℕ)
past_padding n octets =
    if length octets == 0 then Some octets
    else (if nat_lt (length octets) n then None else Some (drop n octets))

unfoldable pub value_at : ℕ → ℕ → List ℕ → Option (Parameter × List ℕ)
value_at tag n octets =
    if nat_lt (length octets) n then None
    else (if is_sized tag n
    then option_map (λ rest. (record { tag = tag; value = take n octets }, rest))
    (past_padding (padding_after n) (drop n octets))
    else None)

unfoldable pub parameter_at : List ℕ → Option (Parameter × List ℕ)
parameter_at octets =
    if nat_lt (length octets) 4 then None
    else (if nat_lt (number_2 octets 2) 4 then None
    else value_at (number_2 octets 0) (number_2 octets 2 - 4) (drop 4 octets))
