-- Which routing contexts of a message are ours (RFC 4666, 3.7.1), by the value of its parameter.
use Rattle.std.specs.Prelude.{ℕ, ◌==◌, not, Bool, true, false, if◌then◌else◌}
use Rattle.std.specs.Prelude.{Option, Some, None, List, []}
use Rattle.std.specs.List.{filter, list_any}
use Rattle.m3ua_frames.specs.Numbers.{numbers_in, octets_4}

-- ours is one of them, or there is none
abbrev pub has_ours : ℕ → Option (List ℕ) → Bool
has_ours context None = true
has_ours context (Some value) = list_any (λ n. n == context) (numbers_in value)

-- one of them isn't ours
abbrev pub has_others : ℕ → Option (List ℕ) → Bool
has_others context None = false
has_others context (Some value) = list_any (λ n. not (n == context)) (numbers_in value)

-- those that aren't ours, in order
abbrev pub others_in : ℕ → Option (List ℕ) → List ℕ
others_in context None = []
others_in context (Some value) = filter (λ n. not (n == context)) (numbers_in value)

-- the octets of a routing context, if it isn't ours
abbrev pub other_octets : ℕ → ℕ → List ℕ
other_octets context n = if n == context then [] else octets_4 n
