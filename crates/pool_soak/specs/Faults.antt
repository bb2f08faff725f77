-- The reason why a line doesn't belong in a script of `soak`.
use Rattle.std.specs.Prelude.{ℕ, List, Bool, true, false, not, ◌||◌, Option, None, Some, codes}
use Rattle.std.specs.Str.{bytes_eq}
use Rattle.script_lines.specs.Commands.{verb_of}
use Rattle.script_lines.specs.declared.verbs.Verb.{Verb}
use Rattle.script_lines.specs.declared.verbs.Verb.TheVariants as verbs

-- whether a verb begins a step
abbrev pub is_step : Option Verb → Bool
is_step None = false
is_step (Some verbs.Offer) = true
is_step (Some (verbs.Call call)) = false
is_step (Some verbs.Tick) = true
is_step (Some verbs.Env) = false
is_step (Some verbs.Rest) = false
is_step (Some verbs.Flood) = false
is_step (Some verbs.Value) = false
is_step (Some verbs.Expect) = false

-- whether a word begins no line
abbrev pub is_no_step : List ℕ → Bool
is_no_step word =
    not (bytes_eq word (codes "links") || bytes_eq word (codes "on") || is_step (verb_of word))
