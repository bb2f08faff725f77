use Rattle.std.proofs.Common.{List, ℕ, [], ap, ◌∙◌}
use Rattle.std.specs.Prelude.{unwrap_or}
use Rattle.script_links.specs.Octets.{octets_of}
use Rattle.script_seen.proofs.changeovers.octets_of.Goals as goal

pub returns-in_ok-octets_of_text-in-Ok : goal.returns-in_ok-octets_of_text-in-Ok
returns-in_ok-octets_of_text-in-Ok c =
    c.in_ok-octets_of_text-in-Ok.ensures ∙ ap (λ (ds : List ℕ). unwrap_or (octets_of ds) []) c.in-Ok.ensures.cases.0
