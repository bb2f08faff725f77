use Rattle.std.proofs.Common.{ℕ, List, subst}
use Rattle.sdl_sound.specs.Orders.{links_of}
use Rattle.sdl_measures.specs.Searched.{AreMarks}
use Rattle.sdl_measures.proofs.Connectors.{reached_marks}
use Rattle.sdl_measures.proofs.joins.reached_from.Goals as goal

pub returns : goal.returns
returns c = λ p joins links distinct starts.
    let marks = c.in_ok-marks.marks.items in
    reached_marks p joins marks distinct
    (subst (λ (l : List ℕ). AreMarks (links_of p) l marks) starts
    (subst (λ (g : List (List ℕ)). AreMarks g c.args.starts.now marks) links c.in_ok-marks.ensures))
