use Rattle.std.proofs.Common.{ℕ, List, [], ◌∷◌, ◌++◌, ap, sym, ◌∙◌, subst}
use Rattle.std.proofs.lemmas.List.Folds.{flat_map-map}
use Rattle.std.specs.List.{flat_map}
use Rattle.std.specs.Prelude.{string_bytes}
use Rattle.std.specs.Io.KnownBytes.{Appends}
use Rattle.mtp2_play.specs.Measured.{line_text}
use Rattle.mtp2_play.proofs.line.measuring.write_measures.Goals as goal

pub returns : goal.returns
returns g c =
    subst (Appends (g.W.Write.contents c.args.writer.now) (g.W.Write.contents c.write_lines.new.writer))
    (ap (flat_map line_text) c.deref.ensures.value
    ∙ (sym (flat_map-map (λ (line : List ℕ). line ++ 10 ∷ []) string_bytes c.in_ok-lines.lines.items)
    ∙ ap (flat_map (λ (line : List ℕ). line ++ 10 ∷ [])) c.in_ok-lines.ensures))
    c.in_ok-write_lines.ensures
