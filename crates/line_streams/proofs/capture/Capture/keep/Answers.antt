use Rattle.std.proofs.Common.{◌∷◌, refl}
use Rattle.line_streams.specs.declared.seen.Seen.{Seen}
use Rattle.line_streams.specs.Repeats.{kept}
use Rattle.line_streams.proofs.Recalling.{kept_more, is_recorded, is_left_out, is_unit}
use Rattle.line_streams.proofs.capture.Capture.keep.Goals as goal

pub returns-then-keeps-clause-kept : goal.returns-then-keeps-clause-kept
returns-then-keeps-clause-kept c = λ seen stands.
    let every = c.args.self.now.repeats.every in
    let s : Seen = record { went = c.args.went; link = c.args.self.now.link; at = c.args.self.now.at; octets = c.in_ok-octets.octets } in
    let is_kept = c.keeps.ensures.kept (kept every seen) stands in (
      s ∷ seen,
      is_unit c.args.went c.args.self.now.link c.args.self.now.at c.args.unit s seen c.in_ok-octets.was refl refl refl,
      kept_more every c.keeps.result s seen c.keeps.new.self is_kept (c.keeps.ensures.stands (kept every seen) stands),
      is_recorded every c.keeps.result s seen c.if-keeps.true is_kept,
    )

pub returns-else-keeps-clause-kept : goal.returns-else-keeps-clause-kept
returns-else-keeps-clause-kept c = λ seen stands.
    let every = c.args.self.now.repeats.every in
    let s : Seen = record { went = c.args.went; link = c.args.self.now.link; at = c.args.self.now.at; octets = c.in_ok-octets.octets } in
    let is_kept = c.keeps.ensures.kept (kept every seen) stands in (
      s ∷ seen,
      is_unit c.args.went c.args.self.now.link c.args.self.now.at c.args.unit s seen c.in_ok-octets.was refl refl refl,
      kept_more every c.keeps.result s seen c.keeps.new.self is_kept (c.keeps.ensures.stands (kept every seen) stands),
      is_left_out every c.keeps.result s seen c.if-keeps.false is_kept,
    )
