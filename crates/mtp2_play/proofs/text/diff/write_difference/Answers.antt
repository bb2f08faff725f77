use Rattle.std.specs.Prelude.{string_bytes}
use Rattle.std.proofs.lemmas.Result.{on_ok_weaker}
use Rattle.mtp2_play.proofs.Comparing.{written_of}
use Rattle.mtp2_play.proofs.text.diff.write_difference.Goals as goal

pub returns : goal.returns
returns g c =
    on_ok_weaker c.write_all.result
    (λ h. written_of c.args.old.now.set c.args.new.now.set c.args.found.now _ _ c.new-text.result.items c.deref.result.now _ c.in_ok-ways.ways.items
    c.deref-2.result.now _ (string_bytes c.in_ok-end.end) c.as_bytes.result.now _ _ c.requires c.new-text.ensures.items c.deref.ensures.value
    c.in_ok-extend_from_slice.ensures.items c.deref-2.ensures.value c.in_ok-extend_from_slice-2.ensures.items c.as_bytes.ensures.value
    c.in_ok-extend_from_slice-3.ensures.items c.deref-3.ensures.value c.in_ok-ways.ensures c.in_ok-end.ensures h) c.write_all.ensures.bytes
