use Rattle.std.proofs.Common.{◌≡◌, ℕ, get_or, None, refl, ap, ◌∙◌, arith}
use Rattle.std.specs.Option.{option_to_list}
use Rattle.m3ua_frames.specs.Stream.{item_told}
use Rattle.m3ua_frames.specs.declared.stream.Heard.{Heard}
use Rattle.m3ua_frames.proofs.StreamLaws.{piece_state, piece_items, some_item}
use Rattle.m3ua_frames.proofs.stream.Deframer.take.Goals as goal

pub returns-in_default : goal.returns-in_default
returns-in_default c =
    let xs = c.args.piece.now in
    let i : ℕ = c.loop-index.index in
    record {
      within = omega (arith, c.loop-index-test.true);
      progress = λ _. omega arith;
      state = c.octet.ensures.state ∙ piece_state c.args.self.now c.loop-index.self xs i (get_or xs i 0) c.loop-index-test.true refl c.loop-index.invariant.state;
      items = piece_items c.args.self.now c.loop-index.self xs i (get_or xs i 0) (item_told c.octet.result c.octet.new.self.octets) c.loop-index-test.true refl c.loop-index.invariant.state c.loop-index.invariant.items c.octet.ensures.item;
      all = λ e. absurd (some_item c.octet.result c.in_default.not-Nothing e);
    }

pub loop-index-preserved : goal.loop-index-preserved
loop-index-preserved c =
    let xs = c.args.piece.now in
    let i : ℕ = c.loop-index.index in
    let nothing : item_told c.octet.result c.octet.new.self.octets ≡ None = ap (λ (h : Heard). item_told h c.octet.new.self.octets) c.in-Nothing.is in
    record {
      state = c.octet.ensures.state ∙ piece_state c.args.self.now c.loop-index.self xs i (get_or xs i 0) c.loop-index-test.true refl c.loop-index.invariant.state;
      items = piece_items c.args.self.now c.loop-index.self xs i (get_or xs i 0) (item_told c.octet.result c.octet.new.self.octets) c.loop-index-test.true refl c.loop-index.invariant.state c.loop-index.invariant.items c.octet.ensures.item ∙ ap option_to_list nothing;
    }
