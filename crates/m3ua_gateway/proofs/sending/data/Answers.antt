use Rattle.std.proofs.Common.{ℕ, List, length, Some, sym, ap, ◌∙◌, arith}
use Rattle.m3ua_gateway.specs.Sending.{data_octets}
use Rattle.m3ua_gateway.proofs.SendingLaws.{data_within, none_short}
use Rattle.std.specs.Option.{option_map}
use Rattle.m3ua_frames.specs.Protocol.{view}
use Rattle.m3ua_gateway.proofs.sending.data.Goals as goal

pub returns-then-field-lt4 : goal.returns-then-field-lt4
returns-then-field-lt4 c =
    ap (option_map (data_octets c.args.context)) (none_short c.args.msu.now.sio c.args.msu.now.sif.items (omega (arith, ap length c.as_slice-field.ensures.value)))

pub returns-in-None : goal.returns-in-None
returns-in-None c = ap (option_map (data_octets c.args.context)) c.in-None.ensures

pub data_of-requires : goal.data_of-requires
data_of-requires c =
    omega (arith, data_within c.args.msu.now.sio c.args.msu.now.sif.items (view c.in-Some.p) (sym c.in-Some.ensures), ap length c.as_slice-field.ensures.value, c.as_slice-field.ensures.fits)

pub returns-in-Some : goal.returns-in-Some
returns-in-Some c = ap (λ (xs : List ℕ). Some xs) c.data_of.ensures ∙ ap (option_map (data_octets c.args.context)) c.in-Some.ensures
