-- An ERR is heard as one whatever else is in it, and the values of parameters are within the octets.
use Rattle.std.proofs.Common.{◌≡◌, ℕ, ◌+◌, ◌≤◌, Bool, true, false, cond, leb, eqb, List, [], ◌∷◌, ◌++◌, length, drop, Option, Some, None, Ok, refl, sym, ap, subst, ◌∙◌, arith, length-append, length-drop, eqb-true}
use Rattle.std.specs.Prelude.{◌&&◌, slice_index, is_some}
use Rattle.resend_store.specs.declared.messages.Msu.{Msu}
use Rattle.m3ua_frames.specs.declared.kinds.Kind.{Kind}
use Rattle.m3ua_frames.specs.declared.kinds.Kind.TheVariants as kind
use Rattle.m3ua_frames.specs.Kinds.{kind_by}
use Rattle.m3ua_frames.specs.Frame.{Message, IsFrame}
use Rattle.m3ua_frames.specs.Parameters.{Parameter, IsFirst, AreParameters, value_of}
use Rattle.m3ua_gateway.specs.declared.table.Happening.{Happening}
use Rattle.m3ua_gateway.specs.declared.table.Happening.TheVariants as happening
use Rattle.m3ua_gateway.specs.Life.{happens, comes}
use Rattle.m3ua_frames.specs.Tags.{ROUTING_CONTEXT, TRAFFIC_MODE, PROTOCOL_DATA}
use Rattle.m3ua_gateway.specs.Contexts.{has_ours, has_others}
use Rattle.m3ua_gateway.specs.Hearing.{is_mode, is_long, happening_by}
use Rattle.m3ua_gateway.specs.Asking.{is_error, is_transfer, refusal, is_data, deed_of}

parts : (a b c : Bool) → (a && (b && c)) ≡ true → (b ≡ true) × (c ≡ true)
parts true true true e = (refl, refl)
parts true true false e = absurd cc
parts true false c e = absurd cc
parts false b c e = absurd cc

error_kind : (octets : List ℕ) (m : Message) → IsFrame octets m → is_error octets ≡ true → kind.Error ≡ m.kind
error_kind octets m frame e =
    let both = parts (leb 4 (length octets)) (eqb (slice_index octets 2) 0) (eqb (slice_index octets 3) 0) e in
    let class : slice_index octets 2 ≡ 0 = eqb-true (slice_index octets 2) 0 both.0 in
    let type : slice_index octets 3 ≡ 0 = eqb-true (slice_index octets 3) 0 both.1 in
    let known : Ok kind.Error ≡ Ok m.kind = sym (ap (λ (x : ℕ). kind_by x (slice_index octets 3)) class ∙ ap (λ (x : ℕ). kind_by 0 x) type) ∙ frame.kind in
    cc

pub error_heard : (context : ℕ) (octets : List ℕ) (m : Message) (o : Option Msu) (h : Happening) → IsFrame octets m → h ≡ happening_by context m.kind m.parameters o
    → is_error octets ≡ true → h ≡ happening.Error
error_heard context octets m o h frame at e = at ∙ sym (ap (λ (k : Kind). happening_by context k m.parameters o) (error_kind octets m frame e))

pub error_refused : (octets : List ℕ) (h : Happening) → h ≡ refusal octets → is_error octets ≡ true → h ≡ happening.Error
error_refused octets h at e = at ∙ ap (λ (b : Bool). cond b happening.Error (cond (is_transfer octets) happening.RefusedData happening.Refused)) e

-- ---- DATA carries a message

active_by : (ours mode others : Bool) → is_data (cond ours (cond mode (cond others happening.ActiveWithOthers happening.Active) happening.OtherMode) happening.Stray) ≡ false
active_by true true true = refl
active_by true true false = refl
active_by true false others = refl
active_by false mode others = refl

inactive_by : (ours others : Bool) → is_data (cond ours (cond others happening.InactiveWithOthers happening.Inactive) happening.Stray) ≡ false
inactive_by true true = refl
inactive_by true false = refl
inactive_by false others = refl

data_by : (others long : Bool) → is_data (cond others happening.StrayData (cond long happening.LongData happening.OtherData)) ≡ false
data_by true long = refl
data_by false true = refl
data_by false false = refl

stray_by : (others : Bool) (h : Happening) → is_data h ≡ false → is_data (cond others happening.Stray h) ≡ false
stray_by true h e = refl
stray_by false h e = e

none_heard : (c : ℕ) (k : Kind) (ps : List Parameter) → is_data (happening_by c k ps None) ≡ false
none_heard c kind.Error ps = refl
none_heard c kind.Notify ps = refl
none_heard c kind.Data ps = data_by (has_others c (value_of ROUTING_CONTEXT ps)) (is_long (value_of PROTOCOL_DATA ps))
none_heard c kind.Duna ps = refl
none_heard c kind.Dava ps = refl
none_heard c kind.Daud ps = stray_by (has_others c (value_of ROUTING_CONTEXT ps)) happening.Audit refl
none_heard c kind.Scon ps = stray_by (has_others c (value_of ROUTING_CONTEXT ps)) happening.Congestion refl
none_heard c kind.Dupu ps = refl
none_heard c kind.Drst ps = refl
none_heard c kind.Up ps = refl
none_heard c kind.Down ps = refl
none_heard c kind.Beat ps = refl
none_heard c kind.UpAck ps = refl
none_heard c kind.DownAck ps = refl
none_heard c kind.BeatAck ps = refl
none_heard c kind.Active ps = active_by (has_ours c (value_of ROUTING_CONTEXT ps)) (is_mode (value_of TRAFFIC_MODE ps)) (has_others c (value_of ROUTING_CONTEXT ps))
none_heard c kind.Inactive ps = inactive_by (has_ours c (value_of ROUTING_CONTEXT ps)) (has_others c (value_of ROUTING_CONTEXT ps))
none_heard c kind.ActiveAck ps = refl
none_heard c kind.InactiveAck ps = refl
none_heard c kind.Register ps = refl
none_heard c kind.Registered ps = refl
none_heard c kind.Deregister ps = refl
none_heard c kind.Deregistered ps = refl

pub heard_carried : (context : ℕ) (m : Message) (o : Option Msu) (h : Happening) → h ≡ happening_by context m.kind m.parameters o → is_data h ≡ true → is_some o ≡ true
heard_carried context m (Some x) h at e = refl
heard_carried context m None h at e = absurd (let wrong : true ≡ false = sym e ∙ ap is_data at ∙ none_heard context m.kind m.parameters in cc)

refused_by : (a b : Bool) → is_data (cond a happening.Error (cond b happening.RefusedData happening.Refused)) ≡ false
refused_by true b = refl
refused_by false true = refl
refused_by false false = refl

pub refused_carried : (octets : List ℕ) (o : Option Msu) (h : Happening) → h ≡ refusal octets → is_data h ≡ true → is_some o ≡ true
refused_carried octets o h at e = absurd (let wrong : true ≡ false = sym e ∙ ap is_data at ∙ refused_by (is_error octets) (is_transfer octets) in cc)

-- ---- values

first_within : (octets rest : List ℕ) (p : Parameter) → IsFirst octets p rest → (length p.value ≤ length octets) × (length rest ≤ length octets)
first_within octets rest p f =
    let whole : length (drop 4 octets) ≡ length p.value + (length f.padding + length rest) = ap length f.parts ∙ length-append p.value (f.padding ++ rest) ∙ ap (λ (n : ℕ). length p.value + n) (length-append f.padding rest) in
    (omega (arith, whole, length-drop 4 octets), omega (arith, whole, length-drop 4 octets))

within_by : (b : Bool) (octets rest : List ℕ) (p : Parameter) (o : Option (List ℕ)) (v : List ℕ) → IsFirst octets p rest → (o ≡ Some v → length v ≤ length rest)
    → cond b (Some p.value) o ≡ Some v → length v ≤ length octets
within_by true octets rest p o v f hyp e =
    let same : p.value ≡ v = cc in
    subst (λ (x : List ℕ). length x ≤ length octets) same (first_within octets rest p f).0
within_by false octets rest p o v f hyp e = omega (arith, hyp e, (first_within octets rest p f).1)

pub within : (tag : ℕ) (octets : List ℕ) (ps : List Parameter) (v : List ℕ) → AreParameters octets ps → value_of tag ps ≡ Some v → length v ≤ length octets
within tag octets [] v are e = absurd cc
within tag octets (p ∷ ps) v are e = within_by (eqb p.tag tag) octets are.0 p (value_of tag ps) v are.1 (λ h. within tag are.0 ps v are.2 h) e

-- ---- deeds

pub deed_data : (h : Happening) (m : Msu) (b : Bool) → is_data h ≡ b → cond b (comes m) (happens h) ≡ deed_of h (Some m)
deed_data h m b e = ap (λ (x : Bool). cond x (comes m) (happens h)) (sym e)

no_data_by : (b : Bool) (o : Option Msu) → o ≡ None → (b ≡ true → is_some o ≡ true) → b ≡ false
no_data_by true o none carried = absurd (let wrong : true ≡ false = sym (carried refl) ∙ ap is_some none in cc)
no_data_by false o none carried = refl

-- if DATA has to carry a message, and there is none, it isn't DATA
pub no_data : (h : Happening) (o : Option Msu) → o ≡ None → (is_data h ≡ true → is_some o ≡ true) → is_data h ≡ false
no_data h o none carried = no_data_by (is_data h) o none carried
