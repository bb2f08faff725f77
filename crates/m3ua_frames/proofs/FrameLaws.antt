-- Octets are those of at most one message, and the octets sent for a message are read.
use Rattle.std.proofs.Common.{◌≡◌, ℕ, ◌+◌, ◌-◌, ◌<◌, ◌≤◌, Bool, true, false, cond, eqb, leb, ◌⊎◌, List, [], ◌∷◌, ◌++◌, length, take, drop, get_or, Option, Some, None, Result, Ok, Err, inl, inr, refl, sym, ap, subst, ◌∙◌, append_assoc, arith}
use Rattle.std.specs.Prelude.{replicate, slice_index, is_some, ◌&&◌}
use Rattle.std.specs.Option.{option_map}
use Rattle.std.specs.List.{AllByRecursion}
use Rattle.std.proofs.lemmas.Bool.{le-leb, lt-leb, eq-eqb}
use Rattle.std.proofs.lemmas.List.{at_drop_more, length-replicate, take_all, length-drop}
use Rattle.m3ua_frames.specs.declared.faults.Fault.{Fault}
use Rattle.m3ua_frames.specs.declared.faults.Fault.TheVariants as fault
use Rattle.m3ua_frames.specs.declared.kinds.Kind.{Kind}
use Rattle.m3ua_frames.specs.declared.kinds.Kind.TheVariants as kind
use Rattle.m3ua_frames.specs.Kinds.{class_of, type_of, kind_by, management, transfer, network, state, traffic, keys}
use Rattle.m3ua_frames.specs.Parameters.{Parameter, IsFirst, IsParameter, AreParameters, padding_after, padded, all_padded, value_of}
use Rattle.m3ua_frames.specs.Laws.{EncodedIsRead}
use Rattle.m3ua_frames.specs.Frame.{Message, header, IsFrame, Refuses, IsMessage, spelling, mandatory, has_all, kind_in, told_length, tells, tells_length, TellsLength, body, IsVersion1}
use Rattle.m3ua_frames.proofs.ParameterLaws.{Good, one_list}

same_kind : (r : Result Kind Fault) (a b : Kind) → r ≡ Ok a → r ≡ Ok b → a ≡ b
same_kind r a b e f = let both = sym e ∙ f in cc

same_message : (octets : List ℕ) (m n : Message) → kind_in octets ≡ Ok m.kind → kind_in octets ≡ Ok n.kind
    → AreParameters (body octets) m.parameters → AreParameters (body octets) n.parameters → m ≡ n
same_message octets m n m_kind n_kind m_list n_list =
    let kinds : m.kind ≡ n.kind = same_kind (kind_in octets) m.kind n.kind m_kind n_kind in
    let lists : m.parameters ≡ n.parameters = one_list (body octets) m.parameters n.parameters m_list n_list in
    ap (λ (x : Kind). record { kind = x; parameters = m.parameters }) kinds ∙ ap (λ (ps : List Parameter). record { kind = n.kind; parameters = ps }) lists

pub one_message : (octets : List ℕ) (m n : Message) → IsFrame octets m → IsFrame octets n → m ≡ n
one_message octets m n h k = same_message octets m n h.kind k.kind h.parameters k.parameters

no_kind : (r : Result Kind Fault) (a : Kind) (f : Fault) → r ≡ Ok a → r ≡ Err f → ⊥
no_kind r a f e g = let both = sym e ∙ g in cc

pub no_fault : (octets : List ℕ) (m : Message) (f : Fault) → IsFrame octets m → Refuses octets f → ⊥
no_fault octets m fault.Length h k = k h.counted
no_fault octets m fault.Version h k = k.1 h.version
no_fault octets m fault.UnknownClass h k = no_kind (kind_in octets) m.kind fault.UnknownClass h.kind k.2
no_fault octets m fault.UnknownType h k = no_kind (kind_in octets) m.kind fault.UnknownType h.kind k.2
no_fault octets m fault.Field h k = k.3 (m.parameters, h.parameters)
no_fault octets m fault.Missing h k =
    let same : m ≡ k.2.0 = same_message octets m k.2.0 h.kind k.2.1 h.parameters k.2.2 in
    let there = subst (λ (x : Message). has_all (mandatory x.kind) x.parameters ≡ true) same h.complete in
    let both : true ≡ false = sym there ∙ k.2.3 in cc

pub one_reason : (octets : List ℕ) (a b : Fault) → Refuses octets a → Refuses octets b → a ≡ b
one_reason octets fault.Length fault.Length h k = refl
one_reason octets fault.Length fault.Version h k = absurd (h k.0)
one_reason octets fault.Length fault.UnknownClass h k = absurd (h k.0)
one_reason octets fault.Length fault.UnknownType h k = absurd (h k.0)
one_reason octets fault.Length fault.Field h k = absurd (h k.0)
one_reason octets fault.Length fault.Missing h k = absurd (h k.0)
one_reason octets fault.Version fault.Length k h = absurd (h k.0)
one_reason octets fault.Version fault.Version h k = refl
one_reason octets fault.Version fault.UnknownClass h k = absurd (h.1 k.1)
one_reason octets fault.Version fault.UnknownType h k = absurd (h.1 k.1)
one_reason octets fault.Version fault.Field h k = absurd (h.1 k.1)
one_reason octets fault.Version fault.Missing h k = absurd (h.1 k.1)
one_reason octets fault.UnknownClass fault.Length k h = absurd (h k.0)
one_reason octets fault.UnknownClass fault.Version k h = absurd (h.1 k.1)
one_reason octets fault.UnknownClass fault.UnknownClass h k = refl
one_reason octets fault.UnknownClass fault.UnknownType h k = absurd (let e = sym h.2 ∙ k.2 in cc)
one_reason octets fault.UnknownClass fault.Field h k = absurd (let e = sym h.2 ∙ k.2.1 in cc)
one_reason octets fault.UnknownClass fault.Missing h k = absurd (let e = sym h.2 ∙ k.2.1 in cc)
one_reason octets fault.UnknownType fault.Length k h = absurd (h k.0)
one_reason octets fault.UnknownType fault.Version k h = absurd (h.1 k.1)
one_reason octets fault.UnknownType fault.UnknownClass k h = absurd (let e = sym h.2 ∙ k.2 in cc)
one_reason octets fault.UnknownType fault.UnknownType h k = refl
one_reason octets fault.UnknownType fault.Field h k = absurd (let e = sym h.2 ∙ k.2.1 in cc)
one_reason octets fault.UnknownType fault.Missing h k = absurd (let e = sym h.2 ∙ k.2.1 in cc)
one_reason octets fault.Field fault.Length k h = absurd (h k.0)
one_reason octets fault.Field fault.Version k h = absurd (h.1 k.1)
one_reason octets fault.Field fault.UnknownClass k h = absurd (let e = sym h.2 ∙ k.2.1 in cc)
one_reason octets fault.Field fault.UnknownType k h = absurd (let e = sym h.2 ∙ k.2.1 in cc)
one_reason octets fault.Field fault.Field h k = refl
one_reason octets fault.Field fault.Missing h k = absurd (h.3 (k.2.0.parameters, k.2.2))
one_reason octets fault.Missing fault.Length k h = absurd (h k.0)
one_reason octets fault.Missing fault.Version k h = absurd (h.1 k.1)
one_reason octets fault.Missing fault.UnknownClass k h = absurd (let e = sym h.2 ∙ k.2.1 in cc)
one_reason octets fault.Missing fault.UnknownType k h = absurd (let e = sym h.2 ∙ k.2.1 in cc)
one_reason octets fault.Missing fault.Field k h = absurd (h.3 (k.2.0.parameters, k.2.2))
one_reason octets fault.Missing fault.Missing h k = refl

-- ---- the octets sent for a message

kind_again : (k : Kind) → kind_by (class_of k) (type_of k) ≡ Ok k
kind_again kind.Error = refl
kind_again kind.Notify = refl
kind_again kind.Data = refl
kind_again kind.Duna = refl
kind_again kind.Dava = refl
kind_again kind.Daud = refl
kind_again kind.Scon = refl
kind_again kind.Dupu = refl
kind_again kind.Drst = refl
kind_again kind.Up = refl
kind_again kind.Down = refl
kind_again kind.Beat = refl
kind_again kind.UpAck = refl
kind_again kind.DownAck = refl
kind_again kind.BeatAck = refl
kind_again kind.Active = refl
kind_again kind.Inactive = refl
kind_again kind.ActiveAck = refl
kind_again kind.InactiveAck = refl
kind_again kind.Register = refl
kind_again kind.Registered = refl
kind_again kind.Deregister = refl
kind_again kind.Deregistered = refl

first_again : (p : Parameter) (rest : List ℕ) → IsParameter p → IsFirst (padded p ++ rest) p rest
first_again p rest h =
    let pad : List ℕ = replicate (padding_after (length p.value)) 0 in
    record {
      headed = omega arith;
      tag = omega (arith, h.tag);
      counted = omega (arith, h.fits);
      sized = h.sized;
      padding = pad;
      padded = inl (length-replicate (padding_after (length p.value)) 0);
      parts = append_assoc p.value pad rest;
    }

list_again : (ps : List Parameter) → AllByRecursion IsParameter ps → AreParameters (all_padded ps) ps
list_again [] h = refl
list_again (p ∷ ps) h = (all_padded ps, first_again p (all_padded ps) h.0, list_again ps h.1)

pub tells_all : (octets : List ℕ) → 8 ≤ length octets → told_length octets ≡ length octets → TellsLength octets
tells_all octets long same =
    let a : leb 8 (length octets) ≡ true = le-leb 8 (length octets) long in
    let b : leb 8 (told_length octets) ≡ true = le-leb 8 (told_length octets) (omega (arith, long, same)) in
    let c : eqb (told_length octets) (length octets) ≡ true = eq-eqb _ _ same in
    rw (a, b, c) refl

body_all : (octets : List ℕ) → told_length octets ≡ length octets → body octets ≡ drop 8 octets
body_all octets same =
    ap (λ (n : ℕ). take (n - 8) (drop 8 octets)) same ∙ take_all (length octets - 8) (drop 8 octets) (omega (arith, length-drop 8 octets))

pub encoded_is_read : EncodedIsRead
encoded_is_read k octets ps are few all =
    let told : told_length (header k (length octets) ++ octets) ≡ length (header k (length octets) ++ octets) = omega (arith, few) in
    record {
      counted = tells_all (header k (length octets) ++ octets) (omega arith) told;
      version = refl;
      kind = kind_again k;
      parameters = subst (λ (xs : List ℕ). AreParameters xs ps) (sym (body_all (header k (length octets) ++ octets) told)) are;
      complete = all;
    }

pub spelled_is_read : (m : Message) → IsMessage m → IsFrame (spelling m) m
spelled_is_read m h = encoded_is_read m.kind (all_padded m.parameters) m.parameters (list_again m.parameters h.each) h.fits h.complete

pub short_length : (octets : List ℕ) → length octets < 8 → TellsLength octets → ⊥
short_length octets short e =
    let no : leb 8 (length octets) ≡ false = lt-leb 8 (length octets) short in
    let wrong : false ≡ true = ap (λ (b : Bool). b && tells (told_length octets) (length octets)) (sym no) ∙ e in cc

-- ---- why there is no such message

abbrev IsUnknown : Fault → Type 0
IsUnknown f = (f ≡ fault.UnknownClass) ⊎ (f ≡ fault.UnknownType)

skip : (b : Bool) (k : Kind) (r : Result Kind Fault) (f : Fault) → cond b (Ok k) r ≡ Err f → r ≡ Err f
skip true k r f e = absurd cc
skip false k r f e = e

no_type : (r : Result Kind Fault) (f : Fault) → r ≡ Err f → r ≡ Err fault.UnknownType → IsUnknown f
no_type r f e g = let both = sym e ∙ g in inr cc

no_class : (r : Result Kind Fault) (f : Fault) → r ≡ Err f → r ≡ Err fault.UnknownClass → IsUnknown f
no_class r f e g = let both = sym e ∙ g in inl cc

either : (b : Bool) (x y : Result Kind Fault) (f : Fault) → (x ≡ Err f → IsUnknown f) → (y ≡ Err f → IsUnknown f) → cond b x y ≡ Err f → IsUnknown f
either true x y f of_x of_y e = of_x e
either false x y f of_x of_y e = of_y e

abbrev bad : Fault → Result Kind Fault
bad f = Err f

type_last : (f : Fault) → bad fault.UnknownType ≡ Err f → IsUnknown f
type_last f e = no_type (bad fault.UnknownType) f e refl

class_last : (f : Fault) → bad fault.UnknownClass ≡ Err f → IsUnknown f
class_last f e = no_class (bad fault.UnknownClass) f e refl

management_errs : (t : ℕ) (f : Fault) → management t ≡ Err f → IsUnknown f
management_errs t f e = type_last f (skip (eqb t 1) _ _ f (skip (eqb t 0) _ _ f e))

transfer_errs : (t : ℕ) (f : Fault) → transfer t ≡ Err f → IsUnknown f
transfer_errs t f e = type_last f (skip (eqb t 1) _ _ f e)

network_errs : (t : ℕ) (f : Fault) → network t ≡ Err f → IsUnknown f
network_errs t f e = type_last f (skip (eqb t 6) _ _ f (skip (eqb t 5) _ _ f (skip (eqb t 4) _ _ f (skip (eqb t 3) _ _ f (skip (eqb t 2) _ _ f (skip (eqb t 1) _ _ f e))))))

state_errs : (t : ℕ) (f : Fault) → state t ≡ Err f → IsUnknown f
state_errs t f e = type_last f (skip (eqb t 6) _ _ f (skip (eqb t 5) _ _ f (skip (eqb t 4) _ _ f (skip (eqb t 3) _ _ f (skip (eqb t 2) _ _ f (skip (eqb t 1) _ _ f e))))))

traffic_errs : (t : ℕ) (f : Fault) → traffic t ≡ Err f → IsUnknown f
traffic_errs t f e = type_last f (skip (eqb t 4) _ _ f (skip (eqb t 3) _ _ f (skip (eqb t 2) _ _ f (skip (eqb t 1) _ _ f e))))

keys_errs : (t : ℕ) (f : Fault) → keys t ≡ Err f → IsUnknown f
keys_errs t f e = type_last f (skip (eqb t 4) _ _ f (skip (eqb t 3) _ _ f (skip (eqb t 2) _ _ f (skip (eqb t 1) _ _ f e))))

kind_errs : (c t : ℕ) (f : Fault) → kind_by c t ≡ Err f → IsUnknown f
kind_errs c t f e =
    either (eqb c 0) _ _ f (management_errs t f) (λ e1.
    either (eqb c 1) _ _ f (transfer_errs t f) (λ e2.
    either (eqb c 2) _ _ f (network_errs t f) (λ e3.
    either (eqb c 3) _ _ f (state_errs t f) (λ e4.
    either (eqb c 4) _ _ f (traffic_errs t f) (λ e5.
    either (eqb c 9) _ _ f (keys_errs t f) (class_last f) e5) e4) e3) e2) e1) e

pub refused_kind : (octets : List ℕ) (f : Fault) → TellsLength octets → IsVersion1 octets → kind_in octets ≡ Err f → Refuses octets f
refused_kind octets f counted version e =
    elim (kind_errs (slice_index octets 2) (slice_index octets 3) f e) [
      | inl class ↦ subst (Refuses octets) (sym class) (counted, version, e ∙ ap (λ (x : Fault). Err x) class)
      | inr type ↦ subst (Refuses octets) (sym type) (counted, version, e ∙ ap (λ (x : Fault). Err x) type)
    ]

-- ---- steps of the code

pub seen : {A B : Type 0} (f : A → B) (o : Option A) (v : Option B) → option_map f o ≡ v → is_some v ≡ is_some o
seen f None v e = ap is_some (sym e)
seen f (Some x) v e = ap is_some (sym e)

-- the tags from an index on
pub all_from : (tags : List ℕ) (i t : ℕ) (ps : List Parameter) → i < length tags → t ≡ get_or tags i 0 → has_all (drop i tags) ps ≡ (is_some (value_of t ps) && has_all (drop (i + 1) tags) ps)
all_from tags i t ps lt at =
    at_drop_more (λ (ts : List ℕ). has_all ts ps) tags i 0 lt ∙ ap (λ (x : ℕ). is_some (value_of x ps) && has_all (drop (i + 1) tags) ps) (sym at)

pub all_there : (octets : List ℕ) (kind : Kind) → TellsLength octets → IsVersion1 octets → kind_in octets ≡ Ok kind → Good (body octets)
    → ((ps : List Parameter) → AreParameters (body octets) ps → true ≡ has_all (mandatory kind) ps)
    → (ps : List Parameter) × AreParameters (body octets) ps × IsFrame octets (record { kind = kind; parameters = ps })
all_there octets kind counted version is g all =
    (g.0, g.1, record { counted = counted; version = version; kind = is; parameters = g.1; complete = sym (all g.0 g.1) })

pub not_all_there : (octets : List ℕ) (kind : Kind) → TellsLength octets → IsVersion1 octets → kind_in octets ≡ Ok kind → Good (body octets)
    → ((ps : List Parameter) → AreParameters (body octets) ps → false ≡ has_all (mandatory kind) ps) → Refuses octets fault.Missing
not_all_there octets kind counted version is g all =
    (counted, version, (record { kind = kind; parameters = g.0 }, is, g.1, sym (all g.0 g.1)))

pub no_length : (octets : List ℕ) → tells_length octets ≡ false → TellsLength octets → ⊥
no_length octets not_told told = let wrong : false ≡ true = sym not_told ∙ told in cc

pub none_good_there : (octets : List ℕ) (kind : Kind) → TellsLength octets → IsVersion1 octets → kind_in octets ≡ Ok kind → (Good (body octets) → ⊥) → Refuses octets fault.Field
none_good_there octets kind counted version is none = (counted, version, (kind, is), none)
