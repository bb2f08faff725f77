-- Messages that are put together parameter by parameter.
use Rattle.std.proofs.Common.{◌≡◌, ℕ, ◌<◌, ◌≤◌, true, false, eqb, List, [], ◌∷◌, ◌++◌, length, Option, Some, None, refl, sym, ap, arith}
use Rattle.std.specs.List.{flat_map}
use Rattle.std.proofs.lemmas.Bool.{eqb-true, eqb-false}
use Rattle.std.proofs.lemmas.List.{append-nil}
use Rattle.m3ua_frames.specs.Numbers.{octets_4}
use Rattle.m3ua_frames.specs.declared.kinds.Kind.{Kind}
use Rattle.m3ua_frames.specs.Parameters.{Parameter, padded, all_padded}
use Rattle.m3ua_frames.specs.Frame.{header}
use Rattle.m3ua_frames.specs.Protocol.{Protocol, protocol_in}
use Rattle.m3ua_gateway.specs.Sending.{numbers, octets_of}

pub spelled : (k : Kind) (body : List ℕ) (ps : List Parameter) → body ≡ all_padded ps → header k (length body) ++ body ≡ octets_of k ps
spelled k body ps e = ap (λ (xs : List ℕ). header k (length xs) ++ xs) e

pub one : (p : Parameter) → padded p ≡ all_padded (p ∷ [])
one p = sym (append-nil (padded p))

pub two : (p q : Parameter) → padded p ++ padded q ≡ all_padded (p ∷ q ∷ [])
two p q = ap (λ (xs : List ℕ). padded p ++ xs) (one q)

abbrev data_in : Option Protocol → List ℕ → List ℕ
data_in None user = user
data_in (Some p) user = p.user_data

-- a message's data is no longer than its field
pub data_within : (sio : ℕ) (xs : List ℕ) (p : Protocol) → protocol_in sio xs ≡ Some p → length p.user_data ≤ length xs
data_within sio [] p e = absurd cc
data_within sio (a ∷ []) p e = absurd cc
data_within sio (a ∷ b ∷ []) p e = absurd cc
data_within sio (a ∷ b ∷ c ∷ []) p e = absurd cc
data_within sio (a ∷ b ∷ c ∷ d ∷ user) p e =
    let same : user ≡ p.user_data = ap (λ (o : Option Protocol). data_in o user) e in
    omega (arith, ap length same)

pub none_short : (sio : ℕ) (xs : List ℕ) → length xs < 4 → None ≡ protocol_in sio xs
none_short sio [] few = refl
none_short sio (a ∷ []) few = refl
none_short sio (a ∷ b ∷ []) few = refl
none_short sio (a ∷ b ∷ c ∷ []) few = refl
none_short sio (a ∷ b ∷ c ∷ d ∷ user) few = absurd (omega (arith, few))

-- ---- numbers of a parameter, if there are some

pub no_numbers : (tag : ℕ) (xs ns : List ℕ) → xs ≡ flat_map octets_4 ns → eqb (length xs) 0 ≡ true → numbers tag ns ≡ []
no_numbers tag xs [] items empty = refl
no_numbers tag xs (n ∷ ns) items empty = absurd (omega (arith, ap length items, eqb-true (length xs) 0 empty))

pub some_numbers : (tag : ℕ) (xs ns : List ℕ) → xs ≡ flat_map octets_4 ns → eqb (length xs) 0 ≡ false → ◌≡◌ {A = List Parameter} (record { tag = tag; value = xs } ∷ []) (numbers tag ns)
some_numbers tag xs [] items some = absurd (eqb-false (length xs) 0 some (ap length items))
some_numbers tag xs (n ∷ ns) items some = ap (λ (v : List ℕ). record { tag = tag; value = v } ∷ []) items
