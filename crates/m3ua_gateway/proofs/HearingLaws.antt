-- Octets are the protocol data of one value, so what they carry is one message.
use Rattle.std.proofs.Common.{◌≡◌, ℕ, ◌/◌, ◌%◌, ◌^◌, ◌<◌, List, length, get_or, drop, Some, None, sym, ap, subst, ◌∙◌, arith}
use Rattle.m3ua_frames.specs.Protocol.{Protocol, protocol_octets, IsCarried}
use Rattle.m3ua_gateway.specs.Hearing.{IsCarriedBy}

one_number : (n m : ℕ) → n / 2 ^ 24 ≡ m / 2 ^ 24 → n / 2 ^ 16 % 2 ^ 8 ≡ m / 2 ^ 16 % 2 ^ 8 → n / 2 ^ 8 % 2 ^ 8 ≡ m / 2 ^ 8 % 2 ^ 8 → n % 2 ^ 8 ≡ m % 2 ^ 8 → n ≡ m
one_number n m a b c d = omega arith

rebuilt : (p q : Protocol) → p.opc ≡ q.opc → p.dpc ≡ q.dpc → p.si ≡ q.si → p.ni ≡ q.ni → p.mp ≡ q.mp → p.sls ≡ q.sls → p.user_data ≡ q.user_data → p ≡ q
rebuilt p q opc dpc si ni mp sls user =
    ap (λ (x : ℕ). record { opc = x; dpc = p.dpc; si = p.si; ni = p.ni; mp = p.mp; sls = p.sls; user_data = p.user_data }) opc
    ∙ ap (λ (x : ℕ). record { opc = q.opc; dpc = x; si = p.si; ni = p.ni; mp = p.mp; sls = p.sls; user_data = p.user_data }) dpc
    ∙ ap (λ (x : ℕ). record { opc = q.opc; dpc = q.dpc; si = x; ni = p.ni; mp = p.mp; sls = p.sls; user_data = p.user_data }) si
    ∙ ap (λ (x : ℕ). record { opc = q.opc; dpc = q.dpc; si = q.si; ni = x; mp = p.mp; sls = p.sls; user_data = p.user_data }) ni
    ∙ ap (λ (x : ℕ). record { opc = q.opc; dpc = q.dpc; si = q.si; ni = q.ni; mp = x; sls = p.sls; user_data = p.user_data }) mp
    ∙ ap (λ (x : ℕ). record { opc = q.opc; dpc = q.dpc; si = q.si; ni = q.ni; mp = q.mp; sls = x; user_data = p.user_data }) sls
    ∙ ap (λ (x : List ℕ). record { opc = q.opc; dpc = q.dpc; si = q.si; ni = q.ni; mp = q.mp; sls = q.sls; user_data = x }) user

pub one_protocol : (p q : Protocol) → protocol_octets p ≡ protocol_octets q → p ≡ q
one_protocol p q e =
    let at : (i : ℕ) → get_or (protocol_octets p) i 0 ≡ get_or (protocol_octets q) i 0 = λ i. ap (λ (xs : List ℕ). get_or xs i 0) e in
    rebuilt p q (one_number p.opc q.opc (at 0) (at 1) (at 2) (at 3)) (one_number p.dpc q.dpc (at 4) (at 5) (at 6) (at 7)) (at 8) (at 9) (at 10) (at 11) (ap (drop 12) e)

-- what a value carries, where it is the octets of p
pub none_carried : (value : List ℕ) (p : Protocol) → value ≡ protocol_octets p → (IsCarried p → p.si < 3) → IsCarriedBy (Some value) None
none_carried value p is few q also carried =
    let same : p ≡ q = one_protocol p q (sym is ∙ also) in
    subst (λ (x : Protocol). IsCarried x → x.si < 3) same few carried

pub none_short : (value : List ℕ) → length value < 12 → IsCarriedBy (Some value) None
none_short value short q also carried = absurd (omega (arith, ap length also))
