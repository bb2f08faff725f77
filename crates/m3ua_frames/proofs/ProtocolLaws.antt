-- Protocol data and its octets, and MTP messages and their protocol data.
use Rattle.std.proofs.Common.{◌≡◌, ℕ, ◌+◌, ◌*◌, ◌/◌, ◌%◌, ◌^◌, ◌<◌, ◌≤◌, List, [], ◌∷◌, ◌++◌, length, get_or, drop, Some, refl, sym, ap, ◌∙◌, append_assoc, replicate, arith}
use Rattle.m3ua_frames.specs.Numbers.{number_4, octets_2, octets_4}
use Rattle.m3ua_frames.specs.Parameters.{padding_after, padded}
use Rattle.m3ua_frames.specs.Protocol.{Protocol, protocol_octets, protocol_in, protocol_by, label, IsCarried}

abbrev pub IsBytes : List ℕ → Type 0
IsBytes octets = (i : ℕ) → get_or octets i 0 < 256

four_by : (n a b c d : ℕ) → a < 256 → b < 256 → c < 256 → d < 256 → n ≡ 2 ^ 24 * a + 2 ^ 16 * b + 2 ^ 8 * c + d → octets_4 n ≡ a ∷ b ∷ c ∷ d ∷ []
four_by n a b c d a_fits b_fits c_fits d_fits is =
    let e0 : n / 2 ^ 24 ≡ a = omega arith in
    let e1 : n / 2 ^ 16 % 2 ^ 8 ≡ b = omega arith in
    let e2 : n / 2 ^ 8 % 2 ^ 8 ≡ c = omega arith in
    let e3 : n % 2 ^ 8 ≡ d = omega arith in
    ap (λ (x : ℕ). x ∷ n / 2 ^ 16 % 2 ^ 8 ∷ n / 2 ^ 8 % 2 ^ 8 ∷ n % 2 ^ 8 ∷ []) e0
    ∙ ap (λ (x : ℕ). a ∷ x ∷ n / 2 ^ 8 % 2 ^ 8 ∷ n % 2 ^ 8 ∷ []) e1
    ∙ ap (λ (x : ℕ). a ∷ b ∷ x ∷ n % 2 ^ 8 ∷ []) e2
    ∙ ap (λ (x : ℕ). a ∷ b ∷ c ∷ x ∷ []) e3

four : (a b c d : ℕ) → a < 256 → b < 256 → c < 256 → d < 256 → octets_4 (2 ^ 24 * a + 2 ^ 16 * b + 2 ^ 8 * c + d) ≡ a ∷ b ∷ c ∷ d ∷ []
four a b c d a_fits b_fits c_fits d_fits = four_by (2 ^ 24 * a + 2 ^ 16 * b + 2 ^ 8 * c + d) a b c d a_fits b_fits c_fits d_fits refl

-- twelve octets or more are protocol data
pub protocol_again : (octets : List ℕ) → IsBytes octets → 12 ≤ length octets
    → octets ≡ protocol_octets (record { opc = number_4 octets 0; dpc = number_4 octets 4; si = get_or octets 8 0; ni = get_or octets 9 0; mp = get_or octets 10 0; sls = get_or octets 11 0; user_data = drop 12 octets })
protocol_again (a ∷ b ∷ c ∷ d ∷ e ∷ f ∷ g ∷ h ∷ si ∷ ni ∷ mp ∷ sls ∷ user) fits long =
    let opc = four a b c d (fits 0) (fits 1) (fits 2) (fits 3) in
    let dpc = four e f g h (fits 4) (fits 5) (fits 6) (fits 7) in
    sym (ap (λ (x : List ℕ). x ++ octets_4 (2 ^ 24 * e + 2 ^ 16 * f + 2 ^ 8 * g + h) ++ si ∷ ni ∷ mp ∷ sls ∷ user) opc
    ∙ ap (λ (x : List ℕ). (a ∷ b ∷ c ∷ d ∷ []) ++ x ++ si ∷ ni ∷ mp ∷ sls ∷ user) dpc)
protocol_again _ fits long = absurd (omega arith)

-- ---- labels

-- the label and the service information octet of protocol data that can be carried
abbrev pub label_number : Protocol → ℕ
label_number p = p.dpc + p.opc * 2 ^ 14 + p.sls * 2 ^ 28

abbrev pub service : Protocol → ℕ
service p = p.si + p.mp * 2 ^ 4 + p.ni * 2 ^ 6

pub label_small : (p : Protocol) → IsCarried p → label_number p < 2 ^ 32
label_small p h = omega (arith, h.opc, h.dpc, h.sls)

carried_by : (p : Protocol) (n sio : ℕ) → IsCarried p → n ≡ label_number p → sio ≡ service p → protocol_by sio n p.user_data ≡ p
carried_by p n sio h at_n at_sio =
    let opc : n / 2 ^ 14 % 2 ^ 14 ≡ p.opc = omega (arith, h.opc, h.dpc, h.sls) in
    let dpc : n % 2 ^ 14 ≡ p.dpc = omega (arith, h.opc, h.dpc, h.sls) in
    let sls : n / 2 ^ 28 ≡ p.sls = omega (arith, h.opc, h.dpc, h.sls) in
    let si : sio % 2 ^ 4 ≡ p.si = omega (arith, h.si, h.mp, h.ni) in
    let mp : sio / 2 ^ 4 % 2 ^ 2 ≡ p.mp = omega (arith, h.si, h.mp, h.ni) in
    let ni : sio / 2 ^ 6 ≡ p.ni = omega (arith, h.si, h.mp, h.ni) in
    rw (opc, dpc, si, ni, mp, sls) refl

label_again : (n : ℕ) → label (n % 2 ^ 8) (n / 2 ^ 8 % 2 ^ 8) (n / 2 ^ 16 % 2 ^ 8) (n / 2 ^ 24) ≡ n
label_again n = omega arith

-- protocol data that can be carried is that of the message with this octet and this label
pub carried_again : (p : Protocol) (n : ℕ) (user : List ℕ) → IsCarried p → n ≡ label_number p → user ≡ p.user_data
    → protocol_in (service p) (n % 2 ^ 8 ∷ n / 2 ^ 8 % 2 ^ 8 ∷ n / 2 ^ 16 % 2 ^ 8 ∷ n / 2 ^ 24 ∷ user) ≡ Some p
carried_again p n user h at_n at_user =
    ap (λ (xs : List ℕ). Some (protocol_by (service p) (label (n % 2 ^ 8) (n / 2 ^ 8 % 2 ^ 8) (n / 2 ^ 16 % 2 ^ 8) (n / 2 ^ 24)) xs)) at_user
    ∙ ap (λ (x : ℕ). Some (protocol_by (service p) x p.user_data)) (label_again n)
    ∙ ap (λ (x : Protocol). Some x) (carried_by p n (service p) h at_n refl)

-- ---- one message

same_fields : (sio tio n m : ℕ) (a b : List ℕ) (p : Protocol) → protocol_by sio n a ≡ p → protocol_by tio m b ≡ p → (sio ≡ tio) × (n ≡ m) × (a ≡ b)
same_fields sio tio n m a b p e f =
    let both : protocol_by sio n a ≡ protocol_by tio m b = e ∙ sym f in
    let opc : n / 2 ^ 14 % 2 ^ 14 ≡ m / 2 ^ 14 % 2 ^ 14 = ap (λ (x : Protocol). x.opc) both in
    let dpc : n % 2 ^ 14 ≡ m % 2 ^ 14 = ap (λ (x : Protocol). x.dpc) both in
    let sls : n / 2 ^ 28 ≡ m / 2 ^ 28 = ap (λ (x : Protocol). x.sls) both in
    let si : sio % 2 ^ 4 ≡ tio % 2 ^ 4 = ap (λ (x : Protocol). x.si) both in
    let ni : sio / 2 ^ 6 ≡ tio / 2 ^ 6 = ap (λ (x : Protocol). x.ni) both in
    let mp : sio / 2 ^ 4 % 2 ^ 2 ≡ tio / 2 ^ 4 % 2 ^ 2 = ap (λ (x : Protocol). x.mp) both in
    (omega arith, omega arith, ap (λ (x : Protocol). x.user_data) both)

pub one_carrier : (sio tio : ℕ) (a b : List ℕ) (p : Protocol) → IsBytes a → IsBytes b → protocol_in sio a ≡ Some p → protocol_in tio b ≡ Some p → (sio ≡ tio) × (a ≡ b)
one_carrier sio tio (a0 ∷ a1 ∷ a2 ∷ a3 ∷ a) (b0 ∷ b1 ∷ b2 ∷ b3 ∷ b) p a_fits b_fits e f =
    let e2 : protocol_by sio (label a0 a1 a2 a3) a ≡ p = cc in
    let f2 : protocol_by tio (label b0 b1 b2 b3) b ≡ p = cc in
    let same = same_fields sio tio (label a0 a1 a2 a3) (label b0 b1 b2 b3) a b p e2 f2 in
    let c0 : a0 ≡ b0 = omega (arith, same.1, a_fits 0, a_fits 1, a_fits 2, a_fits 3, b_fits 0, b_fits 1, b_fits 2, b_fits 3) in
    let c1 : a1 ≡ b1 = omega (arith, same.1, a_fits 0, a_fits 1, a_fits 2, a_fits 3, b_fits 0, b_fits 1, b_fits 2, b_fits 3) in
    let c2 : a2 ≡ b2 = omega (arith, same.1, a_fits 0, a_fits 1, a_fits 2, a_fits 3, b_fits 0, b_fits 1, b_fits 2, b_fits 3) in
    let c3 : a3 ≡ b3 = omega (arith, same.1, c0, c1, c2) in
    let user : a ≡ b = same.2 in
    (same.0, cc)
one_carrier sio tio [] b p a_fits b_fits e f = absurd cc
one_carrier sio tio (a0 ∷ []) b p a_fits b_fits e f = absurd cc
one_carrier sio tio (a0 ∷ a1 ∷ []) b p a_fits b_fits e f = absurd cc
one_carrier sio tio (a0 ∷ a1 ∷ a2 ∷ []) b p a_fits b_fits e f = absurd cc
one_carrier sio tio (a0 ∷ a1 ∷ a2 ∷ a3 ∷ a) [] p a_fits b_fits e f = absurd cc
one_carrier sio tio (a0 ∷ a1 ∷ a2 ∷ a3 ∷ a) (b0 ∷ []) p a_fits b_fits e f = absurd cc
one_carrier sio tio (a0 ∷ a1 ∷ a2 ∷ a3 ∷ a) (b0 ∷ b1 ∷ []) p a_fits b_fits e f = absurd cc
one_carrier sio tio (a0 ∷ a1 ∷ a2 ∷ a3 ∷ a) (b0 ∷ b1 ∷ b2 ∷ []) p a_fits b_fits e f = absurd cc

-- ---- parameters as they are appended

pub put_is_padded : (items value : List ℕ) (tag n k padding : ℕ) → n ≡ length value + 4 → k ≡ length value → padding ≡ padding_after k
    → ((items ++ octets_2 tag) ++ octets_2 n) ++ value ++ replicate padding 0 ≡ items ++ padded (record { tag = tag; value = value })
put_is_padded items value tag n k padding at_n at_k at_padding =
    ap (λ (x : ℕ). ((items ++ octets_2 tag) ++ octets_2 x) ++ value ++ replicate padding 0) at_n
    ∙ ap (λ (x : ℕ). ((items ++ octets_2 tag) ++ octets_2 (length value + 4)) ++ value ++ replicate x 0) (at_padding ∙ ap padding_after at_k)
    ∙ simp append_assoc

pub put_fields : (items : List ℕ) (p : Protocol) → ((((((items ++ octets_4 p.opc) ++ octets_4 p.dpc) ++ p.si ∷ []) ++ p.ni ∷ []) ++ p.mp ∷ []) ++ p.sls ∷ []) ++ p.user_data ≡ items ++ protocol_octets p
put_fields items p = simp append_assoc
