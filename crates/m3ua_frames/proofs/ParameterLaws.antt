-- Octets begin with at most one parameter, and the code finds it.
use Rattle.std.proofs.Common.{◌≡◌, ℕ, ◌-◌, ◌<◌, ◌≤◌, Bool, true, false, cond, eqb, ltb, List, [], ◌∷◌, ◌++◌, length, take, drop, Option, Some, None, ◌⊎◌, inl, inr, refl, sym, ap, subst, ◌∙◌, arith}
use Rattle.std.specs.Option.{option_map}
use Rattle.std.proofs.lemmas.Bool.{ltb-false, le-ltb, eqb-true}
use Rattle.std.proofs.lemmas.List.{take_at, drop_at, take-append-drop, length-append, length-take, length-drop, nil_from_length}
use Rattle.m3ua_frames.specs.Numbers.{number_2}
use Rattle.m3ua_frames.specs.Tags.{is_sized}
use Rattle.m3ua_frames.specs.Parameters.{Parameter, IsFirst, AreParameters, IsNext, padding_after, value_of, values_of}
use Rattle.m3ua_frames.specs.Reading.{past_padding, value_at, parameter_at}

guard_none : {A : Type 0} (b : Bool) (x : Option A) (y : A) → cond b None x ≡ Some y → (b ≡ false) × (x ≡ Some y)
guard_none true x y e = absurd cc
guard_none false x y e = (refl, e)

guard_some : {A : Type 0} (b : Bool) (x : Option A) (y : A) → cond b x None ≡ Some y → (b ≡ true) × (x ≡ Some y)
guard_some true x y e = (refl, e)
guard_some false x y e = absurd cc

map_some : {A B : Type 0} (f : A → B) (o : Option A) (y : B) → option_map f o ≡ Some y → (x : A) × (o ≡ Some x) × (f x ≡ y)
map_some f None y e = absurd cc
map_some f (Some x) y e = (x, refl, cc)

-- ---- padding

abbrev pub IsPadding : ℕ → List ℕ → List ℕ → Type 0
IsPadding n padding rest = (length padding ≡ n) ⊎ ((padding ≡ []) × (rest ≡ []))

past_choice : (b c : Bool) (n : ℕ) (octets rest : List ℕ) → b ≡ eqb (length octets) 0 → c ≡ ltb (length octets) n
    → cond b (Some octets) (cond c None (Some (drop n octets))) ≡ Some rest
    → (padding : List ℕ) × IsPadding n padding rest × (octets ≡ padding ++ rest)
past_choice true c n octets rest at_b at_c e =
    let nothing : octets ≡ [] = nil_from_length octets (eqb-true _ _ (sym at_b)) in
    let same : octets ≡ rest = cc in
    ([], inr (refl, sym same ∙ nothing), same)
past_choice false true n octets rest at_b at_c e = absurd cc
past_choice false false n octets rest at_b at_c e =
    let same : drop n octets ≡ rest = cc in
    let long : n ≤ length octets = ltb-false _ _ (sym at_c) in
    (take n octets, inl (omega (arith, length-take n octets)), sym (take-append-drop n octets) ∙ ap (λ (r : List ℕ). take n octets ++ r) same)

past_sound : (n : ℕ) (octets rest : List ℕ) → past_padding n octets ≡ Some rest → (padding : List ℕ) × IsPadding n padding rest × (octets ≡ padding ++ rest)
past_sound n octets rest e = past_choice (eqb (length octets) 0) (ltb (length octets) n) n octets rest refl refl e

past_there : (padding rest : List ℕ) (b : Bool) → b ≡ eqb (length (padding ++ rest)) 0
    → cond b (Some (padding ++ rest)) (cond (ltb (length (padding ++ rest)) (length padding)) None (Some (drop (length padding) (padding ++ rest)))) ≡ Some rest
past_there padding rest true at_b =
    let nothing : length (padding ++ rest) ≡ 0 = eqb-true _ _ (sym at_b) in
    let no_padding : padding ≡ [] = nil_from_length padding (omega (arith, length-append padding rest)) in
    ap (λ (x : List ℕ). Some (x ++ rest)) no_padding
past_there padding rest false at_b =
    let long : ltb (length (padding ++ rest)) (length padding) ≡ false = le-ltb _ _ (omega (arith, length-append padding rest)) in
    rw (long, drop_at padding rest (length padding) refl) refl

past_complete : (n : ℕ) (padding rest : List ℕ) → IsPadding n padding rest → past_padding n (padding ++ rest) ≡ Some rest
past_complete n padding rest (inl long) = subst (λ (k : ℕ). past_padding k (padding ++ rest) ≡ Some rest) long (past_there padding rest (eqb (length (padding ++ rest)) 0) refl)
past_complete n padding rest (inr nothing) = rw (nothing.0, nothing.1) refl

-- ---- one parameter

pub first_sound : (octets : List ℕ) (p : Parameter) (rest : List ℕ) → parameter_at octets ≡ Some (p, rest) → IsFirst octets p rest
unfolding parameter_at value_at
first_sound octets p rest e =
    let n : ℕ = number_2 octets 2 - 4 in
    let tag : ℕ = number_2 octets 0 in
    let made : List ℕ → Parameter × List ℕ = λ (r : List ℕ). (record { tag = tag; value = take n (drop 4 octets) }, r) in
    let a = guard_none (ltb (length octets) 4) _ (p, rest) e in
    let b = guard_none (ltb (number_2 octets 2) 4) _ (p, rest) a.1 in
    let c = guard_none (ltb (length (drop 4 octets)) n) _ (p, rest) b.1 in
    let d = guard_some (is_sized tag n) (option_map made (past_padding (padding_after n) (drop n (drop 4 octets)))) (p, rest) c.1 in
    let m = map_some made (past_padding (padding_after n) (drop n (drop 4 octets))) (p, rest) d.1 in
    let behind = past_sound (padding_after n) (drop n (drop 4 octets)) m.0 m.1 in
    let headed : 4 ≤ length octets = ltb-false _ _ a.0 in
    let counts : 4 ≤ number_2 octets 2 = ltb-false _ _ b.0 in
    let there : n ≤ length (drop 4 octets) = ltb-false _ _ c.0 in
    let long : length (take n (drop 4 octets)) ≡ n = omega (arith, length-take n (drop 4 octets)) in
    let whole : IsFirst octets (record { tag = tag; value = take n (drop 4 octets) }) m.0 = record {
      headed = headed;
      tag = refl;
      counted = omega (arith, long);
      sized = ap (is_sized tag) long ∙ d.0;
      padding = behind.0;
      padded = subst (λ (k : ℕ). IsPadding (padding_after k) behind.0 m.0) (sym long) behind.1;
      parts = sym (take-append-drop n (drop 4 octets)) ∙ ap (λ (r : List ℕ). take n (drop 4 octets) ++ r) behind.2;
    } in
    subst (λ (x : Parameter × List ℕ). IsFirst octets x.0 x.1) m.2 whole

pub first_complete : (octets : List ℕ) (p : Parameter) (rest : List ℕ) → IsFirst octets p rest → parameter_at octets ≡ Some (p, rest)
unfolding parameter_at value_at
first_complete octets p rest h =
    let n : ℕ = length p.value in
    let headed : ltb (length octets) 4 ≡ false = le-ltb _ _ h.headed in
    let counts : ltb (number_2 octets 2) 4 ≡ false = le-ltb _ _ (omega (arith, h.counted)) in
    let len : number_2 octets 2 - 4 ≡ n = omega (arith, h.counted) in
    let there : ltb (length (p.value ++ (h.padding ++ rest))) n ≡ false = le-ltb _ _ (omega (arith, length-append p.value (h.padding ++ rest))) in
    rw (headed, counts, len, h.parts, there, ← h.tag, h.sized, drop_at p.value (h.padding ++ rest) n refl, past_complete (padding_after n) h.padding rest h.padded, take_at p.value (h.padding ++ rest) n refl) refl

pub one_first : (octets : List ℕ) (p q : Parameter) (r s : List ℕ) → IsFirst octets p r → IsFirst octets q s → (p ≡ q) × (r ≡ s)
one_first octets p q r s a b =
    let both : Some (p, r) ≡ Some (q, s) = sym (first_complete octets p r a) ∙ first_complete octets q s b in
    let same : (p, r) ≡ (q, s) = cc in
    (ap (λ (x : Parameter × List ℕ). x.0) same, ap (λ (x : Parameter × List ℕ). x.1) same)

pub first_shorter : (octets : List ℕ) (p : Parameter) (rest : List ℕ) → IsFirst octets p rest → length rest < length octets
first_shorter octets p rest h =
    omega (arith, h.headed, length-drop 4 octets, ap length h.parts, length-append p.value (h.padding ++ rest), length-append h.padding rest)

-- ---- all parameters

pub one_list : (octets : List ℕ) (ps qs : List Parameter) → AreParameters octets ps → AreParameters octets qs → ps ≡ qs
one_list octets [] [] a b = refl
one_list octets [] (q ∷ qs) a b = absurd (omega (arith, ap length a, b.1.headed))
one_list octets (p ∷ ps) [] a b = absurd (omega (arith, ap length b, a.1.headed))
one_list octets (p ∷ ps) (q ∷ qs) a b =
    let same = one_first octets p q a.0 b.0 a.1 b.1 in
    let others : AreParameters a.0 qs = subst (λ (r : List ℕ). AreParameters r qs) (sym same.1) b.2 in
    ap (λ (x : Parameter). x ∷ ps) same.0 ∙ ap (λ (xs : List Parameter). q ∷ xs) (one_list a.0 ps qs a.2 others)

abbrev pub Good : List ℕ → Type 0
Good octets = (ps : List Parameter) × AreParameters octets ps

pub good_up : (octets : List ℕ) (p : Parameter) (rest : List ℕ) → parameter_at octets ≡ Some (p, rest) → Good rest → Good octets
good_up octets p rest e g = (p ∷ g.0, (rest, first_sound octets p rest e, g.1))

-- the parameters after the first
pub behind_first : (octets : List ℕ) (p : Parameter) (rest : List ℕ) (ps : List Parameter) → parameter_at octets ≡ Some (p, rest) → AreParameters octets ps
    → (qs : List Parameter) × (ps ≡ p ∷ qs) × AreParameters rest qs
behind_first octets p rest [] e a = absurd (omega (arith, ap length a, (first_sound octets p rest e).headed))
behind_first octets p rest (q ∷ qs) e a =
    let same = one_first octets q p a.0 rest a.1 (first_sound octets p rest e) in
    (qs, ap (λ (x : Parameter). x ∷ qs) same.0, subst (λ (r : List ℕ). AreParameters r qs) same.1 a.2)

pub good_down : (octets : List ℕ) (p : Parameter) (rest : List ℕ) → parameter_at octets ≡ Some (p, rest) → Good octets → Good rest
good_down octets p rest e g = let b = behind_first octets p rest g.0 e g.1 in (b.0, b.2)

-- if there is no first parameter, there is none
pub none_first : (octets : List ℕ) (ps : List Parameter) → parameter_at octets ≡ None → AreParameters octets ps → ps ≡ []
none_first octets [] e a = refl
none_first octets (p ∷ ps) e a = let there = first_complete octets p a.0 a.1 in absurd cc

-- ---- steps of the code

none_left : (rest : List ℕ) (qs : List Parameter) → length rest ≡ 0 → AreParameters rest qs → qs ≡ []
none_left rest [] empty a = refl
none_left rest (q ∷ qs) empty a = absurd (omega (arith, empty, a.1.headed))

pub none_good : (rest octets : List ℕ) → 0 < length rest → parameter_at rest ≡ None → (Good octets → Good rest) → Good octets → ⊥
none_good rest octets long e down g =
    let there : Good rest = down g in
    let none : there.0 ≡ [] = none_first rest there.0 e there.1 in
    let empty : rest ≡ [] = subst (AreParameters rest) none there.1 in
    omega (arith, ap length empty)

-- if the next parameter has another tag, the value is that of a parameter after it
pub value_behind : (tag : ℕ) (octets rest after : List ℕ) (p : Parameter) → parameter_at rest ≡ Some (p, after) → eqb p.tag tag ≡ false
    → ((ps : List Parameter) → AreParameters octets ps → (qs : List Parameter) × AreParameters rest qs × (value_of tag ps ≡ value_of tag qs))
    → (ps : List Parameter) → AreParameters octets ps → (qs : List Parameter) × AreParameters after qs × (value_of tag ps ≡ value_of tag qs)
value_behind tag octets rest after p e other so_far ps a =
    let here = so_far ps a in
    let b = behind_first rest p after here.0 e here.1 in
    let skips : value_of tag (p ∷ b.0) ≡ value_of tag b.0 = ap (λ (t : Bool). cond t (Some p.value) (value_of tag b.0)) other in
    (b.0, b.2, here.2 ∙ ap (value_of tag) b.1 ∙ skips)

pub value_there : (tag : ℕ) (octets rest after : List ℕ) (p : Parameter) → parameter_at rest ≡ Some (p, after) → eqb p.tag tag ≡ true
    → ((ps : List Parameter) → AreParameters octets ps → (qs : List Parameter) × AreParameters rest qs × (value_of tag ps ≡ value_of tag qs))
    → (ps : List Parameter) → AreParameters octets ps → Some p.value ≡ value_of tag ps
value_there tag octets rest after p e same so_far ps a =
    let here = so_far ps a in
    let b = behind_first rest p after here.0 e here.1 in
    let takes : value_of tag (p ∷ b.0) ≡ Some p.value = ap (λ (t : Bool). cond t (Some p.value) (value_of tag b.0)) same in
    sym (here.2 ∙ ap (value_of tag) b.1 ∙ takes)

pub value_nowhere : (tag : ℕ) (octets rest : List ℕ) → parameter_at rest ≡ None
    → ((ps : List Parameter) → AreParameters octets ps → (qs : List Parameter) × AreParameters rest qs × (value_of tag ps ≡ value_of tag qs))
    → (ps : List Parameter) → AreParameters octets ps → None ≡ value_of tag ps
value_nowhere tag octets rest e so_far ps a =
    let here = so_far ps a in
    sym (here.2 ∙ ap (value_of tag) (none_first rest here.0 e here.1))

pub value_at_end : (tag : ℕ) (octets rest : List ℕ) → length rest ≡ 0
    → ((ps : List Parameter) → AreParameters octets ps → (qs : List Parameter) × AreParameters rest qs × (value_of tag ps ≡ value_of tag qs))
    → (ps : List Parameter) → AreParameters octets ps → None ≡ value_of tag ps
value_at_end tag octets rest empty so_far ps a =
    let here = so_far ps a in
    sym (here.2 ∙ ap (value_of tag) (none_left rest here.0 empty here.1))

-- ---- the values of a tag

abbrev pub SameValues : ℕ → List ℕ → List ℕ → Type 0
SameValues tag octets rest = (ps : List Parameter) → AreParameters octets ps → (qs : List Parameter) × AreParameters rest qs × (values_of tag ps ≡ values_of tag qs)

pub values_behind : (tag : ℕ) (octets rest after : List ℕ) (p : Parameter) → parameter_at rest ≡ Some (p, after) → eqb p.tag tag ≡ false → SameValues tag octets rest → SameValues tag octets after
values_behind tag octets rest after p e other so_far ps a =
    let here = so_far ps a in
    let b = behind_first rest p after here.0 e here.1 in
    let skips : values_of tag (p ∷ b.0) ≡ values_of tag b.0 = ap (λ (t : Bool). cond t (p.value ∷ values_of tag b.0) (values_of tag b.0)) other in
    (b.0, b.2, here.2 ∙ ap (values_of tag) b.1 ∙ skips)

pub values_there : (tag : ℕ) (octets rest after : List ℕ) (p : Parameter) → parameter_at rest ≡ Some (p, after) → eqb p.tag tag ≡ true → SameValues tag octets rest
    → (ps : List Parameter) → AreParameters octets ps → IsNext tag ps (Some (p.value, after))
values_there tag octets rest after p e same so_far ps a =
    let here = so_far ps a in
    let b = behind_first rest p after here.0 e here.1 in
    let takes : values_of tag (p ∷ b.0) ≡ p.value ∷ values_of tag b.0 = ap (λ (t : Bool). cond t (p.value ∷ values_of tag b.0) (values_of tag b.0)) same in
    (b.0, b.2, here.2 ∙ ap (values_of tag) b.1 ∙ takes)

pub values_nowhere : (tag : ℕ) (octets rest : List ℕ) → parameter_at rest ≡ None → SameValues tag octets rest → (ps : List Parameter) → AreParameters octets ps → values_of tag ps ≡ []
values_nowhere tag octets rest e so_far ps a =
    let here = so_far ps a in
    here.2 ∙ ap (values_of tag) (none_first rest here.0 e here.1)

pub values_at_end : (tag : ℕ) (octets rest : List ℕ) → length rest ≡ 0 → SameValues tag octets rest → (ps : List Parameter) → AreParameters octets ps → values_of tag ps ≡ []
values_at_end tag octets rest empty so_far ps a =
    let here = so_far ps a in
    here.2 ∙ ap (values_of tag) (none_left rest here.0 empty here.1)
