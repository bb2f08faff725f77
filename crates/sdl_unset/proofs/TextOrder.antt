-- Paths by numbers and by names have the same order.
use Rattle.std.proofs.Common.{◌≡◌, ℕ, suc, ◌<◌, List, [], ◌∷◌, length, refl, sym, ap, ◌∙◌, subst, arith, inl, inr, ◌⊎◌}
use Rattle.std.specs.List.{AllZip}
use Rattle.sdl_unset.specs.declared.paths.Step as number
use Rattle.sdl_unset.specs.declared.paths.Step.TheVariants.{Start as First, Input as By}
use Rattle.sdl_unset.specs.Order as paths
use Rattle.sdl_ast.specs.Plain.{PlainProcess}
use Rattle.sdl_sound.specs.PathOrder.{StandsAt, Precedes, IsSame, Earlier, NotAfter}
use Rattle.sdl_sound.specs.declared.fault.Step.{Step}
use Rattle.sdl_sound.specs.declared.fault.Step.TheVariants.{Start, Input as Takes}
use Rattle.sdl_unset.specs.Fates.{IsNamed}
use Rattle.sdl_sound.proofs.Numbered.{folded_same}

-- A step by names has the place of the one by numbers.
abbrev pub IsAt : PlainProcess → number.Step → Step → Type 0
IsAt p First n = n ≡ Start
IsAt p (By q i) n = StandsAt p n q i

named_at : (p : PlainProcess) (s : number.Step) (n : Step) → IsNamed p s n → IsAt p s n
named_at p First n h = h
named_at p (By q i) n (id, here, inp, there, signal, same, is) =
    subst (λ (m : Step). StandsAt p m q i) (sym is) (id, here, folded_same id.name id.name refl, inp, there, same)

pub all_named : (p : PlainProcess) (a : List number.Step) (xs : List Step) → AllZip (IsNamed p) a xs → AllZip (IsAt p) a xs
all_named p [] [] h = tt
all_named p [] (x ∷ xs) h = absurd h
all_named p (s ∷ a) [] h = absurd h
all_named p (s ∷ a) (x ∷ xs) h = (named_at p s x h.0, all_named p a xs h.1)

zip_long : (p : PlainProcess) (a : List number.Step) (xs : List Step) → AllZip (IsAt p) a xs → length a ≡ length xs
zip_long p [] [] h = refl
zip_long p [] (x ∷ xs) h = absurd h
zip_long p (s ∷ a) [] h = absurd h
zip_long p (s ∷ a) (x ∷ xs) h = ap suc (zip_long p a xs h.1)

same_at : (p : PlainProcess) (q i : ℕ) (n m : Step) → StandsAt p n q i → StandsAt p m q i → IsSame p n m
same_at p q i Start m h k = absurd h
same_at p q i (Takes a b) Start h k = absurd k
same_at p q i (Takes a b) (Takes c d) h k = (q, i, h, k)

same_step : (p : PlainProcess) (s : number.Step) (n m : Step) → IsAt p s n → IsAt p s m → IsSame p n m
same_step p First n m h k = subst (λ (u : Step). IsSame p u m) (sym h) (subst (λ (u : Step). IsSame p Start u) (sym k) tt)
same_step p (By q i) n m h k = same_at p q i n m h k

same_names : (p : PlainProcess) (a : List number.Step) (xs ys : List Step) → AllZip (IsAt p) a xs → AllZip (IsAt p) a ys → AllZip (IsSame p) xs ys
same_names p [] [] [] h k = tt
same_names p [] [] (y ∷ ys) h k = absurd k
same_names p [] (x ∷ xs) ys h k = absurd h
same_names p (s ∷ a) [] ys h k = absurd h
same_names p (s ∷ a) (x ∷ xs) [] h k = absurd k
same_names p (s ∷ a) (x ∷ xs) (y ∷ ys) h k = (same_step p s x y h.0 k.0, same_names p a xs ys h.1 k.1)

precedes_at : (p : PlainProcess) (q i r j : ℕ) (n m : Step) → StandsAt p n q i → StandsAt p m r j → (q < r) ⊎ ((q ≡ r) × (i < j)) → Precedes p n m
precedes_at p q i r j Start m h k l = absurd h
precedes_at p q i r j (Takes a b) Start h k l = absurd k
precedes_at p q i r j (Takes a b) (Takes c d) h k l = (q, i, r, j, h, k, l)

start_precedes : (p : PlainProcess) (r j : ℕ) (m : Step) → StandsAt p m r j → Precedes p Start m
start_precedes p r j Start h = absurd h
start_precedes p r j (Takes a b) h = tt

precedes_names : (p : PlainProcess) (s t : number.Step) (n m : Step) → paths.Precedes s t → IsAt p s n → IsAt p t m → Precedes p n m
precedes_names p First First n m h k l = absurd h
precedes_names p First (By r j) n m h k l = subst (λ (u : Step). Precedes p u m) (sym k) (start_precedes p r j m l)
precedes_names p (By q i) First n m h k l = absurd h
precedes_names p (By q i) (By r j) n m h k l = precedes_at p q i r j n m k l h

earlier_names : (p : PlainProcess) (a b : List number.Step) (xs ys : List Step) → paths.Earlier a b → AllZip (IsAt p) a xs → AllZip (IsAt p) b ys → Earlier p xs ys
earlier_names p [] b xs ys h k l = absurd h
earlier_names p (s ∷ a) [] xs ys h k l = absurd h
earlier_names p (s ∷ a) (t ∷ b) [] ys h k l = absurd k
earlier_names p (s ∷ a) (t ∷ b) (x ∷ xs) [] h k l = absurd l
earlier_names p (s ∷ a) (t ∷ b) (x ∷ xs) (y ∷ ys) h k l = elim h [
  | inl first ↦ inl (precedes_names p s t x y first k.0 l.0)
  | inr e ↦ inr (same_step p t x y (subst (λ (u : number.Step). IsAt p u x) e.0 k.0) l.0, earlier_names p a b xs ys e.1 k.1 l.1)
]

pub not_after_names : (p : PlainProcess) (a b : List number.Step) (xs ys : List Step) → paths.NotAfter a b → AllZip (IsAt p) a xs → AllZip (IsAt p) b ys → NotAfter p xs ys
not_after_names p a b xs ys h k l = elim h [
  | inl e ↦
      let there = subst (λ (u : List number.Step). AllZip (IsAt p) u xs) e k in
      inr (sym (zip_long p b xs there) ∙ zip_long p b ys l, inl (same_names p b xs ys there l))
  | inr before ↦ elim before [
    | inl lt ↦ inl (omega (arith, lt, zip_long p a xs k, zip_long p b ys l))
    | inr e ↦ inr (sym (zip_long p a xs k) ∙ (e.0 ∙ zip_long p b ys l), inr (earlier_names p a b xs ys e.1 k l))
  ]
]
