-- Refusals of a text, by the faults of its declarations and those of its meaning.
use Rattle.std.proofs.Common.{◌≡◌, ℕ, Bool, List, [], ◌++◌, Option, Some, None, ap, subst}
use Rattle.std.specs.Prelude.{Contains, IfSome, IsNone, is_some}
use Rattle.std.proofs.lemmas.List.Elements.{Contains-append_left, Contains-append_right}
use Rattle.sdl_ast.specs.Plain.{PlainBlock}
use Rattle.sdl_tables.specs.Scopes.{Marks, double_names}
use Rattle.sdl_sound.specs.Names.{unknown_names}
use Rattle.sdl_sound.specs.Sorts.{wrong_sorts}
use Rattle.sdl_sound.specs.Divisors.{bad_divisors}
use Rattle.sdl_sound.specs.Sound.{Sound}
use Rattle.sdl_sound.specs.Refusals.{IsDistinct, IsKnown, IsSorted, IsAnswered, IsDivided, Refuses}
use Rattle.sdl_sound.specs.declared.fault.RuleFault.{RuleFault}
use Rattle.sdl_sound.specs.declared.fault.RuleFault.TheVariants.{DoubleName, UnknownName, WrongSort, BadDivisor}
use Rattle.sdl_rules.specs.Expansion.{expanded}
use Rattle.sdl_rules.specs.Faults.{double_synonyms, block_places}
use Rattle.sdl_rules.specs.Texts.{RefusesText, SoundText, AreDeclared, AreDistinct, AreKnown, AreSorted, AreDivided}
use Rattle.sdl_rules.specs.declared.expansion.Misdeclared.{Misdeclared}

a_place : (o : Option ℕ) (at : ℕ) (xs : List ℕ) → o ≡ Some at → Marks o xs → Contains xs at
a_place o at xs is marks = let P : Option ℕ → Type 0 = λ q. Marks q xs in subst P is marks

no_place : (o : Option ℕ) (xs : List ℕ) → o ≡ None → Marks o xs → xs ≡ []
no_place o xs is marks = let P : Option ℕ → Type 0 = λ q. Marks q xs in subst P is marks

module _ (d : Misdeclared) (b : PlainBlock) (are : AreDeclared b d) where
  pub double_there : (at : ℕ) → d.double ≡ Some at → RefusesText b (DoubleName at)
  double_there at is = Contains-append_right (double_names (expanded b)) (double_synonyms b) at (a_place d.double at (double_synonyms b) is are.double)

  pub double_nowhere : d.double ≡ None → IsDistinct (expanded b) → AreDistinct b
  double_nowhere is kept = (kept, no_place d.double (double_synonyms b) is are.double)

  pub unknown_there : (at : ℕ) → d.strays.unknown ≡ Some at → AreDistinct b → RefusesText b (UnknownName at)
  unknown_there at is before =
      (before, Contains-append_right (unknown_names (expanded b)) (block_places b).unknown at (a_place d.strays.unknown at (block_places b).unknown is are.strays.unknown))

  pub unknown_nowhere : d.strays.unknown ≡ None → AreDistinct b → IsKnown (expanded b) → AreKnown b
  unknown_nowhere is before kept = (before, kept, no_place d.strays.unknown (block_places b).unknown is are.strays.unknown)

  pub wrong_there : (at : ℕ) → d.strays.wrong ≡ Some at → AreKnown b → RefusesText b (WrongSort at)
  wrong_there at is before =
      (before, Contains-append_right (wrong_sorts (expanded b)) (block_places b).wrong at (a_place d.strays.wrong at (block_places b).wrong is are.strays.wrong))

  pub wrong_nowhere : d.strays.wrong ≡ None → AreKnown b → IsSorted (expanded b) → AreSorted b
  wrong_nowhere is before kept = (before, kept, no_place d.strays.wrong (block_places b).wrong is are.strays.wrong)

  pub divisor_there : (at : ℕ) → d.strays.divisor ≡ Some at → AreSorted b → IsAnswered (expanded b) → RefusesText b (BadDivisor at)
  divisor_there at is before answered = (
    before,
    answered,
    Contains-append_right (bad_divisors (expanded b)) (block_places b).divisors at (a_place d.strays.divisor at (block_places b).divisors is are.strays.divisor),
  )

  pub divisor_nowhere : d.strays.divisor ≡ None → AreSorted b → IsDivided (expanded b) → AreDivided b
  divisor_nowhere is before kept = (before, kept, no_place d.strays.divisor (block_places b).divisors is are.strays.divisor)

-- ---- the answer of a part that may refuse

pub found_of : {A : Type 0} (P : A → Type 0) (o : Option A) (x : A) → o ≡ Some x → IfSome o P → P x
found_of {A = A} P o x is h = let Q : Option A → Type 0 = λ q. IfSome q P in subst Q is h

pub is_none : {A : Type 0} (o : Option A) → o ≡ None → IsNone o
is_none {A = A} o is = let f : Option A → Bool = λ q. is_some q in ap f is

pub some_weaker : {A : Type 0} (P Q : A → Type 0) (o : Option A) → ((x : A) → P x → Q x) → IfSome o P → IfSome o Q
some_weaker P Q None f h = h
some_weaker P Q (Some x) f h = f x h

pub of_fault : (b : PlainBlock) (one other : RuleFault) → one ≡ other → Refuses b one → Refuses b other
of_fault b one other is refuses = subst (λ (e : RuleFault). Refuses b e) is refuses

-- ---- the rules that a sound block keeps

pub sorted_of_answered : (b : PlainBlock) → IsAnswered b → IsSorted b
sorted_of_answered b h = h.0.0.0.0.0

pub divided_of_sound : (b : PlainBlock) → Sound b → IsDivided b
divided_of_sound b s = ((((((((s.distinct, s.known), s.sorted), s.ended), s.received), s.single), s.joined), s.answered), s.divided)

pub sound_text : (b : PlainBlock) → Sound (expanded b) → AreDivided b → SoundText b
sound_text b s kept = record {
  sound = s;
  declared = record { distinct = kept.0.0.0.1; known = kept.0.0.2; sorted = kept.0.2; divided = kept.2 };
}
