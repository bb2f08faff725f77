-- Reports, written part by part.
use Rattle.std.proofs.Common.{◌≡◌, ℕ, ◌+◌, ◌/◌, ◌%◌, ◌<◌, Bool, true, false, List, [], ◌∷◌, ◌++◌, length, take, ap, Option, None, Some, refl, sym, ◌∙◌, subst, append-nil, Result, OnOk}
use Rattle.std.proofs.lemmas.List.{take_more, flat_map_more}
use Rattle.std.proofs.lemmas.Result.{on_ok_weaker}
use Rattle.std.specs.List.{flat_map}
use lib.ListN.{get_or}
use Rattle.std.specs.Prelude.{codes, IsTrue}
use Rattle.line_filter.specs.Acts.{Act, heard, passed, reported, obeyed}
use Rattle.line_filter.specs.Speaking.{Gives}
use Rattle.line_filter.specs.Orders.{Timed, NextIs, NoneIsDue, BeginsAnew, LooksAnew, anew_told, QUIT, told, answered, Tells, nothing, says, TellsAll, Obeys}
use Rattle.line_filter.specs.Runs.{OCTETS, State, Exchanges, ObeysDue, no_order, one_order, looks, ObeysAll, Minds, Behind, between, eighth, Steps}
use Rattle.line_filter.specs.declared.terminal.Answer.{Answer}
use Rattle.line_filter.specs.Desks.{Told}
use Rattle.line_filter.specs.Reporting.{Stand, ToldLine, TellsLines}
use Rattle.line_filter.proofs.Reporting.{tells_none, tells_trans}

pub moved : {A : Type 0} (x y : A) → x ≡ y → (P : A → Type 0) → P x → P y
moved x y is P h = subst P is h

pub not_both : (b : Bool) → b ≡ false → IsTrue b → ⊥
not_both b denied shown = absurd (let e : false ≡ true = sym denied ∙ shown in cc)

-- One more line.
pub lines_more : {X : Type 0} (f : X → List ToldLine) (items : List X) (i : ℕ) (x : X) (text : List ToldLine) (a b c : Stand)
    → i < length items → x ≡ get_or items i x → text ≡ f x → TellsLines a b (flat_map f (take i items)) → TellsLines b c text
    → TellsLines a c (flat_map f (take (i + 1) items))
lines_more f items i x text a b c within is printed before line =
    subst (TellsLines a c)
    (ap (λ (l : List ToldLine). flat_map f (take i items) ++ l) printed
    ∙ (flat_map_more f [] (take i items) x
    ∙ ap (flat_map f) (ap (λ y. take i items ++ y ∷ []) is ∙ sym (take_more items i x within))))
    (tells_trans a b c _ _ before line)

-- One or more lines after others.
pub told_then : {A E : Type 0} (r : Result A E) (a b c : Stand) (bs cs all : List ToldLine) → all ≡ bs ++ cs → TellsLines a b bs → OnOk r (TellsLines b c cs)
    → OnOk r (TellsLines a c all)
told_then r a b c bs cs all is first second =
    on_ok_weaker r (λ (more : TellsLines b c cs). subst (TellsLines a c) (sym is) (tells_trans a b c bs cs first more)) second

pub told_none : {T : Type 0} (acts : T → Act → T → Type 0) (now : ℕ) (t : T) (old : Stand) → Told (λ bytes. Tells acts now t bytes t) old old
told_none acts now t old = record { bytes = []; are = nothing; tells = tells_none old }

pub told_more : {T : Type 0} (acts : T → Act → T → Type 0) (now : ℕ) (t u w : T) (old mid new : Stand) (text : List ℕ)
    → Told (λ bytes. Tells acts now t bytes u) old mid → acts u (reported (Some text)) w → TellsLines mid new (told now text)
    → Told (λ bytes. Tells acts now t bytes w) old new
told_more acts now t u w old mid new text so_far act more = record {
  bytes = so_far.bytes ++ told now text;
  are = says text w so_far.are act;
  tells = tells_trans old mid new so_far.bytes (told now text) so_far.tells more;
}

pub told_all : {T : Type 0} (acts : T → Act → T → Type 0) (now : ℕ) (t u w : T) (old new : Stand)
    → Told (λ bytes. Tells acts now t bytes u) old new → acts u (reported None) w → Told (λ bytes. TellsAll acts now t bytes w) old new
told_all acts now t u w old new so_far act =
    record { bytes = so_far.bytes; are = record { last = u; tells = so_far.are; none_left = act }; tells = so_far.tells }

pub told_order : {T : Type 0} (acts : T → Act → T → Type 0) (now : ℕ) (t u w : T) (old mid new : Stand) (order : List ℕ) (answer : Answer)
    → acts t (obeyed order answer) u → TellsLines old mid (answered now order answer) → Told (λ bytes. TellsAll acts now u bytes w) mid new
    → Told (λ bytes. Obeys acts now t order bytes w) old new
told_order acts now t u w old mid new order answer act first rest = record {
  bytes = answered now order answer ++ rest.bytes;
  are = record { answer = answer; middle = u; act = act; more = rest.bytes; tells = rest.are; are = refl };
  tells = tells_trans old mid new (answered now order answer) rest.bytes first rest.tells;
}

pub told_exchange : {T : Type 0} (acts : T → Act → T → Type 0) (now : ℕ) (s t : State T) (asked heard_it : T) (comes gives : ℕ) (old new : Stand)
    → Gives acts s.term s.voice gives asked t.voice → acts asked (heard comes) heard_it → Told (λ bytes. TellsAll acts now heard_it bytes t.term) old new
    → t.left ≡ s.left → Told (λ bytes. Exchanges acts now s comes gives bytes t) old new
told_exchange acts now s t asked heard_it comes gives old new out hears rest same = record {
  bytes = rest.bytes;
  are = record { asked = asked; heard_it = heard_it; out = out; hears = hears; tells = rest.are; orders = same };
  tells = rest.tells;
}

pub due_none : {T : Type 0} (acts : T → Act → T → Type 0) (now : ℕ) (t : T) (left : Option (List Timed)) (old : Stand)
    → Told (λ bytes. ObeysDue acts now t left bytes t left) old old
due_none acts now t left old = record { bytes = []; are = no_order; tells = tells_none old }

pub due_more : {T : Type 0} (acts : T → Act → T → Type 0) (now : ℕ) (t u w : T) (left fewer last : Option (List Timed)) (old mid new : Stand) (text : List ℕ)
    → Told (λ bytes. ObeysDue acts now t left bytes u fewer) old mid → NextIs now fewer text last → (text ≡ QUIT → ⊥)
    → Told (λ bytes. Obeys acts now u text bytes w) mid new → Told (λ bytes. ObeysDue acts now t left bytes w last) old new
due_more acts now t u w left fewer last old mid new text so_far next no_end more = record {
  bytes = so_far.bytes ++ more.bytes;
  are = one_order text more.bytes w last so_far.are next no_end more.are;
  tells = tells_trans old mid new so_far.bytes more.bytes so_far.tells more.tells;
}

-- Orders begin anew, or stay unchanged.
pub looked : {A E : Type 0} (r : Result A E) (now : ℕ) (begins : Bool) (left last : Option (List Timed)) (old new : Stand) → BeginsAnew begins left last
    → OnOk r (TellsLines old new (anew_told now begins)) → OnOk r (Told (λ bytes. LooksAnew now left bytes last) old new)
looked r now begins left last old new is line =
    on_ok_weaker r
    (λ (l : TellsLines old new (anew_told now begins)). record { bytes = anew_told now begins; are = record { begins = begins; anew = is; tells = refl }; tells = l })
    line

pub due_looked : {T : Type 0} (acts : T → Act → T → Type 0) (now : ℕ) (t : T) (left last : Option (List Timed)) (old new : Stand)
    → Told (λ bytes. LooksAnew now left bytes last) old new → Told (λ bytes. ObeysDue acts now t left bytes t last) old new
due_looked acts now t left last old new looked_at = record { bytes = looked_at.bytes; are = looks looked_at.bytes last no_order looked_at.are; tells = looked_at.tells }

pub due_over : {T : Type 0} (acts : T → Act → T → Type 0) (now : ℕ) (s t : State T) (fewer : Option (List Timed)) (old new : Stand)
    → Told (λ bytes. ObeysDue acts now s.term s.left bytes t.term fewer) old new → NoneIsDue now fewer t.left → t.voice ≡ s.voice
    → Told (λ bytes. ObeysAll acts now s bytes true t) old new
due_over acts now s t fewer old new so_far none same = record {
  bytes = so_far.bytes;
  are = record { first = so_far.bytes; fewer = fewer; obeys = so_far.are; second = []; ends = (refl, none); voice = same; are = sym (append-nil so_far.bytes) };
  tells = so_far.tells;
}

pub due_ended : {T : Type 0} (acts : T → Act → T → Type 0) (now : ℕ) (s t : State T) (fewer : Option (List Timed)) (old mid new : Stand)
    → Told (λ bytes. ObeysDue acts now s.term s.left bytes t.term fewer) old mid → NextIs now fewer QUIT t.left → t.voice ≡ s.voice
    → TellsLines mid new (told now (codes "ok quit")) → Told (λ bytes. ObeysAll acts now s bytes false t) old new
due_ended acts now s t fewer old mid new so_far next same more = record {
  bytes = so_far.bytes ++ told now (codes "ok quit");
  are = record { first = so_far.bytes; fewer = fewer; obeys = so_far.are; second = told now (codes "ok quit"); ends = (refl, next); voice = same; are = refl };
  tells = tells_trans old mid new so_far.bytes (told now (codes "ok quit")) so_far.tells more;
}

pub told_minded : {T : Type 0} (acts : T → Act → T → Type 0) (now : ℕ) (s calm t : State T) (ticked : T) (goes_on : Bool) (old mid new : Stand)
    → acts s.term passed ticked → Told (λ bytes. TellsAll acts now ticked bytes calm.term) old mid → calm.voice ≡ s.voice → calm.left ≡ s.left
    → Told (λ bytes. ObeysAll acts now calm bytes goes_on t) mid new → Told (λ bytes. Minds acts now s bytes goes_on t) old new
told_minded acts now s calm t ticked goes_on old mid new tick first voice left second = record {
  bytes = first.bytes ++ second.bytes;
  are = record {
    ticked = ticked;
    tick = tick;
    first = first.bytes;
    calm = calm;
    tells = first.are;
    voice = voice;
    orders = left;
    second = second.bytes;
    obeys = second.are;
    are = refl;
  };
  tells = tells_trans old mid new first.bytes second.bytes first.tells second.tells;
}

pub told_step : {T : Type 0} (acts : T → Act → T → Type 0) (count : ℕ) (s m t : State T) (comes gives : ℕ) (goes_on : Bool) (old mid new : Stand)
    → Told (λ bytes. Exchanges acts (count / OCTETS) s comes gives bytes m) old mid → Told (λ bytes. Behind acts (count + 1) m bytes goes_on t) mid new
    → Told (λ bytes. Steps acts count s comes gives bytes goes_on t) old new
told_step acts count s m t comes gives goes_on old mid new first second = record {
  bytes = first.bytes ++ second.bytes;
  are = record { middle = m; first = first.bytes; exchanges = first.are; second = second.bytes; behind = second.are; are = refl };
  tells = tells_trans old mid new first.bytes second.bytes first.tells second.tells;
}

pub behind_none : {T : Type 0} (acts : T → Act → T → Type 0) (count : ℕ) (s : State T) (old : Stand) → (count % OCTETS ≡ 0 → ⊥)
    → Told (λ bytes. Behind acts count s bytes true s) old old
behind_none acts count s old not = record { bytes = []; are = between not; tells = tells_none old }

pub behind_minded : {T : Type 0} (acts : T → Act → T → Type 0) (count : ℕ) (s t : State T) (goes_on : Bool) (old new : Stand) → count % OCTETS ≡ 0
    → Told (λ bytes. Minds acts (count / OCTETS) s bytes goes_on t) old new → Told (λ bytes. Behind acts count s bytes goes_on t) old new
behind_minded acts count s t goes_on old new is minds = record { bytes = minds.bytes; are = eighth is minds.are; tells = minds.tells }
