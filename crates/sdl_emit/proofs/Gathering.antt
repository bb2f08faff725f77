-- The connections placed after a text: each that the text or one of them joins, only once.
use Rattle.std.proofs.Common.{◌≡◌, ℕ, zero, suc, ◌+◌, ◌<◌, ◌≤◌, ◌⊎◌, inl, inr, ⊎_elim, Bool, true, false, cond, List, [], ◌∷◌, ◌++◌, length, take, Some, IsSome, refl, sym, ap, ◌∙◌, subst, arith, append_assoc, append-nil, length-append}
use Rattle.std.specs.Prelude.{slice_get, get_or, fold, Contains}
use Rattle.std.specs.List.{flat_map}
use Rattle.std.specs.Option.{option_map_or, option_map}
use Rattle.std.proofs.lemmas.List.{length-map, get_or_default}
use Rattle.std.proofs.lemmas.List.Concat.{flat_map-append}
use Rattle.std.proofs.lemmas.List.Elements.{Contains-append_left, Contains-append_right, Contains-append_cases}
use Rattle.std.proofs.lemmas.Option.{slice_get-get_or, slice_get-map as slice_map}
use Rattle.sdl_ast.specs.declared.tree.Join.{Join}
use Rattle.sdl_ast.specs.declared.tree.Connection.{Connection}
use Rattle.sdl_ast.specs.declared.tree.Process.{Process}
use Rattle.sdl_ast.specs.Plain.{Text, falls, PlainConnection}
use Rattle.sdl_ast.specs.Views.{connection_of, process_of}
use Rattle.sdl_meaning.specs.Outcomes.{Scope, connector_at}
use Rattle.sdl_meaning.specs.Named.{NamedText, NamedConnections}
use Rattle.sdl_emit.specs.Placing.{HaveNumbers}
use Rattle.sdl_emit.specs.Marks.{has}
use Rattle.sdl_meaning.specs.Code.{number_or_zero, code_joins, joined, text_at, add_number, numbers_once, ArePlaced}
use Rattle.sdl_meaning.proofs.Joining.{has_connection}
use Rattle.sdl_meaning.proofs.Acts.{once_there}
use Rattle.sdl_meaning.proofs.Measured.{each_of, each_named, mapped_from, contains_later as later_in}
use Rattle.turn_code.proofs.Lists.{within as none_past, at_place as contains_at}
use Rattle.sdl_emit.proofs.Once.{once_few}

pub all_numbered : (c : Scope) (t : Text) → NamedText c t → (js : List Join) → js ≡ code_joins c t → HaveNumbers c js
all_numbered c t named js e k d lt =
    let x = get_or js k d in
    each_of c (λ (j : Join). IsSome (connector_at c j.connector)) t x (each_named c t named) (subst (λ l. Contains l x) e (k, lt, get_or_default js k x d lt))

-- The connection with this number.
pub there_is : (c : Scope) (p : Process) → c.process ≡ process_of p → (n : ℕ) (x : Connection) → n < length c.process.connections → x ≡ get_or p.connections.items n x → slice_get c.process.connections n ≡ Some (connection_of x)
there_is c p e n x lt f =
    let l = ap (λ q. length q.connections) e in
    let m = length-map p.connections.items connection_of in
    ap (λ q. slice_get q.connections n) e ∙ slice_map connection_of p.connections.items n
    ∙ ap (option_map connection_of) (slice_get-get_or p.connections.items n x (omega (arith, l, m, lt)) ∙ ap Some (sym f))

pub text_there : (c : Scope) (n : ℕ) (k : PlainConnection) → slice_get c.process.connections n ≡ Some k → text_at c n ≡ k.text
text_there c n k at = ap (λ o. option_map_or (λ (k : PlainConnection). k.text) o falls) at

-- ---- lists of numbers, each only once

fold_joined : (xs ys acc : List ℕ) → fold add_number acc (xs ++ ys) ≡ fold add_number (fold add_number acc xs) ys
fold_joined [] ys acc = refl
fold_joined (x ∷ xs) ys acc = fold_joined xs ys (add_number acc x)

record Added (acc xs : List ℕ) : Type 0 where
  more : List ℕ
  is : fold add_number acc xs ≡ acc ++ more
  from : (n : ℕ) → Contains more n → Contains xs n

one_added : (acc xs acc2 : List ℕ) (x : ℕ) (b : Bool) → acc2 ≡ cond b acc (acc ++ x ∷ []) → Added acc2 xs → fold add_number acc (x ∷ xs) ≡ fold add_number acc2 xs → Added acc (x ∷ xs)
one_added acc xs acc2 x true e r f = record { more = r.more; is = f ∙ r.is ∙ ap (λ l. l ++ r.more) e; from = λ n h. later_in x xs n (r.from n h) }
one_added acc xs acc2 x false e r f = record {
  more = x ∷ r.more;
  is = f ∙ r.is ∙ ap (λ l. l ++ r.more) e ∙ append_assoc acc (x ∷ []) r.more;
  from = λ n h. ⊎_elim (λ h. Contains-append_left (x ∷ []) xs n h) (λ h. later_in x xs n (r.from n h)) (Contains-append_cases (x ∷ []) r.more n h);
}

added : (xs acc : List ℕ) → Added acc xs
added [] acc = record { more = []; is = sym (append-nil acc); from = λ n h. h }
added (x ∷ xs) acc = one_added acc xs (add_number acc x) x (has acc x) refl (added xs (add_number acc x)) refl

split_at : (xs ys : List ℕ) (k n : ℕ) → slice_get (xs ++ ys) k ≡ Some n → ((k < length xs) × (slice_get xs k ≡ Some n)) ⊎ ((length xs ≤ k) × Contains ys n)
split_at [] ys k n e = inr (omega arith, contains_at ys k n e)
split_at (x ∷ xs) ys zero n e = inl (omega arith, e)
split_at (x ∷ xs) ys (suc k) n e = ⊎_elim (λ h. inl (omega (arith, h.0), h.1)) (λ h. inr (omega (arith, h.0), h.1)) (split_at xs ys k n e)

take_next : (ns more : List ℕ) (k m : ℕ) → slice_get ns k ≡ Some m → take (suc k) (ns ++ more) ≡ take k ns ++ m ∷ []
take_next [] more k m e = absurd (let k : ⊥ = cc in k)
take_next (n ∷ ns) more zero m e = let f : n ≡ m = cc in ap (λ n. n ∷ []) f
take_next (n ∷ ns) more (suc k) m e = ap (λ l. n ∷ l) (take_next ns more k m e)

take_front : (ns more : List ℕ) (i : ℕ) → i ≤ length ns → take i (ns ++ more) ≡ take i ns
take_front [] more zero h = take_none more
  where
    take_none : (xs : List ℕ) → take zero xs ≡ []
    take_none [] = refl
    take_none (x ∷ xs) = refl
take_front [] more (suc i) h = absurd (omega (arith, h))
take_front (n ∷ ns) more zero h = refl
take_front (n ∷ ns) more (suc i) h = ap (λ l. n ∷ l) (take_front ns more i (omega (arith, h)))

take_all : (ns : List ℕ) (k : ℕ) → length ns ≤ k → take k ns ≡ ns
take_all [] zero h = refl
take_all [] (suc k) h = refl
take_all (n ∷ ns) zero h = absurd (omega (arith, h))
take_all (n ∷ ns) (suc k) h = ap (λ l. n ∷ l) (take_all ns k (omega (arith, h)))

take_less : (ns : List ℕ) (i k : ℕ) → i ≤ k → (rest : List ℕ) × (take k ns ≡ take i ns ++ rest)
take_less [] zero zero h = ([], refl)
take_less [] zero (suc k) h = ([], refl)
take_less [] (suc i) zero h = absurd (omega (arith, h))
take_less [] (suc i) (suc k) h = ([], refl)
take_less (n ∷ ns) zero k h = (take k (n ∷ ns), refl)
take_less (n ∷ ns) (suc i) zero h = absurd (omega (arith, h))
take_less (n ∷ ns) (suc i) (suc k) h = let r = take_less ns i k (omega (arith, h)) in (r.0, ap (λ l. n ∷ l) r.1)

-- ---- the list while it grows: it has the connections that the first ones join

module _ (c : Scope) (t : Text) where
  abbrev joins_at : ℕ → List ℕ
  joins_at n = joined c (text_at c n)

  abbrev joins_to : ℕ → List ℕ → List ℕ
  joins_to k ns = joined c t ++ flat_map joins_at (take k ns)

  pub record Gathered (ns : List ℕ) (next : ℕ) : Type 0 where
    pub once : ns ≡ numbers_once (joins_to next ns)
    pub before : (k n : ℕ) → slice_get ns k ≡ Some n → (i : ℕ) × (i ≤ k) × (i ≤ next) × Contains (joins_to i ns) n
    pub known : (n : ℕ) → Contains ns n → (k : PlainConnection) × (slice_get c.process.connections n ≡ Some k)
    pub within : next ≤ length ns

  joins_none : (ns : List ℕ) → joins_to 0 ns ≡ joined c t
  joins_none [] = append-nil (joined c t)
  joins_none (n ∷ ns) = append-nil (joined c t)

  joined_known : (u : Text) → NamedText c u → (n : ℕ) → Contains (joined c u) n → (k : PlainConnection) × (slice_get c.process.connections n ≡ Some k)
  joined_known u named n h =
      let r = mapped_from (λ (j : Join). number_or_zero (connector_at c j.connector)) (code_joins c u) n h in
      let some = each_of c (λ (j : Join). IsSome (connector_at c j.connector)) u r.0 (each_named c u named) r.1 in
      let w = has_connection c r.0.connector some in
      (w.connection, ap (slice_get c.process.connections) (sym r.2) ∙ w.there)

  pub first_gathered : NamedText c t → (ns : List ℕ) → ns ≡ fold add_number [] (joined c t) → Gathered ns 0
  first_gathered named ns e =
      let r = added (joined c t) [] in
      let all = λ (n : ℕ) (h : Contains ns n). r.from n (subst (λ l. Contains l n) (e ∙ r.is) h) in
      record {
        once = e ∙ ap numbers_once (sym (joins_none ns));
        before = λ k n at. (0, omega arith, omega arith, subst (λ l. Contains l n) (sym (joins_none ns)) (all n (contains_at ns k n at)));
        known = λ n h. joined_known t named n (all n h);
        within = omega arith;
      }

  pub next_gathered : NamedConnections c → (ns : List ℕ) (next m : ℕ) → Gathered ns next → slice_get ns next ≡ Some m → (ns2 : List ℕ) → ns2 ≡ fold add_number ns (joins_at m) → Gathered ns2 (next + 1)
  next_gathered connections ns next m h at ns2 e =
      let r = added (joins_at m) ns in
      let grown : ns2 ≡ ns ++ r.more = e ∙ r.is in
      let lt = none_past ns next m at in
      let suc_is : next + 1 ≡ suc next = omega arith in
      let taken : take (next + 1) ns2 ≡ take next ns ++ m ∷ [] = ap (λ k. take k ns2) suc_is ∙ ap (take (suc next)) grown ∙ take_next ns r.more next m at in
      let joins : joins_to (next + 1) ns2 ≡ joins_to next ns ++ joins_at m =
      ap (λ l. joined c t ++ flat_map joins_at l) taken ∙ ap (λ l. joined c t ++ l) (flat_map-append joins_at (take next ns) (m ∷ []) ∙ ap (λ l. flat_map joins_at (take next ns) ++ l) (append-nil (joins_at m)))
      ∙ sym (append_assoc (joined c t) (flat_map joins_at (take next ns)) (joins_at m)) in
      record {
        once = e ∙ ap (λ l. fold add_number l (joins_at m)) h.once ∙ sym (fold_joined (joins_to next ns) (joins_at m) []) ∙ ap numbers_once (sym joins);
        before = λ k n here. ⊎_elim
            (λ a. let b = h.before k n a.1 in
            (b.0, b.1, omega (arith, b.2), subst (λ l. Contains (joined c t ++ flat_map joins_at l) n) (sym (ap (take b.0) grown ∙ take_front ns r.more b.0 (omega (arith, b.2, lt)))) b.3))
            (λ a. (next + 1, omega (arith, a.0, lt), omega arith, subst (λ l. Contains l n) (sym joins) (Contains-append_right (joins_to next ns) (joins_at m) n (r.from n a.1))))
            (split_at ns r.more k n (ap (λ l. slice_get l k) (sym grown) ∙ here));
        known = λ n there. ⊎_elim (λ a. h.known n a)
            (λ a. let w = h.known m (contains_at ns next m at) in
            joined_known (text_at c m) (subst (NamedText c) (sym (text_there c m w.0 w.1)) (connections.texts m w.0 w.1).text) n (r.from n a))
            (Contains-append_cases ns r.more n (subst (λ l. Contains l n) grown there));
        within = let l = ap length grown in omega (arith, l, lt, length-append ns r.more);
      }

  pub last_gathered : (ns : List ℕ) (next : ℕ) → Gathered ns next → length ns ≤ next → ArePlaced c t ns
  last_gathered ns next h le = record {
    once = h.once ∙ ap (λ l. numbers_once (joined c t ++ flat_map joins_at l)) (take_all ns next le);
    before = λ k n at.
        let b = h.before k n at in
        let r = take_less ns b.0 k b.1 in
        let e : joins_to k ns ≡ joins_to b.0 ns ++ flat_map joins_at r.0 =
        ap (λ l. joined c t ++ flat_map joins_at l) r.1 ∙ ap (λ l. joined c t ++ l) (flat_map-append joins_at (take b.0 ns) r.0) ∙ sym (append_assoc (joined c t) (flat_map joins_at (take b.0 ns)) (flat_map joins_at r.0)) in
        subst (λ l. Contains l n) (sym e) (Contains-append_left (joins_to b.0 ns) (flat_map joins_at r.0) n b.3);
  }

  -- The list is no longer than the list of connections.
  pub gathered_few : (ns : List ℕ) (next : ℕ) → Gathered ns next → length ns ≤ length c.process.connections
  gathered_few ns next h =
      let few = once_few c.process.connections (joins_to next ns) (λ n there. h.known n (subst (λ l. Contains l n) (sym h.once) (once_there (joins_to next ns) n there))) in
      let e = ap length h.once in
      omega (arith, few, e)

  -- The next number in the list is that of a connection.
  pub next_there : (ns : List ℕ) (next m : ℕ) → Gathered ns next → slice_get ns next ≡ Some m → m < length c.process.connections
  next_there ns next m h at = let w = h.known m (contains_at ns next m at) in none_past c.process.connections m w.0 w.1
