-- Senders with each party only once: a signal reaches all senders exactly if it reaches one of each party.
use Rattle.std.proofs.Common.{◌≡◌, ℕ, suc, Bool, true, false, not, ◌&&◌, ◌||◌, List, [], ◌∷◌, ◌++◌, Option, Some, None, if◌then◌else◌, fold, arith, refl, sym, ap, ◌∙◌, true≢false}
use Rattle.std.specs.Prelude.{All, slice_get}
use Rattle.std.specs.List.{list_all}
use Rattle.std.specs.Global.{Vec}
use Rattle.std.proofs.lemmas.Bool.{eqb-true, eq-eqb}
use Rattle.std.proofs.lemmas.List.Folds.{list_any-append}
use Rattle.std.proofs.lemmas.List.Elements.{All-nil, All-push}
use Rattle.std.proofs.Math.Bool.{and-false}
use Rattle.sdl_ast.specs.declared.tree.Party.{Party}
use Rattle.sdl_ast.specs.declared.tree.Party.TheVariants.{Environment, Process}
use Rattle.sdl_ast.specs.Plain.{PlainProcess, PlainBlock}
use Rattle.sdl_tables.specs.Routes.{same_party}
use Rattle.sdl_sound.specs.Receivers.{party_of}
use Rattle.sdl_sound.proofs.Numbered.{same_back}
use Rattle.sdl_rules.specs.Distinct.{same_numbers, same_sender, has_sender, add_sender, distinct}
use Rattle.sdl_scopes.specs.Parties.{party_number, IsSender, gets_back}
use Rattle.sdl_scopes.specs.declared.sender.Numbered.{Numbered}
use Rattle.sdl_scopes.specs.declared.sender.Sender.{Sender}
use Rattle.sdl_scopes.specs.declared.sender.Sender.TheVariants.{Nobody, Party as By}
use Rattle.sdl_rules.proofs.BackRows.{itself}
use Rattle.sdl_rules.proofs.Gathering.{carried_same, same_number}
use Rattle.sdl_rules.proofs.Spreading.{spread, all_on, all_there, rows_there}

-- ---- the same sender

numbers_itself : (o : Option ℕ) (named : Bool) → named ≡ true → same_numbers o o named ≡ true
numbers_itself None named h = h
numbers_itself (Some n) named h = eq-eqb n n refl

same_itself : (y : Sender) → same_sender y y ≡ true
same_itself Nobody = refl
same_itself (By y) = numbers_itself y.number (same_party y.party y.party) (itself y.party)

party_turned : (q r : Party) → same_party q r ≡ true → same_party r q ≡ true
party_turned Environment Environment h = refl
party_turned Environment (Process r) h = absurd (true≢false (sym h))
party_turned (Process q) Environment h = absurd (true≢false (sym h))
party_turned (Process q) (Process r) h = same_back q.name r.name h

numbers_turned : (o q : Option ℕ) (a b : Bool) → (a ≡ true → b ≡ true) → same_numbers o q a ≡ true → same_numbers q o b ≡ true
numbers_turned None None a b k h = k h
numbers_turned None (Some n) a b k h = absurd (true≢false (sym h))
numbers_turned (Some m) None a b k h = absurd (true≢false (sym h))
numbers_turned (Some m) (Some n) a b k h = eq-eqb n m (sym (eqb-true m n h))

turned : (x y : Sender) → same_sender x y ≡ true → same_sender y x ≡ true
turned Nobody Nobody h = refl
turned Nobody (By y) h = absurd (true≢false (sym h))
turned (By x) Nobody h = absurd (true≢false (sym h))
turned (By x) (By y) h = numbers_turned x.number y.number (same_party x.party y.party) (same_party y.party x.party) (party_turned x.party y.party) h

-- ---- each sender once

sender_kept : (us : List Sender) (z y : Sender) → has_sender us y ≡ true → has_sender (add_sender us z) y ≡ true
sender_kept us z y h = by_test (has_sender us z)
  where
    by_test : (t : Bool) → has_sender (if t then us else us ++ z ∷ []) y ≡ true
    by_test true = h
    by_test false = list_any-append (λ x. same_sender x y) us (z ∷ []) ∙ ap (λ t. t || has_sender (z ∷ []) y) h

sender_there : (us : List Sender) (z : Sender) → has_sender (add_sender us z) z ≡ true
sender_there us z = by_test (has_sender us z) refl
  where
    by_test : (t : Bool) → has_sender us z ≡ t → has_sender (if t then us else us ++ z ∷ []) z ≡ true
    by_test true e = e
    by_test false e =
        list_any-append (λ x. same_sender x z) us (z ∷ [])
        ∙ (ap (λ t. t || (same_sender z z || false)) e ∙ ap (λ t. t || false) (same_itself z))

-- The distinct senders include all senders of the rows.
pub distinct_there : (rows : List (Vec Sender)) (n : ℕ) (row : Vec Sender) → slice_get rows n ≡ Some row → list_all (has_sender (distinct rows)) row.items ≡ true
distinct_there rows n row e =
    all_there (λ (r : Vec Sender). list_all (has_sender (distinct rows)) r.items) rows n row
    (rows_there has_sender add_sender (λ x. x) sender_kept sender_there (λ (r : Vec Sender). r.items) [] rows) e

module _ (P : Sender → Type 0) where
  one_more : (us : List Sender) (z : Sender) → All P us → P z → All P (add_sender us z)
  one_more us z are is = by_test (has_sender us z)
    where
      by_test : (t : Bool) → All P (if t then us else us ++ z ∷ [])
      by_test true = are
      by_test false = All-push P us z are is

  row_more : (us xs : List Sender) → All P us → All P xs → All P (fold add_sender us xs)
  row_more us [] are there = are
  row_more us (x ∷ xs) are there =
      row_more (add_sender us x) xs (one_more us x are (there 0 x (omega arith))) (λ k d less. there (suc k) d (omega (arith, less)))

  rows_more : (us : List Sender) (rows : List (Vec Sender)) → All P us → ((n : ℕ) (row : Vec Sender) → slice_get rows n ≡ Some row → All P row.items)
      → All P (fold (λ us (row : Vec Sender). fold add_sender us row.items) us rows)
  rows_more us [] are there = are
  rows_more us (row ∷ rows) are there = rows_more (fold add_sender us row.items) rows (row_more us row.items are (there 0 row refl)) (λ n. there (suc n))

  pub distinct_are : (rows : List (Vec Sender)) → ((n : ℕ) (row : Vec Sender) → slice_get rows n ≡ Some row → All P row.items) → All P (distinct rows)
  distinct_are rows there = rows_more [] rows (All-nil P) there

-- ---- the signals that reach senders

module _ (b : PlainBlock) (p : PlainProcess) (s : List ℕ) where
  parties_same : (x y : Numbered) (o q : Option ℕ) → o ≡ party_number b x.party → q ≡ party_number b y.party
      → same_numbers o q (same_party x.party y.party) ≡ true → same_party x.party y.party ≡ true
  parties_same x y None None e f h = h
  parties_same x y None (Some n) e f h = absurd (true≢false (sym h))
  parties_same x y (Some m) None e f h = absurd (true≢false (sym h))
  parties_same x y (Some m) (Some n) e f h = same_number b x.party y.party n (sym e ∙ ap Some (eqb-true m n h)) (sym f)

  alike : (x y : Sender) → IsSender b x → IsSender b y → same_sender x y ≡ true → gets_back b p s x ≡ gets_back b p s y
  alike Nobody Nobody e f h = refl
  alike Nobody (By y) e f h = absurd (true≢false (sym h))
  alike (By x) Nobody e f h = absurd (true≢false (sym h))
  alike (By x) (By y) e f h = carried_same b (party_of p) x.party y.party s (parties_same x y x.number y.number e f h)

  module _ (y : Sender) (is : IsSender b y) where
    -- If a signal doesn't reach y, it fails to reach one of the senders that are the same as y.
    fails : (us : List Sender) → All (IsSender b) us → gets_back b p s y ≡ false → has_sender us y ≡ true
        → list_all (λ u. not (same_sender y u) || gets_back b p s u) us ≡ false
    fails [] are lost there = absurd (true≢false (sym there))
    fails (u ∷ us) are lost there =
        by_test (same_sender u y) refl
        (λ e. fails us (λ k d less. are (suc k) d (omega (arith, less))) lost (sym (ap (λ t. t || has_sender us y) e) ∙ there))
      where
        by_test : (t : Bool) → same_sender u y ≡ t → (same_sender u y ≡ false → list_all (λ u. not (same_sender y u) || gets_back b p s u) us ≡ false)
            → list_all (λ u. not (same_sender y u) || gets_back b p s u) (u ∷ us) ≡ false
        by_test true e rest =
            ap (λ t. (not t || gets_back b p s u) && list_all (λ u. not (same_sender y u) || gets_back b p s u) us) (turned u y e)
            ∙ ap (λ t. t && list_all (λ u. not (same_sender y u) || gets_back b p s u) us) (alike u y (are 0 u (omega arith)) is e ∙ lost)
        by_test false e rest =
            ap (λ t. (not (same_sender y u) || gets_back b p s u) && t) (rest e) ∙ and-false (not (same_sender y u) || gets_back b p s u)

    -- If a signal reaches y, it reaches all senders that are the same as y.
    gets : (us : List Sender) → All (IsSender b) us → gets_back b p s y ≡ true → list_all (λ u. not (same_sender y u) || gets_back b p s u) us ≡ true
    gets [] are back = refl
    gets (u ∷ us) are back = λ i. by_test (same_sender y u) refl i && gets us (λ k d less. are (suc k) d (omega (arith, less))) back i
      where
        by_test : (t : Bool) → same_sender y u ≡ t → (not t || gets_back b p s u) ≡ true
        by_test true e = sym (alike y u is (are 0 u (omega arith)) e) ∙ back
        by_test false e = refl

    covered : (us : List Sender) → All (IsSender b) us → has_sender us y ≡ true → list_all (λ u. not (same_sender y u) || gets_back b p s u) us ≡ gets_back b p s y
    covered us are there = by_value (gets_back b p s y) refl
      where
        by_value : (t : Bool) → gets_back b p s y ≡ t → list_all (λ u. not (same_sender y u) || gets_back b p s u) us ≡ gets_back b p s y
        by_value true e = gets us are e ∙ sym e
        by_value false e = fails us are e there ∙ sym e

  -- A signal reaches all of a row exactly if it reaches those senders that are in the row.
  pub row_covered : (us row : List Sender) → All (IsSender b) us → All (IsSender b) row → list_all (has_sender us) row ≡ true
      → list_all (λ u. not (has_sender row u) || gets_back b p s u) us ≡ list_all (gets_back b p s) row
  row_covered us row are row_are there =
      spread (λ u y. same_sender y u) (gets_back b p s) us row
      ∙ all_on (IsSender b) (has_sender us) (λ y. list_all (λ u. not (same_sender y u) || gets_back b p s u) us) (gets_back b p s) row row_are there
      (λ y is h. covered y is us are h)
