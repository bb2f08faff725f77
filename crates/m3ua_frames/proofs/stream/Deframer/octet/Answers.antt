use Rattle.std.proofs.Common.{◌≡◌, ℕ, ◌-◌, ◌++◌, List, [], ◌∷◌, true, false, Some, None, refl, sym, ap, ◌∙◌, arith}
use Rattle.m3ua_frames.specs.Stream.{Reading, whole, too_long, broken, after, item_at, judged, begun, told}
use Rattle.m3ua_frames.proofs.StreamLaws.{step_ended, step_over, step_taken, is_plain, grown_to}
use Rattle.m3ua_frames.proofs.stream.Deframer.octet.Goals as goal

pub returns-then-self-clause-state : goal.returns-then-self-clause-state
returns-then-self-clause-state c = sym (step_ended c.args.self.now c.args.octet (ap (λ (r : Reading). r.ended) (sym c.self.view_is) ∙ c.if-self.true)).0

pub returns-then-self-clause-item : goal.returns-then-self-clause-item
returns-then-self-clause-item c = (step_ended c.args.self.now c.args.octet (ap (λ (r : Reading). r.ended) (sym c.self.view_is) ∙ c.if-self.true)).1

pub returns-then-self-gt0-clause-state : goal.returns-then-self-gt0-clause-state
returns-then-self-gt0-clause-state c =
    let d = c.self.inside in
    sym (step_over d.octets.items d.over c.args.octet d.ended c.if-self.false c.if-self-gt0.true).0 ∙ ap (λ (r : Reading). after r c.args.octet) c.self.view_is

pub returns-then-self-gt0-clause-item : goal.returns-then-self-gt0-clause-item
returns-then-self-gt0-clause-item c =
    let d = c.self.inside in
    ap (λ (r : Reading). item_at r c.args.octet) (sym c.self.view_is) ∙ (step_over d.octets.items d.over c.args.octet d.ended c.if-self.false c.if-self-gt0.true).1

pub invariant_of-self-in-Nothing : goal.invariant_of-self-in-Nothing
invariant_of-self-in-Nothing c =
    let d = c.self.inside in
    let is : c.push.new.self.items ≡ begun d.octets.items ++ c.args.octet ∷ [] = c.push.ensures.items ∙ ap (λ (ys : List ℕ). ys ++ c.args.octet ∷ []) c.leave_begun.ensures in
    record { within = grown_to d.octets.items c.push.new.self.items c.args.octet c.self.invariant.within is; begins = λ lt. absurd (omega (arith, lt, c.if-self-gt0.false)) }

pub invariant_of-self-in-Broken : goal.invariant_of-self-in-Broken
invariant_of-self-in-Broken c =
    let d = c.self.inside in
    let is : c.push.new.self.items ≡ begun d.octets.items ++ c.args.octet ∷ [] = c.push.ensures.items ∙ ap (λ (ys : List ℕ). ys ++ c.args.octet ∷ []) c.leave_begun.ensures in
    record { within = grown_to d.octets.items c.push.new.self.items c.args.octet c.self.invariant.within is; begins = λ lt. absurd (omega (arith, lt, c.if-self-gt0.false)) }

pub returns-in-Nothing-clause-state : goal.returns-in-Nothing-clause-state
returns-in-Nothing-clause-state c =
    let d = c.self.inside in
    let xs : List ℕ = c.push.new.self.items in
    let is : xs ≡ begun d.octets.items ++ c.args.octet ∷ [] = c.push.ensures.items ∙ ap (λ (ys : List ℕ). ys ++ c.args.octet ∷ []) c.leave_begun.ensures in
    let e : judged xs ≡ None = ap judged (sym c.as_slice.ensures.value) ∙ c.in-Nothing.ensures in
    let none : d.over ≡ 0 = omega (arith, c.if-self-gt0.false) in
    is_plain xs d.over 0 d.ended false none c.if-self.false ∙ sym (step_taken d.octets.items xs d.over c.args.octet d.ended None c.if-self.false none is e).0
    ∙ ap (λ (r : Reading). after r c.args.octet) c.self.view_is

pub returns-in-Nothing-clause-item : goal.returns-in-Nothing-clause-item
returns-in-Nothing-clause-item c =
    let d = c.self.inside in
    let xs : List ℕ = c.push.new.self.items in
    let is : xs ≡ begun d.octets.items ++ c.args.octet ∷ [] = c.push.ensures.items ∙ ap (λ (ys : List ℕ). ys ++ c.args.octet ∷ []) c.leave_begun.ensures in
    let e : judged xs ≡ None = ap judged (sym c.as_slice.ensures.value) ∙ c.in-Nothing.ensures in
    let none : d.over ≡ 0 = omega (arith, c.if-self-gt0.false) in
    ap (λ (r : Reading). item_at r c.args.octet) (sym c.self.view_is) ∙ (step_taken d.octets.items xs d.over c.args.octet d.ended None c.if-self.false none is e).1

pub returns-in-Message-clause-state : goal.returns-in-Message-clause-state
returns-in-Message-clause-state c =
    let d = c.self.inside in
    let xs : List ℕ = c.push.new.self.items in
    let is : xs ≡ begun d.octets.items ++ c.args.octet ∷ [] = c.push.ensures.items ∙ ap (λ (ys : List ℕ). ys ++ c.args.octet ∷ []) c.leave_begun.ensures in
    let e : judged xs ≡ Some (whole xs) = ap judged (sym c.as_slice.ensures.value) ∙ c.in-Message.ensures ∙ ap (λ (ys : List ℕ). Some (whole ys)) c.as_slice.ensures.value in
    let none : d.over ≡ 0 = omega (arith, c.if-self-gt0.false) in
    is_plain xs d.over 0 d.ended false none c.if-self.false ∙ sym (step_taken d.octets.items xs d.over c.args.octet d.ended (Some (whole xs)) c.if-self.false none is e).0
    ∙ ap (λ (r : Reading). after r c.args.octet) c.self.view_is

pub returns-in-Message-clause-item : goal.returns-in-Message-clause-item
returns-in-Message-clause-item c =
    let d = c.self.inside in
    let xs : List ℕ = c.push.new.self.items in
    let is : xs ≡ begun d.octets.items ++ c.args.octet ∷ [] = c.push.ensures.items ∙ ap (λ (ys : List ℕ). ys ++ c.args.octet ∷ []) c.leave_begun.ensures in
    let e : judged xs ≡ Some (whole xs) = ap judged (sym c.as_slice.ensures.value) ∙ c.in-Message.ensures ∙ ap (λ (ys : List ℕ). Some (whole ys)) c.as_slice.ensures.value in
    let none : d.over ≡ 0 = omega (arith, c.if-self-gt0.false) in
    ap (λ (r : Reading). item_at r c.args.octet) (sym c.self.view_is) ∙ (step_taken d.octets.items xs d.over c.args.octet d.ended (Some (whole xs)) c.if-self.false none is e).1

pub returns-in-TooLong-clause-state : goal.returns-in-TooLong-clause-state
returns-in-TooLong-clause-state c =
    let d = c.self.inside in
    let xs : List ℕ = c.push.new.self.items in
    let is : xs ≡ begun d.octets.items ++ c.args.octet ∷ [] = c.push.ensures.items ∙ ap (λ (ys : List ℕ). ys ++ c.args.octet ∷ []) c.leave_begun.ensures in
    let e : judged xs ≡ Some (too_long xs) = ap judged (sym c.as_slice.ensures.value) ∙ c.in-TooLong.ensures ∙ ap (λ (ys : List ℕ). Some (too_long ys)) c.as_slice.ensures.value in
    let none : d.over ≡ 0 = omega (arith, c.if-self-gt0.false) in
    let over : c.number_4.result - 8 ≡ told xs - 8 = ap (λ (n : ℕ). n - 8) (c.number_4.ensures ∙ ap told c.as_slice-in-TooLong.ensures.value) in
    is_plain xs (c.number_4.result - 8) (told xs - 8) d.ended false over c.if-self.false
    ∙ sym (step_taken d.octets.items xs d.over c.args.octet d.ended (Some (too_long xs)) c.if-self.false none is e).0
    ∙ ap (λ (r : Reading). after r c.args.octet) c.self.view_is

pub returns-in-TooLong-clause-item : goal.returns-in-TooLong-clause-item
returns-in-TooLong-clause-item c =
    let d = c.self.inside in
    let xs : List ℕ = c.push.new.self.items in
    let is : xs ≡ begun d.octets.items ++ c.args.octet ∷ [] = c.push.ensures.items ∙ ap (λ (ys : List ℕ). ys ++ c.args.octet ∷ []) c.leave_begun.ensures in
    let e : judged xs ≡ Some (too_long xs) = ap judged (sym c.as_slice.ensures.value) ∙ c.in-TooLong.ensures ∙ ap (λ (ys : List ℕ). Some (too_long ys)) c.as_slice.ensures.value in
    let none : d.over ≡ 0 = omega (arith, c.if-self-gt0.false) in
    ap (λ (r : Reading). item_at r c.args.octet) (sym c.self.view_is) ∙ (step_taken d.octets.items xs d.over c.args.octet d.ended (Some (too_long xs)) c.if-self.false none is e).1

pub returns-in-Broken-clause-state : goal.returns-in-Broken-clause-state
returns-in-Broken-clause-state c =
    let d = c.self.inside in
    let xs : List ℕ = c.push.new.self.items in
    let is : xs ≡ begun d.octets.items ++ c.args.octet ∷ [] = c.push.ensures.items ∙ ap (λ (ys : List ℕ). ys ++ c.args.octet ∷ []) c.leave_begun.ensures in
    let e : judged xs ≡ Some broken = ap judged (sym c.as_slice.ensures.value) ∙ c.in-Broken.ensures in
    let none : d.over ≡ 0 = omega (arith, c.if-self-gt0.false) in
    is_plain xs d.over 0 true true none refl ∙ sym (step_taken d.octets.items xs d.over c.args.octet d.ended (Some broken) c.if-self.false none is e).0
    ∙ ap (λ (r : Reading). after r c.args.octet) c.self.view_is

pub returns-in-Broken-clause-item : goal.returns-in-Broken-clause-item
returns-in-Broken-clause-item c =
    let d = c.self.inside in
    let xs : List ℕ = c.push.new.self.items in
    let is : xs ≡ begun d.octets.items ++ c.args.octet ∷ [] = c.push.ensures.items ∙ ap (λ (ys : List ℕ). ys ++ c.args.octet ∷ []) c.leave_begun.ensures in
    let e : judged xs ≡ Some broken = ap judged (sym c.as_slice.ensures.value) ∙ c.in-Broken.ensures in
    let none : d.over ≡ 0 = omega (arith, c.if-self-gt0.false) in
    ap (λ (r : Reading). item_at r c.args.octet) (sym c.self.view_is) ∙ (step_taken d.octets.items xs d.over c.args.octet d.ended (Some broken) c.if-self.false none is e).1
