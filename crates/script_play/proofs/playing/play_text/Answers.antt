use Rattle.std.proofs.Common.{◌≡◌, ◌∙◌, ◌+◌, ◌==◌, List, ℕ, ap, sym, subst, rules}
use Rattle.std.specs.Prelude.{IsTrue, IsUtf8, count_by, take}
use Rattle.plain_text.specs.Reading.{LONGEST}
use Rattle.script_links.specs.GroupScripts.{plain_play_script, play_script_of}
use Rattle.script_lines.specs.Lines.{lines_of}
use Rattle.script_play.specs.Played.{IsObeyedAs, IsMissedAs, no_text, bad_line, no_script, no_limit, no_terminal}
use Rattle.script_play.proofs.Refusals.{too_long, no_script_in}
use Rattle.script_play.proofs.Texts.{not_held, not_missed}
use Rattle.script_play.proofs.playing.play_text.Goals as goal
use Rattle.script_check.proofs.Long.{all_kept}

pub returns-then-not-read-clause-held : goal.returns-then-not-read-clause-held
returns-then-not-read-clause-held g c zero bytes keeps = absurd (not_held _ c.refuse.ensures.status zero)

pub returns-then-is_too_long-clause-held : goal.returns-then-is_too_long-clause-held
returns-then-is_too_long-clause-held g c zero bytes keeps = absurd (not_held _ c.refuse_script.ensures.status zero)

pub returns-in-Ok-usual_over-clause-held : goal.returns-in-Ok-usual_over-clause-held
returns-in-Ok-usual_over-clause-held g c zero bytes keeps =
    let is_text : IsTrue c.args.read.now.is_text = search rules in
    let same : c.in-Ok.text.now ≡ bytes =
    c.in-Ok.ensures.cases.0 ∙ (c.deref-2.ensures.value ∙ all_kept bytes c.args.read.now keeps (sym c.is_too_long.ensures ∙ c.if-is_too_long.false)) in
    let R : List ℕ → Type 0 =
    λ bs. IsObeyedAs c.in-Ok-usual_over.usual c.args.echo (lines_of bs) c.args.set.now (plain_play_script c.in-Ok-play_script_in.script) (g.W.Write.contents c.args.writer.now)
    (g.W.Write.contents c.run_script.new.writer) in
    record {
      utf8 = keeps.utf8.0 is_text;
      script = plain_play_script c.in-Ok-play_script_in.script;
      reads = ap play_script_of (sym same) ∙ c.in-Ok-play_script_in.ensures.script;
      usual = c.in-Ok-usual_over.usual;
      is_usual = c.in-Ok-usual_over.ensures.ok;
      run = subst R same (c.run_script.ensures.held zero);
    }

pub returns-in-Ok-play_script_in-clause-held : goal.returns-in-Ok-play_script_in-clause-held
returns-in-Ok-play_script_in-clause-held g c zero bytes keeps = absurd (not_held _ c.refuse_limit.ensures.status zero)

pub returns-in-Ok-clause-held : goal.returns-in-Ok-clause-held
returns-in-Ok-clause-held g c zero bytes keeps = absurd (not_held _ c.refuse_script-in-Err-play_script_in.ensures.status zero)

pub returns-clause-held : goal.returns-clause-held
returns-clause-held g c zero bytes keeps = absurd (not_held _ c.refuse-in-Err.ensures.status zero)

pub returns-then-not-read-clause-missed : goal.returns-then-not-read-clause-missed
returns-then-not-read-clause-missed g c one bytes keeps = absurd (not_missed _ c.refuse.ensures.status one)

pub returns-then-is_too_long-clause-missed : goal.returns-then-is_too_long-clause-missed
returns-then-is_too_long-clause-missed g c one bytes keeps = absurd (not_missed _ c.refuse_script.ensures.status one)

pub returns-in-Ok-usual_over-clause-missed : goal.returns-in-Ok-usual_over-clause-missed
returns-in-Ok-usual_over-clause-missed g c one bytes keeps =
    let is_text : IsTrue c.args.read.now.is_text = search rules in
    let same : c.in-Ok.text.now ≡ bytes =
    c.in-Ok.ensures.cases.0 ∙ (c.deref-2.ensures.value ∙ all_kept bytes c.args.read.now keeps (sym c.is_too_long.ensures ∙ c.if-is_too_long.false)) in
    let R : List ℕ → Type 0 =
    λ bs. IsMissedAs c.in-Ok-usual_over.usual c.args.echo (lines_of bs) c.args.set.now (plain_play_script c.in-Ok-play_script_in.script) (g.W.Write.contents c.args.writer.now)
    (g.W.Write.contents c.run_script.new.writer) in
    record {
      utf8 = keeps.utf8.0 is_text;
      script = plain_play_script c.in-Ok-play_script_in.script;
      reads = ap play_script_of (sym same) ∙ c.in-Ok-play_script_in.ensures.script;
      usual = c.in-Ok-usual_over.usual;
      is_usual = c.in-Ok-usual_over.ensures.ok;
      missed = subst R same (c.run_script.ensures.missed one);
    }

pub returns-in-Ok-play_script_in-clause-missed : goal.returns-in-Ok-play_script_in-clause-missed
returns-in-Ok-play_script_in-clause-missed g c one bytes keeps = absurd (not_missed _ c.refuse_limit.ensures.status one)

pub returns-in-Ok-clause-missed : goal.returns-in-Ok-clause-missed
returns-in-Ok-clause-missed g c one bytes keeps = absurd (not_missed _ c.refuse_script-in-Err-play_script_in.ensures.status one)

pub returns-clause-missed : goal.returns-clause-missed
returns-clause-missed g c one bytes keeps = absurd (not_missed _ c.refuse-in-Err.ensures.status one)

pub returns-then-not-read-clause-refused : goal.returns-then-not-read-clause-refused
returns-then-not-read-clause-refused g c two bytes keeps =
    no_script
    (no_text
    (λ utf8.
    let is_text : IsTrue c.args.read.now.is_text = keeps.utf8.1 utf8 in
    let f : ⊥ = search rules in f)
    (c.refuse.ensures.printed two))

pub returns-then-is_too_long-clause-refused : goal.returns-then-is_too_long-clause-refused
returns-then-is_too_long-clause-refused g c two bytes keeps =
    let is_text : IsTrue c.args.read.now.is_text = search rules in
    let P : List ℕ → Type 0 = λ kept. c.line_at_limit-line.result ≡ count_by (λ b. b == 10) (take LONGEST kept) + 1 in
    no_script
    (bad_line c.line_at_limit-line.result (keeps.utf8.0 is_text)
    (too_long bytes c.args.read.now c.line_at_limit-line.result keeps (sym c.is_too_long.ensures ∙ c.if-is_too_long.true)
    (subst P c.deref.ensures.value c.line_at_limit-line.ensures))
    (c.refuse_script.ensures.printed two))

pub returns-in-Ok-usual_over-clause-refused : goal.returns-in-Ok-usual_over-clause-refused
returns-in-Ok-usual_over-clause-refused g c two bytes keeps =
    let is_text : IsTrue c.args.read.now.is_text = search rules in
    let same : c.in-Ok.text.now ≡ bytes =
    c.in-Ok.ensures.cases.0 ∙ (c.deref-2.ensures.value ∙ all_kept bytes c.args.read.now keeps (sym c.is_too_long.ensures ∙ c.if-is_too_long.false)) in
    no_terminal (record {
      utf8 = keeps.utf8.0 is_text;
      script = plain_play_script c.in-Ok-play_script_in.script;
      reads = ap play_script_of (sym same) ∙ c.in-Ok-play_script_in.ensures.script;
      usual = c.in-Ok-usual_over.usual;
      is_usual = c.in-Ok-usual_over.ensures.ok;
      lacks = c.run_script.ensures.refused two;
    })

pub returns-in-Ok-play_script_in-clause-refused : goal.returns-in-Ok-play_script_in-clause-refused
returns-in-Ok-play_script_in-clause-refused g c two bytes keeps =
    let is_text : IsTrue c.args.read.now.is_text = search rules in
    let same : c.in-Ok.text.now ≡ bytes =
    c.in-Ok.ensures.cases.0 ∙ (c.deref-2.ensures.value ∙ all_kept bytes c.args.read.now keeps (sym c.is_too_long.ensures ∙ c.if-is_too_long.false)) in
    no_limit (record {
      utf8 = keeps.utf8.0 is_text;
      script = plain_play_script c.in-Ok-play_script_in.script;
      reads = ap play_script_of (sym same) ∙ c.in-Ok-play_script_in.ensures.script;
      name = c.in-Err-usual_over.limit;
      wrong = c.in-Err-usual_over.ensures.err;
      printed = c.refuse_limit.ensures.printed two;
    })

pub returns-in-Ok-clause-refused : goal.returns-in-Ok-clause-refused
returns-in-Ok-clause-refused g c two bytes keeps =
    let is_text : IsTrue c.args.read.now.is_text = search rules in
    let same : c.in-Ok.text.now ≡ bytes =
    c.in-Ok.ensures.cases.0 ∙ (c.deref-2.ensures.value ∙ all_kept bytes c.args.read.now keeps (sym c.is_too_long.ensures ∙ c.if-is_too_long.false)) in
    no_script
    (no_script_in _ _ c.in-Ok.text.now bytes c.in-Err-play_script_in.fault same (keeps.utf8.0 is_text) c.in-Err-play_script_in.ensures.fault
    (c.refuse_script-in-Err-play_script_in.ensures.printed two))

pub returns-clause-refused : goal.returns-clause-refused
returns-clause-refused g c two bytes keeps =
    let is_text : IsTrue c.args.read.now.is_text = search rules in
    let same : c.deref-2.result.now ≡ bytes =
    c.deref-2.ensures.value ∙ all_kept bytes c.args.read.now keeps (sym c.is_too_long.ensures ∙ c.if-is_too_long.false) in
    absurd (c.in-Err.ensures.cases.0 (subst IsUtf8 (sym same) (keeps.utf8.0 is_text)))
