use Rattle.std.proofs.Common.{refl, string_bytes}
use Rattle.line_play.specs.SetDoing.{stood}
use Rattle.line_play.proofs.SetObeying.{never_none}
use Rattle.line_play.proofs.SetDoing.{refused_focus, looks}
use Rattle.line_play.proofs.set.state.SetState.look_at.Goals as goal

pub returns-then-not-is_there-clause-looks : goal.returns-then-not-is_there-clause-looks
returns-then-not-is_there-clause-looks c = never_none c.refusal.result _ c.refusal.ensures.some

pub returns-then-not-is_there-clause-none : goal.returns-then-not-is_there-clause-none
returns-then-not-is_there-clause-none c =
    refused_focus c.refusal.result (λ s. string_bytes s) c.args.focus (stood c.args.self.now) (c.is_there.ensures.none c.if-not-is_there.true) c.refusal.ensures.text

pub returns-clause-looks : goal.returns-clause-looks
returns-clause-looks c = λ none. looks c.args.focus (stood c.args.self.now) _ (c.is_there.ensures.there c.if-not-is_there.false) refl
