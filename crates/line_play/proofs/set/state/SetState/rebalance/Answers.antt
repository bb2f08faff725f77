use Rattle.std.proofs.Common.{string_bytes}
use Rattle.line_tending.proofs.Doing.{orders_of}
use Rattle.line_play.proofs.SetObeying.{never_none}
use Rattle.line_play.proofs.SetDoing.{rebalances, refused_rebalance}
use Rattle.line_play.proofs.set.state.SetState.rebalance.Goals as goal

pub returns-in-Ok-clause-done : goal.returns-in-Ok-clause-done
returns-in-Ok-clause-done c = λ none. rebalances _ _ c.in-Ok.ensures.fault c.in-Ok.ensures.ok

pub returns-in-Err-clause-done : goal.returns-in-Err-clause-done
returns-in-Err-clause-done c = never_none c.refusal.result _ c.refusal.ensures.some

pub returns-in-Err-clause-none : goal.returns-in-Err-clause-none
returns-in-Err-clause-none c =
    refused_rebalance c.refusal.result (λ s. string_bytes s) _ _ c.in-Err.error c.in-Err.ensures.fault c.in-Err.ensures.err c.refusal.ensures.text

pub returns-in-Ok-clause-adds : goal.returns-in-Ok-clause-adds
returns-in-Ok-clause-adds c = orders_of _ _ c.rebalance.ensures.adds

pub returns-in-Err-clause-adds : goal.returns-in-Err-clause-adds
returns-in-Err-clause-adds c = orders_of _ _ c.rebalance.ensures.adds
