use Rattle.m3ua_gateway.proofs.TableLaws as lemmas
use Rattle.m3ua_gateway.proofs.laws.no_error_for_an_error.Goals as goal

pub returns : goal.returns
returns c = lemmas.no_error_for_an_error
