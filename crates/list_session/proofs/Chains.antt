-- No block of a log that is read has a chain.
use Rattle.std.proofs.Common.{List}
use Rattle.std.specs.Prelude.{All}
use Rattle.std.proofs.lemmas.List.Elements.{All-weaker}
use Rattle.clause_base.specs.declared.log.Step.{Step}
use Rattle.clause_base.specs.declared.log.StepKind.{StepKind}
use Rattle.clause_base.specs.declared.log.StepKind.TheVariants.{Block, Derived, Learned}
use Rattle.proof_check.specs.declared.types.LogText.{LogText}
use Rattle.proof_check.specs.Text.{CanBeWritten, HasFormOf, IsLogText}
use Rattle.set_enum.specs.EnumState.{AreChainless, HasNoChain}

no-chain : (kind : StepKind) (step : Step) → HasFormOf kind step → HasNoChain kind step
no-chain Block step (negated, ascending, none) = none
no-chain Learned step has = tt
no-chain Derived step has = tt

pub written-chainless : (log : List Step) → All CanBeWritten log → AreChainless log
written-chainless log can =
    All-weaker CanBeWritten (λ (step : Step). HasNoChain step.kind step) (λ step is. no-chain step.kind step is.has_form) log can

pub read-chainless : (log : LogText) → IsLogText log → AreChainless log.log
read-chainless log is = written-chainless log.log is.steps
