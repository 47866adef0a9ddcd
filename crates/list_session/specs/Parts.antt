-- Private, for the functions inside this crate: which of the causes one of the first four conditions is.
use Rattle.list_verdict.specs.declared.fault.ListFault.{ListFault}
use Rattle.list_verdict.specs.declared.fault.ListFault.TheVariants as fault
use Rattle.list_session.specs.declared.unfit.Unfit.{Unfit}
use Rattle.list_session.specs.declared.unfit.Unfit.TheVariants as unfit

abbrev pub unfit_of : ListFault → Unfit
unfit_of (fault.Order set) = unfit.Order set
unfit_of (fault.Contains set other) = unfit.Contains set other
unfit_of (fault.Replay set miss) = unfit.Replay set miss
unfit_of (fault.Step number) = unfit.Step number
